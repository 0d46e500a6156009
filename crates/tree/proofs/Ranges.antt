-- Tests, sums and counts over the numbers below n, as the library says them of a range. Assumes nothing.
use Prim.Native.Nat.{◌+◌, zero, suc, ℕ}
use mathlib.Core.Bool.{Bool, ◌&&◌, cond, false, true}
use mathlib.Core.List.{List, [], ◌∷◌, ◌++◌, map-id}
use mathlib.Core.Path.{◌∙◌, ◌≡◌, ap, refl, sym}
use native.Mathlib.Numerals.{add-one}
use native.Mathlib.Omega.{arith}
use Rattle.std.specs.List.{count_by, list_all, range_with_len, sum_by}
use Rattle.std.proofs.lemmas.List.Folds.{list_all-append}
use Rattle.std.proofs.lemmas.List.FromFn.{map-range_with_len_more}
use Rattle.std.proofs.lemmas.List.Sums.{sum_by-append}
use Rattle.laws.specs.Places.{all_to}
use Rattle.laws.specs.Sums.{count_to, sum_to}

and_true : (b : Bool) → (b && true) ≡ b
and_true true = refl
and_true false = refl

range_more : (n : ℕ) → range_with_len 0 (suc n) ≡ range_with_len 0 n ++ (n ∷ [])
range_more n =
    ap (range_with_len 0) (sym (add-one n))
    ∙ (sym (map-id (range_with_len 0 (n + 1)))
    ∙ (map-range_with_len_more (λ x. x) 0 n n (omega arith) ∙ ap (λ (l : List ℕ). l ++ (n ∷ [])) (map-id (range_with_len 0 n))))

pub all_range : (p : ℕ → Bool) (n : ℕ) → list_all p (range_with_len 0 n) ≡ all_to n p
all_range p zero = refl
all_range p (suc n) =
    ap (list_all p) (range_more n)
    ∙ (list_all-append p (range_with_len 0 n) (n ∷ []) ∙ (λ x. all_range p n x && and_true (p n) x))

pub sum_range : (f : ℕ → ℕ) (n : ℕ) → sum_by f (range_with_len 0 n) ≡ sum_to n f
unfolding sum_to
sum_range f zero = refl
sum_range f (suc n) =
    ap (sum_by f) (range_more n)
    ∙ (sum_by-append f (range_with_len 0 n) (n ∷ [])
    ∙ (let one : 0 + f n ≡ f n = omega arith in
    (λ x. sum_range f n x + one x)))

pub count_range : (p : ℕ → Bool) (n : ℕ) → count_by p (range_with_len 0 n) ≡ count_to n p
unfolding count_to
count_range p n = sum_range (λ i. cond (p i) 1 0) n
