-- Numbers in two texts that begin alike, and a number that ends at a place. Assumes nothing.
use Rattle.std.specs.Prelude.{Some, None}
use Prim.Native.Nat.{◌*◌, ◌+◌, ◌-◌, ◌<◌, ◌≤◌, suc, zero, ℕ}
use borrow.Author.Tests.{le-ltb, lt-leb, ne_eqb}
use lib.Dec.{eqb}
use lib.ListN.{get_or-append, drop, get_or, length}
use lib.Seq.{get_or-drop}
use mathlib.Core.Bool.{false, true}
use mathlib.Core.List.{List, [], ◌++◌, ◌∷◌, append_assoc}
use mathlib.Core.Logic.{◌≢◌, ◌⊎◌, inl, inr}
use mathlib.Core.Path.{◌∙◌, ◌≡◌, ap, refl, subst, sym}
use native.Mathlib.Decide.{dec_lt, ℕ_discrete}
use native.Mathlib.Omega.{arith}
use Rattle.decimal.proofs.Cases.{both_off, in_text}
use Rattle.decimal.proofs.Decimal.{decimal_small, decimal_some}
use Rattle.decimal.proofs.Numbers.{Digits, after, decimal_digits, decimal_head, decimal-value, digit_low, more_digit, no_number, scan_end, scan_more, scan_none, value}
use Rattle.decimal.specs.Exact.{Stands}
use Rattle.decimal.specs.Number.{capped, checked, digit_b, number_at, scan_of}
use Rattle.decimal.specs.Text.{decimal}
use Rattle.laws.proofs.Tests.{false_true, split}
use Rattle.tree_text.specs.Text.{opening}

-- ---- texts that begin alike

pub heads : (x y : ℕ) (a b : List ℕ) → x ∷ a ≡ y ∷ b → (x ≡ y) × (a ≡ b)
heads x y a b e =
    let p : x ≡ y = cc in
    let q : a ≡ b = cc in
    (p, q)

-- the longer of two beginnings goes on from the shorter
pub longer : (t D u v : List ℕ) → t ++ D ≡ u ++ v → length t ≤ length u → (w : List ℕ) × (u ≡ t ++ w) × (D ≡ w ++ v)
longer [] D u v e h = (u, refl, e)
longer (x ∷ t) D [] v e h = absurd (let y : ⊥ = omega arith in y)
longer (x ∷ t) D (y ∷ u) v e h =
    let p = heads x y (t ++ D) (u ++ v) e in
    let r = longer t D u v p.1 (omega arith) in
    (r.0, ap (λ (l : List ℕ). y ∷ l) r.1 ∙ ap (λ (a : ℕ). a ∷ (t ++ r.0)) (sym p.0), r.2)

pub same_front : (t D u v : List ℕ) → t ++ D ≡ u ++ v → length t ≡ length u → t ≡ u
same_front [] D [] v e h = refl
same_front [] D (y ∷ u) v e h = absurd (let y : ⊥ = omega arith in y)
same_front (x ∷ t) D [] v e h = absurd (let y : ⊥ = omega arith in y)
same_front (x ∷ t) D (y ∷ u) v e h =
    let p = heads x y (t ++ D) (u ++ v) e in
    ap (λ (l : List ℕ). x ∷ l) (same_front t D u v p.1 (omega arith)) ∙ ap (λ (a : ℕ). a ∷ u) p.0

-- ---- the number that a text begins with

pub decimal_once : (c v : ℕ) → decimal c ≡ decimal v → c ≡ v
decimal_once c v e = sym (decimal-value c) ∙ (ap (value 0) e ∙ decimal-value v)

digit_clash : {A : Type 0} (b : ℕ) → digit_b b ≡ true → digit_b b ≡ false → A
digit_clash b p q = absurd (false_true (sym q ∙ p))

digits_once : (a b x y : List ℕ) → Digits a → Digits b → digit_b (get_or x 0 0) ≡ false → digit_b (get_or y 0 0) ≡ false
    → a ++ x ≡ b ++ y → (a ≡ b) × (x ≡ y)
digits_once [] [] x y p q h k e = (refl, e)
digits_once [] (j ∷ b) x y p q h k e = digit_clash j q.0 (ap (λ (l : List ℕ). digit_b (get_or l 0 0)) (sym e) ∙ h)
digits_once (i ∷ a) [] x y p q h k e = digit_clash i p.0 (ap (λ (l : List ℕ). digit_b (get_or l 0 0)) e ∙ k)
digits_once (i ∷ a) (j ∷ b) x y p q h k e =
    let w = heads i j (a ++ x) (b ++ y) e in
    let r = digits_once a b x y p.1 q.1 h k w.1 in
    (ap (λ (l : List ℕ). i ∷ l) r.0 ∙ ap (λ (z : ℕ). z ∷ b) w.0, r.1)

pub number_once : (c v : ℕ) (x y : List ℕ) → digit_b (get_or x 0 0) ≡ false → digit_b (get_or y 0 0) ≡ false
    → decimal c ++ x ≡ decimal v ++ y → (c ≡ v) × (x ≡ y)
number_once c v x y h k e =
    let r = digits_once (decimal c) (decimal v) x y (decimal_digits c) (decimal_digits v) h k e in
    (decimal_once c v r.0, r.1)

-- a number's text begins with a digit, and with 0 only if it is 0
pub record First (n : ℕ) : Type 0 where
  pub byte : ℕ
  pub more : List ℕ
  pub text : decimal n ≡ byte ∷ more
  pub digit : digit_b byte ≡ true

pub first : (n : ℕ) → First n
first n = by (decimal n) refl
  where
    by : (d : List ℕ) → decimal n ≡ d → First n
    by [] e = absurd (let y : ⊥ = omega (arith, decimal_some n, ap length e) in y)
    by (b ∷ d) e = record { byte = b; more = d; text = e; digit = (subst Digits e (decimal_digits n)).0 }

pub zero_text : decimal 0 ≡ 48 ∷ []
zero_text = decimal_small 0 (omega arith)

pub zero_only : (n : ℕ) (x : List ℕ) → decimal n ≡ 48 ∷ x → n ≡ 0
zero_only n x e =
    elim (ℕ_discrete n 0) [
      | yes p ↦ p
      | no q ↦ absurd (let y : ⊥ = omega (arith, decimal_head n (omega arith), ap (λ (l : List ℕ). get_or l 0 0) e) in y)
    ]

-- two more digits
pub hundred : (v : ℕ) → 0 < v → decimal (v * 100) ≡ decimal v ++ (48 ∷ (48 ∷ []))
hundred v h =
    let ten : v * 10 + (48 - 48) ≡ v * 10 = omega arith in
    let all : v * 10 * 10 + (48 - 48) ≡ v * 100 = omega arith in
    ap decimal (sym all)
    ∙ (more_digit (v * 10) 48 (omega arith) (omega arith) (omega arith)
    ∙ (ap (λ (l : List ℕ). l ++ (48 ∷ [])) (ap decimal (sym ten) ∙ more_digit v 48 h (omega arith) (omega arith))
    ∙ append_assoc (decimal v) (48 ∷ []) (48 ∷ [])))

-- ---- a number that ends at a place

module _ (s : List ℕ) (at v e : ℕ) (st : Stands s at v e) where
  pub digit_inside : (i : ℕ) → at ≤ i → i < e → digit_b (get_or s i 0) ≡ true
  digit_inside i h k =
      let j : at + (i - at) ≡ i = omega arith in
      let inside : i - at < length (decimal v) = omega (arith, st.ends) in
      ap digit_b
      (ap (λ (x : ℕ). get_or s x 0) (sym j)
      ∙ (sym (get_or-drop at s (i - at) 0)
      ∙ (ap (λ (l : List ℕ). get_or l (i - at) 0) st.text ∙ get_or-append (decimal v) (drop e s) 0 (i - at) inside)))
      ∙ digit_at (decimal v) (decimal_digits v) (i - at) inside
    where
      digit_at : (d : List ℕ) → Digits d → (i : ℕ) → i < length d → digit_b (get_or d i 0) ≡ true
      digit_at [] g i h = absurd (let y : ⊥ = omega arith in y)
      digit_at (b ∷ d) g zero h = g.0
      digit_at (b ∷ d) g (suc i) h = digit_at d g.1 i (omega arith)

  pub some_digit : at < e
  some_digit = omega (arith, st.ends, decimal_some v)

  -- the number ends where it is followed by no digit, so there is but one
  pub stands_once : (c f : ℕ) → Stands s at c f → (c ≡ v) × (f ≡ e)
  stands_once c f sc =
      let r = number_once c v (drop f s) (drop e s) (after s f sc.last) (after s e st.last) (sym sc.text ∙ st.text) in
      (r.0, sc.ends ∙ (ap (λ (x : ℕ). at + length (decimal x)) r.0 ∙ sym st.ends))

pub opening_no_digit : (s : List ℕ) (a : ℕ) → get_or s a 0 ≡ opening → digit_b (get_or s a 0) ≡ true → ⊥
opening_no_digit s a p q = omega (arith, digit_low (get_or s a 0) q)

-- two numbers that follow a bracket each and end at the same place are one
pub same_number : (s : List ℕ) (a c v e : ℕ) (w : ℕ) → get_or s a 0 ≡ opening → get_or s c 0 ≡ opening
    → Stands s (a + 1) v e → Stands s (c + 1) w e → w ≡ v
same_number s a c v e w p q st su =
    elim (dec_lt a c) [
      | yes l ↦
          absurd (opening_no_digit s c q (digit_inside s (a + 1) v e st c (omega arith) (omega (arith, some_digit s (c + 1) w e su))))
      | no g ↦
          elim (dec_lt c a) [
            | yes l ↦
                absurd (opening_no_digit s a p (digit_inside s (c + 1) w e su a (omega arith) (omega (arith, some_digit s (a + 1) v e st))))
            | no h ↦
                let z : c ≡ a = omega arith in
                (stands_once s (a + 1) v e st w e (subst (λ (x : ℕ). Stands s (x + 1) w e) z su)).0
          ]
    ]

-- ---- no number

scan_on : (l : List ℕ) (v i : ℕ) → i ≤ (scan_of l v i).1
unfolding scan_of
scan_on [] v i = omega arith
scan_on (b ∷ l) v i =
    elim (split (digit_b b)) [
      | inl p ↦ rw p (let h = scan_on l (capped v b) (i + 1) in omega arith)
      | inr q ↦ rw q (omega arith)
    ]

checked_fine : (b at : ℕ) (run : ℕ × ℕ) → at < run.1 → (b ≢ 48) ⊎ (run.1 ≤ at + 1) → checked b at run ≡ Some run
unfolding checked
checked_fine b at run h (inl z) = rw (lt-leb run.1 at h, ne_eqb b 48 z)
checked_fine b at run h (inr k) = rw (lt-leb run.1 at h, le-ltb (at + 1) run.1 k, both_off (eqb b 48))

-- where no number stands there is no digit, or a leading zero
pub no_number_there : (s : List ℕ) (at : ℕ) → number_at s at ≡ None → digit_b (get_or s at 0) ≡ true
    → (get_or s at 0 ≡ 48) × (digit_b (get_or s (at + 1) 0) ≡ true)
unfolding number_at
no_number_there s at h d =
    elim (split (digit_b (get_or s (at + 1) 0))) [
      | inr q ↦ fine (inr (omega (arith, ap (λ (x : ℕ × ℕ). x.1) (more ∙ last q))))
      | inl p ↦ elim (ℕ_discrete (get_or s at 0) 48) [ yes z ↦ (z, p) | no z ↦ fine (inl z) ]
    ]
  where
    b : ℕ
    b = get_or s at 0

    run : ℕ × ℕ
    run = scan_of (drop at s) 0 at

    inside : at < length s
    inside = in_text s at (omega (arith, digit_low b d))

    more : run ≡ scan_of (drop (at + 1) s) (capped 0 b) (at + 1)
    more = scan_more s at 0 inside d

    last : digit_b (get_or s (at + 1) 0) ≡ false → scan_of (drop (at + 1) s) (capped 0 b) (at + 1) ≡ (capped 0 b, at + 1)
    last q =
        elim (dec_lt (at + 1) (length s)) [
          | yes l ↦ scan_none s (at + 1) (capped 0 b) l q
          | no g ↦ scan_end s (at + 1) (capped 0 b) (omega arith)
        ]

    fine : {A : Type 0} → (b ≢ 48) ⊎ (run.1 ≤ at + 1) → A
    fine w =
        let some : at < run.1 = omega (arith, scan_on (drop (at + 1) s) (capped 0 b) (at + 1), ap (λ (x : ℕ × ℕ). x.1) more) in
        no_number run.0 run.1 (sym h ∙ checked_fine b at run some w)
