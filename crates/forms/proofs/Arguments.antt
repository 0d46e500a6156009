-- The numbers after a word, and the end of the form: found at a place exactly where their text stands. Assumes nothing.
use mathlib.Core.Path.{◌≡◌, refl, sym, ap, ◌∙◌}
use mathlib.Core.Bool.{◌&&◌, Bool, cond, false, true}
use mathlib.Core.Logic.{⊎_elim}
use mathlib.Core.List.{List, [], ◌∷◌, ◌++◌, append_assoc}
use Prim.Native.Nat.{ℕ, zero, suc, ◌+◌, ◌≤◌, ◌<◌}
use native.Mathlib.Omega.{arith}
use lib.ListN.{length, get_or, drop, length-drop, length-append, drop_of_length-le, get_or-eq_default}
use lib.Dec.{eqb}
use borrow.Author.Tests.{eq-eqb, ne_eqb, eqb-true}
use Rattle.decimal.specs.Bytes.{bytes}
use Rattle.decimal.specs.Text.{decimal}
use Rattle.decimal.specs.Word.{starts}
use Rattle.decimal.specs.Number.{digit_b, short_of}
use Rattle.decimal.proofs.Cases.{split, in_text, rest, take_head}
use Rattle.decimal.proofs.Words.{word_sound, word_back, word_in}
use Rattle.decimal.proofs.Decimal.{decimal_five}
use Rattle.decimal.proofs.Numbers.{no_number, short_found, short_sound}
use Rattle.forms.specs.Form.{Small}
use Rattle.std.specs.Prelude.{Option, Some, None}
use Rattle.forms.specs.Read.{Read, read, Args, found, spaced_of, closed_at, numbers, closed_of, one_of, second_of, two_of, either_of, Arity, none, one, two, one_or_two, args_of}

-- 1. a byte, and a space and a number
pub byte_word : (s : List ℕ) (at b : ℕ) → 0 < b → starts (b ∷ []) (drop at s) ≡ eqb (get_or s at 0) b
unfolding starts
byte_word s at b some =
    ⊎_elim (λ lt. rw (rest s at lt) (and-true (eqb (get_or s at 0) b)))
    (λ le. rw (drop_of_length-le s le, get_or-eq_default s 0 le) (sym (ne_eqb 0 b (λ e. omega arith))))
    (split at (length s))
  where
    and-true : (t : Bool) → (t && true) ≡ t
    and-true true = refl
    and-true false = refl

spaced_by : (s : List ℕ) (at : ℕ) (t : Bool) → eqb (get_or s at 0) 32 ≡ t → (n e : ℕ) → cond t (short_of s (at + 1)) None ≡ read n e
    → (drop at s ≡ bytes " " ++ (decimal n ++ drop e s)) × Small n × (e ≡ at + 1 + length (decimal n))
spaced_by s at false q n e h = no_number n e h
spaced_by s at true q n e h =
    let r = short_sound s (at + 1) n e h in
    let b : get_or s at 0 ≡ 32 = eqb-true (get_or s at 0) 32 q in
    let m : at < length s = in_text s at (omega arith) in
    (rest s at m ∙ (ap (λ (x : ℕ). x ∷ drop (at + 1) s) b ∙ ap (λ (l : List ℕ). 32 ∷ l) r.0.text), r.1, r.0.ends)

pub spaced_sound : (s : List ℕ) (at n e : ℕ) → spaced_of s at ≡ read n e
    → (drop at s ≡ bytes " " ++ (decimal n ++ drop e s)) × Small n × (e ≡ at + 1 + length (decimal n))
unfolding spaced_of
spaced_sound s at n e h = spaced_by s at (eqb (get_or s at 0) 32) refl n e h

-- the number is found, and what follows it is what is left
pub spaced_found : (s : List ℕ) (at n : ℕ) (u : List ℕ) → Small n → drop at s ≡ bytes " " ++ (decimal n ++ u) → digit_b (get_or u 0 0) ≡ false
    → (spaced_of s at ≡ read n (at + 1 + length (decimal n))) × (drop (at + 1 + length (decimal n)) s ≡ u)
unfolding spaced_of
spaced_found s at n u h p k =
    let t = take_head s at 32 (decimal n ++ u) p in
    let f = short_found s (at + 1) n u h t.1 k in
    (rw (eq-eqb (get_or s at 0) 32 t.0) f.0, f.1)

-- 2. the texts
abbrev pub closing : List ℕ
closing = bytes ")"

abbrev one_text : ℕ → List ℕ
one_text i = bytes " " ++ (decimal i ++ closing)

abbrev two_text : ℕ → ℕ → List ℕ
two_text i j = bytes " " ++ (decimal i ++ one_text j)

abbrev pub args_text : Arity → ℕ → ℕ → List ℕ
args_text none i j = closing
args_text one i j = one_text i
args_text two i j = two_text i j
args_text one_or_two i zero = one_text i
args_text one_or_two i (suc k) = two_text i k

-- numbers of at most five digits, and 0 for those that are not there; where the second may be missing, it is one more than what is written
abbrev pub SmallArgs : Arity → ℕ → ℕ → Type 0
SmallArgs none i j = (i ≡ 0) × (j ≡ 0)
SmallArgs one i j = Small i × (j ≡ 0)
SmallArgs two i j = Small i × Small j
SmallArgs one_or_two i zero = Small i
SmallArgs one_or_two i (suc k) = Small i × Small k

pub args_short : (c : Arity) (i j : ℕ) → SmallArgs c i j → length (args_text c i j) ≤ 14
args_short none i j h = omega arith
args_short one i j h = simp length-append (omega (arith, decimal_five i h.0))
args_short two i j h = simp length-append (omega (arith, decimal_five i h.0, decimal_five j h.1))
args_short one_or_two i zero h = simp length-append (omega (arith, decimal_five i h))
args_short one_or_two i (suc k) h = simp length-append (omega (arith, decimal_five i h.0, decimal_five k h.1))

-- 3. what is found stands there
abbrev Standing : List ℕ → ℕ → List ℕ → ℕ → Type 0
Standing s at t e = (drop at s ≡ t ++ drop e s) × (e ≤ length s)

no_args : {A : Type 0} (i j e : ℕ) → None ≡ found i j e → A
no_args i j e h = let z : ◌≡◌ {A = ℕ} 0 1 = cc in absurd (let y : ⊥ = omega arith in y)

or_else : {A : Type 0} → A → Option A → A
or_else a (Some b) = b
or_else a None = a

-- what was found is one
same_args : {i j e x y d : ℕ} → found i j e ≡ found x y d → (i ≡ x) × (j ≡ y) × (e ≡ d)
unfolding or_else
same_args {i} {j} {e} h =
    let p = ap (or_else (i, j, e)) h in
    (ap (λ (r : ℕ × ℕ × ℕ). r.0) p, ap (λ (r : ℕ × ℕ × ℕ). r.1) p, ap (λ (r : ℕ × ℕ × ℕ). r.2) p)

closed_by : (s : List ℕ) (at i j : ℕ) (t : Bool) → starts closing (drop at s) ≡ t → (x y e : ℕ) → numbers i j (cond t (Some (at + 1)) None) ≡ found x y e
    → (i ≡ x) × (j ≡ y) × Standing s at closing e
closed_by s at i j false q x y e h = no_args x y e h
closed_by s at i j true q x y e h =
    let same = same_args h in
    let p : at + 1 ≡ e = same.2 in
    let is : i ≡ x = same.0 in
    let js : j ≡ y = same.1 in
    (is, js, (word_sound s at closing q ∙ ap (λ (k : ℕ). closing ++ drop k s) p, omega (arith, word_in s at closing (omega arith) q)))

closed_sound : (s : List ℕ) (at i j x y e : ℕ) → closed_of s at i j ≡ found x y e → (i ≡ x) × (j ≡ y) × Standing s at closing e
unfolding closed_of closed_at
closed_sound s at i j x y e h = closed_by s at i j (starts closing (drop at s)) refl x y e h

one_sound : (s : List ℕ) (at : ℕ) (m : Read ℕ) → spaced_of s at ≡ m → (i j e : ℕ) → one_of s m ≡ found i j e
    → Standing s at (args_text one i j) e × SmallArgs one i j
unfolding one_of
one_sound s at None q i j e h = no_args i j e h
one_sound s at (Some (n, p)) q i j e h =
    let r = spaced_sound s at n p q in
    let c = closed_sound s p n 0 i j e h in
    let t : drop at s ≡ bytes " " ++ ((decimal n ++ closing) ++ drop e s) =
    r.0 ∙ ap (λ (l : List ℕ). 32 ∷ l) (ap (λ (l : List ℕ). decimal n ++ l) c.2.0 ∙ sym (append_assoc (decimal n) closing (drop e s))) in
    let small : i ≤ 99999 = omega (arith, r.1, c.0) in
    ((rw c.0 at t, c.2.1), (small, sym c.1))

second_sound : (s : List ℕ) (at n : ℕ) (m : Read ℕ) → spaced_of s at ≡ m → (i j e : ℕ) → second_of s n m ≡ found i j e
    → (n ≡ i) × Standing s at (bytes " " ++ (decimal j ++ closing)) e × Small j
unfolding second_of
second_sound s at n None q i j e h = no_args i j e h
second_sound s at n (Some (k, p)) q i j e h =
    let r = spaced_sound s at k p q in
    let c = closed_sound s p n k i j e h in
    let t : drop at s ≡ bytes " " ++ ((decimal k ++ closing) ++ drop e s) =
    r.0 ∙ ap (λ (l : List ℕ). 32 ∷ l) (ap (λ (l : List ℕ). decimal k ++ l) c.2.0 ∙ sym (append_assoc (decimal k) closing (drop e s))) in
    let small : j ≤ 99999 = omega (arith, r.1, c.1) in
    (c.0, (rw c.1 at t, c.2.1), small)

two_sound : (s : List ℕ) (at : ℕ) (m : Read ℕ) → spaced_of s at ≡ m → (i j e : ℕ) → two_of s m ≡ found i j e
    → Standing s at (args_text two i j) e × SmallArgs two i j
unfolding two_of
two_sound s at None q i j e h = no_args i j e h
two_sound s at (Some (n, p)) q i j e h =
    let r = spaced_sound s at n p q in
    let c = second_sound s p n (spaced_of s p) refl i j e h in
    let u = bytes " " ++ (decimal j ++ closing) in
    let t : drop at s ≡ bytes " " ++ ((decimal n ++ u) ++ drop e s) =
    r.0 ∙ ap (λ (l : List ℕ). 32 ∷ l) (ap (λ (l : List ℕ). decimal n ++ l) c.1.0 ∙ sym (append_assoc (decimal n) u (drop e s))) in
    let small : i ≤ 99999 = omega (arith, r.1, c.0) in
    ((rw c.0 at t, c.1.1), (small, c.2))

either_sound : (s : List ℕ) (at : ℕ) (a b : Args) → one_of s (spaced_of s at) ≡ a → two_of s (spaced_of s at) ≡ b
    → (i j e : ℕ) → either_of a b ≡ found i j e → Standing s at (args_text one_or_two i j) e × SmallArgs one_or_two i j
either_sound s at (Some (n, z, d)) b p q i zero e h =
    let r = one_sound s at (spaced_of s at) refl i 0 e (p ∙ h) in
    (r.0, r.1.0)
either_sound s at (Some (n, z, d)) b p q i (suc k) e h =
    let r = one_sound s at (spaced_of s at) refl i (suc k) e (p ∙ h) in
    absurd (let y : ⊥ = omega (arith, r.1.1) in y)
either_sound s at None None p q i j e h = no_args i j e h
either_sound s at None (Some (n, k, d)) p q i zero e h = absurd (let z : suc k ≡ 0 = (same_args h).1 in let y : ⊥ = omega arith in y)
either_sound s at None (Some (n, k, d)) p q i (suc j) e h =
    let x = same_args h in
    let y : k ≡ j = omega (arith, x.1) in
    two_sound s at (spaced_of s at) refl i j e (q ∙ (ap (λ (a : ℕ). found a k d) x.0 ∙ (ap (λ (b : ℕ). found i b d) y ∙ ap (found i j) x.2)))

args_standing : (c : Arity) (s : List ℕ) (at i j e : ℕ) → args_of c s at ≡ found i j e → Standing s at (args_text c i j) e × SmallArgs c i j
args_standing none s at i j e h =
    let c = closed_sound s at 0 0 i j e h in
    (c.2, (sym c.0, sym c.1))
args_standing one s at i j e h = one_sound s at (spaced_of s at) refl i j e h
args_standing two s at i j e h = two_sound s at (spaced_of s at) refl i j e h
args_standing one_or_two s at i j e h = either_sound s at (one_of s (spaced_of s at)) (two_of s (spaced_of s at)) refl refl i j e h

args_some : (c : Arity) (i j : ℕ) → 0 < length (args_text c i j)
args_some none i j = omega arith
args_some one i j = omega arith
args_some two i j = omega arith
args_some one_or_two i zero = omega arith
args_some one_or_two i (suc k) = omega arith

-- where a text that is not empty ends
pub place : (s t : List ℕ) (at e : ℕ) → drop at s ≡ t ++ drop e s → e ≤ length s → 0 < length t → e ≡ at + length t
place s t at e h k n = omega (arith, ap length h, length-drop at s, length-append t (drop e s), length-drop e s)

pub record Read-args (c : Arity) (s : List ℕ) (at i j e : ℕ) : Type 0 where
  pub text : drop at s ≡ args_text c i j ++ drop e s
  pub ends : e ≡ at + length (args_text c i j)
  pub inside : e ≤ length s
  pub small : SmallArgs c i j

pub args_sound : (c : Arity) (s : List ℕ) (at i j e : ℕ) → args_of c s at ≡ found i j e → Read-args c s at i j e
args_sound c s at i j e h =
    let r = args_standing c s at i j e h in
    record {
      text = r.0.0;
      ends = place s (args_text c i j) at e r.0.0 r.0.1 (args_some c i j);
      inside = r.0.1;
      small = r.1;
    }

-- 4. what stands there is found
closed_found : (s : List ℕ) (at i j : ℕ) (u : List ℕ) → drop at s ≡ closing ++ u → closed_of s at i j ≡ found i j (at + 1)
unfolding closed_of closed_at
closed_found s at i j u h = rw (word_back s at closing u h)

one_found : (s : List ℕ) (at i : ℕ) (u : List ℕ) → Small i → drop at s ≡ one_text i ++ u
    → one_of s (spaced_of s at) ≡ found i 0 (at + length (one_text i))
unfolding one_of
one_found s at i u h p =
    let q : drop at s ≡ bytes " " ++ (decimal i ++ (closing ++ u)) = p ∙ ap (λ (l : List ℕ). 32 ∷ l) (append_assoc (decimal i) closing u) in
    let f = spaced_found s at i (closing ++ u) h q refl in
    let e : at + 1 + length (decimal i) + 1 ≡ at + length (one_text i) = simp length-append (omega arith) in
    rw f.0 (closed_found s (at + 1 + length (decimal i)) i 0 u f.1 ∙ ap (found i 0) e)

module _ (s : List ℕ) (at i j : ℕ) (u : List ℕ) (h : Small i × Small j) (p : drop at s ≡ two_text i j ++ u) where
  -- the first number, and what follows it
  first_found : (spaced_of s at ≡ read i (at + 1 + length (decimal i))) × (drop (at + 1 + length (decimal i)) s ≡ one_text j ++ u)
  first_found =
      spaced_found s at i (one_text j ++ u) h.0 (p ∙ ap (λ (l : List ℕ). 32 ∷ l) (append_assoc (decimal i) (one_text j) u)) refl

  two_found : two_of s (spaced_of s at) ≡ found i j (at + length (two_text i j))
  unfolding second_of two_of
  two_found =
      let a = at + 1 + length (decimal i) in
      let r : drop a s ≡ bytes " " ++ (decimal j ++ (closing ++ u)) = first_found.1 ∙ ap (λ (l : List ℕ). 32 ∷ l) (append_assoc (decimal j) closing u) in
      let g = spaced_found s a j (closing ++ u) h.1 r refl in
      let e : a + 1 + length (decimal j) + 1 ≡ at + length (two_text i j) = simp length-append (omega arith) in
      rw (first_found.0, g.0) (closed_found s (a + 1 + length (decimal j)) i j u g.1 ∙ ap (found i j) e)

  -- two numbers are not one
  one_off : one_of s (spaced_of s at) ≡ None
  unfolding one_of closed_of closed_at starts
  one_off = rw (first_found.0, first_found.1)

pub args_found : (c : Arity) (s : List ℕ) (at i j : ℕ) (u : List ℕ) → SmallArgs c i j → drop at s ≡ args_text c i j ++ u
    → args_of c s at ≡ found i j (at + length (args_text c i j))
args_found none s at i j u h p = rw (h.0, h.1) (closed_found s at 0 0 u p)
args_found one s at i j u h p = rw h.1 (one_found s at i u h.0 p)
args_found two s at i j u h p = two_found s at i j u h p
args_found one_or_two s at i zero u h p = rw (one_found s at i u h p)
args_found one_or_two s at i (suc k) u h p = rw (one_off s at i k u h p, two_found s at i k u h p)
