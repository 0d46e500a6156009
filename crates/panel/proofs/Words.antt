-- What walks over the marks find is what the definitions ask. Assumes nothing.
use Rattle.std.proofs.Common.{◌≡◌, ◌<◌, ◌≤◌, ◌↔◌, ◌∙◌, ◌+◌, ◌-◌, ℕ, Bool, ◌&&◌, ap, arith, drop, false, get_or, IsTrue, length, length-drop, List, subst, sym, take, true}
use Rattle.std.proofs.Math.Seq.{take-length}
use Rattle.std.proofs.lemmas.List.{get_or-drop, get_or-take, length-take-le}
use Rattle.laws.proofs.Tests.{both, both_true, false_true, same_test}
use Rattle.panel_rules.proofs.Marks.{all_say, say_all}
use Rattle.panel_rules.proofs.Soundness.{from_old, old_from_lem}
use Rattle.panel_rules.specs.Soundness.{old_from}
use Rattle.panel_rules.specs.State.{all_say_word}

-- a walk that tells whether all marks are this word
abbrev pub Tells : Bool → List Bool → Bool → Type 0
Tells word l b = IsTrue b ↔ ((k : ℕ) → k < length l → get_or l k false ≡ word)

module _ (word : Bool) (n : ℕ) where
  at :
      (l : List Bool) → n ≤ length l → (b : Bool) → Tells word (take n l) b → b ≡ true → (i : ℕ) → i < n → get_or l i false ≡ word
  at l le b t e i h =
      let q : length (take n l) ≡ n = length-take-le n l le in sym (get_or-take n l i false h) ∙ t.0 e i (omega arith)

  to :
      (l : List Bool) → n ≤ length l → ((i : ℕ) → i < n → get_or l i false ≡ word) → (k : ℕ) → k < length (take n l)
      → get_or (take n l) k false ≡ word
  to l le t k h =
      let q : length (take n l) ≡ n = length-take-le n l le in
      let g : k < n = omega arith in get_or-take n l k false g ∙ t k g

  pub said_by :
      (f m : List Bool) (a b : Bool) → n ≤ length f → n ≤ length m → Tells word (take n f) a → Tells word (take n m) b
      → (a && b) ≡ all_say_word word n f m
  said_by f m a b lf lm x y =
      same_test (a && b) _
      (λ e. let t = both a b e in
      say_all word n f m (record { firmware = λ i h. at f lf a x t.0 i h; map = λ i h. at m lm b y t.1 i h }))
      (λ e. let t = all_say word n f m e in
      both_true (x.1 (λ k h. to f lf t.firmware k h)) (y.1 (λ k h. to m lm t.map k h)))

  -- where the firmware marks are not all this word
  pub said_none : (f m : List Bool) (a : Bool) → n ≤ length f → Tells word (take n f) a → a ≡ false → a ≡ all_say_word word n f m
  said_none f m a lf x z =
      same_test a _ (λ e. absurd (false_true (sym z ∙ e))) (λ e. x.1 (λ k h. to f lf (all_say word n f m e).firmware k h))

module _ (n : ℕ) where
  rest : (l : List Bool) → length l ≡ 96 → take (96 - n) (drop n l) ≡ drop n l
  rest l le =
      let q : length (drop n l) ≡ 96 - n = omega (arith, length-drop n l) in
      subst (λ (k : ℕ). take k (drop n l) ≡ drop n l) q (take-length (drop n l))

  from :
      (l : List Bool) → length l ≡ 96 → n ≤ 96 → (b : Bool) → Tells false (take (96 - n) (drop n l)) b → b ≡ true → (i : ℕ) → n ≤ i → i < 96 → get_or l i false ≡ false
  from l le s b t e i lo hi =
      let q : n + (i - n) ≡ i = omega arith in
      let w : Tells false (drop n l) b = subst (λ (r : List Bool). Tells false r b) (rest l le) t in
      subst (λ (j : ℕ). get_or l j false ≡ false) q (sym (get_or-drop n l (i - n) false) ∙ w.0 e (i - n) (omega (arith, length-drop n l)))

  onto :
      (l : List Bool) → length l ≡ 96 → ((i : ℕ) → n ≤ i → i < 96 → get_or l i false ≡ false) → (k : ℕ) → k < length (take (96 - n) (drop n l))
      → get_or (take (96 - n) (drop n l)) k false ≡ false
  onto l le t k h =
      let q : length (take (96 - n) (drop n l)) ≡ length (drop n l) = ap length (rest l le) in
      ap (λ (r : List Bool). get_or r k false) (rest l le) ∙ get_or-drop n l k false ∙ t (n + k) (omega arith) (omega (arith, length-drop n l))

  pub old_by :
      (f m : List Bool) (a b : Bool) → length f ≡ 96 → length m ≡ 96 → n ≤ 96 → Tells false (take (96 - n) (drop n f)) a → Tells false (take (96 - n) (drop n m)) b
      → (a && b) ≡ old_from n f m
  old_by f m a b lf lm s x y =
      same_test (a && b) _
      (λ e. let t = both a b e in from_old n f m (from f lf s a x t.0) (from m lm s b y t.1))
      (λ e. both_true (x.1 (onto f lf (λ i lo hi. (old_from_lem n f m e i lo hi).0))) (y.1 (onto m lm (λ i lo hi. (old_from_lem n f m e i lo hi).1))))

  pub old_none : (f m : List Bool) (a : Bool) → length f ≡ 96 → Tells false (take (96 - n) (drop n f)) a → a ≡ false → a ≡ old_from n f m
  old_none f m a lf x z =
      same_test a _ (λ e. absurd (false_true (sym z ∙ e))) (λ e. x.1 (onto f lf (λ i lo hi. (old_from_lem n f m e i lo hi).0)))
