-- The text, node by node and child by child. Assumes nothing.
use Prim.Native.Nat.{◌+◌, ◌-◌, ◌<◌, ◌≤◌, suc, zero, ℕ}
use mathlib.Core.Bool.{false, true}
use mathlib.Core.List.{List, [], ◌++◌, ◌∷◌}
use mathlib.Core.Logic.{◌≢◌}
use mathlib.Core.Path.{◌∙◌, ◌≡◌, ap, refl}
use native.Mathlib.Omega.{arith}
use Rattle.decimal.specs.Text.{decimal}
use Rattle.tree_text.specs.Text.{children_text, closing, is_under, list_text, node_text, opening, space}

pub node_none : (e : List ℕ) (k : ℕ) → node_text 0 e k ≡ []
unfolding node_text
node_none e k = refl

pub node_next : (left : ℕ) (e : List ℕ) (k : ℕ)
    → node_text (suc left) e k ≡ opening ∷ (decimal k ++ (list_text left e k 0 ++ (closing ∷ [])))
unfolding node_text list_text
node_next left e k = refl

pub node_more : (left : ℕ) (e : List ℕ) (k : ℕ) → left ≢ 0
    → node_text left e k ≡ opening ∷ (decimal k ++ (list_text (left - 1) e k 0 ++ (closing ∷ [])))
node_more zero e k h = absurd (h refl)
node_more (suc left) e k h =
    let p : left ≡ suc left - 1 = omega arith in
    node_next left e k ∙ ap (λ (f : ℕ). opening ∷ (decimal k ++ (list_text f e k 0 ++ (closing ∷ [])))) p

pub list_end : (left : ℕ) (e : List ℕ) (k c : ℕ) → 15 < c → list_text left e k c ≡ []
unfolding list_text children_text
list_end left e k c h =
    let z : 16 - c ≡ 0 = omega arith in
    rw z

module _ (left : ℕ) (e : List ℕ) (k c : ℕ) (h : c ≤ 15) where
  at_c : 16 - c ≡ suc (16 - (c + 1))
  at_c = omega arith

  pub list_under : is_under e k c ≡ true → list_text left e k c ≡ space ∷ (node_text left e c ++ list_text left e k (c + 1))
  unfolding list_text children_text
  list_under p = rw (at_c, p)

  pub list_other : is_under e k c ≡ false → list_text left e k c ≡ list_text left e k (c + 1)
  unfolding list_text children_text
  list_other p = rw (at_c, p)
