-- The faults at a node's number. Assumes nothing.
use Rattle.std.specs.Prelude.{Some, None}
use Prim.Native.Nat.{◌+◌, ◌<◌, ◌≤◌, min, ℕ}
use lib.ListN.{get_or}
use mathlib.Core.List.{List}
use mathlib.Core.Logic.{◌≢◌, ◌⊎◌, inl, inr}
use mathlib.Core.Path.{◌∙◌, ◌≡◌, ap, refl}
use native.Mathlib.Decide.{dec_lt}
use native.Mathlib.Omega.{arith}
use Rattle.decimal.specs.Number.{number_at, Read, read}
use Rattle.decimal.proofs.Numbers.{number_exact, number_sound}
use Rattle.decimal.specs.Exact.{Stands}
use Rattle.refusal.specs.declared.Refusal.{Refusal}
use Rattle.refusal.specs.declared.Refusal.TheVariants.{NotAForm, UnknownNode}
use Rattle.tree_text.proofs.Steps.{enter_again, enter_large, enter_low, enter_wrong, node_no, node_yes, then_no}
use Rattle.tree_text.specs.Read.{and_then, body_of, entered, list_of, node_of, refused}
use Rattle.tree_text.specs.Text.{opening}
use Rattle.tree_text.specs.Theorems.{NumberFirst}
use Rattle.tree_text.specs.Read.{Reading}

module _ (left : ℕ) (s : List ℕ) (n : ℕ) (r : Reading) (by low : ℕ) (b : get_or s r.at 0 ≡ opening) where
  -- a number that is refused is the node's fault
  refused_at : (m : Read ℕ) (f : Refusal) → number_at s (r.at + 1) ≡ m → entered n r by low m ≡ refused r f → node_of left s n r by low ≡ refused r f
  refused_at m f is h =
      node_yes left s n r by low b
      ∙ (ap (λ (x : Reading). and_then x (body_of (list_of left s n) s)) (ap (entered n r by low) is ∙ h)
      ∙ then_no (refused r f) (body_of (list_of left s n) s) f refl)

  found : (v e : ℕ) → Stands s (r.at + 1) v e → number_at s (r.at + 1) ≡ read (min v 100000) e
  found v e st = (number_exact s (r.at + 1) (min v 100000) e).1 (v, st, refl)

  large : (v e : ℕ) → n ≤ 16 → Stands s (r.at + 1) v e → n ≤ v → node_of left s n r by low ≡ refused r UnknownNode
  large v e n16 st h = refused_at (read (min v 100000) e) UnknownNode (found v e st) (enter_large n r by low (min v 100000) e (omega arith))

  not_now :
      (v e : ℕ) → n ≤ 16 → Stands s (r.at + 1) v e → v < n → (v < low) ⊎ (get_or r.engager v 16 ≢ 16)
      → node_of left s n r by low ≡ refused r NotAForm
  not_now v e n16 st h why =
      let same : min v 100000 ≡ v = omega arith in
      refused_at (read v e) NotAForm (found v e st ∙ ap (λ (x : ℕ). read x e) same) (judgement why)
    where
      judgement : (v < low) ⊎ (get_or r.engager v 16 ≢ 16) → entered n r by low (read v e) ≡ refused r NotAForm
      judgement (inl l) = enter_low n r by low v e h l
      judgement (inr f) =
          elim (dec_lt v low) [ yes l ↦ enter_low n r by low v e h l | no g ↦ enter_again n r by low v e h (omega arith) f ]

  none : ((v e : ℕ) → Stands s (r.at + 1) v e → ⊥) → node_of left s n r by low ≡ refused r NotAForm
  none h = by_number (number_at s (r.at + 1)) refl
    where
      by_number : (m : Read ℕ) → number_at s (r.at + 1) ≡ m → node_of left s n r by low ≡ refused r NotAForm
      by_number None is = refused_at None NotAForm is (enter_wrong n r by low)
      by_number (Some (k, e)) is = let w = number_sound s (r.at + 1) k e is in absurd (h w.0 e w.1)

pub number_first : NumberFirst
number_first = record {
  large = λ left s n r by low v e n16 b. large left s n r by low b v e n16;
  not_now = λ left s n r by low v e n16 b. not_now left s n r by low b v e n16;
  none = λ left s n r by low b. none left s n r by low b;
  no_bracket = node_no;
}
