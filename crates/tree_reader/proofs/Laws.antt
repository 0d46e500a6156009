-- Going on, and each way out of the two readers, as the code goes. Assumes nothing.
use Prim.Native.Nat.{◌+◌, ◌-◌, ℕ}
use lib.ListN.{get_or}
use mathlib.Core.List.{List}
use mathlib.Core.Bool.{Bool, false, true}
use mathlib.Core.Logic.{◌≢◌, inl, inr}
use mathlib.Core.Path.{◌∙◌, ◌≡◌, ap, sym}
use Rattle.std.specs.Prelude.{Result, Ok, Err}
use Rattle.laws.proofs.Tests.{false_true}
use Rattle.decimal.specs.Number.{number_at}
use Rattle.refusal.specs.declared.Refusal.{Refusal}
use Rattle.refusal.specs.Table.{Verdict}
use Rattle.tree_text.proofs.Steps.{body_is, list_more, node_yes, then_no, then_yes, verdict_of}
use Rattle.tree_text.specs.Read.{Reading, and_then, body_of, closed, entered, list_of, node_of, stepped}
use Rattle.tree_text.specs.Text.{opening, space}
use Rattle.tree_reader.specs.View.{going, told, told_by}
use Rattle.tree_reader.specs.declared.Reading.{Reading as Read}

-- what an answer says
failed : Result Read Refusal → Bool
failed (Ok r) = false
failed (Err e) = true

got : Read → Result Read Refusal → Read
got d (Ok r) = r
got d (Err e) = d

-- a refusal ends the reading
pub ends : (m : Reading) (f : Reading → Reading) (e : Refusal) → Err e ≡ told m → Err e ≡ told (and_then m f)
unfolding failed
ends m f e h =
    elim (verdict_of m.verdict) [
      | inl p ↦ absurd (false_true (sym (ap failed (h ∙ ap (λ (v : Verdict). told_by v m) p))))
      | inr q ↦ h ∙ sym (ap told (then_no m f q.0 q.1))
    ]

-- and what was read goes on
pub goes : (m : Reading) (f : Reading → Reading) (r : Read) → Ok r ≡ told m → and_then m f ≡ f (going r)
unfolding failed got
goes m f r h =
    elim (verdict_of m.verdict) [
      | inl p ↦
          let e = ap (got r) (h ∙ ap (λ (v : Verdict). told_by v m) p) in
          then_yes m f p ∙ ap f (ap (λ (v : Verdict). record { verdict = v; engager = m.engager; at = m.at; node = m.node }) p ∙ sym (ap going e))
      | inr q ↦ absurd (false_true (ap failed (h ∙ ap (λ (v : Verdict). told_by v m) q.1)))
    ]

module _ (left : ℕ) (s : List ℕ) (n : ℕ) (r : Reading) (by low : ℕ) (byte : get_or s r.at 0 ≡ opening) where
  -- the number is refused, the children are, or the node is closed
  pub number_refused : (e : Refusal) → Err e ≡ told (entered n r by low (number_at s (r.at + 1))) → Err e ≡ told (node_of left s n r by low)
  number_refused e h = ends (entered n r by low (number_at s (r.at + 1))) (body_of (list_of left s n) s) e h ∙ sym (ap told (node_yes left s n r by low byte))

  module _ (m : Read) (is : Ok m ≡ told (entered n r by low (number_at s (r.at + 1)))) where
    body : node_of left s n r by low ≡ and_then (list_of left s n (going m) m.node 0) (closed s m.node)
    body =
        node_yes left s n r by low byte
        ∙ (goes (entered n r by low (number_at s (r.at + 1))) (body_of (list_of left s n) s) m is ∙ body_is left s n (going m))

    pub children_refused : (e : Refusal) → Err e ≡ told (list_of left s n (going m) m.node 0) → Err e ≡ told (node_of left s n r by low)
    children_refused e h = ends (list_of left s n (going m) m.node 0) (closed s m.node) e h ∙ sym (ap told body)

    pub node-closed : (l : Read) → Ok l ≡ told (list_of left s n (going m) m.node 0) → told (closed s m.node (going l)) ≡ told (node_of left s n r by low)
    node-closed l h = sym (ap told (body ∙ goes (list_of left s n (going m) m.node 0) (closed s m.node) l h))

module _ (left : ℕ) (s : List ℕ) (n : ℕ) (r : Reading) (k low : ℕ) (some : left ≢ 0) (byte : get_or s r.at 0 ≡ space) where
  -- a child is refused, or the list goes on behind it
  pub child_refused : (e : Refusal) → Err e ≡ told (node_of (left - 1) s n (stepped r) k low) → Err e ≡ told (list_of left s n r k low)
  child_refused e h =
      ends (node_of (left - 1) s n (stepped r) k low) (λ z. list_of (left - 1) s n z k (z.node + 1)) e h
      ∙ sym (ap told (list_more s n r k low left some byte))

  pub list_on : (m : Read) → Ok m ≡ told (node_of (left - 1) s n (stepped r) k low) → told (list_of (left - 1) s n (going m) k (m.node + 1)) ≡ told (list_of left s n r k low)
  list_on m h =
      sym
      (ap told
      (list_more s n r k low left some byte
      ∙ goes (node_of (left - 1) s n (stepped r) k low) (λ z. list_of (left - 1) s n z k (z.node + 1)) m h))
