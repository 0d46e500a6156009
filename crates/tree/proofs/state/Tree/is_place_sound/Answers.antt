use Rattle.std.proofs.Common.{false, refl, sym, true, ◌∙◌}
use Rattle.laws.proofs.Tests.{false_true}
use Rattle.tree.proofs.Laws.{place_is}
use Rattle.tree.proofs.state.Tree.is_place_sound.Goals.{then-is_settled, else-is_settled}
use Rattle.tree.proofs.state.Tree.is_place_sound.Goals as goal

pub returns-then-is_balanced : goal.returns-then-is_balanced
returns-then-is_balanced c = elim c.if-is_settled.branch [
  | then-is_settled w ↦
      place_is _ _ true true _ (sym w.if-is_settled.true ∙ c.is_settled.ensures) (sym c.if-is_balanced.true ∙ (w.value-is ∙ w.is_balanced.ensures)) c.are_pairs_sound.ensures
  | else-is_settled w ↦ absurd (false_true (sym w.if-is_settled.false ∙ (sym w.value-is ∙ c.if-is_balanced.true)))
]

pub returns-else-is_balanced : goal.returns-else-is_balanced
returns-else-is_balanced c = c.if-is_balanced.false ∙ elim c.if-is_settled.branch [
  | then-is_settled w ↦
      place_is _ _ true false _ (sym w.if-is_settled.true ∙ c.is_settled.ensures) (sym c.if-is_balanced.false ∙ (w.value-is ∙ w.is_balanced.ensures)) refl
  | else-is_settled w ↦ place_is _ _ false _ _ (sym w.if-is_settled.false ∙ c.is_settled.ensures) refl refl
]
