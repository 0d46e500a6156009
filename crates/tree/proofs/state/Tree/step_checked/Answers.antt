use Rattle.std.proofs.Common.{sym, ◌∙◌}
use Rattle.tree_rules.proofs.Soundness.{sound_true}
use Rattle.tree.proofs.state.Tree.step_checked.Goals as goal

pub step_in_place-requires : goal.step_in_place-requires
step_in_place-requires c = sound_true _ (sym c.is_sound.ensures ∙ c.if-not-is_sound.false)
