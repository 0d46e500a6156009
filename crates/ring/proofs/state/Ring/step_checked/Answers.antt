use Rattle.std.proofs.Common.{sym, ◌∙◌}
use Rattle.ring_rules.proofs.Soundness.{sound_true}
use Rattle.ring.proofs.state.Ring.step_checked.Goals as goal

pub step_in_place-requires : goal.step_in_place-requires
step_in_place-requires c = sound_true _ (sym c.is_sound.ensures ∙ c.if-not-is_sound.false)
