use Rattle.std.proofs.Common.{sym, ◌∙◌}
use Rattle.panel_rules.proofs.Soundness.{sound_true}
use Rattle.panel.proofs.state.Panel.start_checked.Goals as goal

pub restart-requires : goal.restart-requires
restart-requires c = sound_true _ (sym c.is_sound.ensures ∙ c.if-not-is_sound.false)
