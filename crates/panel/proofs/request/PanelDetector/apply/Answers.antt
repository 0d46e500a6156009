use Rattle.panel_rules.proofs.Soundness.{sound_true}
use Rattle.panel.proofs.request.PanelDetector.apply.Goals as goal

pub apply_sound-requires : goal.apply_sound-requires
apply_sound-requires c = sound_true _ c.requires
