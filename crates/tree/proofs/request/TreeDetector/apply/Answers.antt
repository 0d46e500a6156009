use Rattle.tree_rules.proofs.Soundness.{sound_true}
use Rattle.tree.proofs.request.TreeDetector.apply.Goals as goal

pub apply_sound-requires : goal.apply_sound-requires
apply_sound-requires c = sound_true _ c.requires
