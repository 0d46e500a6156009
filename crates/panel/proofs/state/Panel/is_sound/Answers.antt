use Rattle.std.proofs.Common.{◌≡◌, ◌≤◌, ◌∙◌, subst, sym, true}
use Rattle.panel_rules.specs.State.{Panel}
use Rattle.ring_rules.proofs.Soundness.{sound_true}
use Rattle.ring_rules.specs.Soundness.{sound_test}
use Rattle.panel.proofs.state.Panel.is_sound.Goals as goal

pub are_marks_sound-requires : goal.are_marks_sound-requires
are_marks_sound-requires c =
    let e : sound_test c.self.inside.ring ≡ true = sym c.is_sound.ensures ∙ c.if-is_sound.true in
    subst (λ (p : Panel). p.ring.n ≤ 96) c.self.view_is (sound_true _ e).nodes
