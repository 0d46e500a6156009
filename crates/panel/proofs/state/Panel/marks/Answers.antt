use Rattle.std.proofs.Common.{◌≤◌, ◌∙◌, ap, arith, sym}
use Rattle.panel_rules.proofs.Soundness.{sound_true}
use Rattle.panel_rules.specs.State.{Panel}
use Rattle.panel.specs.declared.state.Panel.TheInside.{Inside}
use Rattle.panel.proofs.state.Panel.marks.Goals as goal

pub marks_at-requires : goal.marks_at-requires
marks_at-requires c =
    let most : c.args.self.now.ring.n ≤ 96 = (sound_true _ (sym c.is_sound.ensures ∙ c.if-not-is_sound.false)).ring.nodes in
    let n = ap (λ (p : Panel). p.ring.n) c.self.view_is in
    let m = ap (λ (p : Inside). p.ring.n) c.self-inside.view_is in omega arith
