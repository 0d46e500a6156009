use Rattle.std.proofs.Common.{◌≡◌, false, refl, true, ap, sym, ◌∙◌}
use Rattle.color.specs.Between.{white_between}
use Rattle.ring_rules.specs.State.{State}
use Rattle.ring.proofs.Parts.{empty_all, unused_is}
use Rattle.ring.proofs.state.Ring.is_unused.Goals as goal

pub returns-then-is_empty_from_n : goal.returns-then-is_empty_from_n
returns-then-is_empty_from_n c =
    let white : c.white_from.result ≡ white_between c.args.self.now.color c.args.self.now.n 96 = c.white_from.ensures ∙ ap (λ (r : State). white_between r.color r.n 96) c.self.view_is in
    unused_is c.args.self.now true _ (sym c.if-is_empty_from_n.true ∙ empty_all _ _ _ _ _ _ c.is_empty_from_n.ensures) white

pub returns-else-is_empty_from_n : goal.returns-else-is_empty_from_n
returns-else-is_empty_from_n c =
    c.if-is_empty_from_n.false ∙ unused_is c.args.self.now false _ (sym c.if-is_empty_from_n.false ∙ empty_all _ _ _ _ _ _ c.is_empty_from_n.ensures) refl
