use Rattle.std.proofs.Common.{arith, subst, sym, ◌∙◌}
use Rattle.laws.proofs.Sums.{total_at}
use Rattle.ring_rules.proofs.Accepted.{take_true}
use Rattle.ring_rules.specs.Soundness.{Sound}
use Rattle.ring.proofs.state.Ring.apply_take.Goals as goal

pub overflow_add-self : goal.overflow_add-self
overflow_add-self c =
    let s = subst Sound (sym c.self.view_is) c.requires.sound in
    let t = take_true _ c.args.count (sym c.can_take.ensures ∙ c.if-not-can_take.false) in
    record { fits = omega (arith, t.1, total_at c.self.inside.received c.args.node c.self.inside.n c.if-self-node.false, s.limit, s.flow) }
