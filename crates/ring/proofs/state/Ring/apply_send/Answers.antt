use Rattle.std.proofs.Common.{arith, subst, sym}
use Rattle.laws.proofs.Sums.{total_at}
use Rattle.ring_rules.specs.Soundness.{Sound}
use Rattle.ring.proofs.state.Ring.apply_send.Goals as goal

pub overflow_add-self : goal.overflow_add-self
overflow_add-self c =
    let s = subst Sound (sym c.self.view_is) c.requires.sound in
    record { fits = omega (arith, total_at c.self.inside.sent c.args.from c.self.inside.n c.if-self-from.false, s.limit) }

pub overflow_add-self-2 : goal.overflow_add-self-2
overflow_add-self-2 c =
    let s = subst Sound (sym c.self.view_is) c.requires.sound in
    record { fits = omega (arith, total_at c.self.inside.pending c.args.to c.self.inside.n c.if-self-to.false, s.limit, s.flow) }
