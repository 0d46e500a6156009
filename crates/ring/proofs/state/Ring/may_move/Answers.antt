use Rattle.std.proofs.Common.{ap, sym, ◌∙◌}
use Rattle.ring_rules.specs.Driver.{may_move}
use Rattle.ring_rules.specs.State.{State}
use Rattle.ring.proofs.Moves.{pass_here, probe_here}
use Rattle.ring.proofs.state.Ring.may_move.Goals as goal

pub returns-then-self-eq0 : goal.returns-then-self-eq0
returns-then-self-eq0 c = c.may_probe.ensures ∙ probe_here _ (ap (λ (s : State). s.pos) (sym c.self.view_is) ∙ c.if-self-eq0.true)

pub returns : goal.returns
returns c = pass_here _ c.if-self-eq0.false ∙ ap may_move c.self.view_is
