use Rattle.std.proofs.Common.{◌≡◌}
use Rattle.ring_rules.specs.Start.{active_from}
use Rattle.ring.proofs.start.active_from.Given as goal

abbrev pub invariant-loop-node : goal.invariant-loop-node
invariant-loop-node l = l.active ≡ active_from l.flags l.node
