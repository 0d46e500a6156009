use Rattle.std.proofs.Common.{◌≡◌}
use Rattle.ring_rules.specs.Start.{color_from}
use Rattle.ring.proofs.start.color_from.Given as goal

abbrev pub invariant-loop-node : goal.invariant-loop-node
invariant-loop-node l = l.color ≡ color_from l.flags l.node
