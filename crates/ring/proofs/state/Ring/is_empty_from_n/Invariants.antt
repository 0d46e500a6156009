use Rattle.std.proofs.Common.{◌≤◌}
use Rattle.ring.proofs.Parts.{EmptyTo}
use Rattle.ring.proofs.state.Ring.is_empty_from_n.Given as goal

abbrev pub invariant-loop-node : goal.invariant-loop-node
invariant-loop-node l =
    (l.self-inside.n ≤ l.node) × (l.node ≤ 96)
    × EmptyTo l.self-inside.n l.self-inside.active l.self-inside.sent l.self-inside.received l.self-inside.pending l.node l.empty
