use Rattle.ring.proofs.Nodes.{Going}
use Rattle.ring.proofs.state.Ring.walk.Given as goal

abbrev pub invariant-loop-node : goal.invariant-loop-node
invariant-loop-node l =
    Going l.self-inside.n l.self-inside.pos l.self-inside.active l.self-inside.color l.self-inside.sent l.self-inside.received l.self-inside.pending
    l.sent l.received l.pending l.sent_above l.received_above l.passive l.white l.node
