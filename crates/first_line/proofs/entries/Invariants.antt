use Prim.Native.Nat.{◌-◌}
use lib.ListN.{length}
use Rattle.first_line.specs.Read.{marks_of, entries_at}
use Rattle.first_line.proofs.Nodes.{Left}
use Rattle.first_line.proofs.entries.Given as goal

abbrev pub invariant-loop-flags : goal.invariant-loop-flags
invariant-loop-flags l = Left l.s l.bit l.flags l.top l.low l.at (marks_of l.bit l.fn.named (entries_at l.s l.from))

abbrev pub decreases-loop-flags : goal.decreases-loop-flags
decreases-loop-flags l = length l.s - l.at
