use Rattle.std.proofs.Common.{◌≤◌, length, take}
use Rattle.std.specs.Io.KnownBytes.{Appends}
use Rattle.watch.specs.Turn.{Writes}
use Rattle.watch.proofs.put.put_all.Given as goal

abbrev pub invariant-loop : goal.invariant-loop
invariant-loop g l =
    (l.at ≤ length l.bytes) × Appends (g.W.Write.contents l.initial.writer) (g.W.Write.contents l.writer) (take l.at l.bytes)
    × Writes (g.W.Write.contents l.initial.writer) l.bytes (g.W.Write.contents l.writer) l.counter l.at
