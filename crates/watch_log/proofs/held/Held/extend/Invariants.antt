use lib.ListN.{drop}
use mathlib.Core.Path.{◌≡◌}
use Rattle.watch_log.specs.Held.{held_line, kept}
use Rattle.watch_log.proofs.held.Held.extend.Given as goal

abbrev pub invariant-loop-byte : goal.invariant-loop-byte
invariant-loop-byte l = kept (held_line l.self) (drop l.byte-index l.bytes) ≡ kept (held_line l.initial.self) l.bytes
