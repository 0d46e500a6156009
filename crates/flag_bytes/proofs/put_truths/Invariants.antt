use Rattle.std.proofs.Common.{◌≡◌, length, map, take}
use Rattle.flag_bytes.specs.Flags.{flag_of}
use Rattle.flag_bytes.proofs.put_truths.Given as goal

abbrev pub invariant-loop-i : goal.invariant-loop-i
invariant-loop-i l = (length l.truths ≡ length l.bytes) × (take l.i l.truths ≡ map flag_of (take l.i l.bytes))
