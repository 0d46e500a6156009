use Rattle.std.proofs.Common.{◌≡◌, length, map, take}
use Rattle.flag_bytes.specs.Flags.{byte_of}
use Rattle.flag_bytes.proofs.put_bytes.Given as goal

abbrev pub invariant-loop-i : goal.invariant-loop-i
invariant-loop-i l = (length l.bytes ≡ length l.truths) × (take l.i l.bytes ≡ map byte_of (take l.i l.truths))
