use Rattle.std.proofs.Common.{◌≡◌, take}
use Rattle.std.specs.List.{list_all}
use Rattle.flag_bytes.specs.Flags.{is_flag}
use Rattle.flag_bytes.proofs.are_flags.Given as goal

abbrev pub invariant-loop-byte : goal.invariant-loop-byte
invariant-loop-byte l = l.all ≡ list_all is_flag (take l.byte-index l.bytes)
