use mathlib.Core.Path.{◌≡◌}
use Prim.Native.Nat.{◌≤◌, max}
use lib.ListN.{length, drop}
use Rattle.decimal.specs.Number.{number_cap, scan_of}
use Rattle.decimal.proofs.scan_digits.Given as goal

abbrev pub invariant-loop-i : goal.invariant-loop-i
invariant-loop-i l = (l.value ≤ number_cap) × (l.i ≤ max l.at (length l.s)) × (scan_of (drop l.i l.s) l.value l.i ≡ scan_of (drop l.at l.s) 0 l.at)
