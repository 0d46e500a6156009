use mathlib.Core.Path.{◌≡◌}
use Prim.Native.Nat.{◌+◌, ◌*◌, ◌^◌, ◌≤◌}
use lib.ListN.{length}
use Rattle.decimal.specs.Text.{decimal}
use Rattle.decimal.proofs.width.Given as goal

abbrev pub invariant-loop-count : goal.invariant-loop-count
invariant-loop-count l = (length (decimal l.n) + 1 ≡ l.count + length (decimal l.rest)) × (l.rest * 10 ^ l.count ≤ l.n * 10)
