use mathlib.Core.Path.{◌≡◌}
use Prim.Native.Nat.{◌-◌}
use lib.ListN.{length}
use Rattle.decimal.specs.Text.{put, last_digits}
use Rattle.decimal.proofs.put_digits.Given as goal

abbrev pub invariant-loop-place : goal.invariant-loop-place
invariant-loop-place l = (length l.buf ≡ length l.initial.buf) × (put l.buf l.at (last_digits (l.place - l.at) l.rest) ≡ put l.initial.buf l.at (last_digits l.count l.n))
