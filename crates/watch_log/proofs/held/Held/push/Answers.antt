use native.Mathlib.Omega.{arith}
use Rattle.watch_log.proofs.Kept.{stored}
use Rattle.watch_log.proofs.held.Held.push.Goals as goal

pub returns : goal.returns
returns c = rw (← c.self.view_is) (stored _ _ _ _ c.min-place.ensures (omega arith))
