use native.Mathlib.Omega.{arith}
use mathlib.Core.Path.{subst, sym}
use Rattle.log_rules.specs.Pieces.{PartLine, empty}
use Rattle.watch_log.proofs.state.Log.new.Goals as goal

pub invariant_of-result : goal.invariant_of-result
invariant_of-result c = record { sound = tt; most = omega arith; part = subst PartLine (sym c.new.ensures) empty }
