use mathlib.Core.Path.{◌∙◌, sym}
use native.Mathlib.Omega.{arith}
use Rattle.std.proofs.KnownBytes.{Appends-nil, Consumes-nil}
use Rattle.watch.proofs.Runs.{goes_on, pumped, ran_out, start_going, stops}
use Rattle.watch.proofs.Turned.{failed_so}
use Rattle.watch.proofs.pump.pump.Goals as goal

pub loop-init : goal.loop-init
loop-init g c = start_going _ _ _ c.new-log.ensures (Consumes-nil _) (Appends-nil _)

pub returns-in_err-got : goal.returns-in_err-got
returns-in_err-got g c =
    failed_so _ c.from_residual.result c.from_residual.ensures.0 (stops c.loop.invariant (omega arith) c.in_err-got.ensures)

pub returns-then-is_over : goal.returns-then-is_over
returns-then-is_over g c = pumped c.loop.invariant c.in_ok-got.ensures (omega arith) (sym c.is_over.ensures ∙ c.if-is_over.true)

pub loop-preserved : goal.loop-preserved
loop-preserved g c = goes_on c.loop.invariant c.in_ok-got.ensures (sym c.is_over.ensures ∙ c.if-is_over.false)

pub returns : goal.returns
returns g c = ran_out c.loop.invariant (omega arith)
