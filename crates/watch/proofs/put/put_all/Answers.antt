use native.Mathlib.Omega.{arith}
use Rattle.std.proofs.KnownBytes.{Appends-nil}
use Rattle.watch.proofs.Known.{on_err}
use Rattle.watch.specs.Turn.{none, write_failed, writes_ran_out}
use Rattle.watch.proofs.put.put_all.Goals as goal

pub loop-init : goal.loop-init
loop-init g c = (omega arith, Appends-nil _, none)

pub returns-in_err-at-clause-why : goal.returns-in_err-at-clause-why
returns-in_err-at-clause-why g c =
    on_err c.from_residual.result (write_failed c.loop.invariant.2 (omega arith) c.if-bytes-at.false c.in_err-at.ensures.err)

pub returns-clause-why : goal.returns-clause-why
returns-clause-why g c = writes_ran_out (omega arith) c.loop.invariant.2
