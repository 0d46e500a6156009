use Rattle.watch.proofs.Runs.{either, end_cut, ok_then, ran, whole_output}
use Rattle.watch.proofs.Turned.{failed_so}
use Rattle.watch.specs.Run.{in_turn}
use Rattle.watch.proofs.pump.answer_all.Goals as goal

pub returns-in_err-log-clause-ran : goal.returns-in_err-log-clause-ran
returns-in_err-log-clause-ran g c =
    failed_so _ c.from_residual.result c.from_residual.ensures.0 (in_turn c.in_err-log.ensures)

pub returns-clause-output : goal.returns-clause-output
returns-clause-output g c =
    ok_then c.put_all.result c.put_all.ensures.ok (λ w. whole_output _ _ _ _ (ran c.in_ok-log.ensures c.finish-count.ensures w))

pub returns-clause-ran : goal.returns-clause-ran
returns-clause-ran g c =
    either c.put_all.result c.put_all.ensures.ok c.put_all.ensures.why (ran c.in_ok-log.ensures c.finish-count.ensures)
    (end_cut c.in_ok-log.ensures c.finish-count.ensures)
