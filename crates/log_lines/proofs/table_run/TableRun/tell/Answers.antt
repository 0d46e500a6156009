use Rattle.std.proofs.Common.{sym, ◌∙◌}
use Rattle.log_lines.proofs.Tables.{update_stepped}
use Rattle.log_lines.proofs.table_run.TableRun.tell.Goals as goal

pub returns : goal.returns
returns c =
    rw c.add_moves.ensures
    (update_stepped _ _ _ _ c.args.piece.now _ _ _ _ c.in-Some.step _ _ c.requires.0 c.request_of-request.ensures
    (sym c.in-Some.is ∙ c.update_step.ensures.0) c.apply_sound-answer.ensures.told c.moved.ensures)
