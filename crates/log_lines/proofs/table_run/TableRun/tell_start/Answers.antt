use Rattle.std.proofs.Common.{ap, sym, ◌∙◌}
use Rattle.log_rules.proofs.InPlace.{table_in_place}
use Rattle.log_lines.proofs.Firsts.{flags_wrapped}
use Rattle.log_lines.proofs.Tables.{later_table, start_as, start_read, update_started}
use Rattle.log_lines.proofs.Waiting.{formless_told}
use Rattle.log_lines.proofs.table_run.TableRun.tell_start.Goals as goal

pub returns-in_default : goal.returns-in_default
returns-in_default c =
    formless_told _ _ c.args.piece.now _ _ (later_table _ _ _ c.requires.0)
    (ap (start_as _ _ _) (sym c.in_default.is ∙ c.update_start.ensures) ∙ start_read _ _ _ _ c.requires.2 ∙ table_in_place _ _ _ _ _) c.formless.ensures

pub start_update-answer-requires : goal.start_update-answer-requires
start_update-answer-requires c = (c.requires.0.0, flags_wrapped c.args.piece.now c.args.at (sym c.in-Some.is ∙ c.update_start.ensures))

pub returns : goal.returns
returns c =
    rw c.clear_moves.ensures
    (update_started _ _ _ _ c.args.piece.now _ _ _ _ _ c.requires.0 c.requires.2 (sym c.in-Some.is ∙ c.update_start.ensures) c.start_update-answer.ensures)
