use Rattle.log_lines.proofs.Tables.{start_told}
use Rattle.log_lines.proofs.table_run.start_update.Goals as goal

pub returns : goal.returns
returns c = start_told _ _ c.args.u c.args.start.now _ c.requires.0 c.requires.1 c.in_ok-judge.ensures c.start_in_place.ensures.told
