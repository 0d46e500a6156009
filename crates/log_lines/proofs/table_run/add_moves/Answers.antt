use native.Mathlib.Omega.{arith}
use Rattle.log_lines.proofs.Tables.{added_out}
use Rattle.log_lines.proofs.table_run.add_moves.Goals as goal

pub returns-else-u-lt-UPDATES : goal.returns-else-u-lt-UPDATES
returns-else-u-lt-UPDATES c = added_out _ _ _ (omega arith) c.if-u-lt-UPDATES.false
