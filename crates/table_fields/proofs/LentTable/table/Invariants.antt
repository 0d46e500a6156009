use Rattle.std.proofs.Common.{◌≤◌}
use Rattle.table_fields.proofs.Laws.{Going}
use Rattle.table_fields.proofs.LentTable.table.Given as goal

abbrev pub invariant-loop-u : goal.invariant-loop-u
invariant-loop-u l = (l.u ≤ 8) × Going l.fn.self l.table.rings l.u
