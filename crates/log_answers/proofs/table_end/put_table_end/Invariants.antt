use Rattle.log_answers.proofs.Slots.{Ended}
use Rattle.log_answers.proofs.table_end.put_table_end.Given as goal

abbrev pub invariant-loop-u : goal.invariant-loop-u
invariant-loop-u l = Ended l.initial.out l.at l.table.rings l.moves l.u l.end l.out
