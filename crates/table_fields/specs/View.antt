-- What lies in lent fields, as the code finds it.
use Rattle.std.specs.Prelude.{◌<◌, false, true, Result, Ok, Err, ◌≡◌}
use Rattle.lent.specs.Ring.{Lent}
use Rattle.lent.specs.Table.{AnsweredTo, LentTable, put_fields, table_in, table_truths}
use Rattle.refusal.specs.Table.{number_of}
use Rattle.refusal.specs.declared.Refusal.{Refusal}
use Rattle.refusal.specs.declared.Refusal.TheVariants.{Unsound}
use Rattle.table.specs.View.{table}
use Rattle.table.specs.declared.state.Table.{Table}
use Rattle.table_rules.specs.Answers.{Ask, names}

-- the table, to the definitions: what lies in places that are not started is not read
abbrev pub LiesIn : LentTable → Result Table Refusal → Type 0
LiesIn m (Ok t) = (table_truths m ≡ true) × (table t ≡ table_in m)
LiesIn m (Err e) = (table_truths m ≡ false) × (e ≡ Unsound)

-- what a request puts into the fields of the update that it names: put there, they are its answer; and the refusal, which leaves all as it was
abbrev pub Puts : LentTable → Ask → Result Lent Refusal → Type 0
Puts m a (Ok l) = (names a < 8) × AnsweredTo m a 0 (put_fields m (names a) l)
Puts m a (Err e) = AnsweredTo m a (number_of e) m
