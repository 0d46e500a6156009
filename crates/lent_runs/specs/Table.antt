-- Calls of other languages on one table, each on the columns that the last one left: starts and steps of any updates, refused ones included.
use Rattle.std.specs.Prelude.{ℕ, eqb, cond, List, [], ◌∷◌}
use Rattle.lent.specs.Table.{LentTable, ask_fields, ask_number}
use Rattle.table_rules.specs.Answers.{Ask, names}

unfoldable pub columns_after : LentTable → List Ask → LentTable
columns_after m [] = m
columns_after m (a ∷ ls) = columns_after (ask_fields m a) ls

-- the numbers told to the calls that name u, in order
unfoldable pub numbers_to : ℕ → LentTable → List Ask → List ℕ
numbers_to u m [] = []
numbers_to u m (a ∷ ls) = cond (eqb (names a) u) (ask_number m a ∷ numbers_to u (ask_fields m a) ls) (numbers_to u (ask_fields m a) ls)
