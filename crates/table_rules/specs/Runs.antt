-- Q-1 and Q-5: runs of a table, a list of requests of any kind, to any updates and with any numbers; refused ones stay in it.
use Rattle.std.specs.Prelude.{ℕ, eqb, ltb, cond, not, List, [], ◌∷◌}
use Rattle.refusal.specs.Table.{◌⟶◌, first_of, settle}
use Rattle.refusal.specs.declared.Refusal.TheVariants.{NodeCount, UnknownUpdate}
use Rattle.refusal.specs.Table.{Verdict}
use Rattle.ring_rules.specs.Rules.{kind_of}
use Rattle.ring_rules.specs.Start.{start_table}
use Rattle.runs.specs.Runs.{Machine}
use Rattle.table_rules.specs.Answers.{Ask, Start, Step, after, names, next_table, slot_after, slot_rows, verdict_on}
use Rattle.table_rules.specs.Table.{Slot, Table}

-- the table as a machine that takes requests
abbrev pub table : Machine Table Ask
table = record { verdict = verdict_on; effect = after }

-- the number of nodes of the first start in a list; 0 where there is none
abbrev pub first_nodes : List Ask → ℕ
first_nodes [] = 0
first_nodes (Start u n flags ∷ acc) = n
first_nodes (Step u x ∷ acc) = first_nodes acc

-- ---- what is said of update u

abbrev pub naming : ℕ → List Ask → List Ask
naming u [] = []
naming u (a ∷ ls) = cond (eqb (names a) u) (a ∷ naming u ls) (naming u ls)

-- the table's answers to the requests that name u, in order
unfoldable pub answers_of : ℕ → Table → List Ask → List Verdict
answers_of u t [] = []
answers_of u t (a ∷ ls) = cond (eqb (names a) u) (verdict_on t a ∷ answers_of u (next_table t a) ls) (answers_of u (next_table t a) ls)

-- ---- an update by itself, where n is fixed: no table stands behind it

abbrev pub alone_verdict : ℕ → Slot → Ask → Verdict
alone_verdict n s (Start u m flags) = first_of ((not (ltb u 8) ⟶ UnknownUpdate) ∷ (not (eqb m n) ⟶ NodeCount) ∷ start_table m flags)
alone_verdict n s (Step u x) = first_of (slot_rows s (kind_of x.kind) x.i x.j)

abbrev pub alone_next : ℕ → Slot → Ask → Slot
alone_next n s a = settle (alone_verdict n s a) (slot_after s a) s

unfoldable pub alone_run : ℕ → Slot → List Ask → Slot
alone_run n s [] = s
alone_run n s (a ∷ ls) = alone_run n (alone_next n s a) ls

unfoldable pub alone_answers : ℕ → Slot → List Ask → List Verdict
alone_answers n s [] = []
alone_answers n s (a ∷ ls) = alone_verdict n s a ∷ alone_answers n (alone_next n s a) ls
