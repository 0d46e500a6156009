-- Document 01, "The log program": what the first line of a log asks for, and how it is answered.
use Rattle.std.specs.Prelude.{ℕ, leb, ltb, Bool, ◌&&◌, not, true, List, [], ◌∷◌, ◌⊎◌}
use Rattle.std.proofs.Common.{inl, inr}
use Rattle.first_line.specs.Meaning.{every_node, flag_byte, named}
use Rattle.first_line.specs.Start.{Start, bare, lists, start_form, tree}
use Rattle.forms.specs.Form.{Form}
use Rattle.log_rules.specs.Answers.{Stage, no_moves, on_ring, on_table, on_tree, over}
use Rattle.refusal.specs.Table.{Row, ◌⟶◌, first_of}
use Rattle.refusal.specs.declared.Refusal.TheVariants.{NodeCount, NotAForm, UnknownNode, UnknownUpdate}
use Rattle.refusal.specs.Table.{Verdict}
use Rattle.refusal.specs.Table.{Refused}
use Rattle.table_rules.specs.Answers.{answer_on, other_nodes}
use Rattle.table_rules.specs.Table.{Table, empty_table}
use Rattle.update_forms.specs.Wrapped.{Wrapped, wrapped_form}
use Rattle.log_runs.specs.Says.{Asks, list_to}
use Rattle.ring_rules.specs.Start as ring_start
use Rattle.tree_rules.specs.Start as tree_start
use Rattle.table_rules.specs.Answers as table
use Rattle.update_forms.specs.Wrapped as wrapped

-- a ring of n nodes, the active and the black ones named; a tree of n nodes with its root; update u of such a ring; or no start
pub data StartAsk : Type 0 where
  ring_start_ask : (n : ℕ) (active black : List ℕ) → StartAsk
  tree_start_ask : (n root : ℕ) → StartAsk
  update_start : (u n : ℕ) (active black : List ℕ) → StartAsk
  no_start : StartAsk

-- "A ring line has both lists or neither". Document 02, Q-6: "`(ring 3)` alone now means all active and white"; Q-1: "a start `(update 2 (ring 4))`";
-- a wrapped step is none
abbrev pub meant : Start ⊎ Wrapped → StartAsk
meant (inl (bare n)) = ring_start_ask n (every_node n) []
meant (inl (lists n active black)) = ring_start_ask n active black
meant (inl (tree n root)) = tree_start_ask n root
meant (inr (wrapped.step u f)) = no_start
meant (inr (wrapped.bare u n)) = update_start u n (every_node n) []
meant (inr (wrapped.lists u n active black)) = update_start u n active black

abbrev pub first_form : Start ⊎ Wrapped → Form
first_form (inl f) = start_form f
first_form (inr w) = wrapped_form w

abbrev pub FirstAsks : List ℕ → StartAsk → Type 0
FirstAsks = Asks first_form meant no_start

-- "Start takes N and N flag bytes": those of nodes 0 to n - 1, 1 for one that is named active and 2 more for one that is named black
unfoldable pub flags_to : List ℕ → List ℕ → ℕ → List ℕ
flags_to active black n = list_to (λ i. flag_byte (named active i) (named black i)) n

-- every node of the list is below n
abbrev pub all_below : ℕ → List ℕ → Bool
all_below n [] = true
all_below n (k ∷ ks) = ltb k n && all_below n ks

-- one node at least, and at most so many
abbrev pub in_range : ℕ → ℕ → Bool
in_range most n = ltb 0 n && leb n most

-- "start | 1 | boards outside 1 to 96 (tree 1 to 16)", then "step, start | 6 | a board number that is used is N or more"
abbrev pub start_rows : Bool → Bool → List Row
start_rows count known = (not count ⟶ NodeCount) ∷ (not known ⟶ UnknownNode) ∷ []

-- every node of both lists is below n
abbrev pub known_by : ℕ → List ℕ → List ℕ → Bool
known_by n active black = all_below n active && all_below n black

-- Q-1: "another N is 1, checked after 13": a start of update u, where the table has come to t
abbrev pub update_verdict : Table → ℕ → ℕ → List ℕ → List ℕ → Verdict
update_verdict t u n active black =
    first_of ((not (ltb u 8) ⟶ UnknownUpdate) ∷ (other_nodes t n ⟶ NodeCount) ∷ start_rows (in_range 96 n) (known_by n active black))

-- "log line | 10 | not one of the forms below" comes before both
abbrev pub first_verdict : StartAsk → Verdict
first_verdict (ring_start_ask n active black) = first_of (start_rows (in_range 96 n) (known_by n active black))
first_verdict (tree_start_ask n root) = first_of (start_rows (in_range 16 n) (ltb root n))
first_verdict (update_start u n active black) = update_verdict empty_table u n active black
first_verdict no_start = Refused NotAForm

-- the run that an accepted first line begins: the state of that start, no token move counted
abbrev pub begun : StartAsk → Stage
begun (ring_start_ask n active black) = on_ring (ring_start.start_of n (flags_to active black n)).state 0
begun (tree_start_ask n root) = on_tree (tree_start.start_of n root).state
begun (update_start u n active black) = on_table (answer_on empty_table (table.Start u n (flags_to active black n))).table no_moves
begun no_start = over
