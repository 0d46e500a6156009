-- The log program: the answer to a line, and the end line.
use Rattle.std.specs.Prelude.{◌+◌, suc, zero, ℕ, leb, ltb, get_or, replicate, set, take, Bool, ◌&&◌, cond, false, not, true, List, [], ◌++◌, ◌∷◌, Some, None}
use Rattle.decimal.specs.Bytes.{bytes}
use Rattle.decimal.specs.Text.{decimal}
use Rattle.first_line.specs.Read.{first_at}
use Rattle.first_line.specs.Start.{bare_start, lists_start, seen_of}
use Rattle.first_line.specs.declared.First.{First}
use Rattle.first_line.specs.declared.RingStart.{RingStart}
use Rattle.forms.specs.Read.{Read, ring_at, tree_at}
use Rattle.forms.specs.declared.RingStep.{RingStep}
use Rattle.forms.specs.declared.TreeStep.{TreeStep}
use Rattle.refusal.specs.Table.{Row, ◌⟶◌, first_of, is_accepted, number_of, settle}
use Rattle.refusal.specs.declared.Refusal.TheVariants.{NodeCount, NotAForm, UnknownNode, UnknownUpdate}
use Rattle.refusal.specs.Table.{Verdict}
use Rattle.refusal.specs.Table.{Accepted, Refused}
use Rattle.ring_rules.specs.State.{black_nodes, in_transit}
use Rattle.runs.specs.Runs.{Request}
use Rattle.table_rules.specs.Answers.{Ask, Start, Step, after, answer_on, other_nodes}
use Rattle.table_rules.specs.Table.{NotStarted, Slot, Started, Table, empty_table, slot_at}
use Rattle.tree_rules.specs.Termination.{acks_total}
use Rattle.tree_text.specs.Write.{state_text}
use Rattle.update_forms.specs.Read.{wrapped_at}
use Rattle.update_forms.specs.Wrapped.{Wrapped, bare, lists, step}
use Rattle.ring_rules.specs.State as ring
use Rattle.ring_rules.specs.Start as ring_start
use Rattle.ring_rules.specs.Answers as ring_answers
use Rattle.tree_rules.specs.State as tree
use Rattle.tree_rules.specs.Start as tree_start
use Rattle.tree_rules.specs.Answers as tree_answers
use Rattle.forms.specs.declared.RingStep.TheVariants as ring_step
use Rattle.forms.specs.declared.TreeStep.TheVariants as tree_step
use Rattle.first_line.specs.declared.First.TheVariants as line

-- what a log has come to: nothing is read yet; a ring's run, with its accepted token moves; a tree's run; a table's run, with those of each
-- update since its latest start; or the first line was refused, and nothing more is answered
pub data Stage : Type 0 where
  fresh : Stage
  on_ring : ring.State → ℕ → Stage
  on_tree : tree.State → Stage
  on_table : Table → List ℕ → Stage
  over : Stage

-- ---- the texts

-- "ok has the line; no has line and refusal"
abbrev pub answer_text : ℕ → Verdict → List ℕ
answer_text k Accepted = bytes "(ok " ++ (decimal k ++ bytes ")\n")
answer_text k (Refused e) = bytes "(no " ++ (decimal k ++ (bytes " " ++ (decimal (number_of e) ++ bytes ")\n")))

-- "each answer is at most 16 bytes"
abbrev pub answer_bytes : ℕ
answer_bytes = 16

-- "boards is N; holder is the token's; moves are accepted token moves; flight is total pending; black is the count of one bits"
abbrev pub ring_end_by : List ℕ → ring.State → ℕ → List ℕ
ring_end_by last r m =
    bytes "(end (boards "
    ++ (decimal r.n
    ++ (bytes ") (holder "
    ++ (decimal r.pos
    ++ (bytes ") (moves "
    ++ (decimal m ++ (bytes ") (flight " ++ (decimal (in_transit r) ++ (bytes ") (black " ++ (decimal (black_nodes r) ++ last)))))))))

abbrev pub ring_end : ring.State → ℕ → List ℕ
ring_end = ring_end_by (bytes "))\n")

-- at the end each started update prints `(update 2 (end ..))`
abbrev pub update_end : ℕ → Slot → ℕ → List ℕ
update_end u NotStarted m = []
update_end u (Started r) m = bytes "(update " ++ (decimal u ++ (bytes " " ++ ring_end_by (bytes ")))\n") r m))

-- "ascending, moves counted from its latest start": updates 0 to n - 1
unfoldable pub ends_to : ℕ → Table → List ℕ → List ℕ
ends_to zero t ms = []
ends_to (suc u) t ms = ends_to u t ms ++ update_end u (slot_at t u) (get_or ms u 0)

abbrev pub table_end : Table → List ℕ → List ℕ
table_end t ms = ends_to 8 t ms

-- "engaged holding the tree's text and acks being those under way"
abbrev pub tree_end : tree.State → List ℕ
tree_end t =
    bytes "(end (boards "
    ++ (decimal t.n ++ (bytes ") (engaged " ++ (state_text t ++ (bytes ") (acks " ++ (decimal (acks_total t) ++ bytes "))\n")))))

-- after the last line; with none, the first line is missing
abbrev pub end_text : Stage → List ℕ
end_text fresh = answer_text 1 (Refused NotAForm)
end_text (on_ring r m) = ring_end r m
end_text (on_tree t) = tree_end t
end_text (on_table t ms) = table_end t ms
end_text over = []

-- ---- one line

pub record Told : Type 0 where
  pub stage : Stage
  pub text : List ℕ

-- a first line that begins a ring: its number of nodes, then the nodes that its lists name
abbrev pub ring_table : RingStart → List Row
ring_table f =
    (not (ltb 0 f.n && leb f.n 96) ⟶ NodeCount)
    ∷ (ltb f.n f.top ⟶ UnknownNode)
    ∷ []

abbrev pub opened_by : Verdict → Stage → Told
opened_by Accepted s = record { stage = s; text = answer_text 1 Accepted }
opened_by (Refused e) s = record { stage = over; text = answer_text 1 (Refused e) }

-- what a first line says begins the run, or is refused
abbrev pub first_told : First → Told
first_told (line.Ring f) = opened_by (first_of (ring_table f)) (on_ring (ring_start.first_state f.n (take f.n f.flags)) 0)
first_told (line.Tree n root) = opened_by (tree_start.start_verdict n root) (on_tree (tree_start.first_state n root))

-- a start of update u in a log: 13 where there is no update u, 1 where n is fixed and this is another, and then what a ring's first line is asked
abbrev pub update_table : Table → ℕ → RingStart → List Row
update_table t u f = (not (ltb u 8) ⟶ UnknownUpdate) ∷ (other_nodes t f.n ⟶ NodeCount) ∷ ring_table f

-- what it asks of the table
abbrev pub update_ask : ℕ → RingStart → Ask
update_ask u f = Start u f.n (take f.n f.flags)

-- no token move of any update
abbrev pub no_moves : List ℕ
no_moves = replicate 8 0

-- "If the first line is such a start, every line is wrapped"
abbrev pub update_opened : ℕ → RingStart → Told
update_opened u f = opened_by (first_of (update_table empty_table u f)) (on_table (after empty_table (update_ask u f)) no_moves)

-- what a first line begins that is no ring's and no tree's
abbrev pub update_first : Read Wrapped → Told
update_first (Some (step u f, e)) = opened_by (Refused NotAForm) fresh
update_first (Some (bare u n, e)) = update_opened u (bare_start n)
update_first (Some (lists u n active black, e)) = update_opened u (lists_start n active black)
update_first None = opened_by (Refused NotAForm) fresh

abbrev pub fresh_told : Read First → Read Wrapped → Told
fresh_told (Some (f, e)) w = first_told f
fresh_told None w = update_first w

-- the kind number and the numbers of a step: `(take 2)` takes one message
abbrev pub ring_request : RingStep → Request
ring_request (ring_step.Send i j) = record { kind = 1; i = i; j = j }
ring_request (ring_step.TakeOne i) = record { kind = 2; i = i; j = 1 }
ring_request (ring_step.Take i n) = record { kind = 2; i = i; j = n }
ring_request (ring_step.Idle i) = record { kind = 3; i = i; j = 0 }
ring_request ring_step.Probe = record { kind = 4; i = 0; j = 0 }
ring_request (ring_step.Pass i) = record { kind = 5; i = i; j = 0 }
ring_request ring_step.Announce = record { kind = 6; i = 0; j = 0 }

abbrev pub tree_request : TreeStep → Request
tree_request (tree_step.Send i j) = record { kind = 1; i = i; j = j }
tree_request (tree_step.Take i k) = record { kind = 2; i = i; j = k }
tree_request (tree_step.Idle i) = record { kind = 3; i = i; j = 0 }
tree_request (tree_step.Ack i) = record { kind = 4; i = i; j = 0 }
tree_request (tree_step.Leave i) = record { kind = 5; i = i; j = 0 }
tree_request tree_step.Announce = record { kind = 6; i = 0; j = 0 }

abbrev pub is_move : RingStep → Bool
is_move (ring_step.Send i j) = false
is_move (ring_step.TakeOne i) = false
is_move (ring_step.Take i n) = false
is_move (ring_step.Idle i) = false
is_move ring_step.Probe = true
is_move (ring_step.Pass i) = true
is_move ring_step.Announce = false

-- a step of a ring's run, asked for in line k
abbrev pub ring_step_told : ring.State → ℕ → ℕ → RingStep → Told
ring_step_told r m k f =
    let x = ring_request f in
    let a = ring_answers.step_of r x.kind x.i x.j in
    record {
      stage = on_ring a.state (m + cond (is_move f && is_accepted a.verdict) 1 0);
      text = answer_text k a.verdict;
    }

-- and of a tree's
abbrev pub tree_step_told : tree.State → ℕ → TreeStep → Told
tree_step_told t k f =
    let x = tree_request f in
    let a = tree_answers.step_of t x.kind x.i x.j in
    record { stage = on_tree a.state; text = answer_text k a.verdict }

-- d more at place u
abbrev pub add_at : List ℕ → ℕ → ℕ → List ℕ
add_at ms u d = set ms u (get_or ms u 0 + d)

-- a step of update u, asked for in line k
abbrev pub update_step_told : Table → List ℕ → ℕ → ℕ → RingStep → Told
update_step_told t ms k u f =
    let a = answer_on t (Step u (ring_request f)) in
    record {
      stage = on_table a.table (add_at ms u (cond (is_move f && is_accepted a.verdict) 1 0));
      text = answer_text k a.verdict;
    }

-- a start of update u: its moves are counted afresh
abbrev pub update_start_told : Table → List ℕ → ℕ → ℕ → RingStart → Told
update_start_told t ms k u f =
    let v = first_of (update_table t u f) in
    record {
      stage = on_table (settle v (after t (update_ask u f)) t) (settle v (set ms u 0) ms);
      text = answer_text k v;
    }

-- line k of a table's run
abbrev pub table_told : Table → List ℕ → ℕ → Read Wrapped → Told
table_told t ms k (Some (step u f, e)) = update_step_told t ms k u f
table_told t ms k (Some (bare u n, e)) = update_start_told t ms k u (bare_start n)
table_told t ms k (Some (lists u n active black, e)) = update_start_told t ms k u (lists_start n active black)
table_told t ms k None = record { stage = on_table t ms; text = answer_text k (Refused NotAForm) }

-- line k of a ring's run: "words of the other watch, and a second start, are 10"
abbrev pub ring_told : ring.State → ℕ → ℕ → Read RingStep → Told
ring_told r m k (Some (f, e)) = ring_step_told r m k f
ring_told r m k None = record { stage = on_ring r m; text = answer_text k (Refused NotAForm) }

-- line k of a tree's run
abbrev pub tree_told : tree.State → ℕ → Read TreeStep → Told
tree_told t k (Some (f, e)) = tree_step_told t k f
tree_told t k None = record { stage = on_tree t; text = answer_text k (Refused NotAForm) }

-- line k of a log. What the recognisers answer of a line is what the line says (`LinesSay`, Theorems.antt).
unfoldable pub line_told : Stage → ℕ → List ℕ → Told
line_told fresh k l = fresh_told (seen_of (first_at l 0)) (wrapped_at l 0)
line_told (on_ring r m) k l = ring_told r m k (ring_at l 0)
line_told (on_tree t) k l = tree_told t k (tree_at l 0)
line_told (on_table t ms) k l = table_told t ms k (wrapped_at l 0)
line_told over k l = record { stage = over; text = [] }
