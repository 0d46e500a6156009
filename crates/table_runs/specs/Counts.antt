-- Q-1 and Q-5: what is counted of update u at a point of a table's run, from the first table and the requests accepted so far alone; and which of the
-- requests are u's since its latest start.
use Rattle.std.specs.Prelude.{◌+◌, ◌-◌, ◌<◌, ℕ, eqb, Bool, ◌&&◌, ◌||◌, cond, false, List, [], ◌++◌, ◌∷◌, ◌≡◌}
use Rattle.refusal.specs.Table.{is_accepted}
use Rattle.refusal.specs.Table.{Verdict}
use Rattle.refusal.specs.Table.{Accepted}
use Rattle.ring_rules.specs.Start.{first_state}
use Rattle.ring_rules.specs.State.{State, active_at, pending_at}
use Rattle.ring_runs.specs.Counts.{active_after, ring, sends_in, sends_to, takes_by}
use Rattle.runs.specs.Runs.{Request, accepted_of, next}
use Rattle.table_rules.specs.Answers.{Ask, Start, Step, next_table, verdict_on}
use Rattle.table_rules.specs.Runs.{table}
use Rattle.table_rules.specs.Table.{Slot, Started, Table, sends_of, slot_at}

-- ---- what a list of requests says of update u; the accepted ones, where starts are counted

abbrev pub starts_in : ℕ → List Ask → Bool
starts_in u [] = false
starts_in u (Start v n flags ∷ acc) = eqb v u || starts_in u acc
starts_in u (Step v x ∷ acc) = starts_in u acc

abbrev pub steps_in : ℕ → List Ask → List Request
steps_in u [] = []
steps_in u (Start v n flags ∷ acc) = steps_in u acc
steps_in u (Step v x ∷ acc) = cond (eqb v u) (x ∷ steps_in u acc) (steps_in u acc)

-- ---- the history of update u: what its latest start put there, and the steps accepted since

pub record History : Type 0 where
  pub first : Slot
  pub taken : List Request

abbrev pub begun : Slot → History
begun s = record { first = s; taken = [] }

-- after one accepted request; those of other updates leave it
abbrev pub history_next : ℕ → History → Ask → History
history_next u h (Start v n flags) = cond (eqb v u) (begun (Started (first_state n flags))) h
history_next u h (Step v x) = cond (eqb v u) (record { first = h.first; taken = h.taken ++ (x ∷ []) }) h

abbrev pub history_in : ℕ → History → List Ask → History
history_in u h [] = h
history_in u h (a ∷ acc) = history_in u (history_next u h a) acc

-- from the first table, where it begins with what stands at u
abbrev pub history_of : ℕ → Table → List Ask → History
history_of u t ls = history_in u (begun (slot_at t u)) (accepted_of table t ls)

-- u is started in the run, from t by ls
abbrev pub started_of : ℕ → Table → List Ask → Bool
started_of u t ls = starts_in u (accepted_of table t ls)

-- the steps of u that are accepted in it
abbrev pub taken_of : ℕ → Table → List Ask → List Request
taken_of u t ls = steps_in u (accepted_of table t ls)

-- ---- the counts of a ring, from its first state r and the accepted steps since

abbrev pub active_in : State → List Request → ℕ → Bool
active_in r acc b = active_after (active_at r b) acc b

abbrev pub transit_in : State → List Request → ℕ → ℕ
transit_in r acc b = pending_at r b + sends_to acc b - takes_by acc b

-- every node is passive and no message is in transit
pub record QuietIn (r : State) (acc : List Request) : Type 0 where
  pub passive : (b : ℕ) → b < r.n → active_in r acc b ≡ false
  pub empty : (b : ℕ) → b < r.n → transit_in r acc b ≡ 0

-- the sends of an update since its latest start
abbrev pub sends_since : History → ℕ
sends_since h = sends_of h.first + sends_in h.taken

-- ---- the steps of u since its latest start, all of them, and the table's answers to these

pub record Heard : Type 0 where
  pub steps : List Request
  pub answers : List Verdict

abbrev pub nothing : Heard
nothing = record { steps = []; answers = [] }

-- after one request, answered with v; a refused start of u leaves it
abbrev pub heard_next : ℕ → Heard → Ask → Verdict → Heard
heard_next u h (Start w n flags) v = cond (eqb w u && is_accepted v) nothing h
heard_next u h (Step w x) v = cond (eqb w u) (record { steps = h.steps ++ (x ∷ []); answers = h.answers ++ (v ∷ []) }) h

unfoldable pub heard_from : ℕ → Heard → Table → List Ask → Heard
heard_from u h t [] = h
heard_from u h t (a ∷ ls) = heard_from u (heard_next u h a (verdict_on t a)) (next_table t a) ls

abbrev pub heard_of : ℕ → Table → List Ask → Heard
heard_of u t ls = heard_from u nothing t ls

-- the same where no start of u is accepted: every step that names u in the list, and the answers to these of the table that it begins at
unfoldable pub step_answers : ℕ → Table → List Ask → List Verdict
step_answers u t [] = []
step_answers u t (Start v n flags ∷ ls) = step_answers u (next_table t (Start v n flags)) ls
step_answers u t (Step v x ∷ ls) =
    cond (eqb v u) (verdict_on t (Step v x) ∷ step_answers u (next_table t (Step v x)) ls) (step_answers u (next_table t (Step v x)) ls)

abbrev pub heard_by : ℕ → Table → List Ask → Heard
heard_by u t ls = record { steps = steps_in u ls; answers = step_answers u t ls }

-- the ring's answers to a list of requests
unfoldable pub ring_answers : State → List Request → List Verdict
ring_answers r [] = []
ring_answers r (x ∷ xs) = ring.verdict r x ∷ ring_answers (next ring r x) xs

-- the table accepts the step x of u
abbrev pub AcceptsOn : Table → ℕ → Request → Type 0
AcceptsOn t u x = verdict_on t (Step u x) ≡ Accepted
