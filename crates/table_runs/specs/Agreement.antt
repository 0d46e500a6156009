-- THE AGREEMENT of each update of a table with EWD998, its SendMsg widened to any receiver (document 02, Q-4), in both directions, and that the other
-- seven are left alone. Only statements are here; proofs/Agreement.antt proves them. `shown` and `vars_of` (ring_runs) are a ring as EWD998 sees it, and `Action` is which request stands for
-- which action.
use Rattle.std.specs.Prelude.{◌<◌, ◌≤◌, ℕ, false, true, List, [], ◌∷◌, ◌↔◌, ◌≢◌, ◌⊎◌, ◌≡◌}
use Rattle.refusal.specs.Table.{send_limit, settle}
use Rattle.refusal.specs.declared.Refusal.TheVariants.{SendLimit}
use Rattle.refusal.specs.Table.{Accepted, Refused}
use Rattle.ring_rules.specs.Rules.{Announce}
use Rattle.ring_rules.specs.Start.{first_state}
use Rattle.ring_rules.specs.State.{State}
use Rattle.ring_runs.specs.Agreement.{BelowLimit, Behaves, Reachable, Started as InitBy, nexts_of, sends_made, shown}
use Rattle.ring_runs.specs.Counts.{kind, ring}
use Rattle.ring_runs.specs.EWD998.{Init, Next, Node, RecvMsg, SendMsg, Vars, TerminationDetected}
use Rattle.ring_runs.specs.Requests.{announce, send, take}
use Rattle.ring_runs.specs.View.{Action, InARow, vars_of}
use Rattle.runs.specs.Runs.{Request, accepted_of, run_of}
use Rattle.table_rules.specs.Answers.{Ask, Start, Step, answer_on, names, verdict_on}
use Rattle.table_rules.specs.Runs.{table}
use Rattle.table_rules.specs.Soundness.{SoundTable}
use Rattle.table_rules.specs.Table.{Started, Table, empty_table, fixed, slot_at}
use Rattle.table_runs.specs.Counts.{AcceptsOn, history_of, started_of}

-- ---- the starts

-- s is what an accepted start of u shows
pub record StartShown (t : Table) (u : ℕ) {N : ℕ} (s : Vars N) : Type 0 where
  pub flags : List ℕ
  pub accepted : verdict_on t (Start u N flags) ≡ Accepted
  pub there : vars_of N (first_state N flags) ≡ s

pub record StartsAgree (t : Table) : Type 0 where
  -- an accepted start of u stands at u, and is an initial state with the flags
  pub stands :
      (u N : ℕ) (flags : List ℕ) → verdict_on t (Start u N flags) ≡ Accepted
      → slot_at (answer_on t (Start u N flags)).table u ≡ Started (first_state N flags)
  pub start_is_init : (u N : ℕ) (flags : List ℕ) → verdict_on t (Start u N flags) ≡ Accepted → InitBy flags (vars_of N (first_state N flags))
  -- every initial state of a number of nodes that is fixed, or may be, is an accepted start's
  pub init_is_start :
      SoundTable t → (u N : ℕ) → u < 8 → (h : 0 < N) → N ≤ 96 → (fixed t ≡ 0) ⊎ (N ≡ fixed t) → (s : Vars N) → Init h s → StartShown t u s

-- ---- one step

-- what stands at u after the step x, where r stands there before
abbrev pub ring_after : Table → ℕ → State → Request → State
ring_after t u r x = settle (verdict_on t (Step u x)) (ring.effect r x) r

abbrev pub shown_after : Table → ℕ → (r : State) → Request → Vars r.n
shown_after t u r x = vars_of r.n (ring_after t u r x)

module _ (t : Table) (ok : SoundTable t) (u : ℕ) (r : State) (at : slot_at t u ≡ Started r) where
  abbrev pub some_node : 0 < r.n
  some_node = (ok.each u r at).some_node

  -- a step of EWD998 to s is answered: some step of u is accepted and leads to s; or it is a SendMsg at u's own limit, and refused with 9
  pub data NextAnswered (s : Vars r.n) : Type 0 where
    matched : (x : Request) → AcceptsOn t u x → shown_after t u r x ≡ s → NextAnswered s
    at_limit :
        (i : Node r.n) (a : SendMsg some_node i (shown r) s) → sends_made r ≡ send_limit → verdict_on t (Step u (send i.nr a.j.nr)) ≡ Refused SendLimit
        → NextAnswered s

  pub record StepsAgree : Type 0 where
    pub stands : (x : Request) → slot_at (answer_on t (Step u x)).table u ≡ Started (ring_after t u r x)
    -- N is a constant
    pub nodes_kept : (x : Request) → (ring_after t u r x).n ≡ r.n
    -- an accepted step of u is its action
    pub accepted_is_action : (x : Request) → AcceptsOn t u x → Action some_node (shown r) (shown_after t u r x) (kind x) x.i x.j
    -- an action from a state that is not closed is accepted, and leads to the same state
    pub action_is_accepted :
        r.closed ≡ false → (x : Request) (s : Vars r.n) → Action some_node (shown r) s (kind x) x.i x.j → BelowLimit r x.kind
        → AcceptsOn t u x × (shown_after t u r x ≡ s)
    -- so an accepted step of u is so many steps of Next in a row: a take as many as it takes, the announcement, made where TerminationDetected
    -- holds, none; a refused one changes nothing
    pub accepted_is_next :
        (x : Request) → AcceptsOn t u x
        → InARow (Next some_node) (nexts_of (kind x) x.j) (shown r) (shown_after t u r x) × (kind x ≡ Announce → TerminationDetected some_node (shown r))
    pub refused_is_same : (x : Request) → (AcceptsOn t u x → ⊥) → (answer_on t (Step u x)).table ≡ t
    -- and every step of Next, from what stands at u, is answered
    pub next_is_answered : (s : Vars r.n) → Next some_node (shown r) s → NextAnswered s
    -- receipts in a row of one node, as many as one take may take, are answered by one accepted take
    pub receipts_are_take :
        (i : Node r.n) (n : ℕ) (s : Vars r.n) → 0 < n → n ≤ 1000 → InARow (RecvMsg some_node i) n (shown r) s
        → AcceptsOn t u (take i.nr n) × (shown_after t u r (take i.nr n) ≡ s)
    -- announce is TerminationDetected
    pub announce_is_detected : r.closed ≡ false → AcceptsOn t u announce ↔ TerminationDetected some_node (shown r)

-- A request changes no other update than the one it names.
pub record OthersAlone : Type 0 where
  pub same : (t : Table) (a : Ask) (v : ℕ) → v ≢ names a → slot_at (answer_on t a).table v ≡ slot_at t v

-- ---- whole runs

-- a start of u, and the steps xs, all of u
abbrev pub steps_on : ℕ → List Request → List Ask
steps_on u [] = []
steps_on u (x ∷ xs) = Step u x ∷ steps_on u xs

abbrev pub run_on : ℕ → ℕ → List ℕ → List Request → List Ask
run_on u n flags xs = Start u n flags ∷ steps_on u xs

-- a start of u and steps of u, every one of them accepted and none an announcement, that end where u shows s, with m sends of u
pub record RunTo (t : Table) (u : ℕ) {N : ℕ} (s : Vars N) (m : ℕ) : Type 0 where
  pub flags : List ℕ
  pub requests : List Request
  pub accepted : accepted_of table t (run_on u N flags requests) ≡ run_on u N flags requests
  pub r : State
  pub stands : slot_at (run_of table t (run_on u N flags requests)) u ≡ Started r
  pub running : r.closed ≡ false
  pub count : sends_made r ≡ m
  pub there : vars_of N r ≡ s

pub record RunsAgree : Type 0 where
  -- the accepted steps of u since its latest start, or since the first table, are a behaviour, each take of n stretched into n steps of EWD998
  pub run_is_behaviour :
      (t : Table) → SoundTable t → (u : ℕ) (ls : List Ask) (r : State) → (history_of u t ls).first ≡ Started r → (h : 0 < r.n)
      → (s : State) → slot_at (run_of table t ls) u ≡ Started s → Behaves h r (history_of u t ls).taken s
  -- whatever the requests to any updates, accepted or refused: what stands at u, started in the run, is reachable
  pub run_is_reachable :
      (t : Table) → SoundTable t → (u : ℕ) (ls : List Ask) → started_of u t ls ≡ true
      → (r : State) → slot_at (run_of table t ls) u ≡ Started r → (h : 0 < r.n) → Reachable h (shown r) (sends_made r)
  -- and each reachable state is that of u in a run from any sound table, whatever the other seven have sent
  pub reachable_is_run :
      (t : Table) → SoundTable t → (u : ℕ) → u < 8 → {N : ℕ} (h : 0 < N) → N ≤ 96 → (fixed t ≡ 0) ⊎ (N ≡ fixed t) → (s : Vars N) (m : ℕ)
      → Reachable h s m → m ≤ send_limit → RunTo t u s m
  pub from_empty :
      (u : ℕ) → u < 8 → {N : ℕ} (h : 0 < N) → N ≤ 96 → (s : Vars N) (m : ℕ) → Reachable h s m → m ≤ send_limit → RunTo empty_table u s m
