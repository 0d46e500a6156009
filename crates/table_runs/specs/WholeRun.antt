-- Q-1: "The announcement and its bound hold for each update by itself"; and Q-5. Demand 3 for update u of a table, one claim about whole lists of
-- requests to any updates, refused ones included. The proof is in proofs/WholeRun.antt.
use Rattle.std.specs.Prelude.{◌*◌, ◌+◌, ◌-◌, ◌<◌, ◌≤◌, ℕ, length, false, true, List, [], ◌++◌, ◌∷◌, ◌↔◌, ◌≢◌, ◌≡◌}
use Rattle.refusal.specs.Table.{code_of, send_limit}
use Rattle.refusal.specs.Table.{Accepted}
use Rattle.ring_rules.specs.Rules.{Announce, Send}
use Rattle.ring_rules.specs.Soundness.{Open}
use Rattle.ring_rules.specs.Start.{first_state}
use Rattle.ring_rules.specs.State.{State, active_at, pending_at, received_at}
use Rattle.ring_rules.specs.Theorems.{TokenMove}
use Rattle.ring_runs.specs.Counts.{AllMoves, announced_in, kind, ring, sends_in, sends_to, takes_by}
use Rattle.runs.specs.Runs.{Request, accepted_of, next, run_of}
use Rattle.table_rules.specs.Answers.{Ask, Start, Step, answer_on, verdict_on}
use Rattle.table_rules.specs.Runs.{table}
use Rattle.table_rules.specs.Soundness.{SoundTable}
use Rattle.table_rules.specs.Table.{NotStarted, Started, Table, empty_table, sends_of, slot_at}
use Rattle.table_runs.specs.Counts.{AcceptsOn, QuietIn, active_in, heard_by, heard_of, history_of, ring_answers, sends_since, started_of, step_answers, steps_in, taken_of, transit_in}

-- What the table accepts next, of all steps of u: one token move at least and token moves alone, or announcements alone and all of them.
pub data OneOfTwo (t : Table) (u : ℕ) : Type 0 where
  token_moves : (x : Request) → AcceptsOn t u x → ((y : Request) → AcceptsOn t u y → TokenMove (kind y)) → OneOfTwo t u
  announcement : ((x : Request) → kind x ≡ Announce → AcceptsOn t u x) → ((y : Request) → AcceptsOn t u y → kind y ≡ Announce) → OneOfTwo t u

-- After further requests bs to any updates, with no start and no announcement of u accepted among them, at a point where K token moves of u
-- were left: the steps of u accepted are token moves, at most K; the announcement is accepted exactly if they are K; and the next step of u
-- accepted is one of the two.
pub record Counted (t : Table) (u K : ℕ) (bs : List Ask) : Type 0 where
  pub moves_alone : AllMoves (taken_of u t bs)
  pub at_most : length (taken_of u t bs) ≤ K
  pub exactly : (x : Request) → kind x ≡ Announce → AcceptsOn (run_of table t bs) u x ↔ (length (taken_of u t bs) ≡ K)
  pub then : OneOfTwo (run_of table t bs) u

-- At a quiet point of u that is not yet announced: one number K, fixed there, whatever the other updates do from there.
pub record Countdown (t : Table) (u n : ℕ) : Type 0 where
  pub K : ℕ
  pub bound : K ≤ 3 * n - 2
  pub counted : (bs : List Ask) → started_of u t bs ≡ false → announced_in (taken_of u t bs) ≡ false → Counted t u K bs

-- The steps of u since its latest start are a run of the ring from r to s, all of them: with the same answers, refusals included, and the same
-- ones accepted.
pub record FollowsRing (t : Table) (u : ℕ) (ls : List Ask) (r s : State) : Type 0 where
  pub state : s ≡ run_of ring r (heard_of u t ls).steps
  pub answers : (heard_of u t ls).answers ≡ ring_answers r (heard_of u t ls).steps
  pub accepted : (history_of u t ls).taken ≡ accepted_of ring r (heard_of u t ls).steps

-- The point of update u after the requests ls, in a run from t: r stood there at u's latest start, or in t where u is not started in ls;
-- the accepted steps since are `(history_of u t ls).taken`.
pub record Point (t : Table) (u : ℕ) (ls : List Ask) (r : State) : Type 0 where
  -- what stands there now
  pub s : State
  pub stands : slot_at (run_of table t ls) u ≡ Started s
  pub follows : FollowsRing t u ls r s
  -- its columns are the counts from r and the accepted steps
  pub activity : (b : ℕ) → active_at s b ≡ active_in r (history_of u t ls).taken b
  pub transit : (b : ℕ) → pending_at s b ≡ transit_in r (history_of u t ls).taken b
  pub enough : (b : ℕ) → takes_by (history_of u t ls).taken b ≤ pending_at r b + sends_to (history_of u t ls).taken b
  pub received : (b : ℕ) → received_at s b ≡ received_at r b + takes_by (history_of u t ls).taken b
  -- an announcement of u is accepted only if every node of u is passive and no message of u is in transit
  pub quiet : (x : Request) → kind x ≡ Announce → AcceptsOn (run_of table t ls) u x → QuietIn r (history_of u t ls).taken
  -- and no step of u after it, until u is started afresh
  pub last :
      announced_in (history_of u t ls).taken ≡ true → (bs : List Ask) → started_of u (run_of table t ls) bs ≡ false → taken_of u (run_of table t ls) bs ≡ []
  -- once every node of u is passive and no message of u is in transit, and until its announcement or next start: it stays so, and K is fixed here
  pub still :
      QuietIn r (history_of u t ls).taken → (bs : List Ask) → started_of u (run_of table t ls) bs ≡ false
      → announced_in (history_of u t (ls ++ bs)).taken ≡ false → QuietIn r (history_of u t (ls ++ bs)).taken
  pub countdown : QuietIn r (history_of u t ls).taken → announced_in (history_of u t ls).taken ≡ false → Countdown (run_of table t ls) u r.n

-- The point of an update that is started in the run: pending of b is the accepted sends to b less the messages that b has received.
pub record FromStart (t : Table) (u : ℕ) (ls : List Ask) : Type 0 where
  pub r : State
  pub began : (history_of u t ls).first ≡ Started r
  pub fresh : Open r
  pub point : Point t u ls r
  pub received : (b : ℕ) → received_at point.s b ≡ takes_by (history_of u t ls).taken b
  pub pending : (b : ℕ) → pending_at point.s b + received_at point.s b ≡ sends_to (history_of u t ls).taken b

-- for every list of requests from every sound table, and each update
pub record WholeTable : Type 0 where
  pub point :
      (t : Table) → SoundTable t → (u : ℕ) (ls : List Ask) (r : State) → (history_of u t ls).first ≡ Started r → r.closed ≡ false → Point t u ls r
  pub from_start : (t : Table) → SoundTable t → (u : ℕ) (ls : List Ask) → started_of u t ls ≡ true → FromStart t u ls
  -- an update that was announced in the first table, or not started in it, accepts no step and stays as it is until it is started
  pub closed :
      (t : Table) → SoundTable t → (u : ℕ) (r : State) → slot_at t u ≡ Started r → r.closed ≡ true → (ls : List Ask) → started_of u t ls ≡ false
      → (slot_at (run_of table t ls) u ≡ Started r) × (taken_of u t ls ≡ [])
  pub not_started :
      (t : Table) → SoundTable t → (u : ℕ) → slot_at t u ≡ NotStarted → (ls : List Ask) → started_of u t ls ≡ false
      → (slot_at (run_of table t ls) u ≡ NotStarted) × (taken_of u t ls ≡ [])
  -- A request answers as the machine does, so that the claim is about the code that meets `answer_on`.
  pub answers : (t : Table) (a : Ask) → answer_on t a ≡ record { verdict = table.verdict t a; table = next table t a }

-- The requests that name u since its latest start ARE the run of its ring, all of them.
pub record StepsAreRun : Type 0 where
  -- after an accepted start of u, whatever came before it: what stands at u, and the table's answers to the steps that name u, are those of the
  -- ring's run over these steps from that start's state
  pub run :
      (t : Table) → SoundTable t → (u n : ℕ) (flags : List ℕ) (ls bs : List Ask) → verdict_on (run_of table t ls) (Start u n flags) ≡ Accepted
      → started_of u (answer_on (run_of table t ls) (Start u n flags)).table bs ≡ false
      → (slot_at (run_of table t (ls ++ (Start u n flags ∷ bs))) u ≡ Started (run_of ring (first_state n flags) (steps_in u bs)))
      × (step_answers u (answer_on (run_of table t ls) (Start u n flags)).table bs ≡ ring_answers (first_state n flags) (steps_in u bs))
  -- the steps of u of which `FollowsRing` speaks are these, from that start or from the first table
  pub from_first : (t : Table) (u : ℕ) (ls : List Ask) → started_of u t ls ≡ false → heard_of u t ls ≡ heard_by u t ls
  pub from_start :
      (t : Table) (u n : ℕ) (flags : List ℕ) (ls bs : List Ask) → verdict_on (run_of table t ls) (Start u n flags) ≡ Accepted
      → started_of u (answer_on (run_of table t ls) (Start u n flags)).table bs ≡ false
      → heard_of u t (ls ++ (Start u n flags ∷ bs)) ≡ heard_by u (answer_on (run_of table t ls) (Start u n flags)).table bs
  -- they are a run of the ring from what stood there then, announced or not, to what stands there now
  pub follows :
      (t : Table) → SoundTable t → (u : ℕ) (ls : List Ask) (r s : State) → (history_of u t ls).first ≡ Started r
      → slot_at (run_of table t ls) u ≡ Started s → FollowsRing t u ls r s

-- The limit of sends, counted over a run: those of each update by itself, since its latest start.
pub record LimitCounted : Type 0 where
  pub counted : (t : Table) → SoundTable t → (u : ℕ) (ls : List Ask) → sends_of (slot_at (run_of table t ls) u) ≡ sends_since (history_of u t ls)
  -- what meets 9 is a send of a started update that has made exactly 1,000,000 by then
  pub only :
      (t : Table) → SoundTable t → (ls : List Ask) (a : Ask) → code_of (verdict_on (run_of table t ls) a) ≡ 9
      → (u : ℕ) × (x : Request) × (r : State) × (a ≡ Step u x) × (kind x ≡ Send) × ((history_of u t ls).first ≡ Started r)
      × (sends_since (history_of u t ls) ≡ send_limit)
  -- since a start in the run the sends of u accepted since then are all: 9 comes with exactly so many, and with fewer no step of u meets it
  pub fresh : (t : Table) (u : ℕ) (ls : List Ask) → started_of u t ls ≡ true → sends_since (history_of u t ls) ≡ sends_in (history_of u t ls).taken
  pub from_start :
      (t : Table) → SoundTable t → (u : ℕ) (ls : List Ask) → started_of u t ls ≡ true → (x : Request)
      → code_of (verdict_on (run_of table t ls) (Step u x)) ≡ 9 → (kind x ≡ Send) × (sends_in (history_of u t ls).taken ≡ send_limit)
  pub below :
      (t : Table) → SoundTable t → (u : ℕ) (ls : List Ask) → started_of u t ls ≡ true → sends_in (history_of u t ls).taken < send_limit
      → (x : Request) → code_of (verdict_on (run_of table t ls) (Step u x)) ≢ 9
  -- from the empty table more than 1,000,000 requests come before it: more than a log can make
  pub far : (ls : List Ask) (a : Ask) → code_of (verdict_on (run_of table empty_table ls) a) ≡ 9 → send_limit < length ls
  -- a send of u from an active node, to any node, before u's announcement, is accepted exactly if u has made fewer, and meets 9 exactly
  -- if it has made so many
  pub decides :
      (t : Table) → SoundTable t → (u : ℕ) (ls : List Ask) (r : State) → (history_of u t ls).first ≡ Started r → r.closed ≡ false
      → announced_in (history_of u t ls).taken ≡ false → (x : Request) → kind x ≡ Send → x.i < r.n → x.j < r.n
      → active_in r (history_of u t ls).taken x.i ≡ true
      → ((code_of (verdict_on (run_of table t ls) (Step u x)) ≡ 0) ↔ (sends_since (history_of u t ls) < send_limit))
      × ((code_of (verdict_on (run_of table t ls) (Step u x)) ≡ 9) ↔ (sends_since (history_of u t ls) ≡ send_limit))
