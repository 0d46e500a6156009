-- What is proved of the table; the proofs are in proofs/, put together in proofs/Theorems.antt.
use Rattle.std.specs.Prelude.{◌+◌, ◌<◌, ◌≤◌, ℕ, false, true, List, ◌↔◌, ◌≢◌, ◌⊎◌, ◌≡◌}
use Rattle.refusal.specs.Table.{FirstIs, NoneHolds, Row, code_of, send_limit}
use Rattle.refusal.specs.declared.Refusal.{Refusal}
use Rattle.refusal.specs.Table.{Accepted, Refused}
use Rattle.ring_rules.specs.Answers.{step_of}
use Rattle.ring_rules.specs.Rules.{Announce, Idle, Kind, Pass, Probe, Send, Take, Unknown, kind_of}
use Rattle.ring_rules.specs.Start.{flags_test, start_verdict}
use Rattle.ring_rules.specs.State.{State}
use Rattle.ring_rules.specs.Theorems.{Sending}
use Rattle.runs.specs.Runs.{Request, accepted_of, run_of}
use Rattle.table_rules.specs.Answers.{Ask, Start, Step, after, answer_on, names, rows_of, verdict_on}
use Rattle.table_rules.specs.Runs.{alone_answers, alone_run, answers_of, first_nodes, naming, table}
use Rattle.table_rules.specs.Soundness.{SoundTable, sound_table_test}
use Rattle.table_rules.specs.Table.{NotStarted, Started, Table, empty_table, fixed, put, sends_of, slot_at}

-- The facts of soundness and the test that code computes agree.
pub record TableTested : Type 0 where
  pub holds : (t : Table) → sound_table_test t ≡ true → SoundTable t
  pub tested : (t : Table) → SoundTable t → sound_table_test t ≡ true

-- A request is accepted exactly where no row applies; a refusal is that of the first row that applies, and hands back the very table.
pub record TableAnswered : Type 0 where
  pub accepted : (t : Table) (a : Ask) → (verdict_on t a ≡ Accepted) ↔ NoneHolds (rows_of t a)
  pub next : (t : Table) (a : Ask) → verdict_on t a ≡ Accepted → (answer_on t a).table ≡ after t a
  pub refused : (t : Table) (a : Ask) (e : Refusal) → verdict_on t a ≡ Refused e → (row : Row) × (row.refusal ≡ e) × FirstIs (rows_of t a) row
  pub same : (t : Table) (a : Ask) (e : Refusal) → verdict_on t a ≡ Refused e → (answer_on t a).table ≡ t

-- Every start and accepted step gives a sound table; so does every request to a sound one, and every list of them.
pub record TableKept : Type 0 where
  pub accepted : (t : Table) (a : Ask) → verdict_on t a ≡ Accepted → SoundTable (answer_on t a).table
  pub any : (t : Table) (a : Ask) → SoundTable t → SoundTable (answer_on t a).table
  pub run : (t : Table) → SoundTable t → (ls : List Ask) → SoundTable (run_of table t ls)
  -- once fixed, the number of nodes stays
  pub fixed_run : (t : Table) → SoundTable t → 0 < fixed t → (ls : List Ask) → fixed (run_of table t ls) ≡ fixed t
  -- from the empty table it is that of the first accepted start
  pub fixed_first : (ls : List Ask) → fixed (run_of table empty_table ls) ≡ first_nodes (accepted_of table empty_table ls)

-- Q-1: "another N is 1, checked after 13"; "it refuses an update number above 7, or a step on one not started, with 13, checked after 3". In a
-- sound table, whatever else a request names.
pub record TableNumbers : Type 0 where
  pub unknown_start : (t : Table) → SoundTable t → (u n : ℕ) (flags : List ℕ) → (code_of (verdict_on t (Start u n flags)) ≡ 13) ↔ (7 < u)
  pub unknown_step : (t : Table) → SoundTable t → (u : ℕ) (x : Request) → (code_of (verdict_on t (Step u x)) ≡ 13) ↔ (slot_at t u ≡ NotStarted)
  pub past : (t : Table) → SoundTable t → (u : ℕ) → 7 < u → slot_at t u ≡ NotStarted
  -- a start is accepted exactly if its update is one of the eight, the ring's own start is accepted, and n is the one fixed, if one is
  pub start :
      (t : Table) → SoundTable t → (u n : ℕ) (flags : List ℕ)
      → (verdict_on t (Start u n flags) ≡ Accepted) ↔ ((u < 8) × ((fixed t ≡ 0) ⊎ (n ≡ fixed t)) × (start_verdict n flags ≡ Accepted))
  -- 1 exactly if n is not from 1 to 96, or another than the one fixed; 2 exactly if n is neither and the flags are not n values from 0 to 3
  pub node_count :
      (t : Table) → SoundTable t → (u n : ℕ) (flags : List ℕ)
      → (code_of (verdict_on t (Start u n flags)) ≡ 1) ↔ ((u < 8) × ((n ≡ 0) ⊎ ((96 < n) ⊎ ((0 < fixed t) × (n ≢ fixed t)))))
  pub start_flags :
      (t : Table) → SoundTable t → (u n : ℕ) (flags : List ℕ)
      → (code_of (verdict_on t (Start u n flags)) ≡ 2)
      ↔ ((u < 8) × (0 < n) × (n ≤ 96) × ((fixed t ≡ 0) ⊎ (n ≡ fixed t)) × (flags_test n flags ≡ false))
  pub unsound : (t : Table) → (SoundTable t → ⊥) → (a : Ask) → code_of (verdict_on t a) ≡ 3
  -- the number that is fixed is that of every started update; a start fixes its own; nothing is started where none is fixed
  pub fixed_by_started : (t : Table) → SoundTable t → (u : ℕ) (r : State) → slot_at t u ≡ Started r → fixed t ≡ r.n
  pub fixed_by_start : (t : Table) (u n : ℕ) (flags : List ℕ) → verdict_on t (Start u n flags) ≡ Accepted → fixed (answer_on t (Start u n flags)).table ≡ n
  pub none_fixed : (t : Table) → SoundTable t → fixed t ≡ 0 → (u : ℕ) → slot_at t u ≡ NotStarted

-- Q-5: in a sound table a step of a started update is the ring's own step on what stands there, of every kind and with all numbers; a refused
-- one puts there what stood there.
pub record StepIsRings : Type 0 where
  pub answer :
      (t : Table) → SoundTable t → (u : ℕ) (r : State) → slot_at t u ≡ Started r → (x : Request)
      → answer_on t (Step u x)
      ≡ record { verdict = (step_of r x.kind x.i x.j).verdict; table = put t u (Started (step_of r x.kind x.i x.j).state) }

-- 1 for a send, else 0
abbrev pub is_send : Kind → ℕ
is_send Send = 1
is_send Take = 0
is_send Idle = 0
is_send Probe = 0
is_send Pass = 0
is_send Announce = 0
is_send Unknown = 0

-- Q-5: each update has a count of its own and a limit of its own, whatever the others have sent.
pub record LimitOfEach : Type 0 where
  -- what meets 9 is a send of a started update that has made exactly so many itself
  pub only :
      (t : Table) → SoundTable t → (a : Ask) → code_of (verdict_on t a) ≡ 9
      → (u : ℕ) × (x : Request) × (r : State) × (a ≡ Step u x) × (kind_of x.kind ≡ Send) × (slot_at t u ≡ Started r)
      × (sends_of (slot_at t u) ≡ send_limit)
  -- a send that meets no row above is accepted exactly if its update has made fewer, and meets 9 exactly if it has made so many
  pub decides :
      (t : Table) → SoundTable t → (u : ℕ) (r : State) → slot_at t u ≡ Started r → r.closed ≡ false → (x : Request) → kind_of x.kind ≡ Send
      → Sending r x.i x.j
      → ((code_of (verdict_on t (Step u x)) ≡ 0) ↔ (sends_of (slot_at t u) < send_limit))
      × ((code_of (verdict_on t (Step u x)) ≡ 9) ↔ (sends_of (slot_at t u) ≡ send_limit))

-- The sends of each update after one request: an accepted send adds one to those of its own update, an accepted start begins with none, and
-- nothing else changes any.
pub record SendsChange : Type 0 where
  pub step :
      (t : Table) (u : ℕ) (x : Request) → verdict_on t (Step u x) ≡ Accepted
      → sends_of (slot_at (answer_on t (Step u x)).table u) ≡ sends_of (slot_at t u) + is_send (kind_of x.kind)
  pub start :
      (t : Table) (u n : ℕ) (flags : List ℕ) → verdict_on t (Start u n flags) ≡ Accepted
      → sends_of (slot_at (answer_on t (Start u n flags)).table u) ≡ 0
  pub others : (t : Table) (a : Ask) (v : ℕ) → v ≢ names a → sends_of (slot_at (answer_on t a).table v) ≡ sends_of (slot_at t v)
  pub refused :
      (t : Table) (a : Ask) (e : Refusal) → verdict_on t a ≡ Refused e → (v : ℕ) → sends_of (slot_at (answer_on t a).table v) ≡ sends_of (slot_at t v)

-- Where n is fixed, an update goes its own way: the requests that name it, all of them, are answered and carried out as if no other update
-- were there.
pub record GoesAlone (t : Table) (u : ℕ) (ls : List Ask) : Type 0 where
  pub slot : slot_at (run_of table t ls) u ≡ alone_run (fixed t) (slot_at t u) (naming u ls)
  pub answers : answers_of u t ls ≡ alone_answers (fixed t) (slot_at t u) (naming u ls)

pub record Isolation : Type 0 where
  pub alone : (t : Table) → SoundTable t → 0 < fixed t → (u : ℕ) (ls : List Ask) → GoesAlone t u ls

-- the lists of requests give u the same answers one by one, refusals included, and leave the same at u
pub record Alike (t t' : Table) (u : ℕ) (ls ls' : List Ask) : Type 0 where
  pub answers : answers_of u t ls ≡ answers_of u t' ls'
  pub slot : slot_at (run_of table t ls) u ≡ slot_at (run_of table t' ls') u

-- Q-5: two sound tables with one fixed N that agree on u, and any two lists whose requests naming u are the same. Where no N is fixed yet it
-- does not hold: the others' starts then decide which N is 1 (proofs/Examples).
pub record NonInterference : Type 0 where
  pub same :
      (t t' : Table) → SoundTable t → SoundTable t' → 0 < fixed t → fixed t ≡ fixed t' → (u : ℕ) → slot_at t u ≡ slot_at t' u
      → (ls ls' : List Ask) → naming u ls ≡ naming u ls' → Alike t t' u ls ls'
  -- where u is started, it fixes N in both
  pub started :
      (t t' : Table) → SoundTable t → SoundTable t' → (u : ℕ) (r : State) → slot_at t u ≡ Started r → slot_at t' u ≡ Started r
      → (ls ls' : List Ask) → naming u ls ≡ naming u ls' → Alike t t' u ls ls'
