-- What is proved of the definitions; the proofs are in proofs/, put together in proofs/Theorems.antt.
use Rattle.std.specs.Prelude.{◌+◌, ◌<◌, ℕ, false, true, ◌↔◌, ◌≢◌, ◌⊎◌, ◌≡◌}
use Rattle.refusal.specs.Table.{FirstIs, NoneHolds, Numbered, Row, code_of, send_limit}
use Rattle.refusal.specs.Counts.{Count}
use Rattle.refusal.specs.declared.Refusal.{Refusal}
use Rattle.refusal.specs.Table.{Accepted, Refused}
use Rattle.tree_rules.specs.Answers.{acks_answer, answer_of, step_of, step_table, verdict_of}
use Rattle.tree_rules.specs.Rules.{Ack, Announce, Idle, Kind, Leave, Send, Take, Unknown, effect}
use Rattle.tree_rules.specs.Soundness.{Open, Sound, sound_test}
use Rattle.tree_rules.specs.Start.{first_state, start_of, start_table, start_verdict}
use Rattle.tree_rules.specs.State.{State, acks_at, active_at, engaged, transit_at}
use Rattle.tree_rules.specs.Termination.{Quiet, acks_total}

-- The facts of soundness and the test that code computes agree.
pub record SoundTested : Type 0 where
  pub holds : (t : State) → sound_test t ≡ true → Sound t
  pub tested : (t : State) → Sound t → sound_test t ≡ true

-- A step of any state, kind and numbers is accepted exactly where no row of the table applies, and then gives the
-- next state; a refusal is that of the first row that applies, and hands back the very state. The answer's number is the table's.
pub record StepAnswered : Type 0 where
  pub number : (t : State) (k : Kind) (i j : ℕ) → Numbered (step_table t k i j) (code_of (answer_of t k i j).verdict)
  pub accepted : (t : State) (k : Kind) (i j : ℕ) → (verdict_of t k i j ≡ Accepted) ↔ NoneHolds (step_table t k i j)
  pub next : (t : State) (k : Kind) (i j : ℕ) → verdict_of t k i j ≡ Accepted → (answer_of t k i j).state ≡ effect t k i j
  pub refused :
      (t : State) (k : Kind) (i j : ℕ) (e : Refusal) → verdict_of t k i j ≡ Refused e
      → (row : Row) × (row.refusal ≡ e) × FirstIs (step_table t k i j) row
  pub same : (t : State) (k : Kind) (i j : ℕ) (e : Refusal) → verdict_of t k i j ≡ Refused e → (answer_of t k i j).state ≡ t

-- A start: the same, with a blank that is not sound where it is refused.
pub record StartAnswered : Type 0 where
  pub number : (n root : ℕ) → Numbered (start_table n root) (code_of (start_of n root).verdict)
  pub accepted : (n root : ℕ) → (start_verdict n root ≡ Accepted) ↔ NoneHolds (start_table n root)
  pub first : (n root : ℕ) → start_verdict n root ≡ Accepted → (start_of n root).state ≡ first_state n root
  pub refused :
      (n root : ℕ) (e : Refusal) → start_verdict n root ≡ Refused e
      → (row : Row) × (row.refusal ≡ e) × FirstIs (start_table n root) row
  pub none : (n root : ℕ) (e : Refusal) → start_verdict n root ≡ Refused e → sound_test (start_of n root).state ≡ false

-- A number asked of a state is told of a sound one, and 3 of every other.
pub record Tells (answer : State → Count) (number : State → ℕ) : Type 0 where
  pub sound : (t : State) → Sound t → (code_of (answer t).verdict ≡ 0) × ((answer t).number ≡ number t)
  pub other : (t : State) → (Sound t → ⊥) → code_of (answer t).verdict ≡ 3

pub record CountsTold : Type 0 where
  pub acks : Tells acks_answer acks_total

-- Every start and accepted step gives a sound state. So does every refused step of a sound state.
pub record SoundKept : Type 0 where
  pub start : (n root : ℕ) → start_verdict n root ≡ Accepted → Open (start_of n root).state
  pub step : (t : State) (k : Kind) (i j : ℕ) → verdict_of t k i j ≡ Accepted → Sound (answer_of t k i j).state
  pub any : (t : State) (k : Kind) (i j : ℕ) → Sound t → Sound (answer_of t k i j).state

-- An announcement is accepted only where every node is passive and no message is in transit; it closes the run, and a closed run
-- accepts nothing.
pub record AnnouncedQuiet : Type 0 where
  pub quiet : (t : State) (i j : ℕ) → verdict_of t Announce i j ≡ Accepted → Quiet t
  pub closes : (t : State) (i j : ℕ) → verdict_of t Announce i j ≡ Accepted → (answer_of t Announce i j).state.closed ≡ true
  pub last : (t : State) → t.closed ≡ true → (k : Kind) (i j : ℕ) → verdict_of t k i j ≡ Accepted → ⊥

-- a send that meets no row above the last: from an active node to any node
pub record Sending (t : State) (i j : ℕ) : Type 0 where
  pub sender : i < t.n
  pub receiver : j < t.n
  pub active : active_at t i ≡ true

-- Sends below the limit, 1,000,000 of a run, never meet 9; takes never meet it.
pub record LimitMet : Type 0 where
  -- what meets 9 is a send, and exactly so many are made
  pub only : (t : State) (k : Kind) (i j : ℕ) → code_of (answer_of t k i j).verdict ≡ 9 → (k ≡ Send) × (t.sends ≡ send_limit)
  -- a send that meets no row above is accepted exactly if fewer are made, and meets 9 exactly if so many are
  pub below : (t : State) (i j : ℕ) → Open t → Sending t i j → (code_of (answer_of t Send i j).verdict ≡ 0) ↔ (t.sends < send_limit)
  pub spent : (t : State) (i j : ℕ) → Open t → Sending t i j → (code_of (answer_of t Send i j).verdict ≡ 9) ↔ (t.sends ≡ send_limit)

-- In t node i takes a message of its own, and s is the state then: i is active, one message to itself less is in transit, and one acknowledgement
-- more is on its way to it; all else is as it was.
pub record OwnTaken (t : State) (i : ℕ) (s : State) : Type 0 where
  pub active : active_at s i ≡ true
  pub message : transit_at s i i + 1 ≡ transit_at t i i
  pub acknowledgement : acks_at s i ≡ acks_at t i + 1
  pub unacked : s.unacked ≡ t.unacked
  pub engagers : s.engager ≡ t.engager
  pub others_active : (k : ℕ) → k ≢ i → active_at s k ≡ active_at t k
  pub other_messages : (j k : ℕ) → j < 16 → k < 16 → (j ≡ i → k ≡ i → ⊥) → transit_at s j k ≡ transit_at t j k
  pub other_acks : (k : ℕ) → k ≢ i → acks_at s k ≡ acks_at t k
  pub rest : (s.n ≡ t.n) × (s.root ≡ t.root) × (s.sends ≡ t.sends) × (s.closed ≡ t.closed)

-- Messages to oneself, of the tree. (Of the ring, where a message to oneself is a case of nothing, `LimitMet.below` says that it may be sent.)
pub record OwnMessages : Type 0 where
  -- a sound tree may hold such messages
  pub held :
      (t : State) → Open t → (i : ℕ) → i < t.n → active_at t i ≡ true → t.sends < send_limit
      → (verdict_of t Send i i ≡ Accepted) × Sound (answer_of t Send i i).state × (transit_at (answer_of t Send i i).state i i ≡ transit_at t i i + 1)
  -- a node taking its own message is already engaged: whoever has a message in transit is, its receiver being any node, itself too
  pub engaged : (t : State) → Sound t → (i k : ℕ) → i < t.n → k < t.n → 0 < transit_at t i k → engaged t i ≡ true
  -- and acknowledges itself
  pub taken :
      (t : State) → Open t → (i : ℕ) → i < t.n → 0 < transit_at t i i
      → (verdict_of t Take i i ≡ Accepted) × OwnTaken t i (answer_of t Take i i).state

-- Fields that a kind does not use are not read: an unknown kind uses none, and all kind numbers outside 1 to 6 are answered alike.
pub record FieldsUnread : Type 0 where
  pub idle : (t : State) (i j j' : ℕ) → answer_of t Idle i j ≡ answer_of t Idle i j'
  pub ack : (t : State) (i j j' : ℕ) → answer_of t Ack i j ≡ answer_of t Ack i j'
  pub leave : (t : State) (i j j' : ℕ) → answer_of t Leave i j ≡ answer_of t Leave i j'
  pub announce : (t : State) (i i' j j' : ℕ) → answer_of t Announce i j ≡ answer_of t Announce i' j'
  pub unknown : (t : State) (i i' j j' : ℕ) → answer_of t Unknown i j ≡ answer_of t Unknown i' j'
  pub other_kinds :
      (t : State) (k k' : ℕ) → (k ≡ 0) ⊎ (6 < k) → (k' ≡ 0) ⊎ (6 < k') → (i i' j j' : ℕ) → step_of t k i j ≡ step_of t k' i' j'
