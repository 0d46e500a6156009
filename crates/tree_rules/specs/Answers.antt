-- The verdict on a step and its answer, for every state and all numbers.
use Rattle.std.specs.Prelude.{ℕ, leb, Bool, ◌||◌, false, true, List}
use Rattle.refusal.specs.Answers as answers
use Rattle.refusal.specs.Counts.{Count, count_of}
use Rattle.refusal.specs.Table.{Row, first_of, send_limit, settle, step_rows}
use Rattle.refusal.specs.Table.{Verdict}
use Rattle.tree_rules.specs.Rules.{Ack, Announce, Idle, Kind, Leave, Send, Take, Unknown, effect, guard, kind_of}
use Rattle.tree_rules.specs.Soundness.{sound_test}
use Rattle.tree_rules.specs.State.{State}
use Rattle.tree_rules.specs.Termination.{acks_total}

abbrev pub unknown : Kind → Bool
unknown Send = false
unknown Take = false
unknown Idle = false
unknown Ack = false
unknown Leave = false
unknown Announce = false
unknown Unknown = true

-- a node number that the kind uses is n or more
abbrev pub outside : State → Kind → ℕ → ℕ → Bool
outside t Send i j = leb t.n i || leb t.n j
outside t Take i j = leb t.n i || leb t.n j
outside t Idle i j = leb t.n i
outside t Ack i j = leb t.n i
outside t Leave i j = leb t.n i
outside t Announce i j = false
outside t Unknown i j = false

-- a send where the run's sends are spent
abbrev pub sends_spent : State → Kind → Bool
sends_spent t Send = leb send_limit t.sends
sends_spent t Take = false
sends_spent t Idle = false
sends_spent t Ack = false
sends_spent t Leave = false
sends_spent t Announce = false
sends_spent t Unknown = false

-- the table for a step
abbrev pub step_table : State → Kind → ℕ → ℕ → List Row
step_table t k i j =
    step_rows (sound_test t) t.closed (unknown k) (outside t k i j) (guard t k i j) (sends_spent t k)

unfoldable pub verdict_of : State → Kind → ℕ → ℕ → Verdict
verdict_of t k i j = first_of (step_table t k i j)

abbrev pub Answer : Type 0
Answer = answers.Answer State

-- the answer of a step: the next state where it is accepted, and else the very state handed in
unfoldable pub answer_of : State → Kind → ℕ → ℕ → Answer
answer_of t k i j = record { verdict = verdict_of t k i j; state = settle (verdict_of t k i j) (effect t k i j) t }

-- the same by kind number
abbrev pub step_of : State → ℕ → ℕ → ℕ → Answer
step_of t k i j = answer_of t (kind_of k) i j

-- what is told where the acknowledgements in transit are asked for
abbrev pub acks_answer : State → Count
acks_answer t = count_of (sound_test t) (acks_total t)
