-- Document 01's numbers: of the refusals, 7 being retired (document 02, Q-4), and of the driver's reasons; and "board i is bit i mod 8 (bit 0 lowest) of byte i div 8, and 1 is black".
use Rattle.std.specs.Prelude.{ℕ, replicate, set, List, [], ◌∷◌}
use Rattle.refusal.specs.declared.Refusal.TheVariants.{Closed, JobWord, MoveLimit, NodeCount, NotAForm, RuleFails, SendLimit, ShortBuffer, StartFlags, UnequalMarks, UnknownKind, UnknownNode, UnknownUpdate, Unsound}
use Rattle.ring_rules.specs.Start.{start_of}
use Rattle.ring_rules.specs.State.{State}
use Rattle.ring_rules.specs.Driver.{Conclusive, Spent, Stopped, Waiting}
use Rattle.ring_runs.specs.Counts.{ring}
use Rattle.ring_runs.specs.Requests.{idle, probe, take}
use Rattle.runs.specs.Runs.{next}
use Rattle.starred_runs.specs.Case.{Case, ◌is◌, black_by_case, colors, reason, refusal, ring_run, white}
use Rattle.starred_runs.specs.RingStates.{black, handed, nodes, pending, sent}

-- a start of nine nodes with node i black alone; a ring of nine after node i took a message
abbrev pub started_black : ℕ → State
started_black i = (start_of 9 (set (replicate 9 0) i 2)).state

abbrev pub after_take : ℕ → State
after_take i = next ring (handed (nodes 9 ∷ sent 1 1 ∷ pending i 1 ∷ [])) (take i 1)

unfoldable pub numbers : List Case
numbers =
    refusal NodeCount 1
    ∷ refusal StartFlags 2
    ∷ refusal Unsound 3
    ∷ refusal Closed 4
    ∷ refusal UnknownKind 5
    ∷ refusal UnknownNode 6
    ∷ refusal RuleFails 8
    ∷ refusal SendLimit 9
    ∷ refusal NotAForm 10
    ∷ refusal MoveLimit 11
    ∷ refusal ShortBuffer 12
    ∷ refusal UnknownUpdate 13
    ∷ refusal JobWord 14
    ∷ refusal UnequalMarks 15
    ∷ reason Conclusive 100
    ∷ reason Waiting 101
    ∷ reason Spent 102
    ∷ reason (Stopped Unsound) 3
    ∷ reason (Stopped Closed) 4
    ∷ reason (Stopped MoveLimit) 11
    -- colors: node i by value v of byte k; by its flag at a start; by a take
    ∷ black_by_case 0 0 1
    ∷ black_by_case 7 0 128
    ∷ black_by_case 8 1 1
    ∷ black_by_case 95 11 128
    ∷ colors (started_black 0) (set white 0 1)
    ∷ colors (started_black 7) (set white 0 128)
    ∷ colors (started_black 8) (set white 1 1)
    ∷ colors (after_take 0) (set white 0 1)
    ∷ colors (after_take 7) (set white 0 128)
    ∷ colors (after_take 8) (set white 1 1)
    -- "value 0 to 3, lowest bit active, next bit black"
    ∷ ring_run (start_of 4 (0 ∷ 1 ∷ 2 ∷ 3 ∷ [])).state (idle 0 is 8 ∷ idle 1 is 0 ∷ idle 2 is 8 ∷ idle 3 is 0 ∷ [])
    ∷ colors (start_of 4 (0 ∷ 1 ∷ 2 ∷ 3 ∷ [])).state (set white 0 12)
    -- and white again: node 0 by a probe
    ∷ colors (next ring (handed (black 0 ∷ black 1 ∷ [])) probe) (set white 0 2)
    ∷ []
