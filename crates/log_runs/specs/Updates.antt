-- Q-1, the log: what a wrapped line asks for, how it is judged, and what lines of updates come to.
use Rattle.std.specs.Prelude.{◌+◌, suc, zero, ℕ, eqb, get_or, set, Bool, ◌&&◌, cond, false, List, [], ◌∷◌, ◌≡◌}
use Rattle.first_line.specs.Meaning.{every_node}
use Rattle.log_rules.specs.Answers.{add_at, ring_request}
use Rattle.refusal.specs.Table.{is_accepted}
use Rattle.refusal.specs.Table.{Verdict}
use Rattle.ring_runs.specs.Counts.{kind}
use Rattle.runs.specs.Runs.{Machine, Request}
use Rattle.table_rules.specs.Answers.{Start, Step, after, verdict_on}
use Rattle.table_rules.specs.Table.{Table}
use Rattle.update_forms.specs.Wrapped.{Wrapped, wrapped_form}
use Rattle.log_runs.specs.Answered.{verdict_at}
use Rattle.log_runs.specs.First.{flags_to, known_by, update_verdict}
use Rattle.log_runs.specs.Says.{Ask, Asks, Each, move_by, no_step, request, requests_in}
use Rattle.table_rules.specs.Answers as table
use Rattle.update_forms.specs.Wrapped as wrapped

-- a step of update u; or a start of it with n nodes, the active and the black ones named
pub data UpdateAsk : Type 0 where
  step : (u : ℕ) (x : Request) → UpdateAsk
  start : (u n : ℕ) (active black : List ℕ) → UpdateAsk

-- Document 02, Q-6: without lists all nodes active and white
abbrev pub ask_of : Wrapped → UpdateAsk
ask_of (wrapped.step u f) = step u (ring_request f)
ask_of (wrapped.bare u n) = start u n (every_node n) []
ask_of (wrapped.lists u n active black) = start u n active black

abbrev pub UpdateAsks : List ℕ → Ask UpdateAsk → Type 0
UpdateAsks = Asks wrapped_form (λ w. request (ask_of w)) no_step

-- the lines of a run of updates say these
abbrev pub UpdatesSay : List (List ℕ) → List UpdateAsk → Type 0
UpdatesSay ls xs = (qs : List (Ask UpdateAsk)) × Each UpdateAsks ls qs × (requests_in qs ≡ xs)

-- the request to the table that it stands for
abbrev pub table_ask : UpdateAsk → table.Ask
table_ask (step u x) = Step u x
table_ask (start u n active black) = Start u n (flags_to active black n)

-- the verdict on it: the table's on a step; on a start 13, 1 and 6
abbrev pub verdict_of : Table → UpdateAsk → Verdict
verdict_of t (step u x) = verdict_on t (Step u x)
verdict_of t (start u n active black) = update_verdict t u n active black

abbrev pub updates : Machine Table UpdateAsk
updates = record { verdict = verdict_of; effect = λ t a. after t (table_ask a) }

-- The requests to the table among them: a start whose lists name a node that there is not is none, and is refused.
abbrev pub to_table : List UpdateAsk → List table.Ask
to_table [] = []
to_table (step u x ∷ xs) = Step u x ∷ to_table xs
to_table (start u n active black ∷ xs) = cond (known_by n active black) (Start u n (flags_to active black n) ∷ to_table xs) (to_table xs)

-- the token moves of each update after an accepted one, counted from its latest start; and after a list of these
abbrev pub moved : List ℕ → UpdateAsk → List ℕ
moved ms (step u x) = add_at ms u (move_by (kind x))
moved ms (start u n active black) = set ms u 0

unfoldable pub moves_after : List ℕ → List UpdateAsk → List ℕ
moves_after ms [] = ms
moves_after ms (a ∷ xs) = moves_after (moved ms a) xs

-- is it a step of u
abbrev pub steps_on : ℕ → Ask UpdateAsk → Bool
steps_on u (request (step v x)) = eqb v u
steps_on u (request (start v n active black)) = false
steps_on u no_step = false

-- how many of lines 2 to 1 + i ask for a step of u and are answered with ok
abbrev pub oks_of : Table → List (Ask UpdateAsk) → ℕ → ℕ → ℕ
oks_of t qs u zero = 0
oks_of t qs u (suc i) = oks_of t qs u i + cond (steps_on u (get_or qs i no_step) && is_accepted (verdict_at updates t qs i)) 1 0
