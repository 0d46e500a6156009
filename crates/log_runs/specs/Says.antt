-- What the lines of a log ask a detector for, and what some of its lines come to.
use Rattle.std.specs.Prelude.{◌+◌, suc, zero, ℕ, List, [], ◌++◌, ◌∷◌, ◌≡◌}
use Rattle.forms.specs.Form.{Form, Says, ring_form, tree_form}
use Rattle.log_rules.specs.Answers.{Stage, fresh, line_told, no_moves, on_ring, on_table, on_tree, over, ring_request, tree_request}
use Rattle.log_rules.specs.Pieces.{OneLine, PartLine}
use Rattle.ring_rules.specs.Rules.{Announce, Idle, Kind, Pass, Probe, Send, Take, Unknown}
use Rattle.ring_runs.specs.Counts.{kind}
use Rattle.runs.specs.Runs.{Request}
use Rattle.table_rules.specs.Soundness.{SoundTable}
use Rattle.ring_rules.specs.Soundness as ring_sound
use Rattle.tree_rules.specs.Soundness as tree_sound

-- What a line asks for: what the form that it says means; nothing, where it says none of these forms or lacks its byte 10.
pub data Asks {F A : Type 0} (form : F → Form) (means : F → A) (nothing : A) (l : List ℕ) : A → Type 0 where
  says : (f : F) → Says l (form f) → Asks form means nothing l (means f)
  other : OneLine l → ((f : F) → Says l (form f) → ⊥) → Asks form means nothing l nothing
  cut : PartLine l → Asks form means nothing l nothing

-- what a line of a run asks for: a request; or none, where it says no step
pub data Ask (R : Type 0) : Type 0 where
  request : R → Ask R
  no_step : Ask R

abbrev pub RingAsks : List ℕ → Ask Request → Type 0
RingAsks = Asks ring_form (λ f. request (ring_request f)) no_step

abbrev pub TreeAsks : List ℕ → Ask Request → Type 0
TreeAsks = Asks tree_form (λ f. request (tree_request f)) no_step

-- each line asks for what stands in its place
pub data Each {R : Type 0} (P : List ℕ → Ask R → Type 0) : List (List ℕ) → List (Ask R) → Type 0 where
  no_line : Each P [] []
  line : {l : List ℕ} {ls : List (List ℕ)} {a : Ask R} {qs : List (Ask R)} → P l a → Each P ls qs → Each P (l ∷ ls) (a ∷ qs)

-- the requests among them
abbrev pub requests_in : {R : Type 0} → List (Ask R) → List R
requests_in [] = []
requests_in (request x ∷ qs) = x ∷ requests_in qs
requests_in (no_step ∷ qs) = requests_in qs

-- the lines of a ring's run say these requests, and those of a tree's
abbrev pub RingSays : List (List ℕ) → List Request → Type 0
RingSays ls xs = (qs : List (Ask Request)) × Each RingAsks ls qs × (requests_in qs ≡ xs)

abbrev pub TreeSays : List (List ℕ) → List Request → Type 0
TreeSays ls xs = (qs : List (Ask Request)) × Each TreeAsks ls qs × (requests_in qs ≡ xs)

-- what a log has come to after some lines, the first of them line k, and what is printed of them
unfoldable pub stage_after : Stage → ℕ → List (List ℕ) → Stage
stage_after s k [] = s
stage_after s k (l ∷ ls) = stage_after (line_told s k l).stage (k + 1) ls

unfoldable pub printed : Stage → ℕ → List (List ℕ) → List ℕ
printed s k [] = []
printed s k (l ∷ ls) = (line_told s k l).text ++ printed (line_told s k l).stage (k + 1) ls

-- the token moves among requests
abbrev pub move_by : Kind → ℕ
move_by Send = 0
move_by Take = 0
move_by Idle = 0
move_by Probe = 1
move_by Pass = 1
move_by Announce = 0
move_by Unknown = 0

unfoldable pub moves_in : List Request → ℕ
moves_in [] = 0
moves_in (x ∷ xs) = move_by (kind x) + moves_in xs

-- f 0, f 1 .. f (n - 1)
unfoldable pub list_to : (ℕ → ℕ) → ℕ → List ℕ
list_to f zero = []
list_to f (suc n) = list_to f n ++ (f n ∷ [])

-- what a first line has begun: a run that is open, or a sound table, with no move counted; or nothing, where it was refused
abbrev pub BegunOpen : Stage → Type 0
BegunOpen fresh = ⊥
BegunOpen (on_ring r m) = ring_sound.Open r × (m ≡ 0)
BegunOpen (on_tree t) = tree_sound.Open t
BegunOpen (on_table t ms) = SoundTable t × (ms ≡ no_moves)
BegunOpen over = Unit {0}
