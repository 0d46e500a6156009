-- What a log has come to, seen as the definitions' stage, and what is told of a line of a piece.
use Rattle.std.specs.Prelude.{◌*◌, ◌+◌, ◌-◌, ◌≤◌, ℕ, drop, false, length, List, Option, Some, None, ◌≡◌}
use Rattle.forms.specs.Form.{line}
use Rattle.log_rules.specs.Answers.{Stage, answer_bytes, answer_text, fresh, line_told, on_ring, on_table, on_tree, over}
use Rattle.log_rules.specs.Lines.{line_limit}
use Rattle.log_rules.specs.Pieces.{Moves, NoMore, OneLine, Went, has_line}
use Rattle.refusal.specs.Answers.{verdict_from}
use Rattle.table.specs.View.{table}
use Rattle.table_rules.specs.Soundness.{SoundTable}
use Rattle.table_rules.specs.Table.{Table}
use Rattle.log_lines.specs.declared.answers.Answered.{Answered}
use Rattle.log_lines.specs.declared.line.Line.{Line}
use Rattle.log_lines.specs.declared.stage.Stage as code
use Rattle.log_lines.specs.declared.stage.Stage.TheVariants as stages
use Rattle.ring_rules.specs.Soundness as ring_sound
use Rattle.ring_rules.specs.State as ring
use Rattle.tree_rules.specs.Soundness as tree_sound
use Rattle.tree_rules.specs.State as tree

-- the code's stage as the definitions see it
abbrev pub stage_of : code.Stage → Stage
stage_of stages.Fresh = fresh
stage_of (stages.Ring r) = on_ring r.ring r.moves
stage_of (stages.Tree t) = on_tree t
stage_of (stages.Table t) = on_table (table t.table) t.moves
stage_of stages.Over = over

-- after k lines the state of the run is sound, and the moves are at most k
abbrev pub SoundStage : Stage → ℕ → Type 0
SoundStage fresh k = Unit {0}
SoundStage (on_ring r m) k = ring_sound.Sound r × (m ≤ k)
SoundStage (on_tree t) k = tree_sound.Sound t
SoundStage (on_table t ms) k = SoundTable t × Moves ms k
SoundStage over k = Unit {0}

-- what a first line begins goes on: a ring's run stays a ring's, a tree's a tree's, and a table's a table's; and a log that is over stays over
pub data SameRun : Stage → Stage → Type 0 where
  begins : {s' : Stage} → SameRun fresh s'
  ring_run : {r r' : ring.State} {m m' : ℕ} → SameRun (on_ring r m) (on_ring r' m')
  tree_run : {t t' : tree.State} → SameRun (on_tree t) (on_tree t')
  table_run : {t t' : Table} {ms ms' : List ℕ} → SameRun (on_table t ms) (on_table t' ms')
  no_run : SameRun over over

-- line k, which begins at index `at`, is answered: s was the stage before it, and s' is the one after it
pub record LineAnswered (s s' : Stage) (k : ℕ) (piece : List ℕ) (at : ℕ) (l : Line) : Type 0 where
  pub whole : OneLine (line (drop at piece))
  pub past : l.next ≡ at + length (line (drop at piece))
  pub stage : s' ≡ (line_told s k (line (drop at piece))).stage
  pub text : answer_text l.number (verdict_from l.answer) ≡ (line_told s k (line (drop at piece))).text
  pub number : l.number ≤ k
  pub sound : SoundStage s' k

-- no line is answered: the next is not whole, or the log is over
pub data Waits (s : Stage) (piece : List ℕ) (at : ℕ) : Type 0 where
  cut : has_line (drop at piece) ≡ false → Waits s piece at
  ended : s ≡ over → Waits s piece at

abbrev pub LineTold : Stage → Stage → ℕ → List ℕ → ℕ → Option Line → Type 0
LineTold s s' k piece at (Some l) = LineAnswered s s' k piece at l
LineTold s s' k piece at None = (s' ≡ s) × Waits s' piece at

-- the state is sound, and the buffer has the bytes of an answer for each byte of the piece that is left
pub record Fits (s : Stage) (lines : ℕ) (piece : List ℕ) (from : ℕ) (out : List ℕ) (at : ℕ) : Type 0 where
  pub sound : SoundStage s lines
  pub most : lines ≤ line_limit
  pub inside : from ≤ length piece
  pub room : at + (length piece - from) * answer_bytes ≤ length out

-- lines of the piece are answered, and the state is sound after them
pub record LinesWent (s s' : Stage) (a b : Answered) (piece out out' : List ℕ) : Type 0 where
  pub went : Went s s' a.lines b.lines a.next b.next a.at b.at piece out out'
  pub same : SameRun s s'
  pub sound : SoundStage s' b.lines

abbrev pub TurnTold : Stage → Stage → Answered → List ℕ → List ℕ → List ℕ → Option Answered → Type 0
TurnTold s s' a piece out out' (Some b) = LinesWent s s' a b piece out out' × (b.lines ≡ a.lines + 1)
TurnTold s s' a piece out out' None = (s' ≡ s) × (out' ≡ out) × Waits s' piece a.next

-- where the log is over, the rest of the piece is passed over
abbrev pub past_the_end : Stage → Answered → List ℕ → Answered
past_the_end fresh a piece = a
past_the_end (on_ring r m) a piece = a
past_the_end (on_tree t) a piece = a
past_the_end (on_table t ms) a piece = a
past_the_end over a piece = record { lines = a.lines; next = length piece; at = a.at }

-- all lines of the piece that are whole are answered
pub record LinesAnswered (s s' : Stage) (lines : ℕ) (piece : List ℕ) (from : ℕ) (out : List ℕ) (at : ℕ) (b : Answered) (out' : List ℕ) : Type 0 where
  pub went : Went s s' lines b.lines from b.next at b.at piece out out'
  pub same : SameRun s s'
  pub sound : SoundStage s' b.lines
  pub spent : NoMore b.lines b.next piece
