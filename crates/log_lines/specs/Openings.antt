-- What a first line begins.
use Rattle.std.specs.Prelude.{◌+◌, ℕ, drop, false, length, List, Option, Some, None, Result, Ok, Err, ◌≡◌}
use Rattle.forms.specs.Form.{line}
use Rattle.log_rules.specs.Answers.{Stage, Told, answer_text, fresh, line_told, over}
use Rattle.log_rules.specs.Pieces.{OneLine, has_line}
use Rattle.refusal.specs.Answers.{verdict_from}
use Rattle.refusal.specs.Table.{Accepted, Refused}
use Rattle.refusal.specs.declared.Refusal.{Refusal}
use Rattle.log_lines.specs.Stages.{SoundStage, stage_of}
use Rattle.log_lines.specs.declared.line.Line.{Line}
use Rattle.log_lines.specs.declared.stage.Stage as code

-- the stage is what the definitions tell of the first line, and it is sound
pub record Begins (x : Told) (s : code.Stage) : Type 0 where
  pub stage : stage_of s ≡ x.stage
  pub text : answer_text 1 Accepted ≡ x.text
  pub sound : SoundStage x.stage 1

abbrev pub Opens : Told → Result code.Stage Refusal → Type 0
Opens x (Ok s) = Begins x s
Opens x (Err e) = record { stage = over; text = answer_text 1 (Refused e) } ≡ x

-- the same of a stage in place: the log is over where the first line is refused
pub record Begun (x : Told) (answer : Result (Unit {0}) Refusal) (s' : Stage) : Type 0 where
  pub stage : s' ≡ x.stage
  pub text : answer_text 1 (verdict_from answer) ≡ x.text
  pub sound : SoundStage s' 1

-- the first line of a piece, which begins at index `at`; where it is not whole, nothing is done
pub record FirstAnswered (s' : Stage) (piece : List ℕ) (at : ℕ) (l : Line) : Type 0 where
  pub whole : OneLine (line (drop at piece))
  pub past : l.next ≡ at + length (line (drop at piece))
  pub number : l.number ≡ 1
  pub begun : Begun (line_told fresh 1 (line (drop at piece))) l.answer s'

abbrev pub FirstTold : Stage → Stage → List ℕ → ℕ → Option Line → Type 0
FirstTold s s' piece at (Some l) = FirstAnswered s' piece at l
FirstTold s s' piece at None = (s' ≡ s) × (has_line (drop at piece) ≡ false)
