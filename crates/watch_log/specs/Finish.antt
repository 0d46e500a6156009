-- What is written where a log ends.
use Rattle.std.specs.Prelude.{◌+◌, ◌≤◌, ℕ, ltb, length, cond, List, []}
use Rattle.log_rules.specs.Answers.{answer_text}
use Rattle.log_rules.specs.Lines.{line_limit}
use Rattle.log_rules.specs.Output.{rest_of}
use Rattle.log_answers.specs.Wrote.{Wrote}
use Rattle.refusal.specs.Table.{Refused}
use Rattle.refusal.specs.declared.Refusal.TheVariants.{NotAForm}
use Rattle.watch_log.specs.Feed.{LogState}

-- "A line that .. lacks its byte 10 is one line, refused with 10": where k lines are answered and `len` bytes are held of the next
abbrev pub cut_text : ℕ → ℕ → List ℕ
cut_text k len = cond (ltb 0 len) (cond (ltb k line_limit) (answer_text (k + 1) (Refused NotAForm)) []) []

-- all that is still to be written is written
pub record Finished (l : LogState) (r : ℕ) (out out' : List ℕ) : Type 0 where
  pub wrote : Wrote out 0 (rest_of l.stage l.lines l.held []) r out'
  pub room : r ≤ length out
