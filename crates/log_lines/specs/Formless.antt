-- A line that says no form.
use Rattle.std.specs.Prelude.{◌+◌, ℕ, drop, false, length, List, Option, Some, None, Err, ◌≡◌}
use Rattle.forms.specs.Form.{line}
use Rattle.log_rules.specs.Pieces.{OneLine, has_line}
use Rattle.refusal.specs.declared.Refusal.TheVariants.{NotAForm}
use Rattle.log_lines.specs.declared.line.Line.{Line}

-- it is refused where it is whole
pub record FormlessAnswered (k : ℕ) (piece : List ℕ) (at : ℕ) (l : Line) : Type 0 where
  pub number : l.number ≡ k
  pub refused : l.answer ≡ Err NotAForm
  pub whole : OneLine (line (drop at piece))
  pub past : l.next ≡ at + length (line (drop at piece))

abbrev pub FormlessTold : ℕ → List ℕ → ℕ → Option Line → Type 0
FormlessTold k piece at (Some l) = FormlessAnswered k piece at l
FormlessTold k piece at None = has_line (drop at piece) ≡ false
