-- A line that says no form, in any run. Assumes nothing.
use Prim.Native.Nat.{ℕ}
use lib.ListN.{drop}
use mathlib.Core.List.{List}
use mathlib.Core.Path.{◌∙◌, ◌≡◌, ap, refl}
use native.Mathlib.Omega.{arith}
use Rattle.std.specs.Prelude.{Option, Some, None, Result}
use Rattle.forms.specs.Form.{line}
use Rattle.log_rules.specs.Answers.{Stage, Told, answer_text, line_told}
use Rattle.refusal.specs.Answers.{verdict_from}
use Rattle.refusal.specs.Table.{Refused}
use Rattle.refusal.specs.declared.Refusal.{Refusal}
use Rattle.refusal.specs.declared.Refusal.TheVariants.{NotAForm}
use Rattle.log_lines.specs.Formless.{FormlessTold}
use Rattle.log_lines.specs.Stages.{LineTold, SoundStage, cut}
use Rattle.log_lines.specs.declared.line.Line.{Line}

pub formless_told : (s : Stage) (k : ℕ) (p : List ℕ) (at : ℕ) (t : Option Line) → SoundStage s k
    → record { stage = s; text = answer_text k (Refused NotAForm) } ≡ line_told s k (line (drop at p))
    → FormlessTold k p at t → LineTold s s k p at t
formless_told s k p at None sound told h = (refl, cut h)
formless_told s k p at (Some l) sound told h = record {
  whole = h.whole;
  past = h.past;
  stage = ap (λ (x : Told). x.stage) told;
  text =
      ap (λ (n : ℕ). answer_text n (verdict_from l.answer)) h.number
      ∙ ap (λ (a : Result (Unit {0}) Refusal). answer_text k (verdict_from a)) h.refused ∙ ap (λ (x : Told). x.text) told;
  number = omega (arith, h.number);
  sound = sound;
}
