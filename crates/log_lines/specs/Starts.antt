-- A start of a ring, and of an update.
use Rattle.std.specs.Prelude.{◌<◌, ◌≤◌, ℕ, List, None, Result, Ok, Err, ◌≡◌}
use Rattle.first_line.specs.declared.RingStart.{RingStart}
use Rattle.log_rules.specs.Answers.{ring_table, update_ask, update_table}
use Rattle.refusal.specs.Answers.{verdict_from}
use Rattle.refusal.specs.Table.{Accepted, Refused, first_of, settle}
use Rattle.refusal.specs.declared.Refusal.{Refusal}
use Rattle.table_rules.specs.Answers.{after}
use Rattle.table_rules.specs.Soundness.{SoundTable}
use Rattle.table_rules.specs.Table.{Table}
use Rattle.update_forms.specs.Read.{update_line_of, wrapped_at}

-- what a ring's start is asked
abbrev pub Judged : RingStart → Result (Unit {0}) Refusal → Type 0
Judged f (Ok x) = (first_of (ring_table f) ≡ Accepted) × (0 < f.n) × (f.n ≤ 96) × (f.top ≤ f.n)
Judged f (Err e) = first_of (ring_table f) ≡ Refused e

-- a start of update u is carried out by the definitions: t' is the table after it
pub record StartTold (t t' : Table) (u : ℕ) (f : RingStart) (answer : Result (Unit {0}) Refusal) : Type 0 where
  pub verdict : verdict_from answer ≡ first_of (update_table t u f)
  pub table : t' ≡ settle (verdict_from answer) (after t (update_ask u f)) t
  pub sound : SoundTable t → SoundTable t'

-- the line at `at` says no step of an update
abbrev pub NoStep : List ℕ → ℕ → Type 0
NoStep piece at = None ≡ update_line_of (wrapped_at piece at)
