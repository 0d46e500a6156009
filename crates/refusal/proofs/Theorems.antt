-- A number is told of a sound state alone; 7 is the number of nothing. Assumes nothing.
use Prim.Native.Nat.{ℕ}
use mathlib.Core.Bool.{Bool, false, true}
use mathlib.Core.Logic.{◌≢◌}
use mathlib.Core.Path.{◌≡◌, refl}
use native.Mathlib.Omega.{arith}
use Rattle.laws.proofs.Tests.{false_true}
use Rattle.refusal.specs.Counts.{count_of}
use Rattle.refusal.specs.Table.{code_of, number_of}
use Rattle.refusal.specs.declared.Refusal.{Refusal}
use Rattle.refusal.specs.declared.Refusal.TheVariants.{Closed, JobWord, MoveLimit, NodeCount, NotAForm, RuleFails, SendLimit, ShortBuffer, StartFlags, UnequalMarks, UnknownKind, UnknownNode, UnknownUpdate, Unsound}
use Rattle.refusal.specs.Table.{Verdict}
use Rattle.refusal.specs.Table.{Accepted, Refused}
use Rattle.refusal.specs.Theorems.{CountAnswered, SevenRetired}

pub count_answered : CountAnswered
count_answered = record { sound = λ number. (refl, refl); unsound = λ number. refl }

not_7 : (e : Refusal) → number_of e ≢ 7
not_7 NodeCount e = omega arith
not_7 StartFlags e = omega arith
not_7 Unsound e = omega arith
not_7 Closed e = omega arith
not_7 UnknownKind e = omega arith
not_7 UnknownNode e = omega arith
not_7 RuleFails e = omega arith
not_7 SendLimit e = omega arith
not_7 NotAForm e = omega arith
not_7 MoveLimit e = omega arith
not_7 ShortBuffer e = omega arith
not_7 UnknownUpdate e = omega arith
not_7 JobWord e = omega arith
not_7 UnequalMarks e = omega arith

code_not_7 : (v : Verdict) → code_of v ≢ 7
code_not_7 Accepted e = omega arith
code_not_7 (Refused d) e = not_7 d e

pub seven_retired : SevenRetired
seven_retired = record { number = not_7; code = code_not_7 }

-- the same of a test
pub count_told : (b : Bool) (n : ℕ) → b ≡ true → (code_of (count_of b n).verdict ≡ 0) × ((count_of b n).number ≡ n)
count_told true n e = count_answered.sound n
count_told false n e = absurd (false_true e)

pub count_refused : (b : Bool) (n : ℕ) → (b ≡ true → ⊥) → code_of (count_of b n).verdict ≡ 3
count_refused true n h = absurd (h refl)
count_refused false n h = count_answered.unsound n
