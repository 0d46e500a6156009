-- The answer to a request, of any kind of state, and the code's answers seen as it.
use Rattle.std.specs.Prelude.{◌≡◌, Bool, true, false, ℕ, Result, Ok, Err}
use Rattle.refusal.specs.Counts.{Count}
use Rattle.refusal.specs.Table.{Verdict, Accepted, Refused}
use Rattle.refusal.specs.declared.Refusal.{Refusal}
use Rattle.refusal.specs.declared.Refusal.TheVariants.{Unsound}
use Rattle.refusal.specs.declared.Refused.{Refused as Handed}

-- the next state where the request is accepted, and else the very state handed in
pub record Answer (S : Type 0) : Type 0 where
  pub verdict : Verdict
  pub state : S

-- an answer by value; one in place, with the state that it left; and one to a start, which hands no state back: `none` stands in its place
abbrev pub answer : {S : Type 0} → Result S (Handed S) → Answer S
answer (Ok s) = record { verdict = Accepted; state = s }
answer (Err e) = record { verdict = Refused e.refusal; state = e.state }

abbrev pub handed : {S : Type 0} → Result (Unit {0}) Refusal → S → Answer S
handed (Ok x) s = record { verdict = Accepted; state = s }
handed (Err e) s = record { verdict = Refused e; state = s }

abbrev pub started : {S : Type 0} → S → Result S Refusal → Answer S
started none (Ok s) = record { verdict = Accepted; state = s }
started none (Err e) = record { verdict = Refused e; state = none }

-- the verdict alone
abbrev pub verdict_from : {A : Type 0} → Result A Refusal → Verdict
verdict_from (Ok x) = Accepted
verdict_from (Err e) = Refused e

-- a number asked of a state: 0 stands in its place where the state is refused
abbrev pub counted : Result ℕ Refusal → Count
counted (Ok n) = record { verdict = Accepted; number = n }
counted (Err e) = record { verdict = Refused e; number = 0 }

-- a sound state stays sound, and any other is turned back
abbrev pub Keeps : {S R : Type 0} → (S → Bool) → (S → R → Answer S) → Type 0
Keeps {S} {R} test answers = (s : S) (x : R) → test s ≡ true → test (answers s x).state ≡ true

abbrev pub Turns : {S R : Type 0} → (S → Bool) → (S → R → Answer S) → Type 0
Turns {S} {R} test answers = (s : S) (x : R) → test s ≡ false → answers s x ≡ record { verdict = Refused Unsound; state = s }
