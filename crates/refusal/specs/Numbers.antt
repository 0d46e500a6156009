-- A refusal as its number, and back.
use Rattle.std.specs.Prelude.{◌≡◌, ◌≢◌, List, ℕ, Option, Some, Result, Ok, Err, decimal}
use Rattle.refusal.specs.Table.{number_of}
use Rattle.refusal.specs.declared.Refusal.{Refusal}
use Rattle.refusal.specs.declared.UnknownRefusal.{UnknownRefusal}

abbrev pub IsNumberOf : Refusal → ℕ → Type 0
IsNumberOf e n = n ≡ number_of e

-- the refusal that has the number, where one has it
abbrev pub IsRefusalOf : ℕ → Result Refusal UnknownRefusal → Type 0
IsRefusalOf n (Ok e) = number_of e ≡ n
IsRefusalOf n (Err u) = (u.0 ≡ n) × ((e : Refusal) → number_of e ≢ n)

-- it is written as its number
abbrev pub text_of : Refusal → Option (List ℕ)
text_of e = Some (decimal (number_of e))
