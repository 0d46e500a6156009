-- The code's answers as the definitions see them.
use Rattle.std.specs.Prelude.{ℕ, Result, Ok, Err}
use Rattle.refusal.specs.Table.{Accepted}
use Rattle.refusal.specs.declared.Refusal.{Refusal}
use Rattle.tree_text.specs.Read.{Found, nothing}
use Rattle.tree_text.specs.Write.{Length, NotWritten, Written}
use Rattle.tree_text.specs.declared.Found.{Found as Told}

-- the writer's
abbrev pub written : Result ℕ Refusal → Written
written (Ok n) = Length n
written (Err e) = NotWritten e

-- the reader's
abbrev pub found : Result Told Refusal → Found
found (Ok f) = record { verdict = Accepted; engager = f.engager; root = f.root }
found (Err e) = nothing e
