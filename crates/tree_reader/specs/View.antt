-- The code's readings as the definitions see them.
use Rattle.std.specs.Prelude.{ℕ, Option, Some, None, Result, Ok, Err}
use Rattle.refusal.specs.Table.{Verdict, Accepted, Refused}
use Rattle.refusal.specs.declared.Refusal.{Refusal}
use Rattle.tree_text.specs.Read.{Reading}
use Rattle.tree_reader.specs.declared.Reading.{Reading as Read}

-- a reading that goes on
abbrev pub going : Read → Reading
going r = record { verdict = Accepted; engager = r.engager; at = r.at; node = r.node }

-- what the code answers where the definitions read so far
abbrev pub told_by : Verdict → Reading → Result Read Refusal
told_by Accepted m = Ok (record { engager = m.engager; at = m.at; node = m.node })
told_by (Refused e) m = Err e

abbrev pub told : Reading → Result Read Refusal
told m = told_by m.verdict m

-- the outermost node's engager is told as 16
abbrev pub engager_number : Option ℕ → ℕ
engager_number (Some k) = k
engager_number None = 16
