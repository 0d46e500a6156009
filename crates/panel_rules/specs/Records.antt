-- A record as its number, and back.
use Rattle.std.specs.Prelude.{◌≡◌, ◌<◌, ℕ, Result, Ok, Err}
use Rattle.panel_rules.specs.State.{record_number}
use Rattle.panel_rules.specs.declared.record.Record.{Record}
use Rattle.panel_rules.specs.declared.record.UnknownRecord.{UnknownRecord}

abbrev pub IsRecordNumber : Record → ℕ → Type 0
IsRecordNumber w n = n ≡ record_number w

-- the record that has the number, where one has it
abbrev pub IsRecordOf : ℕ → Result Record UnknownRecord → Type 0
IsRecordOf n (Ok w) = record_number w ≡ n
IsRecordOf n (Err u) = (u.0 ≡ n) × (2 < n)
