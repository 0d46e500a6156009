-- A request to a ring of the table, by its kind number and its numbers.
use Rattle.std.specs.Prelude.{ℕ}
use Rattle.ring_rules.specs.declared.request.Request.{Request}
use Rattle.ring_rules.specs.declared.request.Request.TheVariants.{Send, Take, Idle, Probe, Pass, Announce}
use Rattle.runs.specs.Runs as runs
use Rattle.table_rules.specs.Answers.{Ask, Step}

abbrev pub by_number : Request → runs.Request
by_number (Send i j) = record { kind = 1; i = i; j = j }
by_number (Take i n) = record { kind = 2; i = i; j = n }
by_number (Idle i) = record { kind = 3; i = i; j = 0 }
by_number Probe = record { kind = 4; i = 0; j = 0 }
by_number (Pass i) = record { kind = 5; i = i; j = 0 }
by_number Announce = record { kind = 6; i = 0; j = 0 }

-- a step of update u
abbrev pub ask_of : ℕ → Request → Ask
ask_of u x = Step u (by_number x)
