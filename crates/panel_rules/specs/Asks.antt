-- The requests to a panel, steps and starts, of any kind and with any numbers; a list of them, refused ones included, is a run of the machine
-- here: each is given the panel that the last one returned.
use Rattle.std.specs.Prelude.{ℕ, List}
use Rattle.panel_rules.specs.Answers.{Answer, answer_of, start_of, start_table, start_verdict, step_table, verdict_of}
use Rattle.panel_rules.specs.Rules.{panel_effect, restarted}
use Rattle.panel_rules.specs.State.{Panel}
use Rattle.refusal.specs.Table.{Row}
use Rattle.refusal.specs.Table.{Verdict}
use Rattle.ring_rules.specs.Rules.{kind_of}
use Rattle.runs.specs.Runs.{Machine, Request}

pub data Ask : Type 0 where
  Step : Request → Ask
  Start : ℕ → List ℕ → Ask

-- a step by the numbers that are handed in
abbrev pub step_ask : ℕ → ℕ → ℕ → Ask
step_ask kind i j = Step (record { kind = kind; i = i; j = j })

abbrev pub rows_of : Panel → Ask → List Row
rows_of p (Step x) = step_table p (kind_of x.kind) x.i x.j
rows_of p (Start n flags) = start_table p n flags

abbrev pub verdict_on : Panel → Ask → Verdict
verdict_on p (Step x) = verdict_of p (kind_of x.kind) x.i x.j
verdict_on p (Start n flags) = start_verdict p n flags

-- the panel that an accepted request leads to
abbrev pub after : Panel → Ask → Panel
after p (Step x) = panel_effect p (kind_of x.kind) x.i x.j
after p (Start n flags) = restarted p n flags

abbrev pub answer_on : Panel → Ask → Answer
answer_on p (Step x) = answer_of p (kind_of x.kind) x.i x.j
answer_on p (Start n flags) = start_of p n flags

-- the panel as a machine that takes requests
abbrev pub panel : Machine Panel Ask
panel = record { verdict = verdict_on; effect = after }
