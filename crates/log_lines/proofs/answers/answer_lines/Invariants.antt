use Rattle.std.proofs.Common.{◌≡◌, ◌-◌, length}
use Rattle.log_rules.specs.Lines.{line_limit}
use Rattle.log_lines.specs.Stages.{LinesWent, stage_of}
use Rattle.log_lines.proofs.answers.answer_lines.Given as goal

abbrev pub invariant-loop-so_far : goal.invariant-loop-so_far
invariant-loop-so_far l =
    LinesWent (stage_of l.initial.stage) (stage_of l.stage) l.initial.so_far l.so_far l.piece l.initial.out l.out × (length l.out ≡ length l.initial.out)

abbrev pub decreases-loop-so_far : goal.decreases-loop-so_far
decreases-loop-so_far l = line_limit - l.so_far.lines
