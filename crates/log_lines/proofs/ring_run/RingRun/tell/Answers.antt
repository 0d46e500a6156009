use Rattle.std.proofs.Common.{arith, ap, sym, ◌∙◌}
use Rattle.log_rules.proofs.InPlace.{ring_in_place}
use Rattle.log_rules.specs.Answers.{ring_told}
use Rattle.log_lines.proofs.Rings.{step_answered}
use Rattle.log_lines.proofs.Waiting.{formless_told}
use Rattle.log_lines.proofs.ring_run.RingRun.tell.Goals as goal

pub returns : goal.returns
returns c =
    step_answered _ _ _ _ c.args.piece.now _ _ c.in-Some.step _ _ _ c.requires.0 c.request_of-request.ensures
    (sym c.in-Some.is ∙ c.ring_step.ensures.0) c.apply_sound-answer.ensures c.moved.ensures

pub returns-in_default : goal.returns-in_default
returns-in_default c =
    formless_told _ _ c.args.piece.now _ _ (c.requires.0.0, omega arith)
    (ap (ring_told _ _ _) (sym c.in_default.is ∙ c.ring_step.ensures.0) ∙ ring_in_place _ _ _ _ _) c.formless.ensures
