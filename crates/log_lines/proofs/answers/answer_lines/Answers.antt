use Rattle.std.proofs.Common.{arith, refl}
use Rattle.log_lines.proofs.Turns.{at_the_end, turns_fit, turns_none, turns_stay, turns_then}
use Rattle.log_lines.proofs.answers.answer_lines.Goals as goal

pub loop-so_far-init : goal.loop-so_far-init
loop-so_far-init c = (turns_none _ _ _ _ c.requires, refl)

pub answer_line-requires : goal.answer_line-requires
answer_line-requires c = (turns_fit c.requires c.loop-so_far.invariant.0 c.loop-so_far.invariant.1, omega (arith, c.loop-so_far-test.true))

pub loop-so_far-smaller : goal.loop-so_far-smaller
loop-so_far-smaller c = omega (arith, c.in-Some.ensures.1)

pub loop-so_far-preserved : goal.loop-so_far-preserved
loop-so_far-preserved c = (turns_then c.loop-so_far.invariant.0 c.in-Some.ensures.0, omega (arith, c.loop-so_far.invariant.1))

pub returns-in_default : goal.returns-in_default
returns-in_default c =
    let h = c.in_default.ensures in rw c.past_the_end.ensures (at_the_end _ (turns_stay c.loop-so_far.invariant.0 h.0 h.1) h.2)
