use mir.Facts.{to_z-of_z}
use mir.Syntax.{w64}
use mir.Val.{SFits}
use Rattle.std.proofs.Common.{arith, rules}
use Rattle.std.proofs.lemmas.Grind.{common_steps}
use Rattle.ring_rules.proofs.Soundness.{true_sound}
use Rattle.ring_rules.specs.Answers.{answer_of, verdict_of}
use Rattle.ring_rules.specs.Rules.{may_pass}
use Rattle.ring.proofs.state.Ring.apply_pass.Goals as goal

pub returns : goal.returns
unfolding answer_of verdict_of may_pass
returns c =
    let f : SFits w64 c.plus_counter-self-inside.result = search rules in
    rw (to_z-of_z f) (grind (arith, common_steps, true_sound))
