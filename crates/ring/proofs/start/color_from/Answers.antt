use Rattle.std.proofs.Common.{◌∙◌}
use Rattle.ring.proofs.Flags.{color_black, color_white}
use Rattle.ring.proofs.start.color_from.Goals as goal
use Rattle.ring.proofs.start.color_from.Goals.{then-flag-eq1, else-flag-eq1}

pub loop-node-preserved : goal.loop-node-preserved
loop-node-preserved c =
    elim c.if-flag-eq1.branch [
      | then-flag-eq1 w ↦ w.color-is ∙ w.blacken.ensures ∙ color_black _ _ _ c.loop-node.invariant w.if-flag-eq1.true
      | else-flag-eq1 w ↦ w.color-is ∙ color_white _ _ _ c.loop-node.invariant w.if-flag-eq1.false
    ]
