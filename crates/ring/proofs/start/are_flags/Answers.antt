use Rattle.std.proofs.Common.{◌∙◌}
use Rattle.ring.proofs.Flags.{are_small}
use Rattle.ring.proofs.start.are_flags.Goals as goal

pub returns-then-flags-n : goal.returns-then-flags-n
returns-then-flags-n c = c.are_small.ensures ∙ are_small _ _ c.if-flags-n.true
