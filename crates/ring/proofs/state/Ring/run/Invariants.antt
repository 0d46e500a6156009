use Rattle.std.proofs.Common.{◌≡◌, ◌-◌, ◌≤◌}
use Rattle.ring_rules.specs.Driver.{drive_from}
use Rattle.ring_rules.specs.Soundness.{Open}
use Rattle.ring.proofs.state.Ring.run.Given as goal

abbrev pub invariant-loop-limit : goal.invariant-loop-limit
invariant-loop-limit l = Open l.self × (l.moves ≤ l.limit) × (drive_from (l.limit - l.moves) l.moves l.self ≡ drive_from l.limit 0 l.fn.self)

abbrev pub decreases-loop-limit : goal.decreases-loop-limit
decreases-loop-limit l = l.limit - l.moves
