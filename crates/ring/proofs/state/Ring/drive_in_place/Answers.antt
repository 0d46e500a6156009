use Rattle.std.proofs.Common.{sym}
use Rattle.ring.proofs.Moves.{may_run}
use Rattle.ring.proofs.state.Ring.drive_in_place.Goals as goal

pub run-requires : goal.run-requires
run-requires c = may_run c.args.self.now c.args.limit (sym c.in_default.ensures)
