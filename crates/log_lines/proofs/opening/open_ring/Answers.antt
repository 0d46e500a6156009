use Rattle.log_lines.proofs.Firsts.{ring_begins, ring_refused}
use Rattle.log_lines.proofs.opening.open_ring.Goals as goal

pub returns-in_err-ring : goal.returns-in_err-ring
returns-in_err-ring c = absurd (ring_refused c.args.start.now c.in_ok-judge.ensures c.requires c.in_err-ring.ensures)

pub returns : goal.returns
returns c = ring_begins c.args.start.now c.in_ok-judge.ensures c.requires _ c.in_ok-ring.ensures
