use Rattle.log_answers.proofs.ring_end.put_ring.Goals as goal

pub returns : goal.returns
returns c = rw c.of.ensures at c.put.ensures
