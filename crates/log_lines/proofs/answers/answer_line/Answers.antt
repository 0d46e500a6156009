use Rattle.std.proofs.Common.{arith, refl}
use Rattle.log_lines.proofs.Turns.{answer_room, turn}
use Rattle.log_lines.proofs.answers.answer_line.Goals as goal

pub put_answer-at-requires : goal.put_answer-at-requires
put_answer-at-requires c = answer_room _ _ c.in_ok-line.ensures (omega arith) c.requires.0.room

pub returns-in_err-line : goal.returns-in_err-line
returns-in_err-line c = rw c.from_residual.ensures (c.in_err-line.ensures.0, refl, c.in_err-line.ensures.1)

pub returns : goal.returns
returns c = (turn _ _ c.args.so_far c.args.piece.now _ _ _ _ c.requires.0.inside c.requires.1 c.in_ok-line.ensures c.put_answer-at.ensures, refl)
