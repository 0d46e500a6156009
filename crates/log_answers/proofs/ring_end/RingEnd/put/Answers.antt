use Rattle.std.proofs.Common.{◌++◌, arith}
use Rattle.decimal.specs.Bytes.{bytes}
use Rattle.decimal.specs.Text.{decimal}
use Rattle.log_answers.proofs.Items.{ring_short}
use Rattle.log_answers.proofs.Texts.{item_wrote}
use Rattle.log_answers.proofs.ring_end.RingEnd.put.Goals as goal

pub returns : goal.returns
returns c =
    let s = c.args.self in
    let black = bytes ") (black " ++ (decimal s.black ++ c.args.last.now) in
    let flight = bytes ") (flight " ++ (decimal s.in_transit ++ black) in
    let moves = bytes ") (moves " ++ (decimal s.moves ++ flight) in
    let holder = bytes ") (holder " ++ (decimal s.position ++ moves) in (
      item_wrote (bytes "(end (boards ") s.nodes holder _ _ c.put_item-end.ensures
          (item_wrote (bytes ") (holder ") s.position moves _ _ c.put_item-end-2.ensures
          (item_wrote (bytes ") (moves ") s.moves flight _ _ c.put_item-end-3.ensures
          (item_wrote (bytes ") (flight ") s.in_transit black _ _ c.put_item-end-4.ensures
          (item_wrote (bytes ") (black ") s.black c.args.last.now _ _ c.put_item-end-5.ensures c.put_word.ensures)))),
      ring_short c.args.last.now s c.requires.1 (omega arith) (omega arith) (omega arith) (omega arith) (omega arith),
    )
