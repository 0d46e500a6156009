use Rattle.std.proofs.Common.{◌++◌, arith, length-append}
use Rattle.decimal.specs.Bytes.{bytes}
use Rattle.decimal.specs.Text.{decimal}
use Rattle.log_rules.specs.Answers.{ring_end_by}
use Rattle.log_answers.proofs.Items.{decimal_short}
use Rattle.log_answers.proofs.Texts.{item_wrote, item-length, wrote_then}
use Rattle.log_answers.proofs.ring_end.put_update_end.Goals as goal

pub returns : goal.returns
returns c =
    let text = ring_end_by (bytes ")))\n") c.args.ring.now c.args.moves in (
      item_wrote (bytes "(update ") c.args.update (bytes " " ++ text) _ _ c.put_item-end.ensures
          (wrote_then (bytes " ") text _ _ c.put_word-end.ensures c.put_ring.ensures.0),
      omega (
        arith,
        item-length (bytes "(update ") c.args.update (bytes " " ++ text),
        c.put_ring.ensures.1,
        length-append (bytes "(update ") (decimal c.args.update),
        length-append (bytes " ") text,
        decimal_short c.args.update (omega arith),
      ),
    )
