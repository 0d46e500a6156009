use Rattle.std.proofs.Common.{◌++◌}
use Rattle.decimal.specs.Bytes.{bytes}
use Rattle.decimal.specs.Text.{decimal}
use Rattle.log_answers.proofs.Texts.{item_wrote}
use Rattle.log_answers.proofs.answer.put_no.Goals as goal

pub returns : goal.returns
returns c =
    rw (← c.number.ensures, ← c.from.ensures)
    (item_wrote (bytes "(no ") c.args.line (bytes " " ++ (decimal c.from.result ++ bytes ")\n")) _ _ c.put_item-after_line.ensures
    (item_wrote (bytes " ") c.from.result (bytes ")\n") _ _ c.put_item-after_number.ensures c.put_word.ensures))
