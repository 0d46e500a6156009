use Rattle.decimal.specs.Bytes.{bytes}
use Rattle.log_answers.proofs.Texts.{item_wrote}
use Rattle.log_answers.proofs.answer.put_ok.Goals as goal

pub returns : goal.returns
returns c = item_wrote (bytes "(ok ") c.args.line (bytes ")\n") _ _ c.put_item-after_line.ensures c.put_word.ensures
