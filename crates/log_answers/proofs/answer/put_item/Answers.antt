use Rattle.decimal.specs.Text.{decimal}
use Rattle.log_answers.proofs.Texts.{wrote_then}
use Rattle.log_answers.proofs.answer.put_item.Goals as goal

pub returns : goal.returns
returns c = wrote_then c.args.word.now (decimal c.args.number) _ _ c.put_word-end.ensures c.put_decimal.ensures
