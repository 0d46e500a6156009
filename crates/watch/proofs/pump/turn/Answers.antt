use borrow.Author.Rules.{rules}
use mathlib.Core.Path.{ap}
use Rattle.std.specs.Prelude.{is_err}
use Rattle.watch.proofs.Turned.{failed_so, unread, unwritten}
use Rattle.watch.proofs.pump.turn.Goals as goal

pub returns-in_err-got : goal.returns-in_err-got
returns-in_err-got g c =
    failed_so _ c.from_residual.result c.from_residual.ensures.0
    (unread c.read.result c.read.new.buf (ap is_err c.in_err-got.was) c.read.ensures.bytes)

pub returns-in_err-put_all : goal.returns-in_err-put_all
returns-in_err-put_all g c =
    failed_so _ c.from_residual-in_err-put_all.result c.from_residual-in_err-put_all.ensures.0
    (unwritten c.read.new.buf c.feed-count.ensures c.in_err-put_all.ensures.why c.in_ok-got.ensures.bytes (search rules))
