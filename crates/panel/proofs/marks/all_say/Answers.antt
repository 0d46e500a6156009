use Rattle.std.proofs.Common.{◌∙◌, ◌&&◌, Bool, ap, arith, sym}
use Rattle.panel.proofs.Words.{said_by, said_none}
use Rattle.panel.proofs.marks.all_say.Goals as goal

pub returns-then-all_are : goal.returns-then-all_are
returns-then-all_are c =
    ap (λ (b : Bool). b && c.all_are-then-all_are.result) (sym c.if-all_are.true)
    ∙ said_by c.args.word c.args.n _ _ _ _ (omega arith) (omega arith) c.all_are.ensures c.all_are-then-all_are.ensures

pub returns-else-all_are : goal.returns-else-all_are
returns-else-all_are c = said_none c.args.word c.args.n _ _ _ (omega arith) c.all_are.ensures c.if-all_are.false
