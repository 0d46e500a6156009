use Rattle.std.proofs.Common.{◌∙◌, ◌&&◌, Bool, ap, sym}
use Rattle.panel.proofs.Words.{old_by, old_none}
use Rattle.panel.proofs.marks.are_unused_old.Goals as goal

pub returns-then-all_are : goal.returns-then-all_are
returns-then-all_are c =
    ap (λ (b : Bool). b && c.all_are-then-all_are.result) (sym c.if-all_are.true)
    ∙ old_by c.args.n _ _ _ _ c.told-firmware c.told-map c.requires c.all_are.ensures c.all_are-then-all_are.ensures

pub returns-else-all_are : goal.returns-else-all_are
returns-else-all_are c = old_none c.args.n _ _ _ c.told-firmware c.all_are.ensures c.if-all_are.false
