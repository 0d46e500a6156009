use Rattle.std.proofs.Common.{arith, refl, sym, ◌∙◌}
use borrow.Author.Tests.{eq-eqb, ne_eqb}
use Rattle.decimal.proofs.Decimal.{decimal_width}
use Rattle.tree_text.specs.Text.{share}
use Rattle.laws.proofs.Columns.{any_default}
use Rattle.tree_writer.proofs.share_of.Goals as goal

pub returns-then-engager-node-eq-NO_ENGAGER-clause-share : goal.returns-then-engager-node-eq-NO_ENGAGER-clause-share
unfolding share
returns-then-engager-node-eq-NO_ENGAGER-clause-share c =
    let a = c.args in
    rw (eq-eqb _ _ (sym (any_default a.engager.now a.node 0 16 (omega arith)) ∙ c.if-engager-node-eq-NO_ENGAGER.true)) refl

pub overflow_add-result : goal.overflow_add-result
overflow_add-result c = record { fits = omega (arith, c.width.ensures, decimal_width 1 c.args.node (omega arith)) }

pub returns-clause-share : goal.returns-clause-share
unfolding share
returns-clause-share c =
    let a = c.args in
    rw (ne_eqb _ _ (λ p. c.if-engager-node-eq-NO_ENGAGER.false (any_default a.engager.now a.node 0 16 (omega arith) ∙ p))) (omega (arith, c.width.ensures))

pub returns-clause-small : goal.returns-clause-small
returns-clause-small c = omega (arith, c.width.ensures, decimal_width 1 c.args.node (omega arith))
