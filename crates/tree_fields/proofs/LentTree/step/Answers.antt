use Rattle.std.proofs.Common.{ap, subst, sym, ◌∙◌}
use Rattle.lent.specs.Tree.{LentTree, TreeSteppedTo}
use Rattle.tree_rules.proofs.Fields.{nodes_kept, root_kept}
use Rattle.tree_rules.specs.Answers.{Answer, step_of}
use Rattle.tree_rules.specs.State.{State}
use Rattle.tree_fields.proofs.Found.{stepped}
use Rattle.tree_fields.proofs.LentTree.step.Goals as goal

pub returns-clause-told : goal.returns-clause-told
returns-clause-told c =
    subst (TreeSteppedTo c.args.self.now c.args.kind c.args.i c.args.j 0) (sym c.from.ensures)
    (stepped c.step_checked.new.self c.kind_byte.ensures (sym c.has_truths.ensures ∙ c.if-not-has_truths.false)
    (c.in_ok-step_checked.ensures ∙ ap (λ (t : State). step_of t c.kind_byte.result c.args.i c.args.j) c.gathered-tree.ensures))

pub returns-clause-nodes : goal.returns-clause-nodes
returns-clause-nodes c =
    ap (λ (l : LentTree). l.n) c.from.ensures ∙ ap (λ (a : Answer). a.state.n) c.in_ok-step_checked.ensures
    ∙ nodes_kept c.gathered-tree.result c.kind_byte.result c.args.i c.args.j ∙ ap (λ (t : State). t.n) c.gathered-tree.ensures

pub returns-clause-root : goal.returns-clause-root
returns-clause-root c =
    ap (λ (l : LentTree). l.root) c.from.ensures ∙ ap (λ (a : Answer). a.state.root) c.in_ok-step_checked.ensures
    ∙ root_kept c.gathered-tree.result c.kind_byte.result c.args.i c.args.j ∙ ap (λ (t : State). t.root) c.gathered-tree.ensures
