use Rattle.std.proofs.Common.{◌≡◌, ap, arith, refl, true, false, ℕ, Bool, ◌≤◌, ◌∙◌}
use Rattle.std.specs.Prelude.{cond}
use Rattle.std.specs.Int.{from_bool}
use Rattle.laws.proofs.Sums.{count_next, count_none}
use Rattle.laws.specs.Sums.{count_to}
use Rattle.tree_rules.specs.State.{children, is_child}
use Rattle.tree.proofs.state.Tree.children_of.Goals as goal

one_of : (b : Bool) → (from_bool b ≡ cond b 1 0) × (from_bool b ≤ 1)
one_of true = (refl, omega arith)
one_of false = (refl, omega arith)

pub loop-node-init : goal.loop-node-init
loop-node-init c = omega (arith, count_none (is_child c.args.self.now.root c.args.self.now.engager c.args.engager))

pub loop-node-preserved : goal.loop-node-preserved
loop-node-preserved c =
    let test = is_child c.args.self.now.root c.args.self.now.engager c.args.engager in
    let one = one_of c.is_child.result in
    let told : c.from-children.result ≡ cond (test c.loop-node.node) 1 0 = c.from-children.ensures ∙ one.0 ∙ ap (λ (b : Bool). cond b 1 0) c.is_child.ensures in
    omega (arith, told, one.1, count_next c.loop-node.node test)

pub returns-clause-total : goal.returns-clause-total
unfolding children
returns-clause-total c =
    let done : c.loop-node.node ≡ 16 = omega arith in
    c.loop-node.invariant.0 ∙ ap (λ (x : ℕ). count_to x (is_child c.args.self.now.root c.args.self.now.engager c.args.engager)) done
