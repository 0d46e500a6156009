use Rattle.std.proofs.Common.{◌≡◌, ◌≤◌}
use Rattle.laws.specs.Sums.{count_to}
use Rattle.tree_rules.specs.State.{is_child}
use Rattle.tree.proofs.state.Tree.children_of.Given as goal

abbrev pub invariant-loop-node : goal.invariant-loop-node
invariant-loop-node l = (l.children ≡ count_to l.node (is_child l.fn.self.root l.fn.self.engager l.engager)) × (l.children ≤ l.node)
