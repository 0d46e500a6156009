use Rattle.std.proofs.Common.{◌≡◌, ◌-◌}
use Rattle.tree_rules.specs.State.{climb}
use Rattle.tree.proofs.state.Tree.chain_end.Given as goal

abbrev pub invariant-loop : goal.invariant-loop
invariant-loop l = climb l.self.engager (16 - l.counter) l.end ≡ climb l.self.engager 16 l.node
