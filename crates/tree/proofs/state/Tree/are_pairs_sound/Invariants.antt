use Rattle.std.proofs.Common.{◌≡◌}
use Rattle.laws.specs.Places.{all_to}
use Rattle.tree_rules.specs.Soundness.{pair_test}
use Rattle.tree.proofs.state.Tree.are_pairs_sound.Given as goal

abbrev pub invariant-loop-to : goal.invariant-loop-to
invariant-loop-to l = l.sound ≡ all_to l.to (pair_test l.fn.self l.from)
