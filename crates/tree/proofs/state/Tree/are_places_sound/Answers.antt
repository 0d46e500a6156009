use Rattle.std.proofs.Common.{arith, rules, tests, ◌∙◌}
use Rattle.std.proofs.lemmas.Iterator.{YieldsList-from_range}
use Rattle.std.proofs.lemmas.Iterator.Search.{all_from_yields_List}
use Rattle.tree_rules.specs.Soundness.{place_test}
use Rattle.tree.proofs.Ranges.{all_range}
use Rattle.tree.proofs.state.Tree.are_places_sound.Goals as goal

pub returns : goal.returns
returns c =
    all_from_yields_List (place_test c.args.self.now) _ _ c.all.result c.all.ensures.ran (YieldsList-from_range 0 16 16 (cc) (omega arith)) (λ x b q k. search (rules, tests))
    ∙ all_range (place_test c.args.self.now) 16
