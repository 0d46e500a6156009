use Rattle.std.proofs.Common.{◌≡◌, ◌+◌, ◌-◌, ℕ, arith, ap, sym, ◌∙◌}
use Rattle.tree_rules.proofs.Chains.{climb_link}
use Rattle.tree_rules.specs.State.{climb, engager_at}
use Rattle.std.specs.Option.{unwrap_or}
use Rattle.std.specs.Prelude.{Option}
use Rattle.tree.proofs.Laws.{linked}
use Rattle.tree.proofs.state.Tree.chain_end.Goals as goal

pub loop-preserved : goal.loop-preserved
loop-preserved c =
    let next : c.unwrap_or-end.result ≡ engager_at c.args.self.now c.loop.end = c.unwrap_or-end.ensures ∙ ap (λ (o : Option ℕ). unwrap_or o 16) c.engager_of.ensures.told ∙ linked c.args.self.now c.loop.end in
    ap (climb c.args.self.now.engager (16 - (c.loop.counter + 1))) next
    ∙ sym (climb_link c.args.self.now.engager 16 c.loop.counter c.loop.end (omega arith)) ∙ c.loop.invariant

pub returns : goal.returns
unfolding climb
returns c = let done : 16 - c.loop.counter ≡ 0 = omega arith in
    sym (ap (λ (x : ℕ). climb c.args.self.now.engager x c.loop.end) done) ∙ c.loop.invariant
