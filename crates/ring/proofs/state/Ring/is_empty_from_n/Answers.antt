use Rattle.std.proofs.Common.{◌≡◌, ◌≤◌, arith, subst, sym}
use Rattle.ring_rules.specs.State.{State}
use Rattle.ring.proofs.Parts.{EmptyTo, empty_begun, empty_more}
use Rattle.ring.proofs.state.Ring.is_empty_from_n.Goals as goal

pub loop-node-init : goal.loop-node-init
loop-node-init c =
    let r = c.self.inside in
    let few : r.n ≤ 96 = subst (λ (s : State). s.n ≤ 96) (sym c.self.view_is) c.requires in (
      omega arith,
      omega (arith, few),
      empty_begun r.n r.active r.sent r.received r.pending,
    )

pub loop-node-preserved : goal.loop-node-preserved
loop-node-preserved c =
    let r = c.self.inside in
    let so_far = c.loop-node.invariant in (
      omega arith,
      omega arith,
      empty_more r.n r.active r.sent r.received r.pending c.loop-node.node c.loop-node.empty so_far.0 so_far.2,
    )

pub returns : goal.returns
returns c =
    let r = c.self.inside in
    let so_far = c.loop-node.invariant in
    let end : c.loop-node.node ≡ 96 = omega arith in
    subst (λ (s : State). EmptyTo s.n s.active s.sent s.received s.pending 96 c.loop-node.empty) c.self.view_is
    (subst (λ m. EmptyTo r.n r.active r.sent r.received r.pending m c.loop-node.empty) end so_far.2)
