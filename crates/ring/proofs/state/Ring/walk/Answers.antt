use Rattle.std.proofs.Common.{rules, ◌≡◌, ◌≤◌, ◌<◌, arith, sym, subst}
use Rattle.ring_rules.specs.State.{State}
use Rattle.ring.proofs.Nodes.{behind_node, going_all, going_none, higher_kept, higher_node, lower_kept, lower_node}
use Rattle.ring.proofs.state.Ring.walk.Goals as goal
use Rattle.ring.proofs.state.Ring.walk.Goals.{then-self-node, else-self-node}

pub loop-node-init : goal.loop-node-init
loop-node-init c = going_none _ _ _ _ _ _ _ (omega arith) (omega arith)

pub loop-node-preserved-then-node-self : goal.loop-node-preserved-then-node-self
loop-node-preserved-then-node-self c =
    let so_far = c.loop-node.invariant in
    let some = c.loop-node-test.true in
    let sends = behind_node _ _ so_far.sends some c.from-sent.ensures (search rules) in
    let receipts = behind_node _ _ so_far.receipts some c.from-received.ensures (search rules) in
    let transit = behind_node _ _ so_far.transit some c.from-pending.ensures (search rules) in
    record {
      left = omega (arith, so_far.left);
      sends = sends;
      receipts = receipts;
      transit = transit;
      higher =
          elim c.if-self-node.branch [
            | then-self-node w ↦ higher_node _ _ _ _ _ c.loop-node.passive sends receipts so_far.higher.passive some w.if-self-node.true w.sent_above-is w.received_above-is w.passive-is
            | else-self-node w ↦ higher_kept _ _ _ _ _ _ _ so_far.higher some w.if-self-node.false w.sent_above-is w.received_above-is w.passive-is
          ];
      lower = lower_node c.self.inside.color c.self.inside.n c.self.inside.pos c.loop-node.node c.loop-node.white so_far.lower some _ c.is_black.ensures c.if-node-self.true;
    }

pub loop-node-preserved : goal.loop-node-preserved
loop-node-preserved c =
    let so_far = c.loop-node.invariant in
    let some = c.loop-node-test.true in
    let sends = behind_node _ _ so_far.sends some c.from-sent.ensures (search rules) in
    let receipts = behind_node _ _ so_far.receipts some c.from-received.ensures (search rules) in
    let transit = behind_node _ _ so_far.transit some c.from-pending.ensures (search rules) in
    record {
      left = omega (arith, so_far.left);
      sends = sends;
      receipts = receipts;
      transit = transit;
      higher =
          elim c.if-self-node.branch [
            | then-self-node w ↦ higher_node _ _ _ _ _ c.loop-node.passive sends receipts so_far.higher.passive some w.if-self-node.true w.sent_above-is w.received_above-is w.passive-is
            | else-self-node w ↦ higher_kept _ _ _ _ _ _ _ so_far.higher some w.if-self-node.false w.sent_above-is w.received_above-is w.passive-is
          ];
      lower = lower_kept c.self.inside.color c.self.inside.n c.self.inside.pos c.loop-node.node c.loop-node.white so_far.lower some c.if-node-self.false;
    }

pub returns : goal.returns
returns c =
    let end : c.loop-node.node ≡ 0 = omega arith in
    let most : c.self.inside.n ≤ 96 = subst (λ (r : State). r.n ≤ 96) (sym c.self.view_is) c.requires.nodes in
    let holder : c.self.inside.pos < c.self.inside.n = subst (λ (r : State). r.pos < r.n) (sym c.self.view_is) c.requires.holder in
    rw (← c.self.view_is) (going_all _ _ _ _ _ _ _ _ holder most c.loop-node.invariant end)
