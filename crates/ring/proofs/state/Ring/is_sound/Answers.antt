use mir.Facts.{to_z-of_z}
use mir.Syntax.{w64}
use mir.Val.{SFits}
use Rattle.std.proofs.Common.{◌≡◌, ◌<◌, true, false, rules, ap, subst, sym, ◌∙◌}
use Rattle.ring_rules.specs.Soundness.{Shape, safra_test}
use Rattle.ring_rules.specs.State.{State}
use Rattle.ring.specs.Seen.{safra_seen}
use Rattle.ring.proofs.Parts.{closed_decides, closed_part, flow_fails, open_part, range_fails, safra_fails, sum_fails, unused_fails}
use Rattle.ring.proofs.Tests.{flow_seen_lem, safra_seen_lem}
use Rattle.ring.proofs.state.Ring.is_sound.Goals as goal

pub returns-then-not-is_in_range : goal.returns-then-not-is_in_range
returns-then-not-is_in_range c = sym (range_fails _ (sym c.is_in_range.ensures.test ∙ c.if-not-is_in_range.true))

pub returns-then-not-is_near : goal.returns-then-not-is_near
returns-then-not-is_near c = sym (sum_fails _ (sym c.is_near.ensures.test ∙ c.if-not-is_near.true))

pub returns-then-not-flows : goal.returns-then-not-flows
returns-then-not-flows c =
    let flow = c.flows.ensures ∙ flow_seen_lem c.args.self.now _ c.walk-seen.ensures in
    sym (flow_fails _ (sym flow ∙ c.if-not-flows.true))

pub returns-then-not-is_safra : goal.returns-then-not-is_safra
returns-then-not-is_safra c =
    let f : SFits w64 c.self.inside.q = search rules in
    let holder : c.args.self.now.pos < c.args.self.now.n = search rules in
    let four : c.is_safra.result ≡ safra_test c.args.self.now =
    c.is_safra.ensures ∙ rw (to_z-of_z f) (subst (λ (r : State). safra_seen r.q r.black c.walk-seen.result ≡ safra_test c.args.self.now) (sym c.self.view_is) (safra_seen_lem c.args.self.now _ c.walk-seen.ensures holder)) in
    sym (safra_fails _ (sym four ∙ c.if-not-is_safra.true))

pub returns-then-not-is_unused : goal.returns-then-not-is_unused
returns-then-not-is_unused c = sym (unused_fails _ (sym c.is_unused.ensures ∙ c.if-not-is_unused.true))

pub returns-then-self : goal.returns-then-self
returns-then-self c =
    let f : SFits w64 c.self.inside.q = search rules in
    let holder : c.args.self.now.pos < c.args.self.now.n = search rules in
    let flow = c.flows.ensures ∙ flow_seen_lem c.args.self.now _ c.walk-seen.ensures in
    let four : c.is_safra.result ≡ safra_test c.args.self.now =
    c.is_safra.ensures ∙ rw (to_z-of_z f) (subst (λ (r : State). safra_seen r.q r.black c.walk-seen.result ≡ safra_test c.args.self.now) (sym c.self.view_is) (safra_seen_lem c.args.self.now _ c.walk-seen.ensures holder)) in
    let shape : Shape c.args.self.now = subst Shape c.self.view_is (record { active_places = search rules; color_bytes = search rules; sent_places = search rules; received_places = search rules; pending_places = search rules }) in
    let closed : c.args.self.now.closed ≡ true = ap (λ (r : State). r.closed) (sym c.self.view_is) ∙ c.if-self.true in
    let rest = closed_decides _ shape (sym c.is_in_range.ensures.test ∙ c.if-not-is_in_range.false) (sym flow ∙ c.if-not-flows.false) (sym c.is_near.ensures.test ∙ c.if-not-is_near.false) (sym four ∙ c.if-not-is_safra.false) (sym c.is_unused.ensures ∙ c.if-not-is_unused.false) in
    c.is_conclusive.ensures ∙ sym (rest ∙ closed_part _ closed)

pub returns : goal.returns
returns c =
    let f : SFits w64 c.self.inside.q = search rules in
    let holder : c.args.self.now.pos < c.args.self.now.n = search rules in
    let flow = c.flows.ensures ∙ flow_seen_lem c.args.self.now _ c.walk-seen.ensures in
    let four : c.is_safra.result ≡ safra_test c.args.self.now =
    c.is_safra.ensures ∙ rw (to_z-of_z f) (subst (λ (r : State). safra_seen r.q r.black c.walk-seen.result ≡ safra_test c.args.self.now) (sym c.self.view_is) (safra_seen_lem c.args.self.now _ c.walk-seen.ensures holder)) in
    let shape : Shape c.args.self.now = subst Shape c.self.view_is (record { active_places = search rules; color_bytes = search rules; sent_places = search rules; received_places = search rules; pending_places = search rules }) in
    let closed : c.args.self.now.closed ≡ false = ap (λ (r : State). r.closed) (sym c.self.view_is) ∙ c.if-self.false in
    let rest = closed_decides _ shape (sym c.is_in_range.ensures.test ∙ c.if-not-is_in_range.false) (sym flow ∙ c.if-not-flows.false) (sym c.is_near.ensures.test ∙ c.if-not-is_near.false) (sym four ∙ c.if-not-is_safra.false) (sym c.is_unused.ensures ∙ c.if-not-is_unused.false) in
    sym (rest ∙ open_part _ closed)
