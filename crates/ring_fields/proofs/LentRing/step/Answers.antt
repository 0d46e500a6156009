use Rattle.std.proofs.Common.{◌≡◌, ap, rules, subst, sym, ◌∙◌}
use Rattle.std.specs.Prelude.{Err}
use Rattle.lent.specs.Ring.{Lent, SteppedTo}
use Rattle.refusal.specs.Answers.{verdict_from}
use Rattle.refusal.specs.Table.{code_of}
use Rattle.ring_fields.proofs.Found.{not_stepped, stepped}
use Rattle.ring_rules.proofs.Fields.{nodes_kept}
use Rattle.ring_rules.specs.Answers.{Answer, step_of}
use Rattle.ring_rules.specs.State.{State}
use Rattle.ring_fields.proofs.LentRing.step.Goals as goal

pub returns-in_err-step_checked-clause-told : goal.returns-in_err-step_checked-clause-told
returns-in_err-step_checked-clause-told c =
    let is : c.from_residual.result ≡ Err c.in_err-step_checked.field-0.0 = search rules in
    subst (λ x. SteppedTo c.args.self.now c.args.kind c.args.i c.args.j (code_of (verdict_from x)) c.args.self.now) (sym is)
    (not_stepped c.in_err-step_checked.field-0.0 c.step_checked.new.self c.kind_byte.ensures (sym c.has_truths.ensures ∙ c.if-not-has_truths.false)
    (c.in_err-step_checked.ensures ∙ ap (λ (r : State). step_of r c.kind_byte.result c.args.i c.args.j) c.gathered-ring.ensures))

pub returns-clause-told : goal.returns-clause-told
returns-clause-told c =
    subst (SteppedTo c.args.self.now c.args.kind c.args.i c.args.j 0) (sym c.from.ensures)
    (stepped c.step_checked.new.self c.kind_byte.ensures (sym c.has_truths.ensures ∙ c.if-not-has_truths.false)
    (c.in_ok-step_checked.ensures ∙ ap (λ (r : State). step_of r c.kind_byte.result c.args.i c.args.j) c.gathered-ring.ensures))

pub returns-clause-nodes : goal.returns-clause-nodes
returns-clause-nodes c =
    ap (λ (l : Lent). l.n) c.from.ensures ∙ ap (λ (a : Answer). a.state.n) c.in_ok-step_checked.ensures
    ∙ nodes_kept c.gathered-ring.result c.kind_byte.result c.args.i c.args.j ∙ ap (λ (r : State). r.n) c.gathered-ring.ensures
