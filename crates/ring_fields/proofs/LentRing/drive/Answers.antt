use Rattle.std.proofs.Common.{◌≡◌, ap, rules, subst, sym, ◌∙◌}
use Rattle.std.specs.Prelude.{Err}
use Rattle.lent.specs.Ring.{DrivenTo, state_of}
use Rattle.ring_fields.proofs.Found.{accepted, drove, not_driven, token_moved}
use Rattle.ring_fields.specs.Fields.{DroveTo, IsTokenMoved}
use Rattle.ring_rules.proofs.Fields.{drive_keeps, unmoved}
use Rattle.ring_rules.specs.Driver.{Driven, drive_of, reason_number, stop_at}
use Rattle.ring_rules.specs.Reasons.{reason_of}
use Rattle.ring_rules.specs.State.{State}
use Rattle.ring_fields.proofs.LentRing.drive.Goals as goal

pub returns-in_err-made-clause-told : goal.returns-in_err-made-clause-told
returns-in_err-made-clause-told c =
    let f = sym c.has_truths.ensures ∙ c.if-not-has_truths.false in
    let is : c.from_residual.result ≡ Err c.in_err-made.field-0.0 = search rules in
    subst (λ x. DroveTo c.args.self.now c.args.limit x c.args.self.now) (sym is)
    (not_driven c.in_err-made.field-0.0 c.drive_in_place.new.self c.limit_word.ensures f
    (c.in_err-made.ensures ∙ ap (λ (r : State). drive_of r c.limit_word.result) c.gathered-ring.ensures))

pub returns-clause-told : goal.returns-clause-told
returns-clause-told c same =
    let f = sym c.has_truths.ensures ∙ c.if-not-has_truths.false in
    let d : Driven = stop_at (reason_of c.in_ok-made.made.0) c.in_ok-made.made.1 c.drive_in_place.new.self in
    subst (DrivenTo c.args.self.now c.args.limit (reason_number (reason_of c.in_ok-made.made.0)) same c.in_ok-made.made.1) (sym c.from.ensures)
    (drove d c.limit_word.ensures f (c.in_ok-made.ensures ∙ ap (λ (r : State). drive_of r c.limit_word.result) c.gathered-ring.ensures) (accepted c.in_ok-made.made.0) same)

pub returns-clause-kept : goal.returns-clause-kept
returns-clause-kept c =
    let f = sym c.has_truths.ensures ∙ c.if-not-has_truths.false in
    subst (IsTokenMoved c.args.self.now) (sym c.from.ensures)
    (token_moved c.args.self.now c.drive_in_place.new.self f
    (ap (λ (d : Driven). unmoved d.state) (c.in_ok-made.ensures ∙ ap (λ (r : State). drive_of r c.limit_word.result) c.gathered-ring.ensures) ∙ drive_keeps (state_of c.args.self.now) c.limit_word.result))
