use Rattle.std.proofs.Common.{◌≡◌, rules, subst, sym, ◌∙◌}
use Rattle.std.specs.Prelude.{Err, Result}
use Rattle.lent_panel.specs.Panel.{AskedTo}
use Rattle.panel_fields.proofs.Found.{afresh, truths_there, turned_back, went_on}
use Rattle.panel_fields.specs.Fields.{IsStarted}
use Rattle.panel_rules.specs.Asks.{Start}
use Rattle.refusal.specs.Answers.{verdict_from}
use Rattle.refusal.specs.Table.{code_of}
use Rattle.refusal.specs.declared.Refusal.{Refusal}
use Rattle.panel_fields.proofs.LentPanel.start.Goals as goal

pub returns-in_err-start_checked-clause-told : goal.returns-in_err-start_checked-clause-told
returns-in_err-start_checked-clause-told c =
    let a = Start c.args.nodes c.args.flags.now in
    let is : c.from_residual.result ≡ Err c.in_err-start_checked.field-0.0 = search rules in
    subst (λ (r : Result (Unit {0}) Refusal). AskedTo c.args.self.now a (code_of (verdict_from r)) c.args.self.now) (sym is)
    (turned_back c.args.self.now _ (truths_there _ _ (sym c.has_truths.ensures ∙ c.if-not-has_truths.false) c.gathered-panel.ensures) a _ _ (c.in_err-start_checked.ensures))

pub returns-clause-told : goal.returns-clause-told
returns-clause-told c =
    let a = Start c.args.nodes c.args.flags.now in
    subst (AskedTo c.args.self.now a 0) (sym c.from.ensures)
    (went_on c.args.self.now _ (truths_there _ _ (sym c.has_truths.ensures ∙ c.if-not-has_truths.false) c.gathered-panel.ensures) a _ (c.in_ok-start_checked.ensures))

pub returns-clause-kept : goal.returns-clause-kept
returns-clause-kept c =
    subst (IsStarted c.args.self.now) (sym c.from.ensures)
    (afresh c.args.self.now _ (truths_there _ _ (sym c.has_truths.ensures ∙ c.if-not-has_truths.false) c.gathered-panel.ensures) c.args.nodes c.args.flags.now _ (c.in_ok-start_checked.ensures))
