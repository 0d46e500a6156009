use Rattle.std.proofs.Common.{◌≡◌, ap, rules, subst, sym, ◌∙◌}
use Rattle.std.specs.Prelude.{Err, Result}
use Rattle.lent_panel.proofs.Panel.{panel_kind_same}
use Rattle.lent_panel.specs.Panel.{AskedTo, LentPanel}
use Rattle.panel_fields.proofs.Found.{same_nodes, truths_there, turned_back, went_on}
use Rattle.panel_rules.specs.Asks.{step_ask}
use Rattle.refusal.specs.Answers.{verdict_from}
use Rattle.refusal.specs.Table.{code_of}
use Rattle.refusal.specs.declared.Refusal.{Refusal}
use Rattle.panel_fields.proofs.LentPanel.step.Goals as goal

pub returns-in_err-step_checked-clause-told : goal.returns-in_err-step_checked-clause-told
returns-in_err-step_checked-clause-told c =
    let a = step_ask c.args.kind c.args.i c.args.j in
    let is : c.from_residual.result ≡ Err c.in_err-step_checked.field-0.0 = search rules in
    subst (λ (r : Result (Unit {0}) Refusal). AskedTo c.args.self.now a (code_of (verdict_from r)) c.args.self.now) (sym is)
    (turned_back c.args.self.now _ (truths_there _ _ (sym c.has_truths.ensures ∙ c.if-not-has_truths.false) c.gathered-panel.ensures) a _ _ (c.in_err-step_checked.ensures ∙ panel_kind_same _ _ c.args.kind _ _ c.kind_byte.ensures))

pub returns-clause-told : goal.returns-clause-told
returns-clause-told c =
    let a = step_ask c.args.kind c.args.i c.args.j in
    subst (AskedTo c.args.self.now a 0) (sym c.from.ensures)
    (went_on c.args.self.now _ (truths_there _ _ (sym c.has_truths.ensures ∙ c.if-not-has_truths.false) c.gathered-panel.ensures) a _ (c.in_ok-step_checked.ensures ∙ panel_kind_same _ _ c.args.kind _ _ c.kind_byte.ensures))

pub returns-clause-nodes : goal.returns-clause-nodes
returns-clause-nodes c =
    ap (λ (l : LentPanel). l.ring.n) c.from.ensures
    ∙ same_nodes c.args.self.now _ (truths_there _ _ (sym c.has_truths.ensures ∙ c.if-not-has_truths.false) c.gathered-panel.ensures) (step_ask c.kind_byte.result c.args.i c.args.j) _ (c.in_ok-step_checked.ensures)
