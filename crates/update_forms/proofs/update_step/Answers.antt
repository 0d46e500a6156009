use mathlib.Core.Path.{sym, ap, ◌∙◌}
use Rattle.update_forms.specs.Read.{step_in}
use Rattle.update_forms.proofs.Held.{step_held, no_step_held, update_told}
use Rattle.update_forms.proofs.update_step.Goals as goal

pub returns-in_err-update : goal.returns-in_err-update
returns-in_err-update c =
    let a = c.args in
    update_told a.s.now a.at _ (c.from_residual.ensures ∙ no_step_held a.s.now a.at (sym c.opened.ensures ∙ c.in_err-update.was))

pub returns : goal.returns
returns c =
    let a = c.args in
    update_told a.s.now a.at _
    (c.step_in.ensures ∙ (ap (step_in a.s.now c.in_ok-update.update) c.ring_form.ensures ∙ step_held a.s.now a.at _ _ (sym c.opened.ensures ∙ c.in_ok-update.was)))
