use mathlib.Core.Path.{ap, ◌∙◌}
use Rattle.forms.specs.Read.{ended}
use Rattle.forms.proofs.Steps.{tree_told}
use Rattle.step_forms.proofs.tree_step.Goals as goal

pub returns : goal.returns
returns c = tree_told c.args.s.now c.args.at _ (c.ended.ensures ∙ ap (ended c.args.s.now) c.tree_form.ensures)
