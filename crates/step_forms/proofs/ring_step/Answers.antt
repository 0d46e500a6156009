use mathlib.Core.Path.{ap, ◌∙◌}
use Rattle.forms.specs.Read.{ended}
use Rattle.forms.proofs.Steps.{ring_told}
use Rattle.step_forms.proofs.ring_step.Goals as goal

pub returns : goal.returns
returns c = ring_told c.args.s.now c.args.at _ (c.ended.ensures ∙ ap (ended c.args.s.now) c.ring_form.ensures)
