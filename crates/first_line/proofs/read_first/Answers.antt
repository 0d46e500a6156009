use mathlib.Core.Path.{ap, ◌∙◌}
use Rattle.forms.specs.Read.{lined}
use Rattle.first_line.proofs.Opens.{first_line_is_told}
use Rattle.first_line.proofs.read_first.Goals as goal

pub returns : goal.returns
returns c = first_line_is_told c.args.s.now c.args.at _ (c.lined.ensures ∙ ap (lined c.args.s.now c.args.at) c.start_at.ensures)
