use Rattle.std.proofs.Common.{sym, ◌∙◌}
use Rattle.columns.proofs.Totals.{total-take}
use Rattle.columns.proofs.sum_to.Goals as goal

pub returns-clause-sums : goal.returns-clause-sums
returns-clause-sums c = c.sum_of.ensures.sums ∙ sym (total-take _ _ c.requires.places)
