use Rattle.log_lines.proofs.Firsts.{tree_begins}
use Rattle.log_lines.proofs.opening.open_tree.Goals as goal

pub returns : goal.returns
returns c = tree_begins _ _ _ c.in_ok-tree.ensures
