-- Calls of other languages on one tree, each on the fields that the last one left: steps, refused ones included.
use Rattle.std.specs.Prelude.{List, [], ◌∷◌}
use Rattle.lent.specs.Tree.{LentTree, tree_step_fields}
use Rattle.runs.specs.Runs.{Request}

unfoldable pub tree_fields_after : LentTree → List Request → LentTree
tree_fields_after l [] = l
tree_fields_after l (x ∷ xs) = tree_fields_after (tree_step_fields l x.kind x.i x.j) xs
