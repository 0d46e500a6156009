-- The one table: document 01's starred runs, and the rows of its other headings. proofs/Table.antt computes it.
use Rattle.std.specs.Prelude.{true, List, ◌++◌, ◌≡◌}
use Rattle.starred_runs.specs.Case.{Case, all_cases_pass}
use Rattle.starred_runs.specs.TableLimits.{limits}
use Rattle.starred_runs.specs.TableNumbers.{numbers}
use Rattle.starred_runs.specs.TableRefusals.{order, outside}
use Rattle.starred_runs.specs.TableRuns.{runs}
use Rattle.starred_runs.specs.TableTexts.{texts}
use Rattle.starred_runs.specs.TableUpdates.{updates}
use Rattle.starred_runs.specs.TableLent as lent
use Rattle.starred_runs.specs.TableLentTrees as lent_tree
use Rattle.starred_runs.specs.TableLentUpdates as lent_table
use Rattle.starred_runs.specs.TableRings as ring
use Rattle.starred_runs.specs.TableTrees as tree

-- "A ring state is sound if"
unfoldable pub rings : List Case
rings = ring.range ++ (ring.flow ++ (ring.sums ++ (ring.safra ++ (ring.unused ++ ring.announced))))

-- "Sound", of the tree
unfoldable pub trees : List Case
trees = tree.chains ++ (tree.balance ++ (tree.resting ++ (tree.limit ++ (tree.unused ++ (tree.own ++ (tree.range ++ tree.announced))))))

-- "Where a request is turned back"
unfoldable pub refusals : List Case
refusals = order ++ (outside ++ limits)

-- the numbers and the texts that answers are made of
unfoldable pub written : List Case
written = numbers ++ texts

-- what other languages are told: of tables; of rings and trees
unfoldable pub table_calls : List Case
table_calls = lent_table.starts ++ (lent_table.steps ++ lent_table.soundness)

unfoldable pub calls : List Case
calls =
    lent.steps
    ++ (lent.soundness
    ++ (lent.drives
    ++ (lent.flags
    ++ (lent.starts ++ (lent_tree.steps ++ (lent_tree.soundness ++ (lent_tree.not_sound ++ (lent_tree.starts ++ lent_tree.texts))))))))

unfoldable pub table : List Case
table = runs ++ (rings ++ (trees ++ (updates ++ (refusals ++ (written ++ (table_calls ++ calls))))))

abbrev pub AllPass : Type 0
AllPass = all_cases_pass table ≡ true
