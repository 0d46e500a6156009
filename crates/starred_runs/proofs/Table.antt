-- The table, from its parts.
use mathlib.Core.Bool.{true}
use mathlib.Core.List.{List, [], ◌++◌, ◌∷◌}
use mathlib.Core.Path.{◌≡◌}
use Rattle.laws.proofs.Tests.{both, both_true}
use Rattle.starred_runs.specs.Case.{Case, all_cases_pass, passes}
use Rattle.starred_runs.specs.TableRuns.{runs}
use Rattle.starred_runs.specs.Table.{AllPass, calls, refusals, rings, table, table_calls, trees, written}
use Rattle.starred_runs.specs.TableUpdates.{updates}
use Rattle.starred_runs.proofs.Calls.{calls_pass, table_calls_pass}
use Rattle.starred_runs.proofs.Refusals.{refusals_pass}
use Rattle.starred_runs.proofs.Runs.{runs_pass}
use Rattle.starred_runs.proofs.Soundness.{rings_pass, trees_pass, updates_pass}
use Rattle.starred_runs.proofs.Written.{written_pass}

joined : (cs ds : List Case) → all_cases_pass cs ≡ true → all_cases_pass ds ≡ true → all_cases_pass (cs ++ ds) ≡ true
unfolding all_cases_pass
joined [] ds h k = k
joined (c ∷ cs) ds h k =
    let first = both (passes c) (all_cases_pass cs) h in both_true first.0 (joined cs ds first.1 k)

pub all_pass : AllPass
unfolding table
all_pass =
    joined runs (rings ++ (trees ++ (updates ++ (refusals ++ (written ++ (table_calls ++ calls)))))) runs_pass
    (joined rings (trees ++ (updates ++ (refusals ++ (written ++ (table_calls ++ calls))))) rings_pass
    (joined trees (updates ++ (refusals ++ (written ++ (table_calls ++ calls)))) trees_pass
    (joined updates (refusals ++ (written ++ (table_calls ++ calls))) updates_pass
    (joined refusals (written ++ (table_calls ++ calls)) refusals_pass
    (joined written (table_calls ++ calls) written_pass (joined table_calls calls table_calls_pass calls_pass))))))
