-- Q-1 and Q-5: a table is sound if its started updates are, each within its own limit, with one N: for each clause a table that breaks it, and
-- beside it the nearest tables that are sound. A ring that is not sound breaks two tests, and both are named.
use Rattle.std.specs.Prelude.{List, [], ◌∷◌}
use Rattle.ring_rules.specs.State.{State}
use Rattle.table_rules.specs.Table.{Started, Table, empty_table, put}
use Rattle.starred_runs.specs.Case.{Case, Each, OneN, table_sound, table_unsound}
use Rattle.starred_runs.specs.RingStates.{active, handed, nodes, pending, sent}

-- updates 0 and 7 are these rings, and the others are not started
abbrev pub two : State → State → Table
two r s = put (put empty_table 0 (Started r)) 7 (Started s)

unfoldable pub updates : List Case
updates =
    table_sound empty_table
    ∷ table_sound (two (handed (active 2 ∷ [])) (handed []))
    -- "its started updates are"
    ∷ table_unsound (Each ∷ OneN ∷ []) (two (handed (active 3 ∷ [])) (handed []))
    ∷ table_unsound (Each ∷ OneN ∷ []) (two (handed []) (handed (active 3 ∷ [])))
    -- "with one N"
    ∷ table_sound (two (handed (nodes 2 ∷ [])) (handed (nodes 2 ∷ [])))
    ∷ table_unsound (OneN ∷ []) (two (handed (nodes 2 ∷ [])) (handed []))
    ∷ table_unsound (OneN ∷ []) (two (handed []) (handed (nodes 2 ∷ [])))
    -- "its own limit of 1,000,000": so many of each of the two, and one more of either
    ∷ table_sound (two (handed (sent 0 999999 ∷ pending 1 999999 ∷ [])) (handed (sent 2 2 ∷ pending 1 2 ∷ [])))
    ∷ table_sound (two (handed (sent 0 1000000 ∷ pending 1 1000000 ∷ [])) (handed (sent 2 1000000 ∷ pending 1 1000000 ∷ [])))
    ∷ table_unsound (Each ∷ OneN ∷ []) (two (handed (sent 0 1000001 ∷ pending 1 1000001 ∷ [])) (handed []))
    ∷ table_unsound (Each ∷ OneN ∷ []) (two (handed []) (handed (sent 2 1000001 ∷ pending 1 1000001 ∷ [])))
    ∷ []
