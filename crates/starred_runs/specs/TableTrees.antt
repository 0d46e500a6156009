-- Document 01, "Sound": for each clause a tree that breaks it alone, and beside it the nearest trees that are sound. Where two tests look at
-- the same field, both are named.
use Rattle.std.specs.Prelude.{List, [], ◌∷◌}
use Rattle.starred_runs.specs.Case.{Case, tree_sound, tree_unsound}
use Rattle.starred_runs.specs.TreeStates.{acks, active, closed, engager, handed, message, nodes, passive, root, sends, unacked}
use Rattle.starred_runs.specs.Case as test

-- "every engaged board's chain of engagers reaches the root"
unfoldable pub chains : List Case
chains =
    tree_sound (handed (engager 1 0 ∷ engager 2 1 ∷ unacked 0 1 ∷ unacked 1 1 ∷ sends 2 ∷ []))
    ∷ tree_unsound (test.Chains ∷ []) (handed (engager 1 2 ∷ engager 2 1 ∷ unacked 1 1 ∷ unacked 2 1 ∷ sends 2 ∷ []))
    ∷ tree_unsound (test.Chains ∷ []) (handed (engager 1 1 ∷ unacked 1 1 ∷ sends 1 ∷ []))
    ∷ []

-- "unacked of j equals j's jobs under way plus acknowledgements to j plus boards whose engager is j (the root not counted under itself)"
unfoldable pub balance : List Case
balance =
    tree_sound (handed (message 0 1 ∷ unacked 0 1 ∷ sends 1 ∷ []))
    ∷ tree_sound (handed (acks 0 1 ∷ unacked 0 1 ∷ sends 1 ∷ []))
    ∷ tree_sound (handed (engager 1 0 ∷ unacked 0 1 ∷ sends 1 ∷ []))
    ∷ tree_unsound (test.Balance ∷ []) (handed (unacked 0 1 ∷ sends 1 ∷ []))
    ∷ tree_unsound (test.Balance ∷ []) (handed (message 0 1 ∷ sends 1 ∷ []))
    ∷ tree_unsound (test.Balance ∷ []) (handed (acks 0 1 ∷ sends 1 ∷ []))
    ∷ tree_unsound (test.Balance ∷ []) (handed (engager 1 0 ∷ sends 1 ∷ []))
    ∷ []

-- "a board without engager is idle with unacked 0"
unfoldable pub resting : List Case
resting =
    tree_sound (handed (active 1 ∷ engager 1 0 ∷ unacked 0 1 ∷ sends 1 ∷ []))
    ∷ tree_unsound (test.Resting ∷ []) (handed (active 1 ∷ []))
    ∷ tree_sound (handed (message 1 2 ∷ unacked 1 1 ∷ engager 1 0 ∷ unacked 0 1 ∷ sends 2 ∷ []))
    ∷ tree_unsound (test.Resting ∷ []) (handed (message 1 2 ∷ unacked 1 1 ∷ sends 2 ∷ []))
    ∷ []

-- "unacked totals at most the accepted sends, at most 1,000,000"
unfoldable pub limit : List Case
limit =
    tree_unsound (test.Limit ∷ []) (handed (message 0 1 ∷ unacked 0 1 ∷ sends 0 ∷ []))
    ∷ tree_sound (handed (sends 1000000 ∷ []))
    ∷ tree_unsound (test.Limit ∷ []) (handed (sends 1000001 ∷ []))
    ∷ []

-- "unused places .. are empty (engager 16)"
unfoldable pub unused : List Case
unused =
    tree_unsound (test.Resting ∷ []) (handed (active 3 ∷ []))
    ∷ tree_unsound (test.Engagers ∷ []) (handed (engager 3 0 ∷ unacked 0 1 ∷ sends 1 ∷ []))
    ∷ tree_unsound (test.Balance ∷ test.Resting ∷ []) (handed (unacked 3 1 ∷ sends 1 ∷ []))
    ∷ tree_unsound (test.Balance ∷ []) (handed (acks 3 1 ∷ sends 1 ∷ []))
    ∷ tree_unsound (test.Resting ∷ []) (handed (acks 3 1 ∷ unacked 3 1 ∷ sends 1 ∷ []))
    ∷ tree_unsound (test.Balance ∷ test.Pairs ∷ []) (handed (message 3 0 ∷ sends 1 ∷ []))
    ∷ tree_sound (handed (message 0 2 ∷ unacked 0 1 ∷ sends 1 ∷ []))
    ∷ tree_unsound (test.Pairs ∷ []) (handed (message 0 3 ∷ unacked 0 1 ∷ sends 1 ∷ []))
    ∷ tree_unsound (test.Pairs ∷ []) (handed (message 0 15 ∷ unacked 0 1 ∷ sends 1 ∷ []))
    ∷ []

-- Document 02, Q-4: "a sound tree may hold such jobs", of an engaged node, each counted once
unfoldable pub own : List Case
own =
    tree_sound (handed (message 0 0 ∷ unacked 0 1 ∷ sends 1 ∷ []))
    ∷ tree_sound (handed (nodes 1 ∷ passive 0 ∷ message 0 0 ∷ unacked 0 1 ∷ sends 1 ∷ []))
    ∷ tree_sound (handed (message 1 1 ∷ unacked 1 1 ∷ engager 1 0 ∷ unacked 0 1 ∷ sends 2 ∷ []))
    ∷ tree_unsound (test.Balance ∷ []) (handed (message 0 0 ∷ unacked 0 2 ∷ sends 2 ∷ []))
    ∷ tree_unsound (test.Balance ∷ []) (handed (message 0 0 ∷ sends 1 ∷ []))
    ∷ tree_unsound (test.Resting ∷ []) (handed (message 1 1 ∷ unacked 1 1 ∷ sends 1 ∷ []))
    ∷ tree_unsound (test.Balance ∷ []) (handed (message 1 1 ∷ sends 1 ∷ []))
    ∷ tree_unsound (test.Resting ∷ test.Pairs ∷ []) (handed (message 3 3 ∷ unacked 3 1 ∷ sends 1 ∷ []))
    ∷ tree_unsound (test.Announced ∷ []) (handed (closed ∷ passive 0 ∷ message 0 0 ∷ unacked 0 1 ∷ sends 1 ∷ []))
    ∷ []

-- "N and root are in range, engagers are below N or 16; the root's engager is itself"
unfoldable pub range : List Case
range =
    tree_unsound (test.Range ∷ []) (handed (nodes 0 ∷ passive 0 ∷ engager 0 16 ∷ []))
    ∷ tree_sound (handed (nodes 1 ∷ []))
    ∷ tree_sound (handed (nodes 16 ∷ []))
    ∷ tree_unsound (test.Range ∷ []) (handed (nodes 17 ∷ []))
    ∷ tree_unsound (test.Range ∷ []) (handed (root 16 ∷ passive 0 ∷ engager 0 16 ∷ []))
    ∷ tree_unsound (test.Range ∷ test.Engagers ∷ []) (handed (root 3 ∷ passive 0 ∷ engager 0 16 ∷ engager 3 3 ∷ []))
    ∷ tree_sound (handed (root 2 ∷ passive 0 ∷ engager 0 16 ∷ engager 2 2 ∷ []))
    -- a chain through a place of N or more does not reach the root
    ∷ tree_unsound (test.Engagers ∷ test.Chains ∷ []) (handed (engager 1 17 ∷ []))
    ∷ tree_unsound (test.Engagers ∷ test.Chains ∷ test.Balance ∷ []) (handed (engager 1 3 ∷ []))
    ∷ tree_unsound (test.Range ∷ []) (handed (passive 0 ∷ engager 0 16 ∷ []))
    ∷ []

-- "A closed tree state passes the announce test"
unfoldable pub announced : List Case
announced =
    tree_sound (handed (closed ∷ passive 0 ∷ []))
    ∷ tree_unsound (test.Announced ∷ []) (handed (closed ∷ []))
    ∷ tree_unsound (test.Announced ∷ []) (handed (closed ∷ passive 0 ∷ acks 0 1 ∷ unacked 0 1 ∷ sends 1 ∷ []))
    ∷ []
