-- What other languages are told of trees, lent as in TableLent.antt, and of their texts.
use Rattle.std.specs.Prelude.{ℕ, replicate, set, List, [], ◌++◌, ◌∷◌}
use Rattle.decimal.specs.Bytes.{bytes}
use Rattle.lent.specs.Tree.{LentTree, lent_tree}
use Rattle.starred_runs.specs.Case.{Case, lent_read, lent_tree_sound, lent_tree_start, lent_tree_step, lent_write}

-- ---- a tree of four nodes, root 1, which engages 0, which engages 2

-- a column of which the first three places are in use, the others holding `rest`
abbrev pub first : ℕ → ℕ → ℕ → ℕ → List ℕ
first rest a b c = a ∷ b ∷ c ∷ replicate 13 rest

-- messages in transit from 1 to 3, and from 2 to 0
abbrev pub moving : ℕ → ℕ → List ℕ
moving a b = set (set (replicate 256 0) 19 a) 32 b

-- two from 1 to 3, one from 2 to 0; 20 accepted sends
abbrev pub grown : List ℕ → ℕ → LentTree
grown active closed = lent_tree 4 1 active (first 16 1 1 0) (first 0 4 3 2) (moving 2 1) (first 0 3 0 1) 20 closed

-- nodes 0 and 2 active
abbrev pub tree : LentTree
tree = grown (first 0 1 0 1) 0

-- and a message from 0 to itself
abbrev pub own : LentTree
own = lent_tree 4 1 (first 0 1 0 1) (first 16 1 1 0) (first 0 5 3 2) (set (moving 2 1) 0 1) (first 0 3 0 1) 21 0

-- the root alone engaged, every node passive, nothing on its way
abbrev pub ended : ℕ → LentTree
ended closed =
    lent_tree 4 1 (replicate 16 0) (first 16 16 1 16) (replicate 16 0) (replicate 256 0) (replicate 16 0) 20 closed

-- what lies in the fields before a start
abbrev pub unread : LentTree
unread = lent_tree 77 66 (replicate 16 9) (replicate 16 8) (replicate 16 7) (replicate 256 6) (replicate 16 5) 4 99

abbrev pub starts_not : ℕ → ℕ → ℕ → Case
starts_not n root k = lent_tree_start n root unread k unread

unfoldable pub starts : List Case
starts =
    lent_tree_start 4 2 unread 0 (lent_tree 4 2 (first 0 0 0 1) (first 16 16 16 2) (replicate 16 0) (replicate 256 0) (replicate 16 0) 0 0)
    ∷ starts_not 0 0 1
    ∷ starts_not 17 2 1
    ∷ starts_not 260 2 1
    ∷ starts_not 4 4 6
    ∷ starts_not 4 256 6
    ∷ []

abbrev pub keeps : LentTree → ℕ → ℕ → ℕ → ℕ → Case
keeps l kind i j k = lent_tree_step l kind i j k l

-- kinds 1 to 6: send i j, take i from j, idle i, ack i, leave i, announce
unfoldable pub steps : List Case
steps =
    -- unacked of 0, the messages from 0 to 3 and the sends rise
    lent_tree_step tree 1 0 3 0 (lent_tree 4 1 (first 0 1 0 1) (first 16 1 1 0) (first 0 5 3 2) (set (moving 2 1) 3 1) (first 0 3 0 1) 21 0)
    -- 3 becomes active, and 1 its engager
    ∷ lent_tree_step tree 2 3 1 0 (lent_tree 4 1 (set (first 0 1 0 1) 3 1) (set (first 16 1 1 0) 3 1) (first 0 4 3 2) (moving 1 1) (first 0 3 0 1) 20 0)
    -- 0 has an engager: an acknowledgement sets out to 2
    ∷ lent_tree_step tree 2 0 2 0 (lent_tree 4 1 (first 0 1 0 1) (first 16 1 1 0) (first 0 4 3 2) (moving 2 0) (first 0 3 0 2) 20 0)
    ∷ lent_tree_step tree 3 2 9 0 (grown (first 0 1 0 0) 0)
    -- unacked of 0 and the acknowledgements on their way to it fall
    ∷ lent_tree_step tree 4 0 9 0 (lent_tree 4 1 (first 0 1 0 1) (first 16 1 1 0) (first 0 3 3 2) (moving 2 1) (first 0 2 0 1) 20 0)
    -- 3, which 1 engaged, leaves: an acknowledgement sets out to 1
    ∷ lent_tree_step (lent_tree 4 1 (first 0 1 0 1) (set (first 16 1 1 0) 3 1) (first 0 4 3 2) (moving 1 1) (first 0 3 0 1) 20 0) 5 3 9 0
    (lent_tree 4 1 (first 0 1 0 1) (first 16 1 1 0) (first 0 4 3 2) (moving 1 1) (first 0 3 1 1) 20 0)
    ∷ lent_tree_step (ended 0) 6 9 9 0 (ended 1)
    ∷ keeps (ended 1) 6 9 9 4
    ∷ keeps tree 7 0 3 5
    ∷ keeps tree 257 0 3 5
    ∷ keeps tree 1 0 4 6
    ∷ keeps tree 1 256 3 6
    ∷ keeps tree 1 0 259 6
    ∷ keeps tree 3 4294967296 9 6
    ∷ keeps tree 6 9 9 8
    -- to oneself: unacked of 0, the messages from 0 to 0 and the sends rise; 0 takes it, and an acknowledgement sets out to 0; node 1 is passive
    ∷ lent_tree_step tree 1 0 0 0 own
    ∷ lent_tree_step own 2 0 0 0 (lent_tree 4 1 (first 0 1 0 1) (first 16 1 1 0) (first 0 5 3 2) (moving 2 1) (first 0 4 0 1) 21 0)
    ∷ keeps tree 2 0 0 8
    ∷ keeps tree 1 1 1 8
    ∷ []

-- sound trees, open and closed; unacked lent for acks
unfoldable pub soundness : List Case
soundness =
    lent_tree_sound tree 1
    ∷ lent_tree_sound own 1
    ∷ lent_tree_sound (ended 1) 1
    ∷ lent_tree_sound (lent_tree 4 1 (first 0 1 0 1) (first 16 1 1 0) (first 0 3 0 1) (moving 2 1) (first 0 4 3 2) 20 0) 0
    ∷ []

-- the buffer lent
abbrev pub room : List ℕ
room = replicate 11 7 ++ (90 ∷ 91 ∷ 92 ∷ [])

-- ---- trees that are not sound, as the steps, soundness and the writer are told: node 3, which has no engager, active; closed where announce's
-- test fails; a byte that is no truth, of a node, of a place past n, of the run

abbrev pub unsound : LentTree → List Case
unsound l = keeps l 1 0 3 3 ∷ lent_tree_sound l 0 ∷ lent_write l room 77 3 77 room ∷ []

unfoldable pub not_sound : List Case
not_sound =
    unsound (grown (set (first 0 1 0 1) 3 1) 0)
    ++ (unsound (grown (first 0 1 0 1) 1)
    ++ (unsound (grown (first 0 1 0 2) 0) ++ (unsound (grown (set (first 0 1 0 1) 15 2) 0) ++ unsound (grown (first 0 1 0 1) 2))))

-- the length lent is 77, the engagers are 9 and the root 99; a refusal leaves them
unfoldable pub texts : List Case
texts =
    lent_write tree room 77 0 11 (bytes "(1 (0 (2)))" ++ (90 ∷ 91 ∷ 92 ∷ []))
    ∷ lent_write tree (replicate 11 7) 77 0 11 (bytes "(1 (0 (2)))")
    ∷ lent_write tree (replicate 10 7) 77 12 77 (replicate 10 7)
    ∷ lent_read 4 "(1 (0 (2)))" (replicate 16 9) 99 0 (first 16 1 1 0) 1
    ∷ lent_read 17 "(1 (0 (2)))" (replicate 16 9) 99 1 (replicate 16 9) 99
    ∷ lent_read 260 "(1 (0 (2)))" (replicate 16 9) 99 1 (replicate 16 9) 99
    ∷ lent_read 2 "(1 (0 (2)))" (replicate 16 9) 99 6 (replicate 16 9) 99
    ∷ lent_read 4 "(1 (0 (2))" (replicate 16 9) 99 10 (replicate 16 9) 99
    ∷ []
