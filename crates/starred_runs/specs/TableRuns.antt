-- Document 01, "Runs to check", takes of several, and messages to oneself.
use Rattle.std.specs.Prelude.{ℕ, replicate, List, [], ◌∷◌}
use Rattle.runs.specs.Runs.{Request}
use Rattle.starred_runs.specs.Case.{Case, ◌is◌, conclusive, drives, holder_after, quiet_then, quiet_with, ring_run, ring_start_ask, spent, tree_run, tree_start_ask}
use Rattle.ring_rules.specs.Start as ring_start
use Rattle.ring_rules.specs.State as ring_state
use Rattle.ring_runs.specs.Requests as ring
use Rattle.tree_rules.specs.Start as tree_start
use Rattle.tree_rules.specs.State as tree_state
use Rattle.tree_runs.specs.Requests as tree
use Rattle.starred_runs.specs.RingStates as rings
use Rattle.starred_runs.specs.TreeStates as trees

abbrev pub ring_of : ℕ → List ℕ → ring_state.State
ring_of n flags = (ring_start.start_of n flags).state

abbrev pub tree_of : ℕ → ℕ → tree_state.State
tree_of n root = (tree_start.start_of n root).state

-- the requests of the second run
abbrev pub second : List Request
second = ring.probe ∷ ring.pass 2 ∷ ring.send 1 2 ∷ ring.take 2 1 ∷ ring.idle 1 ∷ ring.idle 2 ∷ []

-- the same with three messages, taken at once
abbrev pub three : List Request
three = ring.probe ∷ ring.pass 2 ∷ ring.send 1 2 ∷ ring.send 1 2 ∷ ring.send 1 2 ∷ ring.take 2 3 ∷ ring.idle 1 ∷ ring.idle 2 ∷ []

unfoldable pub runs : List Case
runs =
    -- "The listing above: four moves, the bound for N = 2."
    ring_run (ring_of 2 (0 ∷ 2 ∷ []))
    (ring.announce is 8
    ∷ ring.probe is 0
    ∷ ring.pass 1 is 0
    ∷ ring.announce is 8
    ∷ ring.probe is 0
    ∷ ring.pass 1 is 0
    ∷ ring.announce is 0
    ∷ ring.pass 1 is 4
    ∷ [])
    ∷ quiet_then (ring_of 2 (0 ∷ 2 ∷ [])) [] 4
    -- "(ring 3 (active 1) (black)), probe, pass 2, send 1 2, take 2, idle 1, idle 2: quiet at holder 1, then 7 moves."
    ∷ holder_after (ring_of 3 (0 ∷ 1 ∷ 0 ∷ [])) second 1
    ∷ quiet_then (ring_of 3 (0 ∷ 1 ∷ 0 ∷ [])) second 7
    -- Document 02, Q-2: a take of three, none of which a take of four, of none or of 1,001 takes
    ∷ quiet_then (ring_of 3 (0 ∷ 1 ∷ 0 ∷ [])) three 7
    ∷ ring_run (ring_of 3 (0 ∷ 1 ∷ 0 ∷ []))
    (ring.send 1 2 is 0
    ∷ ring.send 1 2 is 0
    ∷ ring.send 1 2 is 0
    ∷ ring.take 2 4 is 8
    ∷ ring.take 2 0 is 8
    ∷ ring.take 2 1001 is 8
    ∷ ring.take 2 3 is 0
    ∷ ring.take 2 1 is 8
    ∷ [])
    -- the most that one take takes
    ∷ ring_run (rings.handed (rings.sent 0 2002 ∷ rings.pending 1 2002 ∷ []))
    (ring.take 1 1001 is 8 ∷ ring.take 1 1000 is 0 ∷ ring.take 1 1000 is 0 ∷ ring.take 1 3 is 8 ∷ ring.take 1 2 is 0 ∷ [])
    -- "(ring 3 (active 0 2) (black)), probe, send 2 0, take 0, idle 0, idle 2: then 5 moves."
    ∷ quiet_then (ring_of 3 (1 ∷ 0 ∷ 1 ∷ [])) (ring.probe ∷ ring.send 2 0 ∷ ring.take 0 1 ∷ ring.idle 0 ∷ ring.idle 2 ∷ []) 5
    -- "N = 1, idle: one probe, then announce."
    ∷ ring_run (ring_of 1 (0 ∷ [])) (ring.announce is 8 ∷ ring.probe is 0 ∷ ring.announce is 0 ∷ [])
    ∷ quiet_then (ring_of 1 (0 ∷ [])) [] 1
    -- "N = 0 and N = 97: 1. N = 96: accepted." (tree 1 to 16)
    ∷ ring_start_ask 0 [] 1
    ∷ ring_start_ask 97 (replicate 97 0) 1
    ∷ ring_start_ask 96 (replicate 96 3) 0
    ∷ tree_start_ask 0 0 1
    ∷ tree_start_ask 17 0 1
    ∷ tree_start_ask 16 15 0
    -- "Tree of 3, root 0: send 0 1, take 1 0, idle 0, idle 1, leave 1; announce is 8; ack 0; announce accepted."
    ∷ tree_run (tree_of 3 0)
    (tree.send 0 1 is 0
    ∷ tree.take 1 0 is 0
    ∷ tree.idle 0 is 0
    ∷ tree.idle 1 is 0
    ∷ tree.leave 1 is 0
    ∷ tree.announce is 8
    ∷ tree.ack 0 is 0
    ∷ tree.announce is 0
    ∷ tree.announce is 4
    ∷ [])
    -- on its way A + 2E is 2, 1 and 0
    ∷ quiet_with (tree_of 3 0) (tree.send 0 1 ∷ tree.take 1 0 ∷ tree.idle 0 ∷ tree.idle 1 ∷ []) 0 1
    ∷ quiet_with (tree_of 3 0) (tree.send 0 1 ∷ tree.take 1 0 ∷ tree.idle 0 ∷ tree.idle 1 ∷ tree.leave 1 ∷ []) 1 0
    ∷ quiet_with (tree_of 3 0) (tree.send 0 1 ∷ tree.take 1 0 ∷ tree.idle 0 ∷ tree.idle 1 ∷ tree.leave 1 ∷ tree.ack 0 ∷ []) 0 0
    ∷ tree_run (tree_of 1 0) (tree.idle 0 is 0 ∷ tree.announce is 0 ∷ tree.idle 0 is 4 ∷ tree.announce is 4 ∷ [])
    -- "take on pending 0: 8." Document 02, Q-4: "the idle `send 2 2` case is now 8"; of an active node it is a send like any other
    ∷ ring_run (ring_of 3 (0 ∷ 0 ∷ 0 ∷ [])) (ring.take 0 1 is 8 ∷ ring.send 2 2 is 8 ∷ [])
    ∷ tree_run (tree_of 3 0) (tree.take 1 0 is 8 ∷ tree.send 2 2 is 8 ∷ [])
    ∷ ring_run (ring_of 3 (0 ∷ 0 ∷ 1 ∷ [])) (ring.send 2 2 is 0 ∷ ring.idle 2 is 0 ∷ ring.take 2 1 is 0 ∷ ring.take 2 1 is 8 ∷ ring.idle 2 is 0 ∷ [])
    ∷ tree_run (tree_of 3 2)
    (tree.send 2 2 is 0
    ∷ tree.idle 2 is 0
    ∷ tree.ack 2 is 8
    ∷ tree.take 2 2 is 0
    ∷ tree.take 2 2 is 8
    ∷ tree.ack 2 is 0
    ∷ tree.ack 2 is 8
    ∷ tree.announce is 8
    ∷ tree.idle 2 is 0
    ∷ tree.announce is 0
    ∷ [])
    -- Q-4: "A ring of one board may now have jobs under way, and once quiet its announcement still comes after at most one token move."
    ∷ ring_run (ring_of 1 (1 ∷ []))
    (ring.send 0 0 is 0
    ∷ ring.idle 0 is 0
    ∷ ring.announce is 8
    ∷ ring.take 0 1 is 0
    ∷ ring.idle 0 is 0
    ∷ ring.announce is 8
    ∷ ring.probe is 0
    ∷ ring.probe is 8
    ∷ ring.announce is 0
    ∷ [])
    ∷ quiet_then (ring_of 1 (1 ∷ [])) (ring.send 0 0 ∷ ring.take 0 1 ∷ ring.idle 0 ∷ []) 1
    -- the token goes round a ring of one while the message is in transit, and again once it is taken
    ∷ quiet_then (ring_of 1 (1 ∷ [])) (ring.send 0 0 ∷ ring.probe ∷ ring.idle 0 ∷ ring.probe ∷ ring.take 0 1 ∷ ring.idle 0 ∷ []) 1
    -- a tree of one: A + 2E is 0 where its acknowledgement has come, else 1
    ∷ tree_run (tree_of 1 0) (tree.send 0 0 is 0 ∷ tree.take 0 0 is 0 ∷ tree.ack 0 is 0 ∷ tree.idle 0 is 0 ∷ tree.announce is 0 ∷ [])
    ∷ quiet_with (tree_of 1 0) (tree.send 0 0 ∷ tree.take 0 0 ∷ tree.ack 0 ∷ tree.idle 0 ∷ []) 0 0
    ∷ quiet_with (tree_of 1 0) (tree.send 0 0 ∷ tree.take 0 0 ∷ tree.idle 0 ∷ []) 1 0
    -- a node that the root engaged sends to itself: with its own acknowledgement to come A is 1 and E is 1
    ∷ quiet_with (tree_of 3 0)
    (tree.send 0 1 ∷ tree.take 1 0 ∷ tree.send 1 1 ∷ tree.idle 1 ∷ tree.take 1 1 ∷ tree.idle 1 ∷ tree.idle 0 ∷ []) 1 1
    -- "Driver on the first start with M = 3: spent, 3 moves; M = 4: conclusive, 4."
    ∷ drives (ring_of 2 (0 ∷ 2 ∷ [])) 3 spent 3
    ∷ drives (ring_of 2 (0 ∷ 2 ∷ [])) 4 conclusive 4
    -- "By calls, on a sound state with 999,999 accepted sends: one more is accepted; the next: 9." (And takes never meet it.)
    ∷ ring_run (rings.handed (rings.active 0 ∷ rings.sent 0 999999 ∷ rings.received 1 999999 ∷ []))
    (ring.send 0 1 is 0 ∷ ring.send 0 1 is 9 ∷ ring.take 1 1 is 0 ∷ ring.send 1 0 is 9 ∷ [])
    ∷ tree_run (trees.handed (trees.sends 999999 ∷ []))
    (tree.send 0 1 is 0 ∷ tree.send 0 1 is 9 ∷ tree.take 1 0 is 0 ∷ tree.send 1 0 is 9 ∷ [])
    -- a message to oneself counts as a send
    ∷ ring_run (rings.handed (rings.active 0 ∷ rings.sent 0 999999 ∷ rings.received 1 999999 ∷ []))
    (ring.send 0 0 is 0 ∷ ring.send 0 0 is 9 ∷ ring.take 0 1 is 0 ∷ ring.send 0 1 is 9 ∷ [])
    ∷ tree_run (trees.handed (trees.sends 999999 ∷ []))
    (tree.send 0 0 is 0 ∷ tree.send 0 0 is 9 ∷ tree.take 0 0 is 0 ∷ tree.send 0 1 is 9 ∷ [])
    ∷ []
