-- Document 01, "Where a request is turned back": the order of the rows, a request that meets the conditions of two being answered with the
-- upper number; and the node numbers, "a board number that is used is N or more".
use Rattle.std.specs.Prelude.{ℕ, replicate, List, [], ◌∷◌}
use Rattle.decimal.specs.Bytes.{bytes}
use Rattle.runs.specs.Runs.{Request}
use Rattle.table_rules.specs.Answers.{Start, Step}
use Rattle.table_rules.specs.Table.{Table, empty_table}
use Rattle.starred_runs.specs.TableRuns.{ring_of, tree_of}
use Rattle.starred_runs.specs.TableUpdates.{two}
use Rattle.starred_runs.specs.Case.{Case, ◌is◌, drives, prints, ring_run, ring_start_ask, table_ask, tree_run, tree_start_ask, writes}
use Rattle.ring_rules.specs.State as ring_state
use Rattle.ring_runs.specs.Requests as ring
use Rattle.tree_rules.specs.State as tree_state
use Rattle.tree_runs.specs.Requests as tree
use Rattle.starred_runs.specs.RingStates as rings
use Rattle.starred_runs.specs.TreeStates as trees

-- of any kind and with any numbers
abbrev pub request : ℕ → ℕ → ℕ → Request
request k i j = record { kind = k; i = i; j = j }

-- the largest number that a call can hand in
abbrev pub huge : ℕ
huge = 18446744073709551615

-- ---- the order

-- closed; closed and not sound; all sends spent
abbrev pub ring_closed : ring_state.State
ring_closed = rings.handed (rings.closed ∷ rings.white_token ∷ [])

abbrev pub ring_unsound : ring_state.State
ring_unsound = rings.handed (rings.closed ∷ rings.white_token ∷ rings.active 3 ∷ [])

abbrev pub ring_spent : ring_state.State
ring_spent = rings.handed (rings.active 0 ∷ rings.sent 0 1000000 ∷ rings.received 1 1000000 ∷ [])

abbrev pub tree_closed : tree_state.State
tree_closed = trees.handed (trees.closed ∷ trees.passive 0 ∷ [])

abbrev pub tree_unsound : tree_state.State
tree_unsound = trees.handed (trees.closed ∷ trees.passive 0 ∷ trees.active 3 ∷ [])

abbrev pub tree_spent : tree_state.State
tree_spent = trees.handed (trees.sends 1000000 ∷ [])

-- updates 0 and 7 of three nodes; with two numbers of nodes; all sends of update 0 spent, and one of update 7
abbrev pub table_started : Table
table_started = two (rings.handed []) (rings.handed [])

abbrev pub table_unsound : Table
table_unsound = two (rings.handed []) (rings.handed (rings.nodes 2 ∷ []))

abbrev pub table_spent : Table
table_spent =
    two ring_spent (rings.handed (rings.active 0 ∷ rings.sent 0 1 ∷ rings.received 1 1 ∷ []))

unfoldable pub order : List Case
order =
    -- "start, 1, boards outside 1 to 96 (tree 1 to 16)" over "start, 2, flag bytes not N in number, or one above 3" and, of the tree, over 6
    ring_start_ask 0 (0 ∷ []) 1
    ∷ ring_start_ask 97 (replicate 97 4) 1
    ∷ ring_start_ask 97 [] 1
    ∷ tree_start_ask 0 0 1
    ∷ tree_start_ask 17 17 1
    ∷ tree_start_ask 3 3 6
    -- "A refused start yields no state": what stands in its place is not sound
    ∷ ring_run (ring_of 97 (replicate 97 0)) (ring.probe is 3 ∷ [])
    ∷ ring_run (ring_of 1 (4 ∷ [])) (ring.probe is 3 ∷ [])
    ∷ tree_run (tree_of 17 0) (tree.announce is 3 ∷ [])
    ∷ tree_run (tree_of 3 3) (tree.announce is 3 ∷ [])
    -- "any state handed in, 3, not sound" over "step, driver, 4, run closed" and what is below it
    ∷ ring_run ring_unsound (ring.probe is 3 ∷ request 7 0 0 is 3 ∷ ring.send 3 3 is 3 ∷ [])
    ∷ tree_run tree_unsound (tree.announce is 3 ∷ request 7 0 0 is 3 ∷ tree.send 3 3 is 3 ∷ [])
    -- 4 over "step, 5, kind outside 1 to 6" and what is below it
    ∷ ring_run ring_closed (request 7 0 0 is 4 ∷ request 0 0 0 is 4 ∷ ring.idle 3 is 4 ∷ ring.announce is 4 ∷ [])
    ∷ tree_run tree_closed (request 7 0 0 is 4 ∷ request 0 0 0 is 4 ∷ tree.idle 3 is 4 ∷ tree.announce is 4 ∷ [])
    -- 5 over "step, start, 6, a board number that is used is N or more"
    ∷ ring_run ring_spent (request 7 3 3 is 5 ∷ request 0 huge huge is 5 ∷ [])
    ∷ tree_run tree_spent (request 7 3 3 is 5 ∷ request 0 huge huge is 5 ∷ [])
    -- 6 over "step, 8, the rule's condition fails" and over "send, 9, 1,000,000 sends already accepted in this run"
    ∷ ring_run ring_spent (ring.send 3 3 is 6 ∷ ring.send 1 3 is 6 ∷ ring.idle 3 is 6 ∷ ring.send 0 3 is 6 ∷ [])
    ∷ tree_run tree_spent (tree.send 3 3 is 6 ∷ tree.send 1 3 is 6 ∷ tree.idle 3 is 6 ∷ tree.send 0 3 is 6 ∷ [])
    -- 8 over 9, to another node and to oneself: 7 was between 6 and 8, and Q-4 retired it
    ∷ ring_run ring_spent (ring.send 1 0 is 8 ∷ ring.send 0 1 is 9 ∷ ring.send 1 1 is 8 ∷ ring.send 0 0 is 9 ∷ [])
    ∷ tree_run tree_spent (tree.send 1 0 is 8 ∷ tree.send 0 1 is 9 ∷ tree.send 1 1 is 8 ∷ tree.send 0 0 is 9 ∷ [])
    -- Q-1: 3 over 13, "checked after 3": an update above 7, or a step on one not started
    ∷ table_ask table_unsound (Start 8 3 (0 ∷ 0 ∷ 0 ∷ [])) 3
    ∷ table_ask table_unsound (Step 8 ring.probe) 3
    ∷ table_ask table_unsound (Step 3 ring.probe) 3
    -- 13 over 1, "another N is 1, checked after 13", and over 2
    ∷ table_ask empty_table (Start 8 0 []) 13
    ∷ table_ask empty_table (Start huge 97 []) 13
    ∷ table_ask table_started (Start 8 2 (0 ∷ 0 ∷ [])) 13
    ∷ table_ask table_started (Start 8 3 []) 13
    -- 1 over 2
    ∷ table_ask empty_table (Start 7 0 (0 ∷ [])) 1
    ∷ table_ask empty_table (Start 7 97 []) 1
    ∷ table_ask table_started (Start 7 2 (4 ∷ 4 ∷ [])) 1
    ∷ table_ask table_started (Start 3 2 []) 1
    ∷ table_ask table_started (Start 3 3 []) 2
    -- 13 over 5 and what is below it
    ∷ table_ask table_spent (Step 8 (request 7 huge huge)) 13
    ∷ table_ask table_spent (Step 3 (request 7 huge huge)) 13
    ∷ table_ask table_spent (Step 3 (ring.send 0 1)) 13
    -- 8 over 9 of the update that has spent its sends; beside it the other sends, and a fresh start is accepted
    ∷ table_ask table_spent (Step 0 (ring.send 1 0)) 8
    ∷ table_ask table_spent (Step 0 (ring.send 0 1)) 9
    ∷ table_ask table_spent (Step 0 (ring.send 1 1)) 8
    ∷ table_ask table_spent (Step 0 (ring.send 0 0)) 9
    ∷ table_ask table_spent (Step 7 (ring.send 0 1)) 0
    ∷ table_ask table_spent (Step 7 (ring.send 0 0)) 0
    ∷ table_ask table_spent (Start 0 3 (1 ∷ 0 ∷ 0 ∷ [])) 0
    -- 3 over 4, 4 over "driver, 11, move limit above 1,000, checked after 4", and 3 over 11
    ∷ drives ring_unsound 1000 3 0
    ∷ drives ring_unsound 1001 3 0
    ∷ drives ring_closed 1000 4 0
    ∷ drives ring_closed 1001 4 0
    ∷ drives ring_spent 1001 11 0
    -- 3 over "tree text, 12, buffer shorter than the text, checked after 3"; a closed run is written
    ∷ writes tree_unsound 0 3
    ∷ writes tree_spent 0 12
    ∷ writes tree_closed 2 12
    ∷ writes tree_closed 3 0
    -- "log line, 10, not one of the forms below" over 1 and 6; 1 over 6
    ∷ prints (bytes "(ring 97 (active 97)(black))\n") "(no 1 10)\n"
    ∷ prints (bytes "(ring 97 (active 97) (black))\n") "(no 1 1)\n"
    ∷ prints (bytes "(ring 0 (active 0) (black))\n") "(no 1 1)\n"
    ∷ prints (bytes "(ring 2 (active 2) (black 01))\n") "(no 1 10)\n"
    ∷ prints (bytes "(ring 2 (active 2) (black 1))\n") "(no 1 6)\n"
    ∷ prints (bytes "(ring 2 (active 1) (black 2))\n") "(no 1 6)\n"
    ∷ prints (bytes "(tree 17 (root 017))\n") "(no 1 10)\n"
    ∷ prints (bytes "(tree 17 (root 17))\n") "(no 1 1)\n"
    ∷ prints (bytes "(tree 0 (root 0))\n") "(no 1 1)\n"
    ∷ prints (bytes "(tree 3 (root 3))\n") "(no 1 6)\n"
    -- Q-1: 10 over 13, and 13 over 1 and 6
    ∷ prints (bytes "(update 8 (ring 02))\n") "(no 1 10)\n"
    ∷ prints (bytes "(update 8 (ring 97))\n") "(no 1 13)\n"
    ∷ prints (bytes "(update 8 (ring 2 (active 2) (black)))\n") "(no 1 13)\n"
    ∷ prints (bytes "(update 7 (ring 97 (active 97) (black)))\n") "(no 1 1)\n"
    -- 10 over 4, in a closed run
    ∷ prints
    (bytes "(ring 1 (active) (black))\n(probe)\n(announce)\n(leave 0)\n(probe)\n")
    "(ok 1)\n(ok 2)\n(ok 3)\n(no 4 10)\n(no 5 4)\n(end (boards 1) (holder 0) (moves 1) (flight 0) (black 0))\n"
    ∷ prints
    (bytes "(tree 1 (root 0))\n(idle 0)\n(announce)\n(probe)\n(idle 0)\n")
    "(ok 1)\n(ok 2)\n(ok 3)\n(no 4 10)\n(no 5 4)\n(end (boards 1) (engaged (0)) (acks 0))\n"
    ∷ []

-- ---- node numbers of N and above, in each place of each kind that uses one; and in the places that a kind does not use

unfoldable pub outside : List Case
outside =
    ring_run (rings.handed (rings.active 0 ∷ rings.active 1 ∷ rings.active 2 ∷ []))
    (ring.send 3 0 is 6
    ∷ ring.send 0 3 is 6
    ∷ ring.take 3 1 is 6
    ∷ ring.take 3 0 is 6
    ∷ ring.idle 3 is 6
    ∷ ring.pass 3 is 6
    ∷ ring.send huge 0 is 6
    ∷ ring.send 0 huge is 6
    ∷ ring.take huge 1 is 6
    ∷ ring.idle huge is 6
    ∷ ring.pass huge is 6
    ∷ ring.send 0 2 is 0
    ∷ ring.take 2 3 is 8
    ∷ ring.take 2 huge is 8
    ∷ ring.take 2 1 is 0
    ∷ request 3 2 huge is 0
    ∷ request 4 huge huge is 0
    ∷ request 5 2 huge is 0
    ∷ request 6 huge huge is 8
    ∷ [])
    ∷ tree_run (trees.handed [])
    (tree.send 3 0 is 6
    ∷ tree.send 0 3 is 6
    ∷ tree.take 3 0 is 6
    ∷ tree.take 0 3 is 6
    ∷ tree.idle 3 is 6
    ∷ tree.ack 3 is 6
    ∷ tree.leave 3 is 6
    ∷ tree.send huge 0 is 6
    ∷ tree.send 0 huge is 6
    ∷ tree.take huge 0 is 6
    ∷ tree.take 0 huge is 6
    ∷ tree.idle huge is 6
    ∷ tree.ack huge is 6
    ∷ tree.leave huge is 6
    ∷ tree.send 0 2 is 0
    ∷ tree.take 2 0 is 0
    ∷ request 3 2 huge is 0
    ∷ request 5 2 huge is 0
    ∷ request 4 0 huge is 0
    ∷ tree.idle 0 is 0
    ∷ request 6 huge huge is 0
    ∷ [])
    ∷ []
