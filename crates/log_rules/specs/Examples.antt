-- Logs and their outputs, worked by hand from documents 01 and 02. proofs/Examples.antt computes them over the definitions.
use Rattle.std.specs.Prelude.{ℕ, List, [], ◌++◌, ◌∷◌, ◌≡◌}
use Rattle.decimal.specs.Bytes.{bytes}
use Rattle.log_rules.specs.Output.{output_of}

pub record Example : Type 0 where
  pub log : List ℕ
  pub output : List ℕ

abbrev pub examples : List Example
examples =
    -- document 01's listing
    record {
      log = bytes "(ring 2 (active) (black 1))\n(announce)\n(probe)\n(pass 1)\n(announce)\n(probe)\n(pass 1)\n(announce)\n(pass 1)\n";
      output =
          bytes "(ok 1)\n(no 2 8)\n(ok 3)\n(ok 4)\n(no 5 8)\n(ok 6)\n(ok 7)\n(ok 8)\n(no 9 4)\n(end (boards 2) (holder 0) (moves 4) (flight 0) (black 0))\n";
    }
    -- a ring that is not quiet: node 3 is none, ack is a word of the tree, a second start is no step, node 0 sends to itself, the last line lacks
    -- its byte 10
    ∷ record {
      log = bytes "(ring 3 (active 0) (black 1 2))\n(send 0 1)\n(probe)\n(idle 3)\n(ack 0)\n(ring 3)\n(send 0 0)\n(pass 1)\n(idle 0)";
      output =
          bytes "(ok 1)\n(ok 2)\n(ok 3)\n(no 4 6)\n(no 5 10)\n(no 6 10)\n(ok 7)\n(no 8 8)\n(no 9 10)\n(end (boards 3) (holder 2) (moves 1) (flight 2) (black 2))\n";
    }
    -- a tree with an acknowledgement in transit: node 0 is engaged already when it takes the message from 1
    ∷ record {
      log = bytes "(tree 3 (root 0))\n(send 0 1)\n(take 1 0)\n(send 1 0)\n(take 0 1)\n(probe)\n(announce)\n(leave 1)\n";
      output =
          bytes "(ok 1)\n(ok 2)\n(ok 3)\n(ok 4)\n(ok 5)\n(no 6 10)\n(no 7 8)\n(no 8 8)\n(end (boards 3) (engaged (0 (1))) (acks 1))\n";
    }
    -- messages to oneself: one node by itself, passive with its message in transit, and announced after one token move; a node of a tree, which
    -- leaves once it has taken its own message and its own acknowledgement, and, passive, does not send
    ∷ record {
      log = bytes "(ring 1 (active 0) (black))\n(send 0 0)\n(idle 0)\n(announce)\n(take 0)\n(idle 0)\n(probe)\n(announce)\n";
      output =
          bytes "(ok 1)\n(ok 2)\n(ok 3)\n(no 4 8)\n(ok 5)\n(ok 6)\n(ok 7)\n(ok 8)\n(end (boards 1) (holder 0) (moves 1) (flight 0) (black 0))\n";
    }
    ∷ record {
      log =
          bytes "(tree 2 (root 0))\n(send 0 1)\n(take 1 0)\n(send 1 1)\n(idle 1)\n(leave 1)\n(take 1 1)\n(idle 1)\n(leave 1)\n(ack 1)\n"
          ++ bytes "(leave 1)\n(send 1 1)\n(idle 0)\n(announce)\n(ack 0)\n(announce)\n(send 0 0)\n";
      output =
          bytes "(ok 1)\n(ok 2)\n(ok 3)\n(ok 4)\n(ok 5)\n(no 6 8)\n(ok 7)\n(ok 8)\n(no 9 8)\n(ok 10)\n"
          ++ bytes "(ok 11)\n(no 12 8)\n(ok 13)\n(no 14 8)\n(ok 15)\n(ok 16)\n(no 17 4)\n(end (boards 2) (engaged (0)) (acks 0))\n";
    }
    -- Q-6: a ring without lists, all active and white: each node has to become passive before the announcement; with both lists empty none has to
    ∷ record {
      log =
          bytes "(ring 2)\n(announce)\n(probe)\n(pass 1)\n(idle 1)\n(pass 1)\n(announce)\n(probe)\n(idle 0)\n(announce)\n(idle 1)\n";
      output =
          bytes "(ok 1)\n(no 2 8)\n(ok 3)\n(no 4 8)\n(ok 5)\n(ok 6)\n(no 7 8)\n(no 8 8)\n(ok 9)\n(ok 10)\n(no 11 4)\n"
          ++ bytes "(end (boards 2) (holder 0) (moves 2) (flight 0) (black 0))\n";
    }
    ∷ record {
      log = bytes "(ring 2 (active) (black))\n(idle 0)\n(idle 1)\n(probe)\n(pass 1)\n(announce)\n";
      output = bytes "(ok 1)\n(no 2 8)\n(no 3 8)\n(ok 4)\n(ok 5)\n(ok 6)\n(end (boards 2) (holder 0) (moves 2) (flight 0) (black 0))\n";
    }
    -- the same inside updates, in the first line and later; update 5 is started afresh without lists
    ∷ record {
      log =
          bytes "(update 2 (ring 2))\n(update 5 (ring 2 (active) (black)))\n(update 2 (send 1 0))\n(update 5 (send 1 0))\n(update 5 (ring 2))\n"
          ++ bytes "(update 5 (send 1 0))\n(update 5 (idle 0))\n(update 5 (idle 0))\n";
      output =
          bytes "(ok 1)\n(ok 2)\n(ok 3)\n(no 4 8)\n(ok 5)\n(ok 6)\n(ok 7)\n(no 8 8)\n"
          ++ bytes "(update 2 (end (boards 2) (holder 0) (moves 0) (flight 1) (black 0)))\n"
          ++ bytes "(update 5 (end (boards 2) (holder 0) (moves 0) (flight 1) (black 0)))\n";
    }
    -- after a bad or missing first line its refusal is all
    ∷ record { log = bytes "(ring 97)\n(probe)\n"; output = bytes "(no 1 1)\n" }
    ∷ record { log = bytes "(ring 2 (active 2) (black))\n(probe)\n"; output = bytes "(no 1 6)\n" }
    ∷ record { log = bytes "(ring 2)\r\n(probe)\r\n"; output = bytes "(no 1 10)\n" }
    ∷ record { log = bytes "(ring 2)"; output = bytes "(no 1 10)\n" }
    ∷ record { log = []; output = bytes "(no 1 10)\n" }
    -- takes of several: 3 of 3 pending, after 4, none and 1,001 are refused; none is left for one more; of two more one by one; a second number of
    -- six digits, with a leading zero, or missing after its space; node 3 is none, whatever it takes
    ∷ record {
      log =
          bytes "(ring 3 (active 0) (black))\n(send 0 2)\n(send 0 2)\n(send 0 2)\n(take 2 4)\n(take 2 0)\n(take 2 1001)\n(take 2 3)\n(take 2)\n"
          ++ bytes "(send 0 2)\n(send 0 2)\n(take 2)\n(take 2 1)\n(take 2 100000)\n(take 2 01)\n(take 2 )\n(take 3 0)\n(take 2 1 1)\n(send 0 1)\n";
      output =
          bytes "(ok 1)\n(ok 2)\n(ok 3)\n(ok 4)\n(no 5 8)\n(no 6 8)\n(no 7 8)\n(ok 8)\n(no 9 8)\n"
          ++ bytes "(ok 10)\n(ok 11)\n(ok 12)\n(ok 13)\n(no 14 10)\n(no 15 10)\n(no 16 10)\n(no 17 6)\n(no 18 10)\n(ok 19)\n"
          ++ bytes "(end (boards 3) (holder 0) (moves 0) (flight 1) (black 1))\n";
    }
    -- a wrapped take of two, beside another update
    ∷ record {
      log =
          bytes "(update 1 (ring 2 (active 0) (black)))\n(update 0 (ring 2))\n(update 1 (send 0 1))\n(update 1 (send 0 1))\n"
          ++ bytes "(update 0 (take 1 2))\n(update 1 (take 1 3))\n(update 1 (take 1 2))\n(update 1 (take 1))\n";
      output =
          bytes "(ok 1)\n(ok 2)\n(ok 3)\n(ok 4)\n(no 5 8)\n(no 6 8)\n(ok 7)\n(no 8 8)\n"
          ++ bytes "(update 0 (end (boards 2) (holder 0) (moves 0) (flight 0) (black 0)))\n"
          ++ bytes "(update 1 (end (boards 2) (holder 0) (moves 0) (flight 0) (black 1)))\n";
    }
    -- three updates interleaved: another N, an update that is not started, a step of none; update 2 is started afresh after two token moves, and a
    -- start that is refused leaves it; 9 and 8 are no updates; update 0 is announced; a start of none
    ∷ record {
      log =
          bytes "(update 2 (ring 2 (active) (black 1)))\n(update 0 (ring 3))\n(update 0 (ring 2 (active) (black)))\n"
          ++ bytes "(update 2 (probe))\n(probe)\n(update 0 (probe))\n"
          ++ bytes "(update 1 (probe))\n(update 2 (pass 1))\n(update 0 (pass 1))\n(update 0 (announce))\n(update 2 (ring 2 (active 0) (black)))\n(update 2 (send 0 1))\n"
          ++ bytes "(update 2 (ring 2 (active 2) (black)))\n(update 9 (ring 3))\n(update 8 (probe))\n(update 0 (probe))\n(ring 2)\n";
      output =
          bytes "(ok 1)\n(no 2 1)\n(ok 3)\n(ok 4)\n(no 5 10)\n(ok 6)\n(no 7 13)\n(ok 8)\n(ok 9)\n(ok 10)\n(ok 11)\n(ok 12)\n"
          ++ bytes "(no 13 6)\n(no 14 13)\n(no 15 13)\n(no 16 4)\n(no 17 10)\n"
          ++ bytes "(update 0 (end (boards 2) (holder 0) (moves 2) (flight 0) (black 0)))\n"
          ++ bytes "(update 2 (end (boards 2) (holder 0) (moves 0) (flight 1) (black 0)))\n";
    }
    -- wrapped lines in the log of one ring
    ∷ record {
      log = bytes "(ring 2)\n(update 0 (ring 2))\n(update 0 (probe))\n(probe)\n";
      output = bytes "(ok 1)\n(no 2 10)\n(no 3 10)\n(ok 4)\n(end (boards 2) (holder 1) (moves 1) (flight 0) (black 0))\n";
    }
    -- a wrapped first line that is refused: 13 before 1, 1 before 6; a step and a tree are no start
    ∷ record { log = bytes "(update 8 (ring 97))\n(update 0 (ring 2))\n"; output = bytes "(no 1 13)\n" }
    ∷ record { log = bytes "(update 7 (ring 97 (active 98) (black)))\n(update 0 (ring 2))\n"; output = bytes "(no 1 1)\n" }
    ∷ record { log = bytes "(update 7 (ring 2 (active) (black 2)))\n(update 0 (ring 2))\n"; output = bytes "(no 1 6)\n" }
    ∷ record { log = bytes "(update 0 (send 0 1))\n(update 0 (ring 2))\n"; output = bytes "(no 1 10)\n" }
    ∷ record { log = bytes "(update 0 (tree 2 (root 0)))\n(update 0 (ring 2))\n"; output = bytes "(no 1 10)\n" }
    ∷ []

unfoldable pub outputs : List Example → List (List ℕ)
outputs [] = []
outputs (e ∷ es) = output_of e.log ∷ outputs es

unfoldable pub expected : List Example → List (List ℕ)
expected [] = []
expected (e ∷ es) = e.output ∷ expected es

abbrev pub ExamplesHold : Type 0
ExamplesHold = outputs examples ≡ expected examples
