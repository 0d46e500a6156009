-- The end lines, as they are written.
use Rattle.std.specs.Prelude.{◌≤◌, ℕ, length, List, ◌++◌}
use Rattle.decimal.specs.Bytes.{bytes}
use Rattle.decimal.specs.Text.{decimal}
use Rattle.ring_rules.specs.State.{State, black_nodes, in_transit}
use Rattle.log_answers.specs.Wrote.{Wrote}
use Rattle.log_answers.specs.declared.ring_end.RingEnd.{RingEnd}

-- an end line is written, and is at most 256 bytes long
abbrev pub Short : List ℕ → ℕ → List ℕ → ℕ → List ℕ → Type 0
Short out at text r out' = Wrote out at text r out' × (length text ≤ 256)

-- what the end line of a ring tells: the accepted token moves are counted apart
abbrev pub end_of : State → ℕ → RingEnd
end_of r m = record { nodes = r.n; position = r.pos; moves = m; in_transit = in_transit r; black = black_nodes r }

-- that line, with its last bytes
abbrev pub ring_text : List ℕ → RingEnd → List ℕ
ring_text last e =
    bytes "(end (boards "
    ++ (decimal e.nodes
    ++ (bytes ") (holder "
    ++ (decimal e.position
    ++ (bytes ") (moves "
    ++ (decimal e.moves ++ (bytes ") (flight " ++ (decimal e.in_transit ++ (bytes ") (black " ++ (decimal e.black ++ last)))))))))
