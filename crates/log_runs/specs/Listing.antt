-- Document 01's listing as a whole log: before its line 2 every node is passive and no message is in transit, and four token moves are
-- left, "the bound for N = 2". proofs/Listing.antt proves it.
use Rattle.std.specs.Prelude.{ℕ, List, [], ◌∷◌, ◌≡◌}
use Rattle.decimal.specs.Bytes.{bytes}
use Rattle.log_rules.specs.Answers.{on_ring}
use Rattle.log_rules.specs.Lines.{joined, lines_of}
use Rattle.refusal.specs.Table.{Accepted}
use Rattle.ring_rules.specs.Start.{start_of}
use Rattle.ring_rules.specs.State.{State}
use Rattle.ring_runs.specs.Counts.{QuietBy, ring}
use Rattle.log_runs.specs.First.{FirstAsks, begun, first_verdict, ring_start_ask}
use Rattle.log_runs.specs.WholeLog.{NoneBefore, RingLog}

abbrev pub first_line : List ℕ
first_line = bytes "(ring 2 (active) (black 1))\n"

abbrev pub other_lines : List (List ℕ)
other_lines =
    bytes "(announce)\n"
    ∷ bytes "(probe)\n"
    ∷ bytes "(pass 1)\n"
    ∷ bytes "(announce)\n"
    ∷ bytes "(probe)\n"
    ∷ bytes "(pass 1)\n"
    ∷ bytes "(announce)\n"
    ∷ bytes "(pass 1)\n"
    ∷ []

abbrev pub listing : List ℕ
listing = joined (first_line ∷ other_lines)

-- two passive nodes, of which node 1 is black
abbrev pub first : State
first = (start_of 2 (0 ∷ 2 ∷ [])).state

pub record ListingWhole : Type 0 where
  pub lines : lines_of listing ≡ first_line ∷ other_lines
  -- the first line is accepted, and begins a ring in that state
  pub asks : FirstAsks first_line (ring_start_ask 2 [] (1 ∷ []))
  pub accepted : first_verdict (ring_start_ask 2 [] (1 ∷ [])) ≡ Accepted
  pub begins : begun (ring_start_ask 2 [] (1 ∷ [])) ≡ on_ring first 0
  -- it is quiet, and K is 4
  pub quiet : QuietBy first []
  pub four :
      (log : RingLog listing other_lines 2 first) (q : QuietBy first []) (none : NoneBefore ring first log.asks other_lines 0)
      → (log.countdown 0 q none).0 ≡ 4
