-- Document 01, "A ring state is sound if": for each clause a ring that breaks it alone, and beside it the nearest rings that are sound.
use Rattle.std.specs.Prelude.{List, [], ◌∷◌}
use Rattle.signed.specs.Integers.{◌⊖◌}
use Rattle.starred_runs.specs.Case.{BlackNode, BlackToken, Case, Gathered, Positive, ring_sound, ring_unsound, sound_by}
use Rattle.starred_runs.specs.RingStates.{active, black, closed, handed, holder, nodes, pending, received, sent, sum, white_token}
use Rattle.starred_runs.specs.Case as test

-- "N and holder are in range"
unfoldable pub range : List Case
range =
    ring_unsound test.Range (handed (nodes 0 ∷ []))
    ∷ ring_sound (handed (nodes 1 ∷ []))
    ∷ ring_sound (handed (nodes 96 ∷ []))
    ∷ ring_unsound test.Range (handed (nodes 97 ∷ []))
    ∷ ring_sound (handed (holder 2 ∷ []))
    ∷ ring_unsound test.Range (handed (holder 3 ∷ []))
    ∷ []

-- "sent over all boards totals at most 1,000,000 and equals taken plus pending over all boards"
unfoldable pub flow : List Case
flow =
    ring_sound (handed (sent 0 999999 ∷ sent 2 1 ∷ pending 1 1000000 ∷ []))
    ∷ ring_unsound test.Flow (handed (sent 0 1000000 ∷ sent 2 1 ∷ pending 1 1000001 ∷ []))
    ∷ ring_sound (handed (sent 0 1 ∷ pending 1 1 ∷ []))
    ∷ ring_sound (handed (sent 0 1 ∷ received 1 1 ∷ []))
    ∷ ring_unsound test.Flow (handed (sent 0 1 ∷ []))
    ∷ ring_unsound test.Flow (handed (pending 1 1 ∷ []))
    ∷ ring_unsound test.Flow (handed (received 1 1 ∷ []))
    ∷ []

-- "q lies within (N − 1 − holder) × 1,000,000 either side of 0"
unfoldable pub sums : List Case
sums =
    ring_sound (handed (holder 1 ∷ sum (1000000 ⊖ 0) ∷ []))
    ∷ ring_unsound test.Sum (handed (holder 1 ∷ sum (1000001 ⊖ 0) ∷ []))
    ∷ ring_sound (handed (holder 1 ∷ sum (0 ⊖ 1000000) ∷ []))
    ∷ ring_unsound test.Sum (handed (holder 1 ∷ sum (0 ⊖ 1000001) ∷ []))
    ∷ ring_sound (handed (holder 0 ∷ sum (2000000 ⊖ 0) ∷ []))
    ∷ ring_unsound test.Sum (handed (holder 0 ∷ sum (0 ⊖ 2000001) ∷ []))
    ∷ ring_unsound test.Sum (handed (holder 2 ∷ sum (1 ⊖ 0) ∷ []))
    ∷ []

-- "one of Safra's four holds, where t is the holder": the token at node 1 of three
unfoldable pub safra : List Case
safra =
    ring_unsound test.Safra (handed (holder 1 ∷ white_token ∷ sum (0 ⊖ 1) ∷ []))
    -- "all boards above t are idle and q is the total of their counters"
    ∷ sound_by Gathered (handed (holder 1 ∷ white_token ∷ []))
    ∷ sound_by Gathered (handed (holder 1 ∷ white_token ∷ sum (0 ⊖ 1) ∷ sent 0 1 ∷ received 2 1 ∷ []))
    ∷ ring_unsound test.Safra (handed (holder 1 ∷ white_token ∷ sum (0 ⊖ 1) ∷ sent 0 1 ∷ received 1 1 ∷ []))
    ∷ sound_by Gathered (handed (holder 1 ∷ white_token ∷ active 1 ∷ []))
    ∷ ring_unsound test.Safra (handed (holder 1 ∷ white_token ∷ active 2 ∷ []))
    -- "or q plus the counters of boards 0 to t is above 0"
    ∷ sound_by Positive (handed (holder 1 ∷ white_token ∷ sum (1 ⊖ 0) ∷ []))
    ∷ sound_by Positive (handed (holder 1 ∷ white_token ∷ active 2 ∷ sent 1 1 ∷ pending 2 1 ∷ []))
    ∷ ring_unsound test.Safra (handed (holder 1 ∷ white_token ∷ active 2 ∷ sent 2 1 ∷ pending 1 1 ∷ []))
    -- "or one of boards 0 to t is black"
    ∷ sound_by BlackNode (handed (holder 1 ∷ white_token ∷ sum (0 ⊖ 1) ∷ black 0 ∷ []))
    ∷ sound_by BlackNode (handed (holder 1 ∷ white_token ∷ sum (0 ⊖ 1) ∷ black 1 ∷ []))
    ∷ ring_unsound test.Safra (handed (holder 1 ∷ white_token ∷ sum (0 ⊖ 1) ∷ black 2 ∷ []))
    -- "or the token is black"
    ∷ sound_by BlackToken (handed (holder 1 ∷ sum (0 ⊖ 1) ∷ []))
    ∷ []

-- "Unused places and bits are zero"
unfoldable pub unused : List Case
unused =
    ring_sound (handed (active 2 ∷ black 2 ∷ sent 2 2 ∷ received 2 1 ∷ pending 2 1 ∷ []))
    ∷ ring_unsound test.Unused (handed (active 3 ∷ []))
    ∷ ring_unsound test.Unused (handed (black 3 ∷ []))
    ∷ ring_unsound test.Unused (handed (sent 3 1 ∷ []))
    ∷ ring_unsound test.Unused (handed (received 3 1 ∷ []))
    ∷ ring_unsound test.Unused (handed (pending 3 1 ∷ []))
    ∷ ring_unsound test.Unused (handed (active 95 ∷ []))
    ∷ ring_unsound test.Unused (handed (black 95 ∷ []))
    ∷ ring_unsound test.Unused (handed (sent 95 1 ∷ []))
    ∷ ring_unsound test.Unused (handed (received 95 1 ∷ []))
    ∷ ring_unsound test.Unused (handed (pending 95 1 ∷ []))
    ∷ []

-- "and a closed state passes the announce test"
unfoldable pub announced : List Case
announced =
    ring_sound (handed (closed ∷ white_token ∷ []))
    ∷ ring_sound (handed (closed ∷ white_token ∷ sum (0 ⊖ 1) ∷ sent 0 1 ∷ received 2 1 ∷ []))
    ∷ ring_unsound test.Announced (handed (closed ∷ white_token ∷ holder 1 ∷ []))
    ∷ ring_unsound test.Announced (handed (closed ∷ []))
    ∷ ring_unsound test.Announced (handed (closed ∷ white_token ∷ black 0 ∷ []))
    ∷ ring_unsound test.Announced (handed (closed ∷ white_token ∷ sum (1 ⊖ 0) ∷ []))
    ∷ ring_unsound test.Announced (handed (closed ∷ white_token ∷ active 0 ∷ []))
    ∷ []
