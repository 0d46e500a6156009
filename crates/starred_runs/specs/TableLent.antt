-- What other languages are told of rings, lent field by field. In `handed` no two fields are alike, so that none stands in another's place.
-- "A refusal gives its number and the state handed in; no byte of a lent buffer differs."
use Rattle.std.specs.Prelude.{ℕ, ℤ, replicate, set, List, [], ◌++◌, ◌∷◌}
use Rattle.lent.specs.Ring.{Lent, lent}
use Rattle.signed.specs.Integers.{◌⊖◌}
use Rattle.starred_runs.specs.Case.{Case, conclusive, lent_drive, lent_sound, lent_start, lent_step, spent, waiting}

-- ---- rings of three nodes

-- a column of which three places are in use
abbrev pub three : ℕ → ℕ → ℕ → List ℕ
three a b c = a ∷ b ∷ c ∷ replicate 93 0

-- active, the first byte of colors, the token's position, sum and color, closed; the messages total 18 sent, 9 received, 9 pending
abbrev pub busy : List ℕ → ℕ → ℕ → ℤ → ℕ → ℕ → Lent
busy active color at q black closed =
    lent 3 active (color ∷ replicate 11 0) (three 5 6 7) (three 3 4 2) (three 2 1 6) at q black closed

-- no message on its way, every node passive; sent less received is -3, 3 and 0
abbrev pub quiet : ℕ → ℕ → ℤ → ℕ → ℕ → Lent
quiet color at q black closed =
    lent 3 (three 0 0 0) (color ∷ replicate 11 0) (three 2 7 3) (three 5 4 3) (three 0 0 0) at q black closed

-- node 0 active, nodes 0 and 1 black, a black token at node 1
abbrev pub handed : Lent
handed = busy (three 1 0 0) 3 1 (0 ⊖ 4) 1 0

-- what lies in the fields before a start
abbrev pub unread : Lent
unread =
    lent 77 (replicate 96 9) (replicate 12 8) (replicate 96 7) (replicate 96 6) (replicate 96 5) 4 (0 ⊖ 3) 2 99

-- a start that is refused with this number: every field as it was
abbrev pub starts_not : ℕ → List ℕ → ℕ → Case
starts_not n flags k = lent_start n flags unread k unread

unfoldable pub starts : List Case
starts =
    -- 0 and 2 active, 0 and 1 black; every count 0, a black token at node 0
    lent_start 3 (3 ∷ 2 ∷ 1 ∷ []) unread 0 (lent 3 (three 1 0 1) (3 ∷ replicate 11 0) (three 0 0 0) (three 0 0 0) (three 0 0 0) 0 (0 ⊖ 0) 1 0)
    ∷ starts_not 0 [] 1
    ∷ starts_not 97 (replicate 97 0) 1
    -- 257 and 4294967297 are 1 in their lowest byte, and in their lowest 32 bits
    ∷ starts_not 257 (3 ∷ []) 1
    ∷ starts_not 4294967297 (3 ∷ []) 1
    ∷ starts_not 3 (3 ∷ 2 ∷ []) 2
    ∷ starts_not 3 (3 ∷ 2 ∷ 4 ∷ []) 2
    ∷ []

-- a step that is refused with this number: every field as it was
abbrev pub keeps : Lent → ℕ → ℕ → ℕ → ℕ → Case
keeps l kind i j k = lent_step l kind i j k l

-- kinds 1 to 6: send i j, take i j, idle i, probe, pass i, announce
unfoldable pub steps : List Case
steps =
    -- sent of 0 and pending of 2 rise
    lent_step handed 1 0 2 0 (lent 3 (three 1 0 0) (3 ∷ replicate 11 0) (three 6 6 7) (three 3 4 2) (three 2 1 7) 1 (0 ⊖ 4) 1 0)
    -- 257 is 1 in its lowest byte
    ∷ keeps handed 257 0 2 5
    -- pending of 2 falls by 4, received rises by 4, 2 becomes active and black
    ∷ lent_step handed 2 2 4 0 (lent 3 (three 1 0 1) (7 ∷ replicate 11 0) (three 5 6 7) (three 3 4 6) (three 2 1 2) 1 (0 ⊖ 4) 1 0)
    -- 4294967297 is 1 in its lowest 32 bits
    ∷ keeps handed 2 2 0 8
    ∷ keeps handed 2 2 7 8
    ∷ keeps handed 2 2 4294967297 8
    ∷ lent_step handed 3 0 9 0 (busy (three 0 0 0) 3 1 (0 ⊖ 4) 1 0)
    -- q is 0, the token white and at 2, node 0 white
    ∷ lent_step (busy (three 1 0 0) 3 0 (0 ⊖ 4) 1 0) 4 9 9 0 (busy (three 1 0 0) 2 2 (0 ⊖ 0) 0 0)
    -- q gains 6 - 4; node 1 is white and the token black
    ∷ lent_step (busy (three 1 0 0) 3 1 (0 ⊖ 4) 0 0) 5 1 9 0 (busy (three 1 0 0) 1 0 (0 ⊖ 2) 1 0)
    ∷ lent_step (quiet 0 0 (3 ⊖ 0) 0 0) 6 9 9 0 (quiet 0 0 (3 ⊖ 0) 0 1)
    ∷ keeps (quiet 0 0 (3 ⊖ 0) 0 1) 4 9 9 4
    ∷ keeps handed 7 0 2 5
    ∷ keeps handed 1 0 3 6
    -- 256, 258 and 4294967296 are 0, 2 and 0 in their lowest byte, or in their lowest 32 bits
    ∷ keeps handed 1 256 2 6
    ∷ keeps handed 1 0 258 6
    ∷ keeps handed 3 4294967296 9 6
    ∷ keeps handed 1 1 0 8
    -- to oneself: sent and pending of 0 rise; node 1 is passive
    ∷ lent_step handed 1 0 0 0 (lent 3 (three 1 0 0) (3 ∷ replicate 11 0) (three 6 6 7) (three 3 4 2) (three 3 1 6) 1 (0 ⊖ 4) 1 0)
    ∷ keeps handed 1 1 1 8
    ∷ []

-- sound rings, open and closed; closed where announce's test fails; received lent for sent
unfoldable pub soundness : List Case
soundness =
    lent_sound handed 1
    ∷ lent_sound (quiet 0 0 (3 ⊖ 0) 0 1) 1
    ∷ lent_sound (busy (three 1 0 0) 3 1 (0 ⊖ 4) 1 1) 0
    ∷ lent_sound (lent 3 (three 1 0 0) (3 ∷ replicate 11 0) (three 3 4 2) (three 5 6 7) (three 2 1 6) 1 (0 ⊖ 4) 1 0) 0
    ∷ []

-- the count of moves lent is 77
unfoldable pub drives : List Case
drives =
    lent_drive (quiet 2 1 (0 ⊖ 0) 0 0) 5 77 conclusive 4 (quiet 0 0 (3 ⊖ 0) 0 0)
    ∷ lent_drive (quiet 2 1 (0 ⊖ 0) 0 0) 1 77 spent 1 (quiet 0 0 (3 ⊖ 0) 1 0)
    ∷ lent_drive (busy (three 0 1 0) 3 1 (0 ⊖ 4) 1 0) 5 77 waiting 0 (busy (three 0 1 0) 3 1 (0 ⊖ 4) 1 0)
    ∷ lent_drive (quiet 2 1 (0 ⊖ 0) 0 0) 1001 77 11 77 (quiet 2 1 (0 ⊖ 0) 0 0)
    ∷ lent_drive (quiet 2 1 (0 ⊖ 0) 0 0) 4294967297 77 11 77 (quiet 2 1 (0 ⊖ 0) 0 0)
    ∷ lent_drive (quiet 0 0 (3 ⊖ 0) 0 1) 5 77 4 77 (quiet 0 0 (3 ⊖ 0) 0 1)
    ∷ []

-- ---- a byte that is no truth: of a node, of a place past n, of the token, of the run

abbrev pub no_flag : Lent → List Case
no_flag l = keeps l 1 0 2 3 ∷ lent_sound l 0 ∷ lent_drive l 5 77 3 77 l ∷ []

unfoldable pub flags : List Case
flags =
    no_flag (busy (three 1 2 0) 3 1 (0 ⊖ 4) 1 0)
    ++ (no_flag (busy (set (three 1 0 0) 95 2) 3 1 (0 ⊖ 4) 1 0)
    ++ (no_flag (busy (three 1 0 0) 3 1 (0 ⊖ 4) 2 0) ++ no_flag (busy (three 1 0 0) 3 1 (0 ⊖ 4) 1 2)))
