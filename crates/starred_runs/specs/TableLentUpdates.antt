-- What other languages are told of tables, lent column by column. At update 7 no two columns are alike, nor are the columns' places 0 and 7, so that
-- none stands in another's place.
use Rattle.std.specs.Prelude.{ℕ, replicate, List, [], ◌++◌, ◌∷◌}
use Rattle.lent.specs.Ring.{Lent, lent}
use Rattle.lent.specs.Table.{LentTable, lent_table}
use Rattle.signed.specs.Integers.{◌⊖◌}
use Rattle.table_rules.specs.Answers.{Ask, Start, step_ask}
use Rattle.starred_runs.specs.Case.{Case, lent_table_case, lent_table_sound}
use Rattle.starred_runs.specs.TableLent.{busy, quiet, three}

-- ---- tables of rings of three nodes

abbrev pub eight : {A : Type 0} → A → A → A → List A
eight a c b = a ∷ (replicate 6 c ++ (b ∷ []))

-- a place that is not started: nothing is asked of what else lies there
abbrev pub unstarted : Lent
unstarted =
    lent 0 (replicate 96 9) (replicate 12 8) (replicate 96 7) (replicate 96 6) (replicate 96 5) 4 (0 ⊖ 3) 2 99

-- updates 0 and 7 lie so, and the others are not started
abbrev pub columns : Lent → Lent → LentTable
columns a b =
    lent_table (eight a.n unstarted.n b.n) (eight a.pos unstarted.pos b.pos) (eight a.q unstarted.q b.q)
    (eight a.black unstarted.black b.black) (eight a.closed unstarted.closed b.closed)
    (eight a.active unstarted.active b.active) (eight a.color unstarted.color b.color)
    (eight a.sent unstarted.sent b.sent) (eight a.received unstarted.received b.received)
    (eight a.pending unstarted.pending b.pending)

-- update 0: closed, a white token at node 0
abbrev pub first : Lent
first = quiet 0 0 (3 ⊖ 0) 0 1

-- update 7: node 0 active, nodes 0 and 1 black, a black token at node 2
abbrev pub last : Lent
last = busy (three 1 0 0) 3 2 (0 ⊖ 0) 1 0

abbrev pub handed : LentTable
handed = columns first last

-- a start of three nodes: 0 and 2 active, 0 and 1 black; every count 0, a black token at node 0
abbrev pub afresh : Lent
afresh = lent 3 (three 1 0 1) (3 ∷ replicate 11 0) (three 0 0 0) (three 0 0 0) (three 0 0 0) 0 (0 ⊖ 0) 1 0

-- a request that is refused with this number: every column as it was
abbrev pub keeps : LentTable → Ask → ℕ → Case
keeps m a k = lent_table_case m a k m

-- its sends are spent, all of them of node 0 and on their way to node 1
abbrev pub spent : Lent
spent = lent 3 (three 1 0 0) (replicate 12 0) (three 1000000 0 0) (three 0 0 0) (three 0 1000000 0) 0 (0 ⊖ 0) 1 0

unfoldable pub starts : List Case
starts =
    lent_table_case (columns first unstarted) (Start 7 3 (3 ∷ 2 ∷ 1 ∷ [])) 0 (columns first afresh)
    ∷ lent_table_case (columns unstarted unstarted) (Start 0 3 (3 ∷ 2 ∷ 1 ∷ [])) 0 (columns afresh unstarted)
    -- afresh, closed or open
    ∷ lent_table_case handed (Start 0 3 (3 ∷ 2 ∷ 1 ∷ [])) 0 (columns afresh last)
    ∷ lent_table_case handed (Start 7 3 (3 ∷ 2 ∷ 1 ∷ [])) 0 (columns first afresh)
    ∷ lent_table_case (columns spent spent) (Start 0 3 (3 ∷ 2 ∷ 1 ∷ [])) 0 (columns afresh spent)
    ∷ keeps handed (Start 8 3 (3 ∷ 2 ∷ 1 ∷ [])) 13
    -- 263 is 7 in its lowest byte
    ∷ keeps handed (Start 263 3 (3 ∷ 2 ∷ 1 ∷ [])) 13
    ∷ keeps handed (Start 7 2 (3 ∷ 2 ∷ [])) 1
    ∷ keeps handed (Start 7 3 (3 ∷ 2 ∷ [])) 2
    ∷ []

unfoldable pub steps : List Case
steps =
    -- of update 7: sent of 0 and pending of 2 rise
    lent_table_case handed (step_ask 7 1 0 2) 0
    (columns first (lent 3 (three 1 0 0) (3 ∷ replicate 11 0) (three 6 6 7) (three 3 4 2) (three 2 1 7) 2 (0 ⊖ 0) 1 0))
    -- pending of 2 falls by 4, received rises by 4, 2 becomes active and black
    ∷ lent_table_case handed (step_ask 7 2 2 4) 0
    (columns first (lent 3 (three 1 0 1) (7 ∷ replicate 11 0) (three 5 6 7) (three 3 4 6) (three 2 1 2) 2 (0 ⊖ 0) 1 0))
    -- 4294967297 is 1 in its lowest 32 bits
    ∷ keeps handed (step_ask 7 2 2 0) 8
    ∷ keeps handed (step_ask 7 2 2 7) 8
    ∷ keeps handed (step_ask 7 2 2 4294967297) 8
    -- q gains 7 - 2, the token is at 1
    ∷ lent_table_case handed (step_ask 7 5 2 9) 0 (columns first (busy (three 1 0 0) 3 1 (5 ⊖ 0) 1 0))
    -- of update 0
    ∷ lent_table_case (columns last first) (step_ask 0 3 0 9) 0 (columns (busy (three 0 0 0) 3 2 (0 ⊖ 0) 1 0) first)
    ∷ lent_table_case (columns (quiet 0 0 (3 ⊖ 0) 0 0) last) (step_ask 0 6 9 9) 0 handed
    ∷ keeps handed (step_ask 0 4 9 9) 4
    ∷ keeps handed (step_ask 3 4 9 9) 13
    ∷ keeps handed (step_ask 8 4 9 9) 13
    ∷ keeps handed (step_ask 263 1 0 2) 13
    ∷ keeps handed (step_ask 7 1 1 0) 8
    -- to oneself: sent and pending of 0 rise; node 1 is passive
    ∷ lent_table_case handed (step_ask 7 1 0 0) 0
    (columns first (lent 3 (three 1 0 0) (3 ∷ replicate 11 0) (three 6 6 7) (three 3 4 2) (three 3 1 6) 2 (0 ⊖ 0) 1 0))
    ∷ keeps handed (step_ask 7 1 1 1) 8
    -- 9 of update 0, beside update 7 that sends
    ∷ keeps (columns spent last) (step_ask 0 1 0 2) 9
    ∷ lent_table_case (columns spent last) (step_ask 7 1 0 2) 0
    (columns spent (lent 3 (three 1 0 0) (3 ∷ replicate 11 0) (three 6 6 7) (three 3 4 2) (three 2 1 7) 2 (0 ⊖ 0) 1 0))
    ∷ []

-- sound tables; a ring that is not sound, two numbers of nodes, and a byte that is no truth, at either place
unfoldable pub soundness : List Case
soundness =
    lent_table_sound handed 1
    ∷ lent_table_sound (columns unstarted unstarted) 1
    ∷ lent_table_sound (columns first (busy (three 1 0 0) 3 2 (0 ⊖ 0) 1 1)) 0
    ∷ lent_table_sound (columns first (lent 2 (three 1 0 0) (3 ∷ replicate 11 0) (three 0 0 0) (three 0 0 0) (three 0 0 0) 0 (0 ⊖ 0) 1 0)) 0
    ∷ lent_table_sound (columns (quiet 0 0 (3 ⊖ 0) 2 0) last) 0
    ∷ keeps (columns (quiet 0 0 (3 ⊖ 0) 2 0) last) (step_ask 7 1 0 2) 3
    ∷ lent_table_sound (columns first (busy (three 1 0 0) 3 2 (0 ⊖ 0) 1 2)) 0
    ∷ keeps (columns first (busy (three 1 0 0) 3 2 (0 ⊖ 0) 1 2)) (Start 0 3 (3 ∷ 2 ∷ 1 ∷ [])) 3
    ∷ []
