-- A LOG OF UPDATES (Q-1): what is printed for each of its lines and at its end, and demand 3 of that very log for each update by itself, in terms
-- of its lines. Lines are numbered as in their answers: the lines after the first are lines 2 + i.
use Rattle.std.specs.Prelude.{◌*◌, ◌+◌, ◌-◌, ◌<◌, ◌≤◌, suc, ℕ, get_or, length, false, true, List, [], ◌++◌, ◌∷◌, ◌↔◌, ◌≢◌, ◌⊎◌, ◌≡◌}
use Rattle.forms.specs.Form.{Says, announce, update}
use Rattle.log_rules.specs.Answers.{answer_text, table_end}
use Rattle.log_rules.specs.Output.{output_of}
use Rattle.refusal.specs.Table.{code_of}
use Rattle.refusal.specs.Table.{Accepted}
use Rattle.ring_rules.specs.Start.{first_state}
use Rattle.ring_rules.specs.State.{State}
use Rattle.ring_rules.specs.Theorems.{TokenMove}
use Rattle.ring_runs.specs.Agreement.{Reachable, sends_made, shown}
use Rattle.ring_runs.specs.Counts.{kind}
use Rattle.runs.specs.Runs.{Request, run_of}
use Rattle.table_rules.specs.Answers.{Ask as TableAsk, Start, answer_on, verdict_on}
use Rattle.table_rules.specs.Runs.{table}
use Rattle.table_rules.specs.Table.{NotStarted, Started, Table, empty_table, slot_at}
use Rattle.table_runs.specs.Counts.{QuietIn, history_of, started_of}
use Rattle.table_runs.specs.WholeRun.{FromStart}
use Rattle.log_runs.specs.Answered.{OkAt, answers, said, verdict_at}
use Rattle.log_runs.specs.First.{flags_to, known_by}
use Rattle.log_runs.specs.Says.{Ask, Each, list_to, moves_in, no_step, request}
use Rattle.log_runs.specs.Updates.{UpdateAsk, UpdateAsks, oks_of, start, step, to_table, updates}

-- the table that the first line begins, which made the request `first`
abbrev pub table_begun : TableAsk → Table
table_begun first = (answer_on empty_table first).table

-- The lines after it ask for `qs`.
module _ (first : TableAsk) (qs : List (Ask UpdateAsk)) where
  -- the requests to the table of lines 1 to 1 + i
  abbrev pub made : ℕ → List TableAsk
  made i = first ∷ to_table (said qs i)

  -- the table before line 2 + i
  abbrev pub table_at : ℕ → Table
  table_at i = run_of table empty_table (made i)

  -- the token moves of u before line 2 + i, counted from its latest start
  abbrev pub moves_at : ℕ → ℕ → ℕ
  moves_at i u = moves_in (history_of u empty_table (made i)).taken

  -- line 2 + i is answered with ok
  abbrev pub LineOk : ℕ → Type 0
  LineOk i = OkAt updates (table_begun first) qs i

  -- line 2 + i is a start of u, and is answered with ok
  pub record StartedAt (u i : ℕ) : Type 0 where
    pub n : ℕ
    pub active : List ℕ
    pub black : List ℕ
    pub asks : get_or qs i no_step ≡ request (start u n active black)
    pub ok : LineOk i

  -- none of lines 2 + i to 1 + j is so
  abbrev pub NoStart : ℕ → ℕ → ℕ → Type 0
  NoStart u i j = (k : ℕ) → i ≤ k → k < j → StartedAt u k → ⊥

  -- Before line 2 + i every node of u is passive and no message of u is in transit, counted from u's latest start, in line 1 or later, and the
  -- steps of u accepted since.
  pub record QuietAt (u i : ℕ) : Type 0 where
    pub r : State
    pub began : (history_of u empty_table (made i)).first ≡ Started r
    pub quiet : QuietIn r (history_of u empty_table (made i)).taken

  -- They are `lines`.
  module _ (lines : List (List ℕ)) where
    -- line 2 + i is `(update u (announce))`, and is answered with ok
    abbrev pub AnnouncedAt : ℕ → ℕ → Type 0
    AnnouncedAt u i = Says (get_or lines i []) (update u announce) × LineOk i

    -- none of lines 2 + i to 1 + j is so
    abbrev pub NoAnnouncement : ℕ → ℕ → ℕ → Type 0
    NoAnnouncement u i j = (k : ℕ) → i ≤ k → k < j → AnnouncedAt u k → ⊥

    -- u is not announced before line 2 + i, but where a start of it follows
    abbrev pub OpenAt : ℕ → ℕ → Type 0
    OpenAt u i = (k : ℕ) → k < i → AnnouncedAt u k → (j : ℕ) × (k < j) × (j < i) × StartedAt u j

    -- K token moves of u are left at line 2 + i. At line 2 + j, there or later, as long as no start and no announcement of u is accepted in
    -- between, whatever the lines of other updates are:
    pub record UpdateCountsDown (u i K : ℕ) : Type 0 where
      -- a step of u is answered with ok only if it is a token move or `(update u (announce))`
      pub alone :
          (j : ℕ) → i ≤ j → NoStart u i j → NoAnnouncement u i j → (x : Request) → get_or qs j no_step ≡ request (step u x) → LineOk j
          → TokenMove (kind x) ⊎ Says (get_or lines j []) (update u announce)
      -- of the steps of u in between at most K are answered with ok
      pub at_most : (j : ℕ) → i ≤ j → NoStart u i j → NoAnnouncement u i j → oks_of (table_begun first) qs u j ≤ oks_of (table_begun first) qs u i + K
      -- and `(update u (announce))` is, exactly if K are
      pub exactly :
          (j : ℕ) → i ≤ j → NoStart u i j → NoAnnouncement u i j → Says (get_or lines j []) (update u announce)
          → LineOk j ↔ (oks_of (table_begun first) qs u j ≡ oks_of (table_begun first) qs u i + K)

-- The first line of the log s made the request `first`, a start with n nodes; `lines` are those after it.
pub record UpdateLog (s : List ℕ) (lines : List (List ℕ)) (n : ℕ) (first : TableAsk) : Type 0 where
  pub asks : List (Ask UpdateAsk)
  pub says : Each UpdateAsks lines asks
  -- `(ok 1)`, the answers, and the end lines of the started updates, moves counted from the latest start of each
  pub output :
      output_of s
      ≡ answer_text 1 Accepted
      ++ (answers updates (table_begun first) asks
      ++ table_end (table_at first asks (length asks)) (list_to (moves_at first asks (length asks)) 8))
  -- each line is judged on the table that the requests before it lead to; a start whose lists name nodes that there are as the table judges it
  pub judged :
      (i : ℕ) → run_of updates (table_begun first) (said asks i) ≡ table_at first asks i
  pub starts :
      (i u m : ℕ) (active black : List ℕ) → get_or asks i no_step ≡ request (start u m active black) → known_by m active black ≡ true
      → verdict_at updates (table_begun first) asks i
      ≡ verdict_on (table_at first asks i) (Start u m (flags_to active black m))
  -- u's latest start, which the counts below are from: the first line, where that starts u, until another line does; then the last line that did; and
  -- with neither u is not started
  pub began_first :
      (u m : ℕ) (flags : List ℕ) → first ≡ Start u m flags → (i : ℕ) → NoStart first asks u 0 i
      → (history_of u empty_table (made first asks i)).first ≡ Started (first_state m flags)
  pub began :
      (u k i : ℕ) (at : StartedAt first asks u k) → k < i → NoStart first asks u (suc k) i
      → (history_of u empty_table (made first asks i)).first ≡ Started (first_state at.n (flags_to at.active at.black at.n))
  pub began_none :
      (u i : ℕ) → ((m : ℕ) (flags : List ℕ) → first ≢ Start u m flags) → NoStart first asks u 0 i
      → started_of u empty_table (made first asks i) ≡ false
  -- no line is answered with 9
  pub below_limit : (i : ℕ) → code_of (verdict_at updates (table_begun first) asks i) ≢ 9
  -- `(update u (announce))` is answered with ok only if every node of u is passive and no message of u is in transit, counted from u's latest start
  -- and the steps of u accepted since
  pub quiet : (u i : ℕ) → AnnouncedAt first asks lines u i → QuietAt first asks u i
  -- and no step of u after it, until u is started afresh
  pub last :
      (u i j : ℕ) → i < j → AnnouncedAt first asks lines u i → NoStart first asks u i j
      → (x : Request) → get_or asks j no_step ≡ request (step u x) → LineOk first asks j → ⊥
  -- once every node of u is passive and no message of u is in transit, and until its announcement or next start: K token moves of u are left, K
  -- fixed there
  pub countdown :
      (u i : ℕ) → QuietAt first asks u i → OpenAt first asks lines u i
      → (K : ℕ) × (K ≤ 3 * n - 2) × UpdateCountsDown first asks lines u i K
  -- demand 3 of each started update at each line, of all requests that could come next there; pending of b is the accepted sends to b less the
  -- messages that b has received
  pub point :
      (u i : ℕ) → started_of u empty_table (made first asks i) ≡ true → FromStart empty_table u (made first asks i)
  pub not_started :
      (u i : ℕ) → started_of u empty_table (made first asks i) ≡ false
      → slot_at (table_at first asks i) u ≡ NotStarted
  -- EWD998, its SendMsg widened to any receiver, reaches the state of each started update before each line, and all have n nodes
  pub reachable :
      (u i : ℕ) (r : State) → slot_at (table_at first asks i) u ≡ Started r → (h : 0 < r.n) → Reachable h (shown r) (sends_made r)
  pub nodes : (u i : ℕ) (r : State) → slot_at (table_at first asks i) u ≡ Started r → r.n ≡ n
