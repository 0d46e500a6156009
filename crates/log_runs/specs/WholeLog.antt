-- THE WHOLE LOG, for every list of bytes: what is printed for each of its lines and at its end, and demand 3 of that very log.
-- The proof is in proofs/WholeLog.antt. Lines are numbered as in their answers: the lines after the first are lines 2 + i.
use Rattle.std.specs.Prelude.{◌*◌, ◌+◌, ◌-◌, ◌<◌, ◌≤◌, ℕ, get_or, List, [], ◌++◌, ◌∷◌, ◌↔◌, ◌⊎◌, ◌≡◌}
use Rattle.decimal.specs.Bytes.{bytes}
use Rattle.forms.specs.Form.{Says, announce}
use Rattle.log_rules.specs.Answers.{answer_text, ring_end, tree_end}
use Rattle.log_rules.specs.Lines.{lines_of}
use Rattle.log_rules.specs.Output.{output_of}
use Rattle.refusal.specs.Table.{Verdict}
use Rattle.refusal.specs.Table.{Accepted, Refused}
use Rattle.ring_rules.specs.Theorems.{TokenMove}
use Rattle.ring_runs.specs.Counts.{ring}
use Rattle.runs.specs.Runs.{Machine, Request, accepted_of, run_of}
use Rattle.table_rules.specs.Answers.{Start}
use Rattle.tree_rules.specs.Termination.{Closing}
use Rattle.tree_runs.specs.Counts.{tree}
use Rattle.tree_runs.specs.WholeRun.{steps_by}
use Rattle.log_runs.specs.Answered.{OkAt, answers, oks, said}
use Rattle.log_runs.specs.First.{FirstAsks, StartAsk, first_verdict, flags_to, no_start, ring_start_ask, tree_start_ask, update_start}
use Rattle.log_runs.specs.Says.{Ask, Each, RingAsks, TreeAsks, moves_in, no_step, request, requests_in}
use Rattle.log_runs.specs.UpdateLog.{UpdateLog}
use Rattle.ring_rules.specs.Start as ring_start
use Rattle.ring_rules.specs.State as ring_state
use Rattle.ring_runs.specs.Agreement as ring_agreement
use Rattle.ring_runs.specs.Counts as ring_counts
use Rattle.ring_runs.specs.View as ring_view
use Rattle.ring_runs.specs.WholeRun as ring_runs
use Rattle.tree_rules.specs.Start as tree_start
use Rattle.tree_rules.specs.State as tree_state
use Rattle.tree_runs.specs.Agreement as tree_agreement
use Rattle.tree_runs.specs.Counts as tree_counts
use Rattle.tree_runs.specs.View as tree_view
use Rattle.tree_runs.specs.WholeRun as tree_runs

-- ---- the announcement, and the steps that are left before it

-- A run of the machine m from s, whose lines, 2 and on, are `lines` and ask for `qs`.
module _ {S : Type 0} (m : Machine S Request) (s : S) (qs : List (Ask Request)) (lines : List (List ℕ)) where
  -- line 2 + i is `(announce)`, and is answered with ok
  abbrev pub AnnouncedAt : ℕ → Type 0
  AnnouncedAt i = Says (get_or lines i []) announce × OkAt m s qs i

  -- no line before line 2 + j is so
  abbrev pub NoneBefore : ℕ → Type 0
  NoneBefore j = (i : ℕ) → i < j → AnnouncedAt i → ⊥

  -- K steps of a kind are left at line 2 + i. At line 2 + j, there or later, as long as no announcement is accepted before it:
  pub record CountsDown (Step : Request → Type 0) (i K : ℕ) : Type 0 where
    -- it is answered with ok only if it asks for such a step or is `(announce)`
    pub alone :
        (j : ℕ) → i ≤ j → NoneBefore j → OkAt m s qs j → ((x : Request) × (get_or qs j no_step ≡ request x) × Step x) ⊎ Says (get_or lines j []) announce
    -- of the lines in between at most K are answered with ok
    pub at_most : (j : ℕ) → i ≤ j → NoneBefore j → oks m s qs j ≤ oks m s qs i + K
    -- and `(announce)` is, exactly if K are
    pub exactly : (j : ℕ) → i ≤ j → NoneBefore j → Says (get_or lines j []) announce → OkAt m s qs j ↔ (oks m s qs j ≡ oks m s qs i + K)

-- ---- a ring's log

-- The first line of the log s began a ring of n nodes in the state r; `lines` are those after it.
pub record RingLog (s : List ℕ) (lines : List (List ℕ)) (n : ℕ) (r : ring_state.State) : Type 0 where
  pub asks : List (Ask Request)
  pub says : Each RingAsks lines asks
  -- `(ok 1)`, the answers, and the end line: N, the token's position, the accepted token moves, messages in transit, black nodes
  pub output :
      output_of s
      ≡ answer_text 1 Accepted
      ++ (answers ring r asks
      ++ ring_end (run_of ring r (requests_in asks)) (moves_in (accepted_of ring r (requests_in asks))))
  -- `(announce)` is answered with ok only if every node is passive and no message is in transit, counted from the start and the requests
  -- accepted before it
  pub quiet : (i : ℕ) → AnnouncedAt ring r asks lines i → ring_counts.QuietBy r (said asks i)
  -- and no line after it
  pub last : (i j : ℕ) → i < j → AnnouncedAt ring r asks lines i → OkAt ring r asks j → ⊥
  -- once every node is passive and no message is in transit, and until the announcement: K token moves are left, K fixed there
  pub countdown :
      (i : ℕ) → ring_counts.QuietBy r (said asks i) → NoneBefore ring r asks lines i
      → (K : ℕ) × (K ≤ 3 * n - 2) × CountsDown ring r asks lines (λ x. TokenMove (ring_counts.kind x)) i K
  -- demand 3 at each line, of all requests that could come next there
  pub point : (i : ℕ) → ring_runs.Point r (said asks i)
  -- pending of b is the accepted sends to b less the messages that b has received, those of its accepted takes
  pub received :
      (i b : ℕ) → ring_state.received_at (run_of ring r (said asks i)) b ≡ ring_counts.takes_by (accepted_of ring r (said asks i)) b
  pub pending :
      (i b : ℕ)
      → ring_state.pending_at (run_of ring r (said asks i)) b + ring_state.received_at (run_of ring r (said asks i)) b
      ≡ ring_counts.sends_to (accepted_of ring r (said asks i)) b
  -- EWD998, its SendMsg widened to any receiver, reaches the state before each line
  pub reachable :
      (h : 0 < n) (i : ℕ)
      → ring_agreement.Reachable h (ring_view.vars_of n (run_of ring r (said asks i)))
      (ring_agreement.sends_made (run_of ring r (said asks i)))

-- ---- a tree's log

-- The first line of the log s began a tree of n nodes with this root in the state t; `lines` are those after it.
pub record TreeLog (s : List ℕ) (lines : List (List ℕ)) (n root : ℕ) (t : tree_state.State) : Type 0 where
  pub asks : List (Ask Request)
  pub says : Each TreeAsks lines asks
  -- `(ok 1)`, the answers, and the end line: N, the tree's text, acknowledgements in transit
  pub output :
      output_of s
      ≡ answer_text 1 Accepted ++ (answers tree t asks ++ tree_end (run_of tree t (requests_in asks)))
  -- `(announce)` is answered with ok only if every node is passive and no message is in transit, counted from the start and the requests
  -- accepted before it
  pub quiet : (i : ℕ) → AnnouncedAt tree t asks lines i → tree_counts.QuietBy t (said asks i)
  -- and no line after it
  pub last : (i j : ℕ) → i < j → AnnouncedAt tree t asks lines i → OkAt tree t asks j → ⊥
  -- once every node is passive and no message is in transit, and until the announcement: A + 2E acknowledgements and leavings are left
  pub countdown :
      (i : ℕ) → tree_counts.QuietBy t (said asks i) → NoneBefore tree t asks lines i
      → CountsDown tree t asks lines (λ x. Closing (tree_counts.kind x)) i (steps_by t (said asks i))
  -- demand 3 at each line, of all requests that could come next there
  pub point : (i : ℕ) → tree_runs.Point t (said asks i)
  -- document 003 reaches the state before each line
  pub reachable :
      (h : root < n) (i : ℕ)
      → tree_agreement.Reachable {N = n} (record { nr = root; below = h }) (tree_view.systems_of n (run_of tree t (said asks i)))
      (run_of tree t (said asks i)).sends

-- ---- the log

-- by the verdict on the first line: "After a bad or missing first line the program prints only that refusal"
abbrev pub LogBy : List ℕ → List (List ℕ) → StartAsk → Verdict → Type 0
LogBy s lines a (Refused e) = output_of s ≡ answer_text 1 (Refused e)
LogBy s lines (ring_start_ask n active black) Accepted = RingLog s lines n (ring_start.start_of n (flags_to active black n)).state
LogBy s lines (tree_start_ask n root) Accepted = TreeLog s lines n root (tree_start.start_of n root).state
LogBy s lines (update_start u n active black) Accepted = UpdateLog s lines n (Start u n (flags_to active black n))
LogBy s lines no_start Accepted = ⊥

-- its first line is missing; or it asks for a start or for none, and the verdict on that decides
pub record LogTold (s : List ℕ) : Type 0 where
  pub missing : lines_of s ≡ [] → output_of s ≡ bytes "(no 1 10)\n"
  pub begins : (l : List ℕ) (lines : List (List ℕ)) → lines_of s ≡ l ∷ lines → (a : StartAsk) × FirstAsks l a × LogBy s lines a (first_verdict a)

abbrev pub WholeLog : Type 0
WholeLog = (s : List ℕ) → LogTold s
