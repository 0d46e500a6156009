-- That demand 3 speaks of something: a start and states handed in that meet what `WholeRuns` (tree_runs) asks for, and quiet points of
-- their runs, with K worked out there. Only statements are here; proofs/Tree.antt proves them.
use Rattle.std.specs.Prelude.{ℕ, replicate, false, List, [], ◌++◌, ◌∷◌, ◌≡◌}
use Rattle.refusal.specs.Table.{Accepted}
use Rattle.runs.specs.Runs.{Accepts, Request, accepted_of, run_of}
use Rattle.tree_rules.specs.Soundness.{Open}
use Rattle.tree_rules.specs.Start.{start_of, start_verdict}
use Rattle.tree_rules.specs.State.{State}
use Rattle.tree_runs.specs.Agreement.{Reachable}
use Rattle.tree_runs.specs.Counts.{Announced, QuietBy, Unannounced, acks_by, others_by, tree}
use Rattle.tree_runs.specs.DijkstraScholten.{Addr, Initial, SignalTermination}
use Rattle.tree_runs.specs.Requests.{ack, announce, idle, leave, numbers, send, take}
use Rattle.tree_runs.specs.View.{systems_of}
use Rattle.tree_runs.specs.WholeRun.{Counted, steps_by}

-- ---- the start of document 01's starred run, and that run with three requests put in that are refused

abbrev pub first : State
first = (start_of 3 0).state

abbrev pub requests : List Request
requests = announce ∷ send 0 1 ∷ send 0 3 ∷ take 1 0 ∷ take 1 0 ∷ idle 0 ∷ idle 1 ∷ []

abbrev pub answers : List ℕ
answers = 8 ∷ 0 ∷ 6 ∷ 0 ∷ 8 ∷ 0 ∷ 0 ∷ []

-- from there to the announcement
abbrev pub steps : List Request
steps = leave 1 ∷ ack 0 ∷ []

-- ---- one node by itself (document 02, Q-4): it sends to itself, takes the message, acknowledges itself and becomes passive; three announcements
-- are refused

abbrev pub alone : State
alone = (start_of 1 0).state

abbrev pub alone_requests : List Request
alone_requests = send 0 0 ∷ announce ∷ take 0 0 ∷ announce ∷ ack 0 ∷ announce ∷ idle 0 ∷ []

abbrev pub alone_answers : List ℕ
alone_answers = 0 ∷ 8 ∷ 0 ∷ 8 ∷ 0 ∷ 8 ∷ 0 ∷ []

-- passive with its message in transit; and, having taken it, with the acknowledgement
abbrev pub alone_sends : List Request
alone_sends = send 0 0 ∷ idle 0 ∷ []

abbrev pub alone_takes : List Request
alone_takes = take 0 0 ∷ idle 0 ∷ []

-- ---- node 1, which the root engaged, sends to itself; it may not leave before its own acknowledgement

abbrev pub below_requests : List Request
below_requests = send 0 1 ∷ take 1 0 ∷ send 1 1 ∷ idle 1 ∷ leave 1 ∷ take 1 1 ∷ idle 1 ∷ leave 1 ∷ idle 0 ∷ []

abbrev pub below_answers : List ℕ
below_answers = 0 ∷ 0 ∷ 0 ∷ 0 ∷ 8 ∷ 0 ∷ 0 ∷ 8 ∷ 0 ∷ []

abbrev pub below_steps : List Request
below_steps = ack 1 ∷ leave 1 ∷ ack 0 ∷ []

-- ---- a state handed in: one passive node, with one message sent and acknowledged. A run gives it: `alone_requests`.

abbrev pub handed : State
handed =
    record {
      n = 1;
      root = 0;
      active = replicate 16 false;
      engager = 0 ∷ replicate 15 16;
      unacked = replicate 16 0;
      transit = replicate 256 0;
      acks = replicate 16 0;
      sends = 1;
      closed = false;
    }

-- ---- a tree of three nodes handed in; nothing is said of the runs that may lead to it

-- All passive, no message in transit. The root engaged node 1, and node 1 engaged node 2; two acknowledgements are on their way to the
-- root and one to node 1: A = 3, E = 2. Of nine messages sent five are unacknowledged.
abbrev pub handed_tree : State
handed_tree =
    record {
      n = 3;
      root = 0;
      active = replicate 16 false;
      engager = 0 ∷ 0 ∷ 1 ∷ replicate 13 16;
      unacked = 3 ∷ 2 ∷ replicate 14 0;
      transit = replicate 256 0;
      acks = 2 ∷ 1 ∷ replicate 14 0;
      sends = 9;
      closed = false;
    }

-- three requests that are refused there: the announcement, and the leaving of node 1 and of the root
abbrev pub handed_requests : List Request
handed_requests = announce ∷ leave 1 ∷ leave 0 ∷ []

abbrev pub handed_answers : List ℕ
handed_answers = 8 ∷ 8 ∷ 8 ∷ []

-- to the announcement
abbrev pub handed_steps : List Request
handed_steps = ack 0 ∷ leave 2 ∷ ack 1 ∷ ack 1 ∷ ack 0 ∷ leave 1 ∷ ack 0 ∷ []

-- ---- what is shown

-- the point after xs is quiet and not yet announced
pub record QuietPoint (t : State) (xs : List Request) : Type 0 where
  pub quiet : QuietBy t xs
  pub unannounced : Unannounced t xs

-- K counts down to the announcement from the point after xs
abbrev pub Countdown : State → List Request → ℕ → Type 0
Countdown t xs K = (ys : List Request) → Unannounced (run_of tree t xs) ys → Counted (run_of tree t xs) K ys

-- From that point the requests ys are accepted, each of them, and after them the announcement, which ends the run. A + 2E is K there;
-- it counts down, and no other number does.
pub record Worked (t : State) (xs ys : List Request) (K : ℕ) : Type 0 where
  pub accepted : accepted_of tree (run_of tree t xs) ys ≡ ys
  pub unannounced : Unannounced (run_of tree t xs) ys
  pub announces : Accepts tree (run_of tree (run_of tree t xs) ys) announce
  pub announced : Announced t (xs ++ (ys ++ announce ∷ []))
  pub sum : steps_by t xs ≡ K
  pub countdown : Countdown t xs K
  pub only : (m : ℕ) → Countdown t xs m → m ≡ K

-- The agreement with document 003 speaks of something too: of initial systems, of systems reached by a message sent, to oneself too, of
-- termination signalled. Its claim about sound states is met by the start below.
pub record Agreed : Type 0 where
  pub a0 : Addr 3
  pub initial : Initial a0 (systems_of 3 first)
  pub reachable : Reachable a0 (systems_of 3 (run_of tree first requests)) 1
  pub b0 : Addr 1
  pub reachable_alone : Reachable b0 (systems_of 1 (run_of tree alone alone_sends)) 1
  pub detected : SignalTermination a0 (systems_of 3 (run_of tree first (requests ++ steps)))

pub record Instances : Type 0 where
  -- the start is accepted, and its state is sound and not yet announced
  pub start : (start_verdict 3 0 ≡ Accepted) × Open first
  -- the tree of one node handed in is sound and not yet announced too; the run of one node by itself leads to it
  pub handed_in : Open handed × (run_of tree alone alone_requests ≡ handed)
  -- the run from the start, with its refused requests, leads to a quiet point; two steps are left there
  pub quiet_point : (numbers first requests ≡ answers) × QuietPoint first requests
  pub worked : Worked first requests steps 2
  -- it is quiet; no step is left there
  pub handed_point : QuietPoint handed []
  pub handed_worked : Worked handed [] [] 0
  -- one node by itself: with its own message in transit it is not quiet; once it has taken it, K is 1 for the acknowledgement; once that is taken
  -- too, 0
  pub alone_start : (start_verdict 1 0 ≡ Accepted) × Open alone
  pub alone_is_answered : numbers alone alone_requests ≡ alone_answers
  pub alone_busy : QuietBy alone alone_sends → ⊥
  pub alone_point : QuietPoint alone (alone_sends ++ alone_takes)
  pub alone_worked : Worked alone (alone_sends ++ alone_takes) (ack 0 ∷ []) 1
  pub alone_last : QuietPoint alone alone_requests
  pub alone_done : Worked alone alone_requests [] 0
  -- a node that the root engaged, and its own message: A is 1, its own acknowledgement, and E is 1
  pub below_is_answered : numbers first below_requests ≡ below_answers
  pub below_point : QuietPoint first below_requests
  pub below_counts : (acks_by first below_requests ≡ 1) × (others_by first below_requests ≡ 1)
  pub below_worked : Worked first below_requests below_steps 3
  -- the tree of three handed in is sound, not yet announced and quiet; A + 2E = 7 steps are left there
  pub three_in : Open handed_tree
  pub three_point : (numbers handed_tree handed_requests ≡ handed_answers) × QuietPoint handed_tree handed_requests
  pub three_counts : (acks_by handed_tree handed_requests ≡ 3) × (others_by handed_tree handed_requests ≡ 2)
  pub three_worked : Worked handed_tree handed_requests handed_steps 7
  pub agreed : Agreed
