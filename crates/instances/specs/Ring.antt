-- That demand 3 speaks of something: a start and states handed in that meet what `WholeRuns` (ring_runs) asks for, and quiet points of
-- their runs, with K worked out there. Only statements are here; proofs/Ring.antt proves them.
use Rattle.std.specs.Prelude.{◌<◌, ◌≤◌, ℕ, negsuc, pos, replicate, false, true, List, [], ◌++◌, ◌∷◌, ◌≡◌}
use Rattle.refusal.specs.Table.{Accepted}
use Rattle.ring_rules.specs.Soundness.{Open}
use Rattle.ring_rules.specs.Start.{start_of, start_verdict}
use Rattle.ring_rules.specs.State.{State}
use Rattle.runs.specs.Runs.{Accepts, Request, accepted_of, run_of}
use Rattle.ring_runs.specs.Agreement.{Reachable}
use Rattle.ring_runs.specs.Counts.{Announced, QuietBy, Unannounced, ring}
use Rattle.ring_runs.specs.EWD998.{Init, TerminationDetected}
use Rattle.ring_runs.specs.Requests.{announce, idle, numbers, pass, probe, send, take}
use Rattle.ring_runs.specs.View.{vars_of}
use Rattle.ring_runs.specs.WholeRun.{Countdown}

-- ---- the start of document 01's second starred run, and that run with two messages in the place of one, taken at once, and three requests put
-- in that are refused

abbrev pub start_flags : List ℕ
start_flags = 0 ∷ 1 ∷ 0 ∷ []

abbrev pub first : State
first = (start_of 3 start_flags).state

abbrev pub requests : List Request
requests = announce ∷ probe ∷ pass 2 ∷ send 0 0 ∷ send 1 2 ∷ send 1 2 ∷ take 2 3 ∷ take 2 2 ∷ idle 1 ∷ idle 2 ∷ []

abbrev pub answers : List ℕ
answers = 8 ∷ 0 ∷ 0 ∷ 8 ∷ 0 ∷ 0 ∷ 8 ∷ 0 ∷ 0 ∷ 0 ∷ []

-- from there to the announcement
abbrev pub moves : List Request
moves = pass 1 ∷ probe ∷ pass 2 ∷ pass 1 ∷ probe ∷ pass 2 ∷ pass 1 ∷ []

-- ---- one node by itself (document 02, Q-4: "A ring of one board may now have jobs under way"): it sends to itself, is passive with the message in
-- transit, takes it, and is passive again; three announcements are refused

abbrev pub alone : State
alone = (start_of 1 (1 ∷ [])).state

-- to where the message is in transit, and from there to the quiet point
abbrev pub alone_sends : List Request
alone_sends = send 0 0 ∷ announce ∷ idle 0 ∷ announce ∷ []

abbrev pub alone_takes : List Request
alone_takes = take 0 1 ∷ idle 0 ∷ announce ∷ []

abbrev pub alone_answers : List ℕ
alone_answers = 0 ∷ 8 ∷ 0 ∷ 8 ∷ 0 ∷ 0 ∷ 8 ∷ []

-- ---- a state handed in: one passive node, white, with one message sent and received and a black token

-- 1 for node 0
abbrev pub once : List ℕ
once = 1 ∷ replicate 95 0

abbrev pub handed : State
handed =
    record {
      n = 1;
      active = replicate 96 false;
      color = replicate 12 0;
      sent = once;
      received = once;
      pending = replicate 96 0;
      pos = 0;
      q = pos 0;
      black = true;
      closed = false;
    }

-- ---- two rings of three nodes handed in, with a sum that no run gives

-- the places of three nodes
abbrev pub three : ℕ → ℕ → ℕ → List ℕ
three a b c = a ∷ b ∷ c ∷ replicate 93 0

-- all passive, nothing pending; nodes 0 and 1 are black, the token is at node 1 with a sum of -5, and node 2 has received nothing
abbrev pub quiet_ring : State
quiet_ring =
    record {
      n = 3;
      active = replicate 96 false;
      color = 3 ∷ replicate 11 0;
      sent = three 2 0 1;
      received = three 2 1 0;
      pending = replicate 96 0;
      pos = 1;
      q = negsuc 4;
      black = false;
      closed = false;
    }

-- to the announcement: home with the black of node 1, and one round, since node 2, above the token, is white
abbrev pub quiet_moves : List Request
quiet_moves = pass 1 ∷ probe ∷ pass 2 ∷ pass 1 ∷ []

-- node 1 is active and a message is pending at node 2, which is black; the token is at node 0 with a sum of 7, and nodes 1 and 2 sent one message
abbrev pub busy_ring : State
busy_ring =
    record {
      n = 3;
      active = false ∷ true ∷ replicate 94 false;
      color = 4 ∷ replicate 11 0;
      sent = three 2 0 1;
      received = three 2 0 0;
      pending = three 0 0 1;
      pos = 0;
      q = pos 7;
      black = false;
      closed = false;
    }

-- to a quiet point, with three requests that are refused, and a message that node 1 sends to itself
abbrev pub busy_requests : List Request
busy_requests = announce ∷ send 1 1 ∷ take 2 1 ∷ take 2 1 ∷ send 2 3 ∷ idle 1 ∷ take 1 1 ∷ idle 1 ∷ idle 2 ∷ []

abbrev pub busy_answers : List ℕ
busy_answers = 8 ∷ 0 ∷ 0 ∷ 8 ∷ 6 ∷ 0 ∷ 0 ∷ 0 ∷ 0 ∷ []

-- to the announcement: two rounds, the first with the black of nodes 1 and 2, above the token
abbrev pub busy_moves : List Request
busy_moves = probe ∷ pass 2 ∷ pass 1 ∷ probe ∷ pass 2 ∷ pass 1 ∷ []

-- No list of requests leads to s from any accepted start. Of the rings of three this is so because the sum is made of counters of nodes above
-- the token, and is below 0 at most by what they received and above 0 at most by what they sent; of the ring of one because its token is black
-- only until the first probe, and until then its node, having received a message, is black.
abbrev pub Unreached : State → Type 0
Unreached s =
    (n : ℕ) (flags : List ℕ) → start_verdict n flags ≡ Accepted → (xs : List Request) → run_of ring (start_of n flags).state xs ≡ s → ⊥

-- ---- what is shown

-- the point after xs is quiet and not yet announced
pub record QuietPoint (r : State) (xs : List Request) : Type 0 where
  pub quiet : QuietBy r xs
  pub unannounced : Unannounced r xs

-- From that point the token moves ys are accepted, each of them, and after them the announcement, which ends the run. There is a
-- countdown there, and every one has this K.
pub record Worked (r : State) (xs ys : List Request) (K : ℕ) : Type 0 where
  pub accepted : accepted_of ring (run_of ring r xs) ys ≡ ys
  pub unannounced : Unannounced (run_of ring r xs) ys
  pub announces : Accepts ring (run_of ring (run_of ring r xs) ys) announce
  pub announced : Announced r (xs ++ (ys ++ announce ∷ []))
  pub countdown : Countdown r xs
  pub only : (c : Countdown r xs) → c.K ≡ K

-- r is handed in: sound, not yet announced, and given by no run from a start; it answers the requests xs with these numbers, and they lead
-- to a quiet point, where ys are left to the announcement, K of them
pub record HandedIn (r : State) (xs : List Request) (told : List ℕ) (ys : List Request) (K : ℕ) : Type 0 where
  pub running : Open r
  pub unreached : Unreached r
  pub answered : numbers r xs ≡ told
  pub point : QuietPoint r xs
  pub worked : Worked r xs ys K

-- The agreement with EWD998 speaks of something too: of an initial state, of states reached by SendMsg, the sender's own message too, of termination
-- detected. Its claim about sound states is met by the start below.
pub record Agreed : Type 0 where
  pub some_node : 0 < 3
  pub init : Init some_node (vars_of 3 first)
  pub reachable : Reachable some_node (vars_of 3 (run_of ring first requests)) 2
  pub one_node : 0 < 1
  pub reachable_alone : Reachable one_node (vars_of 1 (run_of ring alone alone_sends)) 1
  pub detected : TerminationDetected some_node (vars_of 3 (run_of ring first (requests ++ moves)))

pub record Instances : Type 0 where
  -- the start is accepted, and its state is sound and not yet announced
  pub start : (start_verdict 3 start_flags ≡ Accepted) × Open first
  -- the ring of one node handed in is sound and not yet announced too, and no run from a start gives it
  pub handed_in : Open handed × Unreached handed
  -- the run from the start, with its refused requests, leads to a quiet point; seven moves are left there
  pub quiet_point : (numbers first requests ≡ answers) × QuietPoint first requests
  pub worked : Worked first requests moves 7
  -- it is quiet; one move is left there
  pub handed_point : QuietPoint handed []
  pub handed_worked : Worked handed [] (probe ∷ []) 1
  -- the rings of three handed in: four moves are left on the one, six on the other, which is not quiet at first
  pub quiet_ring_is_handed_in : HandedIn quiet_ring [] [] quiet_moves 4
  pub busy_ring_is_handed_in : HandedIn busy_ring busy_requests busy_answers busy_moves 6
  pub busy_first : QuietBy busy_ring [] → ⊥
  -- a ring of one with a message in transit is not quiet; once it is, one move is left, and from no quiet point of a ring of one more
  pub alone_start : (start_verdict 1 (1 ∷ []) ≡ Accepted) × Open alone
  pub alone_is_answered : numbers alone (alone_sends ++ alone_takes) ≡ alone_answers
  pub alone_busy : QuietBy alone alone_sends → ⊥
  pub alone_point : QuietPoint alone (alone_sends ++ alone_takes)
  pub alone_worked : Worked alone (alone_sends ++ alone_takes) (probe ∷ []) 1
  pub alone_bound : (r : State) (xs : List Request) (c : Countdown r xs) → r.n ≡ 1 → c.K ≤ 1
  pub agreed : Agreed
