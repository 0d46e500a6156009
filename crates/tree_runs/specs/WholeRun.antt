-- Demand 3 for the tree, one claim about whole lists of requests, refused ones included. The proof is in proofs/WholeRun.antt.
use Rattle.std.specs.Prelude.{◌*◌, ◌+◌, ◌<◌, ◌≤◌, ℕ, length, true, List, [], ◌++◌, ◌↔◌, ◌≢◌, ◌≡◌}
use Rattle.refusal.specs.Table.{code_of, send_limit}
use Rattle.refusal.specs.Table.{Accepted}
use Rattle.runs.specs.Runs.{Accepts, Request, accepted_of, next, run_of}
use Rattle.tree_rules.specs.Answers.{step_of}
use Rattle.tree_rules.specs.Rules.{Announce, Send}
use Rattle.tree_rules.specs.Soundness.{Open}
use Rattle.tree_rules.specs.Start.{start_of, start_verdict}
use Rattle.tree_rules.specs.State.{State, active_at, engaged, transit_at}
use Rattle.tree_rules.specs.Termination.{Closing, acks_total}
use Rattle.tree_runs.specs.Counts.{AllClosing, Announced, QuietBy, Unannounced, acks_by, active_by, engaged_by, kind, others_by, received_in, replies_in, sends_between, sends_by, sends_in, takes_between, transit_by, tree}

-- What a state accepts next, of all requests: one acknowledgement or leaving at least and those alone, or announcements alone and all
-- of them.
pub data OneOfTwo (s : State) : Type 0 where
  closing_steps : (x : Request) → Accepts tree s x → ((y : Request) → Accepts tree s y → Closing (kind y)) → OneOfTwo s
  announcement : ((x : Request) → kind x ≡ Announce → Accepts tree s x) → ((y : Request) → Accepts tree s y → kind y ≡ Announce) → OneOfTwo s

-- After further requests ys, with no announcement accepted among them, at a point where K steps were left: those accepted are
-- acknowledgements and leavings, at most K; at least one more is accepted until they are K; the announcement is accepted exactly if
-- they are K; and the next request accepted is one of the two.
pub record Counted (s : State) (K : ℕ) (ys : List Request) : Type 0 where
  pub closing_alone : AllClosing (accepted_of tree s ys)
  pub at_most : length (accepted_of tree s ys) ≤ K
  pub at_least_one : length (accepted_of tree s ys) < K → (x : Request) × Closing (kind x) × Accepts tree (run_of tree s ys) x
  pub exactly : (x : Request) → kind x ≡ Announce → Accepts tree (run_of tree s ys) x ↔ (length (accepted_of tree s ys) ≡ K)
  pub then : OneOfTwo (run_of tree s ys)

-- "With A acknowledgements then under way and E engaged boards besides the root": K = A + 2E, counted at that point
abbrev pub steps_by : State → List Request → ℕ
steps_by t xs = acks_by t xs + 2 * others_by t xs

-- The point of a run from t after the requests xs.
pub record Point (t : State) (xs : List Request) : Type 0 where
  -- the state's columns are the counts from the first state and the accepted requests
  pub activity : (b : ℕ) → b < t.n → active_at (run_of tree t xs) b ≡ active_by t xs b
  pub transit : (b c : ℕ) → b < t.n → c < t.n → transit_at (run_of tree t xs) b c ≡ transit_by t xs b c
  pub enough : (b c : ℕ) → b < t.n → c < t.n → takes_between (accepted_of tree t xs) b c ≤ transit_at t b c + sends_between (accepted_of tree t xs) b c
  pub engagement : (b : ℕ) → b < t.n → engaged (run_of tree t xs) b ≡ engaged_by t xs b
  pub acknowledgements : acks_total (run_of tree t xs) ≡ acks_by t xs
  pub enough_acks : received_in (accepted_of tree t xs) ≤ acks_total t + replies_in (engaged t) (accepted_of tree t xs)
  -- an announcement is accepted only if every node is passive and no message is in transit
  pub quiet : (x : Request) → kind x ≡ Announce → Accepts tree (run_of tree t xs) x → QuietBy t xs
  -- and no request after it
  pub last : Announced t xs → (ys : List Request) → accepted_of tree (run_of tree t xs) ys ≡ []
  -- once every node is passive and no message is in transit, and until the announcement: it stays so, and K is fixed here
  pub still : QuietBy t xs → (ys : List Request) → Unannounced t (xs ++ ys) → QuietBy t (xs ++ ys)
  pub countdown : QuietBy t xs → Unannounced t xs → (ys : List Request) → Unannounced (run_of tree t xs) ys → Counted (run_of tree t xs) (steps_by t xs) ys

-- for every list of requests from every sound state that is not yet announced, handed in or from a start
pub record WholeRuns : Type 0 where
  pub point : (t : State) → Open t → (xs : List Request) → Point t xs
  pub from_start : (n root : ℕ) → start_verdict n root ≡ Accepted → (xs : List Request) → Point (start_of n root).state xs
  -- A step by kind number answers as the machine does, so that the claim is about the code that meets `step_of`.
  pub answers :
      (t : State) (x : Request) → step_of t x.kind x.i x.j ≡ record { verdict = tree.verdict t x; state = next tree t x }

-- Document 01: "Sends below the limit meet 9 never; takes never meet it", counted over a run.
pub record LimitCounted : Type 0 where
  -- what meets 9 is a send, and exactly 1,000,000 are made by then
  pub only :
      (t : State) → Open t → (xs : List Request) (x : Request) → code_of (tree.verdict (run_of tree t xs) x) ≡ 9
      → (kind x ≡ Send) × (sends_by t xs ≡ send_limit)
  -- a send from an active node, to any node, before the announcement, is accepted exactly if fewer are made, and meets 9 exactly if so many are
  pub decides :
      (t : State) → Open t → (xs : List Request) → Unannounced t xs → (x : Request) → kind x ≡ Send → x.i < t.n → x.j < t.n
      → active_by t xs x.i ≡ true
      → ((code_of (tree.verdict (run_of tree t xs) x) ≡ 0) ↔ (sends_by t xs < send_limit))
      × ((code_of (tree.verdict (run_of tree t xs) x) ≡ 9) ↔ (sends_by t xs ≡ send_limit))
  -- in a run from a start exactly 1,000,000 sends of the run are accepted by then, and with fewer nothing meets 9
  pub from_start :
      (n root : ℕ) → start_verdict n root ≡ Accepted → (xs : List Request) (x : Request)
      → code_of (tree.verdict (run_of tree (start_of n root).state xs) x) ≡ 9
      → (kind x ≡ Send) × (sends_in (accepted_of tree (start_of n root).state xs) ≡ send_limit)
  pub below :
      (n root : ℕ) → start_verdict n root ≡ Accepted → (xs : List Request)
      → sends_in (accepted_of tree (start_of n root).state xs) < send_limit
      → (x : Request) → code_of (tree.verdict (run_of tree (start_of n root).state xs) x) ≢ 9
