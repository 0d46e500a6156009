-- THE AGREEMENT of the tree with document 003, in both directions. Only statements are here; proofs/Agreement.antt proves them.
-- `systems_of N t` (View) is the tree t as document 003 sees it, and `Action` (View) is the table of which request stands for which rule.
-- A request is its kind, 1 to 6, and the node numbers i and j.
use Rattle.std.specs.Prelude.{◌+◌, ◌<◌, ◌≤◌, ℕ, false, List, ◌↔◌, ◌⊎◌, ◌≡◌}
use Rattle.refusal.specs.declared.Refusal.TheVariants.{SendLimit}
use Rattle.refusal.specs.Table.{Accepted, Refused}
use Rattle.runs.specs.Runs.{Request, accepted_of, run_of}
use Rattle.tree_rules.specs.Answers.{step_of}
use Rattle.tree_rules.specs.Rules.{Announce, Send, kind_of}
use Rattle.tree_rules.specs.Soundness.{Sound}
use Rattle.refusal.specs.Table.{send_limit}
use Rattle.tree_rules.specs.Start.{start_of, start_verdict}
use Rattle.tree_rules.specs.State.{State}
use Rattle.tree_runs.specs.Counts.{tree}
use Rattle.tree_runs.specs.DijkstraScholten.{A1, Addr, B1, B2, B3, Initial, SendDAT, SignalTermination, Step, Systems, deactivate, disengage, receive_ack, receive_dat, send_dat}
use Rattle.tree_runs.specs.View.{Action, systems_of}

-- ---- the starts

pub record StartsAgree (N : ℕ) : Type 0 where
  pub start_is_initial : (a0 : Addr N) → N ≤ 16 → (start_verdict N a0.nr ≡ Accepted) × Initial a0 (systems_of N (start_of N a0.nr).state)
  pub initial_is_start : (a0 : Addr N) → N ≤ 16 → (s : Systems N) → Initial a0 s → systems_of N (start_of N a0.nr).state ≡ s
  -- and no other start is accepted
  pub others_refused : (root : ℕ) → start_verdict N root ≡ Accepted → (N ≤ 16) × (root < N)

-- ---- one step

-- what document 003 sees of t, of t after a request, and of its root
abbrev pub shown : (t : State) → Systems t.n
shown t = systems_of t.n t

abbrev pub shown_after : (t : State) → ℕ → ℕ → ℕ → Systems t.n
shown_after t k i j = systems_of t.n (step_of t k i j).state

abbrev pub root_of : (t : State) → Sound t → Addr t.n
root_of t ok = record { nr = t.root; below = ok.root_in }

abbrev pub AcceptsStep : State → ℕ → ℕ → ℕ → Type 0
AcceptsStep t k i j = (step_of t k i j).verdict ≡ Accepted

-- one more send is below the limit, where the request is a send
abbrev pub BelowLimit : State → ℕ → Type 0
BelowLimit t k = kind_of k ≡ Send → t.sends < send_limit

-- a step of document 003 to u is answered: some request is accepted and leads to u; or it is a send at the limit, refused with 9
pub data RuleAnswered (t : State) (ok : Sound t) (u : Systems t.n) : Type 0 where
  matched : (k i j : ℕ) → AcceptsStep t k i j → shown_after t k i j ≡ u → RuleAnswered t ok u
  at_limit : (i j : Addr t.n) → SendDAT i j (shown t) u → send_limit ≤ t.sends → (step_of t 1 i.nr j.nr).verdict ≡ Refused SendLimit → RuleAnswered t ok u

pub record StepsAgree (t : State) (ok : Sound t) : Type 0 where
  -- ADDR and a0 are constants
  pub nodes_kept : (k i j : ℕ) → (step_of t k i j).state.n ≡ t.n
  pub root_kept : (k i j : ℕ) → (step_of t k i j).state.root ≡ t.root
  -- an accepted request is its rule
  pub accepted_is_rule : (k i j : ℕ) → AcceptsStep t k i j → Action (root_of t ok) (shown t) (shown_after t k i j) (kind_of k) i j
  -- a rule from a state that is not closed is accepted, and leads to the same systems
  pub rule_is_accepted :
      t.closed ≡ false → (k i j : ℕ) (u : Systems t.n) → Action (root_of t ok) (shown t) u (kind_of k) i j → BelowLimit t k
      → AcceptsStep t k i j × (shown_after t k i j ≡ u)
  -- so an accepted request is a step, or the announcement, which changes nothing; a refused one changes nothing
  pub accepted_is_step :
      (k i j : ℕ) → AcceptsStep t k i j
      → Step (root_of t ok) (shown t) (shown_after t k i j)
      ⊎ ((kind_of k ≡ Announce) × SignalTermination (root_of t ok) (shown t) × (shown_after t k i j ≡ shown t))
  pub refused_is_same : (k i j : ℕ) → (AcceptsStep t k i j → ⊥) → shown_after t k i j ≡ shown t
  -- and every step, from any sound state, is answered
  pub step_is_answered : (u : Systems t.n) → Step (root_of t ok) (shown t) u → RuleAnswered t ok u
  -- announce is the root's disengage; there the system has terminated, and no step is left, so that closing the run takes none away
  pub announce_is_signal : t.closed ≡ false → (i j : ℕ) → AcceptsStep t 6 i j ↔ SignalTermination (root_of t ok) (shown t)
  pub signal_is_last : SignalTermination (root_of t ok) (shown t) → (u : Systems t.n) → Step (root_of t ok) (shown t) u → ⊥
  -- a sound state has document 003's invariants
  pub tree_invariant : B1 (root_of t ok) (shown t)
  pub balance_invariant : B2 (root_of t ok) (shown t)
  pub null_invariant : B3 (root_of t ok) (shown t)
  pub safety : A1 (root_of t ok) (shown t)

-- ---- whole runs

-- 1 for a message sent, else 0
abbrev pub sends_of : {N : ℕ} (a0 : Addr N) {s t : Systems N} → Step a0 s t → ℕ
sends_of a0 (deactivate j x) = 0
sends_of a0 (send_dat j k x) = 1
sends_of a0 (receive_dat j k x) = 0
sends_of a0 (receive_ack j x) = 0
sends_of a0 (disengage j ne x) = 0

-- systems that the rules reach from the initial ones, with the number of messages sent on the way
pub data Reachable {N : ℕ} (a0 : Addr N) : Systems N → ℕ → Type 0 where
  initial : {s : Systems N} → Initial a0 s → Reachable a0 s 0
  later : {s t : Systems N} {m : ℕ} → Reachable a0 s m → (x : Step a0 s t) → Reachable a0 t (m + sends_of a0 x)

-- a run from the start, every request of it accepted and none an announcement, that ends where it shows u, with m sends
pub record RunTo {N : ℕ} (a0 : Addr N) (u : Systems N) (m : ℕ) : Type 0 where
  pub requests : List Request
  pub accepted : accepted_of tree (start_of N a0.nr).state requests ≡ requests
  pub running : (run_of tree (start_of N a0.nr).state requests).closed ≡ false
  pub count : (run_of tree (start_of N a0.nr).state requests).sends ≡ m
  pub there : systems_of N (run_of tree (start_of N a0.nr).state requests) ≡ u

pub record RunsAgree {N : ℕ} (a0 : Addr N) : Type 0 where
  -- whatever the requests, accepted or refused, of a run from a start
  pub run_is_reachable :
      N ≤ 16 → (xs : List Request)
      → Reachable a0 (systems_of N (run_of tree (start_of N a0.nr).state xs)) (run_of tree (start_of N a0.nr).state xs).sends
  pub reachable_is_run : N ≤ 16 → (u : Systems N) (m : ℕ) → Reachable a0 u m → m ≤ send_limit → RunTo a0 u m

pub record TreeAgrees : Type 0 where
  pub starts : (N : ℕ) → StartsAgree N
  pub steps : (t : State) (ok : Sound t) → StepsAgree t ok
  pub runs : (N : ℕ) (a0 : Addr N) → RunsAgree a0
