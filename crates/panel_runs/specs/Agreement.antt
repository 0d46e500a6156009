-- THE AGREEMENT of a panel's ring with EWD998, its SendMsg widened to any receiver (document 02, Q-4), in both directions. Only statements are here;
-- proofs/Agreed.antt, of one step, and proofs/Agreement.antt prove them. `shown` and `vars_of` (ring_runs) are a ring as EWD998 sees it, and `Action` is which request stands for which
-- action: a take is the receipt of one message, whatever its job word, and a close stands in the place of the announcement.
use Rattle.std.specs.Prelude.{◌<◌, ◌≤◌, ℕ, false, true, List, ◌↔◌, ◌≡◌}
use Rattle.panel_rules.specs.Answers.{enter_of}
use Rattle.panel_rules.specs.Asks.{Ask, Start, Step, answer_on, panel, verdict_on}
use Rattle.panel_rules.specs.Rules.{second}
use Rattle.panel_rules.specs.Soundness.{Sound}
use Rattle.panel_rules.specs.State.{Panel, agreed, nodes}
use Rattle.panel_runs.specs.Counts.{leg_of, started_in}
use Rattle.refusal.specs.Table.{code_of, send_limit}
use Rattle.refusal.specs.Table.{Accepted}
use Rattle.ring_rules.specs.Rules.{Announce, Take}
use Rattle.ring_runs.specs.Agreement.{BelowLimit, Behaves, Reachable, Started, nexts_of, sends_made, shown}
use Rattle.ring_runs.specs.Counts.{kind}
use Rattle.ring_runs.specs.EWD998.{Next, Node, RecvMsg, SendMsg, Vars, TerminationDetected}
use Rattle.ring_runs.specs.Requests.{announce, send, take}
use Rattle.ring_runs.specs.View.{Action, InARow, vars_of}
use Rattle.runs.specs.Runs.{Accepts, Request, accepted_of, run_of}

-- ---- one step

-- what EWD998 sees of the panel's ring after the step x
abbrev pub shown_after : (p : Panel) → Request → Vars (nodes p)
shown_after p x = vars_of (nodes p) (answer_on p (Step x)).state.ring

module _ (p : Panel) (ok : Sound p) where
  abbrev pub some_node : 0 < nodes p
  some_node = ok.ring.some_node

  -- a step of EWD998 to t is answered: some step is accepted and leads to t; or it is a SendMsg at the limit, and refused with 9
  pub data NextAnswered (t : Vars (nodes p)) : Type 0 where
    matched : (x : Request) → Accepts panel p (Step x) → shown_after p x ≡ t → NextAnswered t
    at_limit :
        (i : Node (nodes p)) (a : SendMsg some_node i (shown p.ring) t) → sends_made p.ring ≡ send_limit
        → code_of (verdict_on p (Step (send i.nr a.j.nr))) ≡ 9 → NextAnswered t

  pub record StepsAgree : Type 0 where
    -- N is a constant
    pub nodes_kept : (x : Request) → nodes (answer_on p (Step x)).state ≡ nodes p
    -- an accepted step is its action
    pub accepted_is_action :
        (x : Request) → Accepts panel p (Step x) → Action some_node (shown p.ring) (shown_after p x) (kind x) x.i (second (kind x) x.j)
    -- an action from an open panel is accepted, and leads to the same state: a take with each of the four job words; a close where all marks agree
    pub action_is_accepted :
        p.ring.closed ≡ false → (x : Request) (t : Vars (nodes p))
        → Action some_node (shown p.ring) t (kind x) x.i (second (kind x) x.j) → BelowLimit p.ring x.kind
        → (kind x ≡ Take → (0 < x.j) × (x.j ≤ 4)) → (kind x ≡ Announce → agreed p ≡ true) → Accepts panel p (Step x) × (shown_after p x ≡ t)
    -- so an accepted step is one step of Next, and a close, made where TerminationDetected holds, none; a refused one changes nothing
    pub accepted_is_next :
        (x : Request) → Accepts panel p (Step x)
        → InARow (Next some_node) (nexts_of (kind x) (second (kind x) x.j)) (shown p.ring) (shown_after p x)
        × (kind x ≡ Announce → TerminationDetected some_node (shown p.ring))
    pub refused_is_same : (x : Request) → (Accepts panel p (Step x) → ⊥) → (answer_on p (Step x)).state ≡ p
    -- and every step of Next, from any sound panel, is answered; a receipt by an accepted take with each of the four job words
    pub next_is_answered : (t : Vars (nodes p)) → Next some_node (shown p.ring) t → NextAnswered t
    pub receipt_with_any_word :
        (i : Node (nodes p)) (t : Vars (nodes p)) → RecvMsg some_node i (shown p.ring) t → (word : ℕ) → 0 < word → word ≤ 4
        → Accepts panel p (Step (take i.nr word)) × (shown_after p (take i.nr word) ≡ t)
    -- a close is accepted exactly where TerminationDetected holds and all marks agree
    pub close_is_detected :
        p.ring.closed ≡ false → Accepts panel p (Step announce) ↔ (TerminationDetected some_node (shown p.ring) × (agreed p ≡ true))

-- ---- starts and whole runs

-- requests to p, every one of them accepted, that end in an open panel whose ring shows t, with m sends since the latest start
pub record RunTo (p : Panel) {N : ℕ} (t : Vars N) (m : ℕ) : Type 0 where
  pub requests : List Ask
  pub accepted : accepted_of panel p requests ≡ requests
  pub running : (run_of panel p requests).ring.closed ≡ false
  pub count : sends_made (run_of panel p requests).ring ≡ m
  pub there : vars_of N (run_of panel p requests).ring ≡ t

-- a panel that is entered, and then such a run
pub record EnterRunTo {N : ℕ} (t : Vars N) (m : ℕ) : Type 0 where
  pub flags : List ℕ
  pub entered : (enter_of N flags).verdict ≡ Accepted
  pub run : RunTo (enter_of N flags).state t m

pub record RunsAgree : Type 0 where
  -- an entering and an accepted start show an initial state, with its flags
  pub enter_is_init :
      (N : ℕ) (flags : List ℕ) → (enter_of N flags).verdict ≡ Accepted → Started flags (vars_of N (enter_of N flags).state.ring)
  pub start_is_init :
      (p : Panel) (N : ℕ) (flags : List ℕ) → Accepts panel p (Start N flags) → Started flags (vars_of N (answer_on p (Start N flags)).state.ring)
  -- the steps accepted since the latest start, or since the first panel, are a behaviour
  pub run_is_behaviour :
      (p : Panel) → Sound p → (ls : List Ask) (h : 0 < nodes p) → Behaves h (leg_of p ls).base (leg_of p ls).steps (run_of panel p ls).ring
  -- at every point of every list after an accepted start or an entering, the ring that EWD998 sees is reachable
  pub after_a_start :
      (p : Panel) → Sound p → (ls : List Ask) → started_in (accepted_of panel p ls) ≡ true → (h : 0 < nodes p)
      → Reachable h (vars_of (nodes p) (run_of panel p ls).ring) (sends_made (run_of panel p ls).ring)
  pub after_entering :
      (N : ℕ) (flags : List ℕ) → (enter_of N flags).verdict ≡ Accepted → (ls : List Ask) (h : 0 < N)
      → Reachable h (vars_of N (run_of panel (enter_of N flags).state ls).ring) (sends_made (run_of panel (enter_of N flags).state ls).ring)
  -- and each reachable state is that of a panel which is entered, and of a run from any sound panel of that many nodes, open, released or stuck,
  -- whatever its marks
  pub reachable_is_entered : {N : ℕ} (h : 0 < N) → N ≤ 96 → (t : Vars N) (m : ℕ) → Reachable h t m → m ≤ send_limit → EnterRunTo t m
  pub reachable_is_run :
      (p : Panel) → Sound p → {N : ℕ} (h : 0 < N) → N ≡ nodes p → (t : Vars N) (m : ℕ) → Reachable h t m → m ≤ send_limit → RunTo p t m
