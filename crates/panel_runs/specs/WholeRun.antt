-- Q-7 over whole lists of requests, steps and starts mixed, refused ones included, from any sound panel. The proof is in proofs/WholeRun.antt.
use Rattle.std.specs.Prelude.{◌*◌, ◌+◌, ◌-◌, ◌<◌, ◌≤◌, ℕ, eqb, length, false, true, List, [], ◌++◌, ◌∷◌, ◌↔◌, ◌⊎◌, ◌≡◌}
use Rattle.panel_rules.specs.Answers.{enter_of, marks_answer, record_answer}
use Rattle.panel_rules.specs.Asks.{Ask, Start, Step, answer_on, panel, verdict_on}
use Rattle.panel_rules.specs.Soundness.{Sound}
use Rattle.panel_rules.specs.State.{Panel, agreed, firmware_at, map_at, nodes, word_of}
use Rattle.panel_rules.specs.declared.record.Record.TheVariants.{Empty}
use Rattle.panel_runs.specs.Counts.{AgreeBy, AllMoves, QuietBy, Silent, active_in, ended_in, firmware_by, leg_of, map_by, released_by, sends_over, started_in, transit_in}
use Rattle.refusal.specs.Table.{code_of, send_limit}
use Rattle.refusal.specs.Table.{Accepted}
use Rattle.ring_rules.specs.Rules.{Announce, Send, conclusive}
use Rattle.ring_rules.specs.Start as ring_start
use Rattle.ring_rules.specs.State.{active_at, pending_at, received_at}
use Rattle.ring_rules.specs.Theorems.{TokenMove}
use Rattle.ring_runs.specs.Counts.{kind, ring, sends_to, takes_by}
use Rattle.ring_runs.specs.Requests.{take}
use Rattle.runs.specs.Runs.{Accepts, Request, accepted_of, next, run_of}

-- the record is told as r, and the marks of every node as m
pub record Reads (p : Panel) (r m : ℕ) : Type 0 where
  pub record_told : record_answer p ≡ record { verdict = Accepted; number = r }
  pub marks_are_told : (b : ℕ) → b < nodes p → marks_answer p b ≡ record { verdict = Accepted; number = m }

-- What whoever opens a released panel finds: a record that is not empty, and every firmware and map mark of every node equal to it, the
-- panel's own marks and those counted from the first panel and the accepted takes.
pub record Released (p : Panel) (ls : List Ask) : Type 0 where
  pub written : (run_of panel p ls).recorded ≡ Empty → ⊥
  pub firmware : (b : ℕ) → b < nodes p → word_of (firmware_at (run_of panel p ls) b) ≡ (run_of panel p ls).recorded
  pub map : (b : ℕ) → b < nodes p → word_of (map_at (run_of panel p ls) b) ≡ (run_of panel p ls).recorded
  pub firmware_counted : (b : ℕ) → b < nodes p → word_of (firmware_by p ls b) ≡ (run_of panel p ls).recorded
  pub map_counted : (b : ℕ) → b < nodes p → word_of (map_by p ls b) ≡ (run_of panel p ls).recorded
  -- and what is told: the record is 1 and the marks of every node 0, or the record is 2 and the marks of every node 3
  pub told : Reads (run_of panel p ls) 1 0 ⊎ Reads (run_of panel p ls) 2 3

-- What a panel accepts next, of all steps: one token move at least and token moves alone, the announce test not holding; or closes alone and
-- all of them, the test holding and the marks equal; or, the test holding with unequal marks, no step at all, each close refused with 15.
pub data OneOfThree (p : Panel) : Type 0 where
  token_moves :
      conclusive p.ring ≡ false → (x : Request) → Accepts panel p (Step x) → ((y : Request) → Accepts panel p (Step y) → TokenMove (kind y))
      → OneOfThree p
  close :
      conclusive p.ring ≡ true → agreed p ≡ true → ((x : Request) → kind x ≡ Announce → Accepts panel p (Step x))
      → ((y : Request) → Accepts panel p (Step y) → kind y ≡ Announce) → OneOfThree p
  stuck :
      conclusive p.ring ≡ true → agreed p ≡ false → ((x : Request) → kind x ≡ Announce → code_of (verdict_on p (Step x)) ≡ 15)
      → ((y : Request) → Accepts panel p (Step y) → ⊥) → OneOfThree p

-- After further requests ys, with no close and no start accepted among them, at a point where K token moves were left: those accepted are
-- token moves, at most K; the announce test holds exactly if they are K; a close is accepted exactly if they are K and the marks agree, as they did or did
-- not at that point; and what is accepted next is one of the three.
pub record Counted (p : Panel) (K : ℕ) (ys : List Ask) : Type 0 where
  pub moves_alone : AllMoves (accepted_of panel p ys)
  pub at_most : length (accepted_of panel p ys) ≤ K
  pub exactly : (conclusive (run_of panel p ys).ring ≡ true) ↔ (length (accepted_of panel p ys) ≡ K)
  pub closing :
      (x : Request) → kind x ≡ Announce
      → Accepts panel (run_of panel p ys) (Step x) ↔ ((length (accepted_of panel p ys) ≡ K) × (agreed p ≡ true))
  pub then : OneOfThree (run_of panel p ys)

-- At a quiet point that is open: one number K, fixed there.
pub record Countdown (p : Panel) (ls : List Ask) : Type 0 where
  pub K : ℕ
  pub bound : K ≤ 3 * nodes p - 2
  pub counted : (ys : List Ask) → ended_in (accepted_of panel (run_of panel p ls) ys) ≡ false → Counted (run_of panel p ls) K ys

-- The point of a list from p after the requests ls.
pub record Point (p : Panel) (ls : List Ask) : Type 0 where
  pub sound : Sound (run_of panel p ls)
  pub same_n : nodes (run_of panel p ls) ≡ nodes p
  -- the panel's marks are those counted, all of them agree exactly if the counted ones do, and it is closed exactly where it is released
  pub firmware : (b : ℕ) → firmware_at (run_of panel p ls) b ≡ firmware_by p ls b
  pub map : (b : ℕ) → map_at (run_of panel p ls) b ≡ map_by p ls b
  pub agree : (agreed (run_of panel p ls) ≡ true) ↔ AgreeBy p ls
  pub closed : (run_of panel p ls).ring.closed ≡ released_by p ls
  -- the panel's ring is a run of the ring, from the ring of the latest accepted start or of the first panel, by the steps accepted since, each of
  -- which the ring accepts; so its columns are the counts
  pub ring_run : (run_of panel p ls).ring ≡ run_of ring (leg_of p ls).base (leg_of p ls).steps
  pub ring_steps : accepted_of ring (leg_of p ls).base (leg_of p ls).steps ≡ (leg_of p ls).steps
  pub activity : (b : ℕ) → active_at (run_of panel p ls).ring b ≡ active_in (leg_of p ls) b
  pub transit : (b : ℕ) → pending_at (run_of panel p ls).ring b ≡ transit_in (leg_of p ls) b
  pub enough : (b : ℕ) → takes_by (leg_of p ls).steps b ≤ pending_at (leg_of p ls).base b + sends_to (leg_of p ls).steps b
  pub received : (b : ℕ) → received_at (run_of panel p ls).ring b ≡ received_at (leg_of p ls).base b + takes_by (leg_of p ls).steps b
  -- a released panel has its record and its marks equal, and accepts no step, of any list, until a start
  pub released : released_by p ls ≡ true → Released p ls
  pub shut : released_by p ls ≡ true → (ys : List Ask) → started_in (accepted_of panel (run_of panel p ls) ys) ≡ false → accepted_of panel (run_of panel p ls) ys ≡ []
  -- and until it is, its record is empty
  pub unwritten : released_by p ls ≡ false → (run_of panel p ls).recorded ≡ Empty
  -- a close is accepted only if every node is passive, no message is in transit and all marks agree
  pub close : (x : Request) → kind x ≡ Announce → Accepts panel (run_of panel p ls) (Step x) → QuietBy p ls × AgreeBy p ls
  -- once every node is passive and no message is in transit in an open panel, and until a close or a start: it stays so, and K is fixed here
  pub still : QuietBy p ls → released_by p ls ≡ false → (ys : List Ask) → ended_in (accepted_of panel (run_of panel p ls) ys) ≡ false → QuietBy p (ls ++ ys)
  pub countdown : QuietBy p ls → released_by p ls ≡ false → Countdown p ls
  -- where it is quiet, the announce test holds and marks are unequal, no step of any list is accepted until a start
  pub held :
      QuietBy p ls → released_by p ls ≡ false → conclusive (run_of panel p ls).ring ≡ true → (AgreeBy p ls → ⊥) → (ys : List Ask)
      → started_in (accepted_of panel (run_of panel p ls) ys) ≡ false → accepted_of panel (run_of panel p ls) ys ≡ []
  -- a start with the panel's N and flags that a ring takes is accepted at every point
  pub start : (flags : List ℕ) → ring_start.start_verdict (nodes p) flags ≡ Accepted → Accepts panel (run_of panel p ls) (Start (nodes p) flags)
  -- what meets 9 is a send, and exactly 1,000,000 are made by then since the latest start
  pub limit : (x : Request) → code_of (verdict_on (run_of panel p ls) (Step x)) ≡ 9 → (kind x ≡ Send) × (sends_over (leg_of p ls) ≡ send_limit)
  -- a send from an active node, to any node, of an open panel is accepted exactly if fewer are made, and meets 9 exactly if so many are
  pub decides :
      released_by p ls ≡ false → (x : Request) → kind x ≡ Send → x.i < nodes p → x.j < nodes p → active_in (leg_of p ls) x.i ≡ true
      → ((code_of (verdict_on (run_of panel p ls) (Step x)) ≡ 0) ↔ (sends_over (leg_of p ls) < send_limit))
      × ((code_of (verdict_on (run_of panel p ls) (Step x)) ≡ 9) ↔ (sends_over (leg_of p ls) ≡ send_limit))

-- What the counted marks are: what the node's last accepted take said of which the word is of that kind, 1 and 3 of firmware, 2 and 4 of the map; with
-- none, as in the first panel. (`take` is the ring's request of that name: here its second number is the word.)
pub record MarksTold : Type 0 where
  pub firmware_first : (p : Panel) (ls : List Ask) (b : ℕ) → Silent 1 3 b (accepted_of panel p ls) → firmware_by p ls b ≡ firmware_at p b
  pub firmware_last :
      (p : Panel) (ls : List Ask) (b word : ℕ) (us vs : List Ask) → accepted_of panel p ls ≡ us ++ (Step (take b word) ∷ vs)
      → (word ≡ 1) ⊎ (word ≡ 3) → Silent 1 3 b vs → firmware_by p ls b ≡ eqb word 1
  pub map_first : (p : Panel) (ls : List Ask) (b : ℕ) → Silent 2 4 b (accepted_of panel p ls) → map_by p ls b ≡ map_at p b
  pub map_last :
      (p : Panel) (ls : List Ask) (b word : ℕ) (us vs : List Ask) → accepted_of panel p ls ≡ us ++ (Step (take b word) ∷ vs)
      → (word ≡ 2) ⊎ (word ≡ 4) → Silent 2 4 b vs → map_by p ls b ≡ eqb word 2

-- What ends a run, or starts one, is a close or a start among the requests accepted.
pub data Ends : Ask → Type 0 where
  by_close : {x : Request} → kind x ≡ Announce → Ends (Step x)
  by_start : {n : ℕ} {flags : List ℕ} → Ends (Start n flags)

pub record EndsMean : Type 0 where
  pub ended :
      (acc : List Ask) → (ended_in acc ≡ true) ↔ ((us : List Ask) × (a : Ask) × (vs : List Ask) × (acc ≡ us ++ (a ∷ vs)) × Ends a)
  pub started :
      (acc : List Ask)
      → (started_in acc ≡ true) ↔ ((us : List Ask) × (n : ℕ) × (flags : List ℕ) × (vs : List Ask) × (acc ≡ us ++ (Start n flags ∷ vs)))

-- for every list of requests from every sound panel
pub record WholeRuns : Type 0 where
  pub point : (p : Panel) → Sound p → (ls : List Ask) → Point p ls
  -- such a panel is every one that is entered; it is open, its record is empty, and every mark of it is old
  pub entered :
      (n : ℕ) (flags : List ℕ) → (enter_of n flags).verdict ≡ Accepted
      → Sound (enter_of n flags).state × ((enter_of n flags).state.ring.closed ≡ false) × ((enter_of n flags).state.recorded ≡ Empty)
      × ((b : ℕ) → (firmware_at (enter_of n flags).state b ≡ false) × (map_at (enter_of n flags).state b ≡ false))
  -- The operations answer as the list is read, so that the claim is about the code that meets `answer_on`.
  pub answers : (p : Panel) (a : Ask) → answer_on p a ≡ record { verdict = verdict_on p a; state = next panel p a }
