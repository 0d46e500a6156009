-- Q-7 over whole lists of requests. Assumes nothing.
use Prim.Native.Nat.{◌*◌, ◌+◌, ◌-◌, ◌<◌, ◌≤◌, ℕ}
use borrow.Author.Tests.{lt-leb, not-false}
use lib.Dec.{leb}
use lib.ListN.{length}
use mathlib.Core.Bool.{Bool, ◌||◌, false, true}
use mathlib.Core.List.{List, [], ◌++◌}
use mathlib.Core.Logic.{◌↔◌, ◌⊎◌, inl, inr}
use mathlib.Core.Path.{◌∙◌, ◌≡◌, ap, ap₂, refl, subst, sym}
use native.Mathlib.Omega.{arith}
use Rattle.laws.proofs.Tests.{false_true, neither}
use Rattle.laws.specs.Sums.{total}
use Rattle.panel_rules.proofs.Accepted.{passed, ring_accepts}
use Rattle.panel_rules.proofs.Answers.{ring_verdict}
use Rattle.panel_rules.proofs.Marks.{agree_from, all_are, word_once, word_some}
use Rattle.panel_rules.proofs.Numbers.{close_accepted, kind_9}
use Rattle.panel_rules.proofs.Soundness.{true_sound}
use Rattle.panel_rules.proofs.Theorems.{answer_is, enter_answered, panel_kept, start_accepts}
use Rattle.panel_rules.specs.Answers.{enter_of, marks_told, verdict_of}
use Rattle.panel_rules.specs.Asks.{Ask, Start, Step, panel, verdict_on}
use Rattle.panel_rules.specs.Rules.{unequal}
use Rattle.panel_rules.specs.Soundness.{Matches, Sound}
use Rattle.panel_rules.specs.State.{Panel, agreed, all_say_word, firmware_at, map_at, marks_number, nodes, record_number, word_of}
use Rattle.panel_rules.specs.declared.record.Record.{Record}
use Rattle.panel_rules.specs.declared.record.Record.TheVariants.{Empty}
use Rattle.panel_runs.proofs.Legs.{At, at_first, leg_append, leg_goes_on, ring_length, ring_moves, ring_unannounced, ring_of, run_leg, run_seen}
use Rattle.panel_runs.proofs.Next.{announce_test, one_of_three}
use Rattle.panel_runs.proofs.Trace.{first_closed, moves_keep, none_taken, not_ended, run_closed, run_firmware, run_map, run_n, run_sound}
use Rattle.panel_runs.specs.Counts.{AgreeBy, AllMoves, Leg, QuietBy, QuietOver, active_in, ended_in, firmware_by, leg_from, leg_of, map_by, released_by, sends_over, started_in, to_ring, transit_in}
use Rattle.panel_runs.specs.WholeRun.{Countdown, Counted, OneOfThree, Point, Reads, Released, WholeRuns, close, stuck, token_moves}
use Rattle.refusal.specs.Counts.{count_of}
use Rattle.refusal.specs.Table.{code_of, send_limit}
use Rattle.refusal.specs.Table.{Accepted}
use Rattle.ring_rules.specs.Rules.{Announce, Kind, Send, conclusive}
use Rattle.ring_rules.specs.Start as ring_start
use Rattle.ring_rules.specs.State.{State, active_at, pending_at, received_at}
use Rattle.ring_runs.proofs.Limit.{limit_counted}
use Rattle.ring_runs.proofs.Trace as ring_trace
use Rattle.ring_runs.proofs.WholeRun.{whole_runs as ring_whole}
use Rattle.ring_runs.specs.Counts as counts
use Rattle.ring_runs.specs.Counts.{active_after, announced_in, kind, ring, sends_in, sends_to, takes_by}
use Rattle.ring_runs.specs.Requests.{announce}
use Rattle.ring_runs.specs.WholeRun as ring_runs
use Rattle.runs.proofs.Runs.{Run, accepted_append, run_append, run_of_lem}
use Rattle.runs.specs.Runs.{Accepts, Request, accepted_of, run_of}

-- ---- the ring's counts and the panel's

-- the ring's counts over its accepted requests, where all of a leg's steps are accepted
module _ (l : Leg) (n : ℕ) (same : l.base.n ≡ n) (all : accepted_of ring l.base l.steps ≡ l.steps) where
  quiet_over : counts.QuietBy l.base l.steps → QuietOver n l
  quiet_over q =
      record {
        passive =
            λ b h.
            subst (λ (acc : List Request). active_after (active_at l.base b) acc b ≡ false) all
            (q.passive b (subst (λ (m : ℕ). b < m) (sym same) h));
        empty =
            λ b h.
            subst (λ (acc : List Request). pending_at l.base b + sends_to acc b - takes_by acc b ≡ 0) all
            (q.empty b (subst (λ (m : ℕ). b < m) (sym same) h));
      }

  over_quiet : QuietOver n l → counts.QuietBy l.base l.steps
  over_quiet q =
      record {
        passive =
            λ b h.
            subst (λ (acc : List Request). active_after (active_at l.base b) acc b ≡ false) (sym all)
            (q.passive b (subst (λ (m : ℕ). b < m) same h));
        empty =
            λ b h.
            subst (λ (acc : List Request). pending_at l.base b + sends_to acc b - takes_by acc b ≡ 0) (sym all)
            (q.empty b (subst (λ (m : ℕ). b < m) same h));
      }

-- ---- what follows a quiet open panel, given the ring's countdown there

agreed_kept : (p t : Panel) → nodes t ≡ nodes p → (t.firmware ≡ p.firmware) × (t.map ≡ p.map) → agreed t ≡ agreed p
unfolding agreed
agreed_kept p t n m = λ x. all_say_word true (n x) (m.0 x) (m.1 x) || all_say_word false (n x) (m.0 x) (m.1 x)

-- a close is accepted where the test holds and the marks agree
closes_then :
    (t : Panel) → Sound t → t.ring.closed ≡ false → (T : Type 0) (b : Bool) → (conclusive t.ring ≡ true) ↔ T → agreed t ≡ b
    → (x : Request) → kind x ≡ Announce → Accepts panel t (Step x) ↔ (T × (b ≡ true))
closes_then t s o T b w e x k =
    let c = close_accepted t x.i x.j in
    let at : verdict_of t (kind x) x.i x.j ≡ verdict_of t Announce x.i x.j = ap (λ (y : Kind). verdict_of t y x.i x.j) k in (
      λ a. let h = c.0 (sym at ∙ a) in (w.0 h.2, sym e ∙ h.3),
      λ h. at ∙ c.1 (s, o, w.1 h.0, e ∙ h.1),
    )

module _ (p : Panel) (s : Sound p) (o : p.ring.closed ≡ false) (K : ℕ)
    (counted : (zs : List Request) → counts.Unannounced p.ring zs → ring_runs.Counted p.ring K zs) where
  panel_counted : (ys : List Ask) → ended_in (accepted_of panel p ys) ≡ false → Counted p K ys
  panel_counted ys e =
      let acc = accepted_of panel p ys in
      let t = run_of panel p ys in
      let chain = run_of_lem panel p ys in
      let zs = ring_of acc in
      let w = run_seen chain e in
      let c = counted zs (ap announced_in w.all ∙ ring_unannounced acc e) in
      let size : length (accepted_of ring p.ring zs) ≡ length acc = ap length w.all ∙ ring_length acc e in
      let t_open : t.ring.closed ≡ false = run_closed chain ∙ not_ended p.ring.closed acc e ∙ o in
      let t_sound : Sound t = run_sound chain s in
      let test = announce_test t.ring (record { sound = t_sound.ring; running = t_open }) announce refl in
      let exact = c.exactly announce refl in
      let moves : AllMoves acc = ring_moves acc e (subst counts.AllMoves w.all c.moves_alone) in
      let tested : (conclusive t.ring ≡ true) ↔ (length acc ≡ K) = (
        λ h. sym size ∙ exact.0 (subst (λ (r : State). Accepts ring r announce) w.there (test.1 h)),
        λ h. test.0 (subst (λ (r : State). Accepts ring r announce) (sym w.there) (exact.1 (size ∙ h))),
      ) in
      let same : agreed t ≡ agreed p = agreed_kept p t (run_n chain) (moves_keep chain moves) in
      record {
        moves_alone = moves;
        at_most = omega (arith, c.at_most, size);
        exactly = tested;
        closing = closes_then t t_sound t_open (length acc ≡ K) (agreed p) tested same;
        then = one_of_three t t_sound t_open (subst ring_runs.OneOfTwo (sym w.there) c.then);
      }

-- ---- what a released panel tells

reads_as : (p : Panel) → Sound p → (b : Bool) → ((i : ℕ) → i < nodes p → (firmware_at p i ≡ b) × (map_at p i ≡ b)) → word_of b ≡ p.recorded
    → Reads p (record_number (word_of b)) (marks_number b b)
reads_as p s b each e =
    let t = true_sound p s in
    record {
      record_told = (λ x. count_of (t x) (record_number p.recorded)) ∙ ap (λ (w : Record). record { verdict = Accepted; number = record_number w }) (sym e);
      marks_are_told =
          λ i h.
          let g : leb (nodes p) i ≡ false = lt-leb (nodes p) i h in
          (λ x. marks_told (t x) (g x) (marks_number ((each i h).0 x) ((each i h).1 x)));
    }

reads : (p : Panel) → Sound p → Matches p → Reads p 1 0 ⊎ Reads p 2 3
reads p s m = go (firmware_at p 0) refl
  where
    lo : 0 < nodes p
    lo = s.ring.some_node

    each : (b : Bool) → firmware_at p 0 ≡ b → (i : ℕ) → i < nodes p → (firmware_at p i ≡ b) × (map_at p i ≡ b)
    each b e i h =
        let w : p.recorded ≡ word_of b = sym (m.firmware 0 lo) ∙ ap word_of e in
        (word_once (firmware_at p i) b (m.firmware i h ∙ w), word_once (map_at p i) b (m.map i h ∙ w))

    go : (b : Bool) → firmware_at p 0 ≡ b → Reads p 1 0 ⊎ Reads p 2 3
    go false e = inl (reads_as p s false (each false e) (sym (ap word_of e) ∙ m.firmware 0 lo))
    go true e = inr (reads_as p s true (each true e) (sym (ap word_of e) ∙ m.firmware 0 lo))

-- ---- the point of a list

module _ (p : Panel) (s : Sound p) (ls : List Ask) where
  abbrev here : Panel
  here = run_of panel p ls

  chain : Run panel p ls here (accepted_of panel p ls)
  chain = run_of_lem panel p ls

  sound_here : Sound here
  sound_here = run_sound chain s

  closed-here : here.ring.closed ≡ released_by p ls
  closed-here = run_closed chain

  pub leg : At (leg_of p ls) here
  leg = run_leg _ chain (at_first p s.ring)

  abbrev base : State
  base = (leg_of p ls).base

  abbrev steps : List Request
  steps = (leg_of p ls).steps

  ring_chain : Run ring base steps (run_of ring base steps) (accepted_of ring base steps)
  ring_chain = run_of_lem ring base steps

  pub base-n : base.n ≡ nodes p
  base-n = sym (ring_trace.run_n ring_chain) ∙ ap (λ (r : State). r.n) (sym leg.there) ∙ run_n chain

  -- where the panel is open, its leg's base was, and no announcement is among its steps
  open_base : here.ring.closed ≡ false → (base.closed ≡ false) × (announced_in (accepted_of ring base steps) ≡ false)
  open_base o =
      neither base.closed (announced_in (accepted_of ring base steps))
      (sym (ring_trace.run_closed ring_chain leg.base_sound) ∙ ap (λ (r : State). r.closed) (sym leg.there) ∙ o)

  ring_point : here.ring.closed ≡ false → ring_runs.Point base steps
  ring_point o = ring_whole.point base (record { sound = leg.base_sound; running = (open_base o).0 }) steps

  firmware_here : (b : ℕ) → firmware_at here b ≡ firmware_by p ls b
  firmware_here = run_firmware chain s

  map_here : (b : ℕ) → map_at here b ≡ map_by p ls b
  map_here = run_map chain s

  in_here : (b : ℕ) → b < nodes p → b < nodes here
  in_here b h = subst (λ (n : ℕ). b < n) (sym (run_n chain)) h

  released : released_by p ls ≡ true → Released p ls
  released e =
      let m = sound_here.matches (closed-here ∙ e) in
      record {
        written = λ z. word_some (firmware_at here 0) (m.firmware 0 sound_here.ring.some_node ∙ z);
        firmware = λ b h. m.firmware b (in_here b h);
        map = λ b h. m.map b (in_here b h);
        firmware_counted = λ b h. ap word_of (sym (firmware_here b)) ∙ m.firmware b (in_here b h);
        map_counted = λ b h. ap word_of (sym (map_here b)) ∙ m.map b (in_here b h);
        told = reads here sound_here m;
      }

  agree_here : (agreed here ≡ true) ↔ AgreeBy p ls
  agree_here = (
    λ e.
        let w = all_are here e in
        record {
          word = w.0;
          firmware = λ b h. sym (firmware_here b) ∙ w.1.firmware b (in_here b h);
          map = λ b h. sym (map_here b) ∙ w.1.map b (in_here b h);
        },
    λ w.
        agree_from here w.word
        (record {
          firmware = λ b h. firmware_here b ∙ w.firmware b (subst (λ (n : ℕ). b < n) (run_n chain) h);
          map = λ b h. map_here b ∙ w.map b (subst (λ (n : ℕ). b < n) (run_n chain) h);
        }),
  )

  closes : (x : Request) → kind x ≡ Announce → Accepts panel here (Step x) → QuietBy p ls × AgreeBy p ls
  closes x e a =
      let t = passed here (kind x) x.i x.j a in
      let b : Accepts ring here.ring (to_ring x) = ring_accepts here (kind x) x.i x.j a in (
        quiet_over (leg_of p ls) (nodes p) base-n leg.all
            ((ring_point t.running).quiet (to_ring x) e (subst (λ (r : State). Accepts ring r (to_ring x)) leg.there b)),
        agree_here.0 (not-false (agreed here) (ap (unequal here) (sym e) ∙ t.equal)),
      )

  countdown : QuietBy p ls → released_by p ls ≡ false → Countdown p ls
  countdown q e =
      let o : here.ring.closed ≡ false = closed-here ∙ e in
      let c = (ring_point o).countdown (over_quiet (leg_of p ls) (nodes p) base-n leg.all q) (open_base o).1 in
      record {
        K = c.K;
        bound = subst (λ (n : ℕ). c.K ≤ 3 * n - 2) base-n c.bound;
        counted =
            panel_counted here sound_here o c.K
            (subst (λ (r : State). (zs : List Request) → counts.Unannounced r zs → ring_runs.Counted r c.K zs) (sym leg.there) c.counted);
      }

  -- the leg after further requests with no close and no start accepted among them
  module _ (ys : List Ask) (e : ended_in (accepted_of panel here ys) ≡ false) where
    abbrev more : List Request
    more = ring_of (accepted_of panel here ys)

    leg_on : leg_of p (ls ++ ys) ≡ record { base = base; steps = steps ++ more }
    leg_on =
        ap (leg_from (record { base = p.ring; steps = [] })) (accepted_append panel p ls ys)
        ∙ leg_append _ (accepted_of panel p ls) (accepted_of panel here ys)
        ∙ leg_goes_on (leg_of p ls) (accepted_of panel here ys) e

    all_on : accepted_of ring base (steps ++ more) ≡ steps ++ more
    all_on =
        accepted_append ring base steps more
        ∙ ap₂ (λ (us vs : List Request). us ++ vs) leg.all
        (ap (λ (r : State). accepted_of ring r more) (sym leg.there) ∙ (run_seen (run_of_lem panel here ys) e).all)

    -- an open panel is still open there
    unannounced_on : here.ring.closed ≡ false → counts.Unannounced base (steps ++ more)
    unannounced_on o =
        (neither base.closed (announced_in (accepted_of ring base (steps ++ more)))
        (sym (ring_trace.run_closed (run_of_lem ring base (steps ++ more)) leg.base_sound)
        ∙ ap (λ (r : State). r.closed)
        (run_append ring base steps more
        ∙ ap (λ (r : State). run_of ring r more) (sym leg.there)
        ∙ sym (run_seen (run_of_lem panel here ys) e).there)
        ∙ run_closed (run_of_lem panel here ys)
        ∙ not_ended here.ring.closed (accepted_of panel here ys) e
        ∙ o)).1

  still : QuietBy p ls → released_by p ls ≡ false → (ys : List Ask) → ended_in (accepted_of panel here ys) ≡ false → QuietBy p (ls ++ ys)
  still q r ys e =
      let o : here.ring.closed ≡ false = closed-here ∙ r in
      subst (QuietOver (nodes p)) (sym (leg_on ys e))
      (quiet_over (record { base = base; steps = steps ++ more ys e }) (nodes p) base-n (all_on ys e)
      ((ring_point o).still (over_quiet (leg_of p ls) (nodes p) base-n leg.all q) (more ys e) (unannounced_on ys e o)))

  -- where it is stuck
  taken_none : QuietBy p ls → released_by p ls ≡ false → conclusive here.ring ≡ true → (AgreeBy p ls → ⊥) → (x : Request) → Accepts panel here (Step x) → ⊥
  unfolding run_of accepted_of
  taken_none q r t u = go ((countdown q r).counted [] refl).then
    where
      go : OneOfThree here → (x : Request) → Accepts panel here (Step x) → ⊥
      go (token_moves f x a only) y b = false_true (sym f ∙ t)
      go (close c g every only) y b = u (agree_here.0 g)
      go (stuck c g every none) y b = none y b

  held :
      QuietBy p ls → released_by p ls ≡ false → conclusive here.ring ≡ true → (AgreeBy p ls → ⊥) → (ys : List Ask)
      → started_in (accepted_of panel here ys) ≡ false → accepted_of panel here ys ≡ []
  held q r t u ys = none_taken (run_of_lem panel here ys) (taken_none q r t u)

  shut : released_by p ls ≡ true → (ys : List Ask) → started_in (accepted_of panel here ys) ≡ false → accepted_of panel here ys ≡ []
  shut e ys = none_taken (run_of_lem panel here ys) (λ x a. false_true (sym (passed here (kind x) x.i x.j a).running ∙ closed-here ∙ e))

  starts_here : (flags : List ℕ) → ring_start.start_verdict (nodes p) flags ≡ Accepted → Accepts panel here (Start (nodes p) flags)
  starts_here flags = start_accepts here (nodes p) flags sound_here (sym (run_n chain))

  -- the ring's columns, as the ring counts them
  activity : (b : ℕ) → active_at here.ring b ≡ active_in (leg_of p ls) b
  activity b =
      ap (λ (r : State). active_at r b) leg.there
      ∙ ring_trace.run_active ring_chain leg.base_sound b
      ∙ ap (λ (acc : List Request). active_after (active_at base b) acc b) leg.all

  balance : (b : ℕ) → pending_at (run_of ring base steps) b + takes_by steps b ≡ pending_at base b + sends_to steps b
  balance b =
      subst (λ (acc : List Request). pending_at (run_of ring base steps) b + takes_by acc b ≡ pending_at base b + sends_to acc b) leg.all
      (ring_trace.run_pending ring_chain leg.base_sound b)

  transit : (b : ℕ) → pending_at here.ring b ≡ transit_in (leg_of p ls) b
  transit b =
      let e : pending_at here.ring b ≡ pending_at (run_of ring base steps) b = ap (λ (r : State). pending_at r b) leg.there in
      let f = balance b in omega arith

  enough : (b : ℕ) → takes_by steps b ≤ pending_at base b + sends_to steps b
  enough b = let f = balance b in omega arith

  received : (b : ℕ) → received_at here.ring b ≡ received_at base b + takes_by steps b
  received b =
      ap (λ (r : State). received_at r b) leg.there
      ∙ ring_trace.run_received ring_chain leg.base_sound b
      ∙ ap (λ (acc : List Request). received_at base b + takes_by acc b) leg.all

  limit : (x : Request) → code_of (verdict_on here (Step x)) ≡ 9 → (kind x ≡ Send) × (sends_over (leg_of p ls) ≡ send_limit)
  limit x e =
      let w = kind_9 here (kind x) x.i x.j e in
      let y : Request = record { kind = 1; i = x.i; j = x.j } in
      let same : code_of (ring.verdict here.ring y) ≡ 9 =
      ap code_of (sym (ring_verdict here sound_here Send x.i x.j refl refl) ∙ ap (λ (k : Kind). verdict_of here k x.i x.j) (sym w.0)) ∙ e in (
        w.0,
        subst (λ (acc : List Request). total base.sent base.n + sends_in acc ≡ send_limit) leg.all
            (limit_counted.only base (record { sound = leg.base_sound; running = (open_base w.1).0 }) steps y
            (subst (λ (r : State). code_of (ring.verdict r y) ≡ 9) leg.there same)).1,
      )

  decides :
      released_by p ls ≡ false → (x : Request) → kind x ≡ Send → x.i < nodes p → x.j < nodes p → active_in (leg_of p ls) x.i ≡ true
      → ((code_of (verdict_on here (Step x)) ≡ 0) ↔ (sends_over (leg_of p ls) < send_limit))
      × ((code_of (verdict_on here (Step x)) ≡ 9) ↔ (sends_over (leg_of p ls) ≡ send_limit))
  decides r x e hi hj act =
      let o = open_base (closed-here ∙ r) in
      let y : Request = record { kind = 1; i = x.i; j = x.j } in
      let same : code_of (verdict_on here (Step x)) ≡ code_of (ring.verdict (run_of ring base steps) y) =
      ap code_of
      (ap (λ (k : Kind). verdict_of here k x.i x.j) e
      ∙ ring_verdict here sound_here Send x.i x.j refl refl
      ∙ ap (λ (s : State). ring.verdict s y) leg.there) in
      let inside : (b : ℕ) → b < nodes p → b < base.n = λ b. subst (λ (n : ℕ). b < n) (sym base-n) in
      let w =
      limit_counted.decides base (record { sound = leg.base_sound; running = o.0 }) steps o.1 y refl (inside x.i hi) (inside x.j hj)
      (subst (λ (acc : List Request). active_after (active_at base x.i) acc x.i ≡ true) (sym leg.all) act) in
      subst
      (λ (c : ℕ). ((c ≡ 0) ↔ (sends_over (leg_of p ls) < send_limit)) × ((c ≡ 9) ↔ (sends_over (leg_of p ls) ≡ send_limit)))
      (sym same)
      (subst
      (λ (acc : List Request).
      ((code_of (ring.verdict (run_of ring base steps) y) ≡ 0) ↔ (total base.sent base.n + sends_in acc < send_limit))
      × ((code_of (ring.verdict (run_of ring base steps) y) ≡ 9) ↔ (total base.sent base.n + sends_in acc ≡ send_limit)))
      leg.all w)

  point : Point p ls
  point =
      record {
        sound = sound_here;
        same_n = run_n chain;
        firmware = firmware_here;
        map = map_here;
        agree = agree_here;
        closed = closed-here;
        ring_run = leg.there;
        ring_steps = leg.all;
        activity = activity;
        transit = transit;
        enough = enough;
        received = received;
        released = released;
        shut = shut;
        unwritten = λ e. sound_here.empty (closed-here ∙ e);
        close = closes;
        still = still;
        countdown = countdown;
        held = held;
        start = starts_here;
        limit = limit;
        decides = decides;
      }

pub whole_runs : WholeRuns
unfolding enter_of
whole_runs =
    record {
      point = point;
      entered = λ n flags e. (panel_kept.enter n flags e, entered_open n flags e, entered_empty n flags, enter_answered.old n flags);
      answers = answer_is;
    }
  where
    entered_open : (n : ℕ) (flags : List ℕ) → (enter_of n flags).verdict ≡ Accepted → (enter_of n flags).state.ring.closed ≡ false
    entered_open n flags e = ap (λ (p : Panel). p.ring.closed) (enter_answered.first n flags e) ∙ first_closed n flags

    entered_empty : (n : ℕ) (flags : List ℕ) → (enter_of n flags).state.recorded ≡ Empty
    entered_empty n flags = refl
