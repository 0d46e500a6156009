-- The proofs of what Agreement says of starts and whole runs; of one step it is Agreed. Assumes nothing.
use Prim.Native.Nat.{◌+◌, ◌<◌, ◌≤◌, ℕ}
use mathlib.Core.Bool.{false, true}
use mathlib.Core.List.{List, [], ◌++◌, ◌∷◌}
use mathlib.Core.Path.{◌∙◌, ◌≡◌, ap, refl, subst, sym}
use native.Mathlib.Bridge.{le_prop}
use native.Mathlib.Omega.{arith}
use Rattle.laws.proofs.Sums.{total_zeros}
use Rattle.laws.proofs.Tests.{false_true}
use Rattle.panel_rules.proofs.Accepted.{ring_accepts}
use Rattle.panel_rules.proofs.Keeps.{starts}
use Rattle.panel_rules.proofs.Theorems.{answer_is, panel_kept, start_accepts, start_answered as panel_starts}
use Rattle.panel_rules.specs.Answers.{Answer, enter_of}
use Rattle.panel_rules.specs.Asks.{Ask, Start, Step, after, answer_on, panel}
use Rattle.panel_rules.specs.Rules.{second}
use Rattle.panel_rules.specs.Soundness.{Sound}
use Rattle.panel_rules.specs.State.{Panel, nodes}
use Rattle.panel_runs.proofs.Agreed.{One, one}
use Rattle.panel_runs.proofs.Legs.{At}
use Rattle.panel_runs.proofs.Trace.{effect-closed, first_closed, n_after, run_n, run_sound}
use Rattle.panel_runs.proofs.WholeRun.{base-n, leg}
use Rattle.panel_runs.specs.Agreement.{EnterRunTo, RunTo, RunsAgree, some_node}
use Rattle.panel_runs.specs.Counts.{Leg, leg_from, leg_of, started_in, to_ring}
use Rattle.refusal.specs.Table.{send_limit, settle}
use Rattle.refusal.specs.Table.{Verdict}
use Rattle.refusal.specs.Table.{Accepted}
use Rattle.ring_rules.proofs.Start.{fits}
use Rattle.ring_rules.proofs.Theorems.{start_answered}
use Rattle.ring_rules.specs.Start as ring_start
use Rattle.ring_rules.specs.State.{State}
use Rattle.ring_runs.proofs.Agreement as rings
use Rattle.ring_runs.proofs.Trace as ring_trace
use Rattle.ring_runs.specs.Agreement.{Behaves, Reachable, Started, initial, later, sends_made, sends_of}
use Rattle.ring_runs.specs.Counts.{kind, ring}
use Rattle.ring_runs.specs.EWD998.{Next, Vars}
use Rattle.ring_runs.specs.View.{vars_of}
use Rattle.runs.proofs.Runs.{Run, accepted_append, kept, run_append, run_of_lem, stop, took}
use Rattle.runs.specs.Runs.{Accepts, Request, accepted_of, next, run_of}

-- ---- whole runs

-- a leg whose base is an accepted start's ring
record Begun (n : ℕ) (l : Leg) : Type 0 where
  flags : List ℕ
  accepted : ring_start.start_verdict n flags ≡ Accepted
  base_is : l.base ≡ (ring_start.start_of n flags).state

begun_at : (n m : ℕ) (flags : List ℕ) → m ≡ n → ring_start.start_verdict m flags ≡ Accepted → Begun n (record { base = ring_start.first_state m flags; steps = [] })
begun_at n m flags e a =
    subst (λ (k : ℕ). Begun k (record { base = ring_start.first_state m flags; steps = [] })) e
    (record { flags = flags; accepted = a; base_is = sym (start_answered.first m flags a) })

begun_stays : (n : ℕ) (l : Leg) {p t : Panel} {ls acc : List Ask} → Run panel p ls t acc → nodes p ≡ n → Begun n l → Begun n (leg_from l acc)
begun_stays n l stop e b = b
begun_stays n l (took {s = p} {x = Step x} a c) e b =
    begun_stays n (record { base = l.base; steps = l.steps ++ to_ring x ∷ [] }) c (n_after p (Step x) a ∙ e) (record { flags = b.flags; accepted = b.accepted; base_is = b.base_is })
begun_stays n l (took {s = p} {x = Start m flags} a c) e b =
    let s = starts p m flags a in
    begun_stays n _ c (n_after p (Start m flags) a ∙ e) (begun_at n m flags (s.same_n ∙ e) s.accepted)
begun_stays n l (kept c) e b = begun_stays n l c e b

begun : (n : ℕ) (l : Leg) {p t : Panel} {ls acc : List Ask} → Run panel p ls t acc → nodes p ≡ n → started_in acc ≡ true → Begun n (leg_from l acc)
begun n l stop e b = absurd (false_true b)
begun n l (took {s = p} {x = Step x} a c) e b = begun n (record { base = l.base; steps = l.steps ++ to_ring x ∷ [] }) c (n_after p (Step x) a ∙ e) b
begun n l (took {s = p} {x = Start m flags} a c) e b =
    let s = starts p m flags a in
    begun_stays n _ c (n_after p (Start m flags) a ∙ e) (begun_at n m flags (s.same_n ∙ e) s.accepted)
begun n l (kept c) e b = begun n l c e b

reached : (n : ℕ) (h : 0 < n) (l : Leg) (t : Panel) → At l t → Begun n l → Reachable h (vars_of n t.ring) (sends_made t.ring)
reached n h l t a b =
    subst (λ (r : State). Reachable h (vars_of n r) (sends_made r))
    (sym (a.there ∙ ap (λ (r : State). run_of ring r l.steps) b.base_is))
    ((rings.runs_agree h).run_is_reachable b.flags b.accepted l.steps)

entered_begun : (n : ℕ) (flags : List ℕ) → (enter_of n flags).verdict ≡ Accepted → Begun n (record { base = (enter_of n flags).state.ring; steps = [] })
unfolding enter_of ring_start.start_of
entered_begun n flags e = record { flags = flags; accepted = e; base_is = refl }

entered_n : (n : ℕ) (flags : List ℕ) → (enter_of n flags).verdict ≡ Accepted → nodes (enter_of n flags).state ≡ n
unfolding enter_of ring_start.start_of ring_start.first_state
entered_n n flags e = ap (λ (r : State). r.n) (start_answered.first n flags e)

run_behaves :
    (p : Panel) → Sound p → (ls : List Ask) (h : 0 < nodes p) → Behaves h (leg_of p ls).base (leg_of p ls).steps (run_of panel p ls).ring
run_behaves p ok ls h =
    let l = leg p ok ls in
    subst (Behaves h (leg_of p ls).base (leg_of p ls).steps) (sym l.there)
    (subst (λ (acc : List Request). Behaves h (leg_of p ls).base acc (run_of ring (leg_of p ls).base (leg_of p ls).steps)) l.all
    ((rings.runs_agree h).run_is_behaviour (leg_of p ls).base l.base_sound (base-n p ok ls) (leg_of p ls).steps))

-- ---- a reachable state is a run's

-- one accepted step that leads to t and is no close, with c sends
record OneAt (N : ℕ) (q : Panel) (t : Vars N) (c : ℕ) : Type 0 where
  x : Request
  accepted : Accepts panel q (Step x)
  there : vars_of N (next panel q (Step x)).ring ≡ t
  running : (next panel q (Step x)).ring.closed ≡ false
  count : sends_made (next panel q (Step x)).ring ≡ sends_made q.ring + c

module _ (q : Panel) (ok : Sound q) (running : q.ring.closed ≡ false) where
  seen_one : (t : Vars (nodes q)) (c : ℕ) → One q ok running t c → OneAt (nodes q) q t c
  seen_one t c o =
      let y = o.x in
      let made : next panel q (Step y) ≡ after q (Step y) = ap (λ (v : Verdict). settle v (after q (Step y)) q) o.accepted in
      let took_one : Accepts ring q.ring (to_ring y) = ring_accepts q (kind y) y.i y.j o.accepted in
      let chain : Run ring q.ring (to_ring y ∷ []) (ring.effect q.ring (to_ring y)) (to_ring y ∷ []) = took took_one stop in
      let sent = ring_trace.run_sent chain ok.ring in
      record {
        x = y;
        accepted = o.accepted;
        there = ap (λ (a : Answer). vars_of (nodes q) a.state.ring) (sym (answer_is q (Step y))) ∙ o.there;
        running =
            ap (λ (u : Panel). u.ring.closed) made
            ∙ effect-closed q.ring (kind y) y.i (second (kind y) y.j)
            ∙ rw (o.no_close, running);
        count = ap (λ (u : Panel). sends_made u.ring) made ∙ omega (arith, sent, o.sends);
      }

  -- the same where N is q's number of nodes by an equation, and s what q shows
  one_at :
      {N : ℕ} (h : 0 < N) → nodes q ≡ N → {s : Vars N} → vars_of N q.ring ≡ s → (t : Vars N) (a : Next h s t)
      → sends_made q.ring + sends_of h a ≤ send_limit → OneAt N q t (sends_of h a)
  one_at {N} h size {s} e =
      subst (λ (u : Vars N). (t : Vars N) (a : Next h u t) → sends_made q.ring + sends_of h a ≤ send_limit → OneAt N q t (sends_of h a)) e
      (subst
      (λ (M : ℕ). (h : 0 < M) (t : Vars M) (a : Next h (vars_of M q.ring) t) → sends_made q.ring + sends_of h a ≤ send_limit → OneAt M q t (sends_of h a))
      size here h)
    where
      here :
          (h : 0 < nodes q) (t : Vars (nodes q)) (a : Next h (vars_of (nodes q) q.ring) t) → sends_made q.ring + sends_of h a ≤ send_limit
          → OneAt (nodes q) q t (sends_of h a)
      here h =
          subst
          (λ (g : 0 < nodes q). (t : Vars (nodes q)) (a : Next g (vars_of (nodes q) q.ring) t) → sends_made q.ring + sends_of g a ≤ send_limit
          → OneAt (nodes q) q t (sends_of g a))
          (le_prop (some_node q ok) h) (λ t a room. seen_one t _ (one q ok running t a room))

-- one step more
more : (p : Panel) {N : ℕ} {s t : Vars N} {m c : ℕ} (w : RunTo p s m) → OneAt N (run_of panel p w.requests) t c → RunTo p t (m + c)
unfolding run_of accepted_of
more p {N} {c = c} w o =
    let y = Step o.x in
    let now : run_of panel p (w.requests ++ (y ∷ [])) ≡ next panel (run_of panel p w.requests) y = run_append panel p w.requests (y ∷ []) in
    let took : accepted_of panel (run_of panel p w.requests) (y ∷ []) ≡ y ∷ [] = ap (λ (v : Verdict). settle v (y ∷ []) []) o.accepted in
    record {
      requests = w.requests ++ (y ∷ []);
      accepted = accepted_append panel p w.requests (y ∷ []) ∙ (λ z. w.accepted z ++ took z);
      running = ap (λ (u : Panel). u.ring.closed) now ∙ o.running;
      count = ap (λ (u : Panel). sends_made u.ring) now ∙ o.count ∙ ap (λ (n : ℕ). n + c) w.count;
      there = ap (λ (u : Panel). vars_of N u.ring) now ∙ o.there;
    }

run_more :
    (p : Panel) → Sound p → {N : ℕ} (h : 0 < N) → nodes p ≡ N → {s t : Vars N} {m : ℕ} (w : RunTo p s m) (a : Next h s t) → m + sends_of h a ≤ send_limit
    → RunTo p t (m + sends_of h a)
run_more p ok h size {t = t} w a room =
    let c = run_of_lem panel p w.requests in
    more p w (one_at (run_of panel p w.requests) (run_sound c ok) w.running h (run_n c ∙ size) w.there t a (omega (arith, w.count, room)))

first_sends : (N : ℕ) (flags : List ℕ) → N ≤ 96 → sends_made (ring_start.first_state N flags) ≡ 0
unfolding ring_start.first_state
first_sends N flags h = total_zeros 96 N h

-- a panel whose ring is an accepted start's, with no request made
module _ (N : ℕ) (flags : List ℕ) (e : ring_start.start_verdict N flags ≡ Accepted) (s : Vars N) (there : vars_of N (ring_start.start_of N flags).state ≡ s) where
  first : (ring_start.start_of N flags).state ≡ ring_start.first_state N flags
  first = start_answered.first N flags e

  enter_run : EnterRunTo s 0
  unfolding run_of accepted_of enter_of ring_start.start_of
  enter_run =
      record {
        flags = flags;
        entered = e;
        run =
            record {
              requests = [];
              accepted = refl;
              running = ap (λ (r : State). r.closed) first ∙ first_closed N flags;
              count = ap sends_made first ∙ first_sends N flags (fits N flags e).nodes;
              there = there;
            };
      }

  start_run : (p : Panel) → Sound p → N ≡ nodes p → RunTo p s 0
  unfolding run_of accepted_of
  start_run p ok size =
      let a = start_accepts p N flags ok size e in
      let made : next panel p (Start N flags) ≡ after p (Start N flags) = ap (λ (v : Verdict). settle v (after p (Start N flags)) p) a in
      record {
        requests = Start N flags ∷ [];
        accepted = ap (λ (v : Verdict). settle v (Start N flags ∷ []) []) a;
        running = ap (λ (u : Panel). u.ring.closed) made ∙ first_closed N flags;
        count = ap (λ (u : Panel). sends_made u.ring) made ∙ first_sends N flags (fits N flags e).nodes;
        there = ap (λ (u : Panel). vars_of N u.ring) made ∙ ap (vars_of N) (sym first) ∙ there;
      }

reachable_entered : {N : ℕ} (h : 0 < N) → N ≤ 96 → {t : Vars N} {m : ℕ} → Reachable h t m → m ≤ send_limit → EnterRunTo t m
reachable_entered {N} h hi (initial {s} i) l =
    let w = (rings.starts_agree N).init_is_start h hi s i in enter_run N w.flags w.accepted s w.there
reachable_entered {N} h hi (later {s} {t} {m} b a) l =
    let w = reachable_entered h hi b (omega arith) in
    record {
      flags = w.flags;
      entered = w.entered;
      run = run_more (enter_of N w.flags).state (panel_kept.enter N w.flags w.entered) h (entered_n N w.flags w.entered) w.run a l;
    }

reachable_run : (p : Panel) → Sound p → {N : ℕ} (h : 0 < N) → N ≡ nodes p → {t : Vars N} {m : ℕ} → Reachable h t m → m ≤ send_limit → RunTo p t m
reachable_run p ok {N} h size (initial {s} i) l =
    let w = (rings.starts_agree N).init_is_start h (omega (arith, size, ok.ring.nodes)) s i in start_run N w.flags w.accepted s w.there p ok size
reachable_run p ok h size (later {s} {t} {m} b a) l = run_more p ok h (sym size) (reachable_run p ok h size b (omega arith)) a l

-- ---- the whole

start_init : (p : Panel) (N : ℕ) (flags : List ℕ) → Accepts panel p (Start N flags) → Started flags (vars_of N (answer_on p (Start N flags)).state.ring)
start_init p N flags e =
    let a = (starts p N flags e).accepted in
    subst (λ (r : State). Started flags (vars_of N r)) (start_answered.first N flags a ∙ sym (panel_starts.afresh p N flags e))
    ((rings.starts_agree N).start_is_init flags a)

enter_init : (N : ℕ) (flags : List ℕ) → (enter_of N flags).verdict ≡ Accepted → Started flags (vars_of N (enter_of N flags).state.ring)
unfolding enter_of ring_start.start_of
enter_init N flags e = (rings.starts_agree N).start_is_init flags e

pub runs_agree : RunsAgree
runs_agree =
    record {
      enter_is_init = enter_init;
      start_is_init = start_init;
      run_is_behaviour = run_behaves;
      after_a_start =
          λ p s ls e h.
          reached (nodes p) h _ (run_of panel p ls) (leg p s ls) (begun (nodes p) _ (run_of_lem panel p ls) refl e);
      after_entering =
          λ n flags e ls h.
          let p = (enter_of n flags).state in
          reached n h _ (run_of panel p ls) (leg p (panel_kept.enter n flags e) ls)
          (begun_stays n _ (run_of_lem panel p ls) (entered_n n flags e) (entered_begun n flags e));
      reachable_is_entered = λ h hi t m b l. reachable_entered h hi b l;
      reachable_is_run = λ p ok h size t m b l. reachable_run p ok h size b l;
    }
