-- The statements of specs/Ring.antt, proved: the runs by computation, and what no run reaches by two invariants. Assumes nothing.
use Prim.Native.Nat.{◌+◌, ◌-◌, ◌<◌, ◌≤◌, ℕ}
use borrow.Author.Tests.{eqb-true, ltb-true, not-true}
use lib.Dec.{eqb, ltb}
use lib.IntN.{◌+ℤ◌}
use lib.ListN.{get_or, length, replicate, set}
use mathlib.Core.Bool.{Bool, ◌&&◌, ◌||◌, false, not, true}
use mathlib.Core.List.{List, [], ◌++◌, ◌∷◌}
use mathlib.Core.Logic.{⊎_elim}
use mathlib.Core.Path.{◌∙◌, ◌≡◌, ap, refl, subst, sym}
use native.Mathlib.Decide.{dec_lt}
use native.Mathlib.Omega.{arith}
use Rattle.color.proofs.Colors.{blackened_same}
use Rattle.color.specs.Colors.{blackened, is_black, whitened}
use Rattle.laws.proofs.Places.{all_at}
use Rattle.laws.proofs.Sums.{total_next, total-set_in, total-set_out, total_zeros}
use Rattle.laws.proofs.Tests.{both, false_true, one_of}
use Rattle.laws.specs.Places.{all_to}
use Rattle.laws.specs.Sums.{sum_to, total}
use Rattle.ring_rules.proofs.Accepted.{Rule, announces, idles, passes, probes, sends, takes}
use Rattle.ring_rules.proofs.Theorems.{sound_kept, sound_tested, start_answered}
use Rattle.ring_rules.specs.Answers.{verdict_of}
use Rattle.ring_rules.specs.Rules.{Announce, Idle, Kind, Pass, Probe, Send, Take, conclusive, effect, may_pass, may_probe, pass_of}
use Rattle.ring_rules.specs.Soundness.{Open, Sound, closed_test, flow_test, gathered_test, passive_above, range_test, safra_test, shape_test, sound_test, sum_test, unused_test, white_to}
use Rattle.ring_rules.specs.Start.{active_from, blank, color_from, first_state, flags_test, start_of, start_verdict}
use Rattle.ring_rules.specs.State.{State, black_at, received_at, sent_at}
use Rattle.runs.proofs.Runs.{run_keeps, run_of_lem}
use Rattle.runs.specs.Runs.{Accepts, Request, accepted_of, run_of}
use Rattle.signed.proofs.Parts.{dn, one_part, sum_parts, up}
use Rattle.signed.specs.Integers.{◌⊖◌, is_positive, is_same, is_zero}
use Rattle.ring_runs.proofs.Agreement.{runs_agree, starts_agree}
use Rattle.ring_runs.proofs.Trace.{may}
use Rattle.ring_runs.proofs.WholeRun.{whole_runs}
use Rattle.ring_runs.specs.Counts.{Announced, Unannounced, active_by, kind, ring, transit_by}
use Rattle.instances.specs.Ring.{HandedIn, Instances, QuietPoint, Unreached, Worked, alone, alone_sends, alone_takes, busy_answers, busy_moves, busy_requests, busy_ring, first, handed, moves, quiet_moves, quiet_ring, requests, start_flags}
use Rattle.ring_runs.specs.Requests.{announce, numbers, probe}
use Rattle.ring_rules.specs.Rules.{Unknown}

-- ---- what no run gives

-- what holds of every first state and is kept by every accepted request holds of no state that no run gives
unreached_by :
    (P : State → Type 0) → ((r : State) (x : Request) → P r → Accepts ring r x → P (ring.effect r x)) → ((n : ℕ) (fs : List ℕ) → P (first_state n fs))
    → (s : State) → (P s → ⊥) → Unreached s
unreached_by P kept begins s fails n fs e xs p =
    let b = subst P (sym (start_answered.first n fs e)) (begins n fs) in
    fails (subst P p (run_keeps ring P kept (run_of_lem ring (start_of n fs).state xs) b))

-- what the nodes above the token hold of a column is m or more
abbrev Above : State → List ℕ → ℕ → Type 0
Above r l m = m + total l (r.pos + 1) ≤ total l r.n

-- the sum is made of counters of nodes above the token
abbrev Gathered : State → Type 0
Gathered r = Above r r.received (dn r.q) × Above r r.sent (up r.q)

-- a place that rises by m raises the whole by as much as any part
above_rises :
    (r : State) (l : List ℕ) (i m d : ℕ) → r.pos < r.n → i < length l → i < r.n → Above r l d → Above r (set l i (get_or l i 0 + m)) d
above_rises r l i m d at h hi p =
    elim (dec_lt i (r.pos + 1)) [
      | yes low ↦
          omega (arith, p, total-set_in l i (get_or l i 0 + m) (r.pos + 1) h low, total-set_in l i (get_or l i 0 + m) r.n h hi)
      | no high ↦
          omega (arith, p, total-set_out l i (get_or l i 0 + m) (r.pos + 1) (omega arith), total-set_in l i (get_or l i 0 + m) r.n h hi)
    ]

gathered_kept : (r : State) (x : Request) → Gathered r → Accepts ring r x → Gathered (ring.effect r x)
gathered_kept r x p a = go (kind x) x.i x.j (may r x a).by
  where
    s : Sound r
    s = (may r x a).sound

    -- the nodes above gain node pos, and the sum its counter
    passed : (i : ℕ) → 0 < i → i ≡ r.pos → i < r.n → Gathered (pass_of r i)
    passed i lo e hi =
        let one : i - 1 + 1 ≡ r.pos = omega arith in
        let down = ap (total r.received) one in
        let sent = ap (total r.sent) one in
        let in_received = total_next r.received r.pos in
        let in_sent = total_next r.sent r.pos in
        let here = ap (received_at r) e in
        let here' = ap (sent_at r) e in
        let sum = sum_parts r.q (sent_at r i) (received_at r i) in
        ⊎_elim
        (λ z. (omega (arith, p.0, down, in_received, here, sum, z), omega (arith, p.1, sent, in_sent, here', z)))
        (λ z. (omega (arith, p.0, down, in_received, here, z), omega (arith, p.1, sent, in_sent, here', sum, z)))
        (one_part (r.q +ℤ (sent_at r i ⊖ received_at r i)))

    go : (k : Kind) (i j : ℕ) → Rule r i j k → Gathered (effect r k i j)
    go Send i j (sends hi hj act lim) =
        (p.0, above_rises r r.sent i 1 (up r.q) s.holder (omega (arith, s.nodes, s.shape.sent_places)) hi p.1)
    go Take i j (takes hi lo le h) =
        (above_rises r r.received i j (dn r.q) s.holder (omega (arith, s.nodes, s.shape.received_places)) hi p.0, p.1)
    go Idle i j (idles hi act) = p
    go Probe i j (probes z ag) =
        let last : r.n - 1 + 1 ≡ r.n = omega (arith, s.some_node) in
        (omega (arith, ap (total r.received) last), omega (arith, ap (total r.sent) last))
    go Pass i j (passes hi lo e idle) = passed i lo e hi
    go Announce i j (announces c) = p
    go Unknown i j x'' = elim x'' [ ]

first_gathered : (n : ℕ) (fs : List ℕ) → Gathered (first_state n fs)
unfolding first_state
first_gathered n fs = (first_none, first_none)
  where
    first_none : 0 + total (replicate 96 0) (0 + 1) ≤ total (replicate 96 0) n
    first_none = omega (arith, total_zeros 96 1 (omega arith))

-- a column whose nodes above the token hold less than m
abbrev less : State → List ℕ → ℕ → Bool
less r l m = ltb (total l r.n) (m + total l (r.pos + 1))

under : (r : State) (l : List ℕ) (m : ℕ) → Above r l m → less r l m ≡ true → ⊥
under r l m h e = omega (arith, ltb-true (total l r.n) (m + total l (r.pos + 1)) e)

ungathered : (s : State) → (less s s.received (dn s.q) || less s s.sent (up s.q)) ≡ true → Unreached s
ungathered s h =
    unreached_by Gathered gathered_kept first_gathered s
    (λ g. ⊎_elim (under s s.received (dn s.q) g.0) (under s s.sent (up s.q) g.1) (one_of _ _ h))

-- of a ring of one: before the first probe, which makes the token white, its node is black once it has received a message
abbrev Unprobed : State → Type 0
Unprobed r = r.n ≡ 1 → r.black ≡ true → 0 < received_at r 0 → black_at r 0 ≡ true

unprobed_kept : (r : State) (x : Request) → Unprobed r → Accepts ring r x → Unprobed (ring.effect r x)
unprobed_kept r x p a = go (kind x) x.i x.j (may r x a).by
  where
    s : Sound r
    s = (may r x a).sound

    go : (k : Kind) (i j : ℕ) → Rule r i j k → Unprobed (effect r k i j)
    go Send i j (sends hi hj act lim) = p
    go Take i j (takes hi lo le h) =
        λ one b got.
        let zero : i ≡ 0 = omega arith in
        ap (is_black (blackened r.color i)) (sym zero)
        ∙ blackened_same r.color i (omega (arith, s.nodes, s.shape.color_bytes))
    go Idle i j (idles hi act) = p
    go Probe i j (probes z ag) = λ one b got. absurd (false_true b)
    go Pass i j (passes hi lo e idle) = λ one b got. absurd (omega arith)
    go Announce i j (announces c) = p
    go Unknown i j x'' = elim x'' [ ]

first_unprobed : (n : ℕ) (fs : List ℕ) → Unprobed (first_state n fs)
unfolding first_state
first_unprobed n fs one b got = absurd (omega arith)

-- ---- from what is computed

open_tested : (r : State) → sound_test r ≡ true → r.closed ≡ false → Open r
open_tested r e c = record { sound = sound_tested.holds r e; running = c }

module _ (r : State) (xs : List Request) where
  abbrev quiet_at : ℕ → Bool
  quiet_at b = not (active_by r xs b) && eqb (transit_by r xs b) 0

  quiet_point : all_to r.n quiet_at ≡ true → Unannounced r xs → QuietPoint r xs
  quiet_point e u =
      record {
        quiet = record { passive = λ b h. not-true _ (at b h).0; empty = λ b h. eqb-true _ _ (at b h).1 };
        unannounced = u;
      }
    where
      at : (b : ℕ) → b < r.n → (not (active_by r xs b) ≡ true) × (eqb (transit_by r xs b) 0 ≡ true)
      at b h = both (not (active_by r xs b)) (eqb (transit_by r xs b) 0) (all_at r.n quiet_at e b h)

  -- the announcement is accepted after ys, so that K is their number
  worked :
      (ys : List Request) (K : ℕ) → Open r → QuietPoint r xs
      → accepted_of ring (run_of ring r xs) ys ≡ ys → Unannounced (run_of ring r xs) ys
      → Accepts ring (run_of ring (run_of ring r xs) ys) announce → Announced r (xs ++ (ys ++ announce ∷ []))
      → length ys ≡ K → Worked r xs ys K
  worked ys K o q m u a l k =
      record {
        accepted = m;
        unannounced = u;
        announces = a;
        announced = l;
        countdown = (whole_runs.point r o xs).countdown q.quiet q.unannounced;
        only = λ c. sym (((c.counted ys u).exactly announce refl).0 a) ∙ ap length m ∙ k;
      }

  handed_in :
      (told : List ℕ) (ys : List Request) (K : ℕ) → Open r → QuietPoint r xs → Unreached r → numbers r xs ≡ told
      → Worked r xs ys K → HandedIn r xs told ys K
  handed_in told ys K o q u n w = record { running = o; unreached = u; answered = n; point = q; worked = w }

pub instances : Instances
unfolding sum_to numbers run_of accepted_of is_black blackened whitened ◌⊖◌ is_positive is_zero is_same conclusive may_probe may_pass shape_test range_test flow_test sum_test passive_above white_to gathered_test safra_test unused_test closed_test sound_test verdict_of active_from color_from first_state blank flags_test start_verdict start_of
instances =
    let first_open : Open first = sound_kept.start 3 start_flags refl in
    let first_quiet : QuietPoint first requests = quiet_point first requests refl refl in
    let handed_open : Open handed = open_tested handed refl refl in
    let handed_quiet : QuietPoint handed [] = quiet_point handed [] refl refl in
    let quiet_open : Open quiet_ring = open_tested quiet_ring refl refl in
    let quiet_now : QuietPoint quiet_ring [] = quiet_point quiet_ring [] refl refl in
    let busy_open : Open busy_ring = open_tested busy_ring refl refl in
    let busy_quiet : QuietPoint busy_ring busy_requests = quiet_point busy_ring busy_requests refl refl in
    let alone_open : Open alone = sound_kept.start 1 (1 ∷ []) refl in
    let alone_quiet : QuietPoint alone (alone_sends ++ alone_takes) = quiet_point alone (alone_sends ++ alone_takes) refl refl in
    let one : 0 < 1 = omega arith in
    let b = (starts_agree 3).start_is_init start_flags refl in
    record {
      start = (refl, first_open);
      handed_in = (handed_open, unreached_by Unprobed unprobed_kept first_unprobed handed (λ p. false_true (p refl refl (omega arith))));
      quiet_point = (refl, first_quiet);
      worked = worked first requests moves _ first_open first_quiet refl refl refl refl refl;
      handed_point = handed_quiet;
      handed_worked = worked handed [] (probe ∷ []) _ handed_open handed_quiet refl refl refl refl refl;
      quiet_ring_is_handed_in =
          handed_in quiet_ring [] [] quiet_moves 4 quiet_open quiet_now (ungathered quiet_ring refl) refl
          (worked quiet_ring [] quiet_moves 4 quiet_open quiet_now refl refl refl refl refl);
      busy_ring_is_handed_in =
          handed_in busy_ring busy_requests busy_answers busy_moves 6 busy_open busy_quiet (ungathered busy_ring refl) refl
          (worked busy_ring busy_requests busy_moves 6 busy_open busy_quiet refl refl refl refl refl);
      busy_first = λ q. false_true (sym (q.passive 1 (omega arith)));
      alone_start = (refl, alone_open);
      alone_is_answered = refl;
      alone_busy = λ q. omega (arith, q.empty 0 (omega arith));
      alone_point = alone_quiet;
      alone_worked = worked alone (alone_sends ++ alone_takes) (probe ∷ []) _ alone_open alone_quiet refl refl refl refl refl;
      alone_bound = λ r xs c e. omega (arith, c.bound);
      agreed =
          record {
            some_node = b.some_node;
            init = b.init;
            reachable = (runs_agree b.some_node).run_is_reachable start_flags refl requests;
            one_node = one;
            reachable_alone = (runs_agree one).run_is_reachable (1 ∷ []) refl alone_sends;
            detected =
                record { token_pos = refl; token_color = refl; zero_sum = refl; color = refl; passive = refl; pending = refl };
          };
    }
