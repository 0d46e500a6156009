-- The projection law: a panel's ring is a run of the ring machine, by the accepted steps since the latest accepted start. Assumes nothing.
use Prim.Native.Nat.{ℕ}
use lib.ListN.{length}
use mathlib.Core.Bool.{◌||◌, false}
use mathlib.Core.List.{List, [], ◌++◌, ◌∷◌, append_assoc, append-nil}
use mathlib.Core.Path.{◌∙◌, ◌≡◌, ap, ap₂, refl, sym}
use native.Mathlib.Omega.{arith}
use Rattle.laws.proofs.Tests.{false_true, neither}
use Rattle.panel_rules.proofs.Accepted.{ring_accepts}
use Rattle.panel_rules.proofs.Keeps.{starts}
use Rattle.panel_rules.specs.State.{Panel}
use Rattle.runs.proofs.Runs.{Run, accepted_append, kept, run_append, stop, took}
use Rattle.panel_runs.specs.Counts.{AllMoves, Leg, ended_in, leg_from, move_first, no_request, to_ring}
use Rattle.panel_rules.specs.Asks.{Ask, Start, Step, after, panel}
use Rattle.runs.specs.Runs.{Accepts, Request, accepted_of, run_of}
use Rattle.refusal.specs.Table.{settle}
use Rattle.refusal.specs.Table.{Verdict}
use Rattle.ring_rules.proofs.Start.{first_open, fits}
use Rattle.ring_rules.specs.Soundness as ring_sound
use Rattle.ring_rules.specs.Start.{first_state}
use Rattle.ring_rules.specs.State.{State}
use Rattle.ring_runs.specs.Counts as counts
use Rattle.ring_runs.specs.Counts.{announced_in, is_announce, kind, ring}

-- ---- the ring machine, one accepted request first

module _ (r : State) (y : Request) (zs : List Request) (a : Accepts ring r y) where
  run_cons : run_of ring r (y ∷ zs) ≡ run_of ring (ring.effect r y) zs
  unfolding run_of
  run_cons = ap (λ (v : Verdict). run_of ring (settle v (ring.effect r y) r) zs) a

  accepted_cons : accepted_of ring r (y ∷ zs) ≡ y ∷ accepted_of ring (ring.effect r y) zs
  unfolding accepted_of
  accepted_cons =
      ap
      (λ (v : Verdict).
      settle v (y ∷ accepted_of ring (settle v (ring.effect r y) r) zs) (accepted_of ring (settle v (ring.effect r y) r) zs))
      a

run_none : (r : State) → run_of ring r [] ≡ r
unfolding run_of
run_none r = refl

accepted_none : (r : State) → accepted_of ring r [] ≡ []
unfolding accepted_of
accepted_none r = refl

-- ---- a panel at the end of a leg

pub record At (l : Leg) (p : Panel) : Type 0 where
  pub base_sound : ring_sound.Sound l.base
  pub there : p.ring ≡ run_of ring l.base l.steps
  pub all : accepted_of ring l.base l.steps ≡ l.steps

at_step : (l : Leg) (p : Panel) (x : Request) → At l p → Accepts panel p (Step x) → At (record { base = l.base; steps = l.steps ++ (to_ring x ∷ []) }) (after p (Step x))
at_step l p x h a =
    let y = to_ring x in
    let b : Accepts ring p.ring y = ring_accepts p (kind x) x.i x.j a in
    record {
      base_sound = h.base_sound;
      there =
          sym
          (run_append ring l.base l.steps (y ∷ [])
          ∙ ap (λ (r : State). run_of ring r (y ∷ [])) (sym h.there)
          ∙ run_cons p.ring y [] b
          ∙ run_none _);
      all =
          accepted_append ring l.base l.steps (y ∷ [])
          ∙ ap₂ (λ (us vs : List Request). us ++ vs) h.all
          (ap (λ (r : State). accepted_of ring r (y ∷ [])) (sym h.there)
          ∙ accepted_cons p.ring y [] b
          ∙ ap (λ (us : List Request). y ∷ us) (accepted_none _));
    }

pub at_first : (p : Panel) → ring_sound.Sound p.ring → At (record { base = p.ring; steps = [] }) p
at_first p s = record { base_sound = s; there = sym (run_none _); all = accepted_none _ }

at_start : (p : Panel) (n : ℕ) (flags : List ℕ) → Accepts panel p (Start n flags) → At (record { base = first_state n flags; steps = [] }) (after p (Start n flags))
at_start p n flags a =
    record {
      base_sound = (first_open n flags (fits n flags (starts p n flags a).accepted)).sound;
      there = sym (run_none _);
      all = accepted_none _;
    }

pub run_leg : (l : Leg) {p t : Panel} {ls acc : List Ask} → Run panel p ls t acc → At l p → At (leg_from l acc) t
run_leg l stop h = h
run_leg l (took {s = p} {x = Step x} a c) h = run_leg (record { base = l.base; steps = l.steps ++ to_ring x ∷ [] }) c (at_step l p x h a)
run_leg l (took {s = p} {x = Start n flags} a c) h = run_leg _ c (at_start p n flags a)
run_leg l (kept c) h = run_leg l c h

-- ---- with no close and no start among the accepted requests: a run of the ring from where the panel is

pub ring_of : List Ask → List Request
ring_of [] = []
ring_of (Step x ∷ ls) = to_ring x ∷ ring_of ls
ring_of (Start n flags ∷ ls) = ring_of ls

pub record Seen (p t : Panel) (acc : List Ask) : Type 0 where
  pub there : t.ring ≡ run_of ring p.ring (ring_of acc)
  pub all : accepted_of ring p.ring (ring_of acc) ≡ ring_of acc

pub run_seen : {p t : Panel} {ls acc : List Ask} → Run panel p ls t acc → ended_in acc ≡ false → Seen p t acc
unfolding ring_of
run_seen stop e = record { there = sym (run_none _); all = accepted_none _ }
run_seen (took {s = p} {x = Step x} {acc = acc} a c) e =
    let b : Accepts ring p.ring (to_ring x) = ring_accepts p (kind x) x.i x.j a in
    let h = run_seen c (neither (is_announce (kind x)) (ended_in acc) e).1 in
    record {
      there = h.there ∙ sym (run_cons p.ring (to_ring x) (ring_of acc) b);
      all = accepted_cons p.ring (to_ring x) (ring_of acc) b ∙ ap (λ (us : List Request). to_ring x ∷ us) h.all;
    }
run_seen (took {s = p} {x = Start n flags} a c) e = absurd (false_true (sym e))
run_seen (kept c) e = run_seen c e

pub ring_unannounced : (acc : List Ask) → ended_in acc ≡ false → announced_in (ring_of acc) ≡ false
unfolding ring_of
ring_unannounced [] e = refl
ring_unannounced (Step x ∷ acc) e =
    let n = neither (is_announce (kind x)) (ended_in acc) e in
    ap₂ ◌||◌ n.0 (ring_unannounced acc n.1)
ring_unannounced (Start n flags ∷ acc) e = absurd (false_true (sym e))

pub ring_length : (acc : List Ask) → ended_in acc ≡ false → length (ring_of acc) ≡ length acc
unfolding ring_of
ring_length [] e = refl
ring_length (Step x ∷ acc) e = omega (arith, ring_length acc (neither (is_announce (kind x)) (ended_in acc) e).1)
ring_length (Start n flags ∷ acc) e = absurd (false_true (sym e))

pub ring_moves : (acc : List Ask) → ended_in acc ≡ false → counts.AllMoves (ring_of acc) → AllMoves acc
unfolding ring_of
ring_moves [] e m = no_request
ring_moves (Step x ∷ acc) e (counts.move_first t m) = move_first t (ring_moves acc (neither (is_announce (kind x)) (ended_in acc) e).1 m)
ring_moves (Start n flags ∷ acc) e m = absurd (false_true (sym e))

-- the leg goes on by them
pub leg_append : (l : Leg) (us vs : List Ask) → leg_from l (us ++ vs) ≡ leg_from (leg_from l us) vs
leg_append l [] vs = refl
leg_append l (Step x ∷ us) vs = leg_append (record { base = l.base; steps = l.steps ++ to_ring x ∷ [] }) us vs
leg_append l (Start n flags ∷ us) vs = leg_append _ us vs

pub leg_goes_on : (l : Leg) (acc : List Ask) → ended_in acc ≡ false → leg_from l acc ≡ record { base = l.base; steps = l.steps ++ ring_of acc }
unfolding ring_of
leg_goes_on l [] e = ap (λ (us : List Request). record { base = l.base; steps = us }) (sym (append-nil l.steps))
leg_goes_on l (Step x ∷ acc) e =
    leg_goes_on (record { base = l.base; steps = l.steps ++ (to_ring x ∷ []) }) acc (neither (is_announce (kind x)) (ended_in acc) e).1
    ∙ ap (λ (us : List Request). record { base = l.base; steps = us }) (append_assoc l.steps (to_ring x ∷ []) (ring_of acc))
leg_goes_on l (Start n flags ∷ acc) e = absurd (false_true (sym e))
