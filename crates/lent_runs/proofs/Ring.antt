-- Calls on a ring, one by one and in lists. Assumes nothing.
use Prim.Native.Nat.{◌<◌, suc, zero, ℕ}
use mathlib.Core.Bool.{Bool, cond, false, true}
use mathlib.Core.List.{List, [], ◌∷◌}
use mathlib.Core.Logic.{◌⊎◌, inl, inr}
use mathlib.Core.Path.{◌∙◌, ◌≡◌, ap, refl, subst, sym}
use lib.Dec.{eqb}
use native.Mathlib.Decide.{dec_lt}
use native.Mathlib.Omega.{arith}
use Rattle.laws.proofs.Tests.{split}
use Rattle.lent.proofs.Calls.{calls_answer}
use Rattle.lent.proofs.Sound.{fields_hold}
use Rattle.lent.specs.Ring.{Lent, drive_fields, drive_moves, drive_number, lent_of, step_fields, step_number}
use Rattle.refusal.proofs.Table.{number_range}
use Rattle.refusal.specs.Table.{code_of, settle}
use Rattle.refusal.specs.Table.{Verdict}
use Rattle.refusal.specs.Table.{Accepted}
use Rattle.refusal.specs.declared.Refusal.{Refusal}
use Rattle.ring_rules.proofs.Driver.{drive_closed, drive_over, may_rule, move_open}
use Rattle.ring_rules.proofs.Accepted.{Rule, accepted, announces, conclusive-true}
use Rattle.ring_rules.proofs.Theorems.{driver_counts}
use Rattle.ring_rules.specs.Answers.{Answer, verdict_of}
use Rattle.ring_rules.specs.Driver.{Driven, drive_of, may_move, move_limit, move_of, moved, reason_number, reason_verdict, stop_at}
use Rattle.ring_rules.specs.Rules.{Announce, Kind, Pass, Probe, effect, kind_of}
use Rattle.ring_rules.specs.Soundness.{Open, Sound}
use Rattle.ring_rules.specs.State.{State}
use Rattle.ring_rules.specs.Driver.{Stopped}
use Rattle.ring_rules.specs.Theorems.{Drives, Ended, TokenMove, concluded, passing, probing, spends, waits}
use Rattle.ring_runs.proofs.Trace.{run_sound}
use Rattle.ring_runs.proofs.WholeRun.{whole_runs}
use Rattle.ring_runs.specs.Counts.{AllMoves, kind, move_first, no_request, ring}
use Rattle.runs.proofs.Runs.{run_append, run_of_lem}
use Rattle.runs.specs.Runs.{Accepts, Request, accepted_of, next, run_of}
use Rattle.lent_runs.specs.Ring.{RingCall, drive, fields_after, fields_left, move_request, move_requests, requests_in, requests_of, step}

-- ---- a step

pub step_left : (r : State) (x : Request) → step_fields (lent_of r) x.kind x.i x.j ≡ lent_of (next ring r x)
step_left r x =
    (calls_answer.step r {kind = x.kind} {i = x.i} {j = x.j} (record { told = refl; fields = refl })).1
    ∙ ap (λ (a : Answer). lent_of a.state) (whole_runs.answers r x)

pub step_told : (r : State) (x : Request) → step_number (lent_of r) x.kind x.i x.j ≡ code_of (ring.verdict r x)
step_told r x =
    (calls_answer.step r {kind = x.kind} {i = x.i} {j = x.j} (record { told = refl; fields = refl })).0
    ∙ ap (λ (a : Answer). code_of a.verdict) (whole_runs.answers r x)

-- ---- token moves as requests

number_kind : (b : Bool) → kind_of (cond b 4 5) ≡ cond b Probe Pass
number_kind true = refl
number_kind false = refl

token_kind : (b : Bool) → TokenMove (kind_of (cond b 4 5))
token_kind true = probing
token_kind false = passing

all_moves : (d : ℕ) (r : State) → AllMoves (move_requests d r)
unfolding move_requests
all_moves zero r = no_request
all_moves (suc d) r = move_first (token_kind (eqb r.pos 0)) (all_moves d (move_of r))

module _ (r : State) (o : Open r) (e : may_move r ≡ true) where
  pub move_accepted : Accepts ring r (move_request r)
  move_accepted =
      accepted r (kind_of (cond (eqb r.pos 0) 4 5)) r.pos 0 o
      (subst (λ k. Rule r r.pos 0 k) (sym (number_kind (eqb r.pos 0))) (may_rule r o.sound e))

  pub move_next : next ring r (move_request r) ≡ move_of r
  unfolding move_of
  move_next =
      ap (λ (v : Verdict). settle v (effect r (kind_of (cond (eqb r.pos 0) 4 5)) r.pos 0) r) move_accepted
      ∙ ap (λ (k : Kind). effect r k r.pos 0) (number_kind (eqb r.pos 0))

-- so many moves, each allowed before it is made
record MovesRun (d : ℕ) (r : State) : Type 0 where
  run : run_of ring r (move_requests d r) ≡ moved d r
  taken : accepted_of ring r (move_requests d r) ≡ move_requests d r

moves_run : (d : ℕ) (r : State) → Open r → ((j : ℕ) → j < d → may_move (moved j r) ≡ true) → MovesRun d r
unfolding move_requests run_of accepted_of moved
moves_run zero r o h = record { run = refl; taken = refl }
moves_run (suc d) r o h =
    let e : may_move r ≡ true = h 0 (omega arith) in
    let rest : List Request = move_requests d (move_of r) in
    let after : State = next ring r (move_request r) in
    let ih = moves_run d (move_of r) (move_open r o e) (λ j k. h (suc j) (omega arith)) in
    record {
      run = ap (λ (s : State). run_of ring s rest) (move_next r o e) ∙ ih.run;
      taken =
          ap (λ (v : Verdict). settle v (move_request r ∷ accepted_of ring after rest) (accepted_of ring after rest)) (move_accepted r o e)
          ∙ ap (λ (s : State). move_request r ∷ accepted_of ring s rest) (move_next r o e)
          ∙ ap (λ (xs : List Request). move_request r ∷ xs) ih.taken;
    }

-- ---- the driver

record DriveRun (r : State) (m : ℕ) : Type 0 where
  made : drive_moves (lent_of r) m 0 ≡ (drive_of r m).moves
  run : run_of ring r (move_requests (drive_of r m).moves r) ≡ (drive_of r m).state
  taken : accepted_of ring r (move_requests (drive_of r m).moves r) ≡ move_requests (drive_of r m).moves r
  sound : Sound (drive_of r m).state

module _ (r : State) (m : ℕ) where
  abbrev told_moves : Driven → ℕ
  told_moves d = settle (reason_verdict d.reason) d.moves 0

  drive_made : drive_moves (lent_of r) m 0 ≡ told_moves (drive_of r m)
  drive_made = (calls_answer.drive r {limit = m} {moves = 0} (record { told = refl; made = refl; fields = refl })).2

  pub drive_told : drive_number (lent_of r) m ≡ reason_number (drive_of r m).reason
  drive_told = (calls_answer.drive r {limit = m} {moves = 0} (record { told = refl; made = refl; fields = refl })).0

  pub drive_left : drive_fields (lent_of r) m ≡ lent_of (drive_of r m).state
  drive_left = (calls_answer.drive r {limit = m} {moves = 0} (record { told = refl; made = refl; fields = refl })).1

  ended_moves : (d : Driven) → Ended d m → told_moves d ≡ d.moves
  ended_moves d (concluded p _ _) = rw p
  ended_moves d (waits p _ _ _ _) = rw p
  ended_moves d (spends p _ _ _ _) = rw p

  -- a drive of a sound ring is refused, or makes its moves
  data DriveCase : Type 0 where
    refused : {e : Refusal} → drive_of r m ≡ stop_at (Stopped e) 0 r → DriveCase
    driven : Open r → Drives r m (drive_of r m) → DriveCase

  drive_case : Sound r → DriveCase
  drive_case s = go (split r.closed) (dec_lt move_limit m)
    where
      go : (r.closed ≡ true) ⊎ (r.closed ≡ false) → Dec (move_limit < m) → DriveCase
      go (inl c) h = refused (drive_closed r m s c)
      go (inr c) (yes h) = refused (drive_over r m (record { sound = s; running = c }) h)
      go (inr c) (no h) =
          let o : Open r = record { sound = s; running = c } in
          driven o (driver_counts.drives r m o (omega arith))

  drive_run : Sound r → DriveRun r m
  unfolding move_requests run_of accepted_of
  drive_run s = go (drive_case s)
    where
      go : DriveCase → DriveRun r m
      go (refused p) =
          record {
            made = drive_made ∙ ap told_moves p ∙ sym (ap (λ (d : Driven). d.moves) p);
            run = ap (λ (d : Driven). run_of ring r (move_requests d.moves r)) p ∙ sym (ap (λ (d : Driven). d.state) p);
            taken =
                ap (λ (d : Driven). accepted_of ring r (move_requests d.moves r)) p
                ∙ sym (ap (λ (d : Driven). move_requests d.moves r) p);
            sound = subst (λ (d : Driven). Sound d.state) (sym p) s;
          }
      go (driven o d) =
          let c = moves_run (drive_of r m).moves r o (λ j k. (d.before j k).1) in
          record {
            made = drive_made ∙ ended_moves (drive_of r m) d.end;
            run = c.run ∙ sym d.state;
            taken = c.taken;
            sound = d.sound.sound;
          }

  -- where it tells 100, an announcement is accepted next
  pub announce_next : Sound r → reason_number (drive_of r m).reason ≡ 100 → (x : Request) → kind x ≡ Announce → Accepts ring (drive_of r m).state x
  announce_next s e x k = go (drive_case s)
    where
      ended : (d : Driven) → reason_number d.reason ≡ 100 → Open d.state → Ended d m → Accepts ring d.state x
      ended d n o (concluded _ _ c) =
          subst (λ (z : Kind). verdict_of d.state z x.i x.j ≡ Accepted) (sym k)
          (accepted d.state Announce x.i x.j o (announces (conclusive-true d.state c)))
      ended d n o (waits _ w _ _ _) = absurd (omega (arith, n, w))
      ended d n o (spends _ w _ _ _) = absurd (omega (arith, n, w))

      go : DriveCase → Accepts ring (drive_of r m).state x
      go (refused {e = f} p) = absurd (omega (arith, (number_range f).1, sym (ap (λ (d : Driven). reason_number d.reason) p) ∙ e))
      go (driven o d) = ended (drive_of r m) e d.sound d.end

  -- what the call comes to as requests
  drive_requests : Sound r → requests_of (lent_of r) (drive m) ≡ move_requests (drive_of r m).moves r
  drive_requests s = λ x. move_requests ((drive_run s).made x) ((fields_hold.ring r).1 x)

  pub drive_moves_lem :
      Sound r
      → AllMoves (requests_of (lent_of r) (drive m))
      × (accepted_of ring r (requests_of (lent_of r) (drive m)) ≡ requests_of (lent_of r) (drive m))
  drive_moves_lem s = (
    all_moves _ _,
    ap (accepted_of ring r) (drive_requests s) ∙ (drive_run s).taken ∙ sym (drive_requests s),
  )

-- ---- one call, and a list of them

record CallRun (r : State) (c : RingCall) : Type 0 where
  after : State
  fields : fields_left (lent_of r) c ≡ lent_of after
  run : run_of ring r (requests_of (lent_of r) c) ≡ after
  sound : Sound after

call_run : (r : State) → Sound r → (c : RingCall) → CallRun r c
unfolding run_of
call_run r s (step x) =
    record {
      after = next ring r x;
      fields = step_left r x;
      run = refl;
      sound = run_sound (run_of_lem ring r (x ∷ [])) s;
    }
call_run r s (drive m) =
    record {
      after = (drive_of r m).state;
      fields = drive_left r m;
      run = ap (run_of ring r) (drive_requests r m s) ∙ (drive_run r m s).run;
      sound = (drive_run r m s).sound;
    }

pub calls_run : (r : State) → Sound r → (cs : List RingCall) → fields_after (lent_of r) cs ≡ lent_of (run_of ring r (requests_in (lent_of r) cs))
unfolding fields_after requests_in run_of
calls_run r s [] = refl
calls_run r s (c ∷ cs) =
    let k = call_run r s c in
    ap (λ (l : Lent). fields_after l cs) k.fields
    ∙ calls_run k.after k.sound cs
    ∙ ap lent_of
    (sym
    (run_append ring r (requests_of (lent_of r) c) (requests_in (fields_left (lent_of r) c) cs)
    ∙ (λ x. run_of ring (k.run x) (requests_in (k.fields x) cs))))
