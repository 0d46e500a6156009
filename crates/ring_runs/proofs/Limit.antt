-- The limit of sends, counted over a run. Assumes nothing.
use Prim.Native.Nat.{◌<◌, ℕ}
use mathlib.Core.Bool.{true}
use mathlib.Core.List.{List}
use mathlib.Core.Logic.{◌↔◌}
use mathlib.Core.Path.{◌∙◌, ◌≡◌, subst, sym}
use native.Mathlib.Omega.{arith}
use Rattle.laws.proofs.Sums.{total_zeros}
use Rattle.laws.specs.Sums.{total}
use Rattle.refusal.specs.Table.{code_of, send_limit}
use Rattle.refusal.specs.Table.{Accepted}
use Rattle.ring_rules.proofs.Start.{fits}
use Rattle.ring_rules.proofs.Theorems.{limit_met, sound_kept, start_answered}
use Rattle.ring_rules.specs.Answers.{answer_of, verdict_of}
use Rattle.ring_rules.specs.Rules.{Kind, Send}
use Rattle.ring_rules.specs.Soundness.{Open}
use Rattle.ring_rules.specs.Start.{first_state, start_of, start_verdict}
use Rattle.ring_rules.specs.State.{State}
use Rattle.ring_rules.specs.Theorems.{Sending}
use Rattle.runs.proofs.Runs.{run_of_lem}
use Rattle.runs.specs.Runs.{Request, accepted_of, run_of}
use Rattle.ring_runs.proofs.Trace.{run_active, run_closed, run_n, run_sent, run_sound}
use Rattle.ring_runs.specs.Counts.{Unannounced, active_by, kind, ring, sends_by, sends_in}
use Rattle.ring_runs.specs.WholeRun.{LimitCounted}

module _ (r : State) (o : Open r) (xs : List Request) where
  abbrev here : State
  here = run_of ring r xs

  made : total here.sent here.n ≡ sends_by r xs
  made = run_sent (run_of_lem ring r xs) o.sound

  only : (x : Request) → code_of (ring.verdict here x) ≡ 9 → (kind x ≡ Send) × (sends_by r xs ≡ send_limit)
  unfolding answer_of
  only x e = let w = limit_met.only here (kind x) x.i x.j e in (w.0, sym made ∙ w.1)

  -- what the number k says of the count m of sends
  abbrev Decided : ℕ → ℕ → Type 0
  Decided k m = ((k ≡ 0) ↔ (m < send_limit)) × ((k ≡ 9) ↔ (m ≡ send_limit))

  open_here : Unannounced r xs → Open here
  open_here u =
      record {
        sound = run_sound (run_of_lem ring r xs) o.sound;
        running = run_closed (run_of_lem ring r xs) o.sound ∙ rw (u, o.running);
      }

  decides :
      Unannounced r xs → (x : Request) → kind x ≡ Send → x.i < r.n → x.j < r.n → active_by r xs x.i ≡ true
      → Decided (code_of (ring.verdict here x)) (sends_by r xs)
  unfolding answer_of
  decides u x e hi hj act =
      let n = run_n (run_of_lem ring r xs) in
      let s : Sending here x.i x.j =
      record {
        sender = omega (arith, n);
        receiver = omega (arith, n);
        active = run_active (run_of_lem ring r xs) o.sound x.i ∙ act;
      } in
      let w : Decided (code_of (verdict_of here Send x.i x.j)) (total here.sent here.n) =
      (limit_met.below here x.i x.j (open_here u) s, limit_met.spent here x.i x.j (open_here u) s) in
      subst (Decided (code_of (ring.verdict here x))) made
      (subst (λ (k : Kind). Decided (code_of (verdict_of here k x.i x.j)) (total here.sent here.n)) (sym e) w)

module _ (n : ℕ) (flags : List ℕ) (e : start_verdict n flags ≡ Accepted) (xs : List Request) where
  none_sent : total (start_of n flags).state.sent (start_of n flags).state.n ≡ 0
  unfolding first_state
  none_sent = rw (start_answered.first n flags e) (total_zeros 96 n (fits n flags e).nodes)

  from_start :
      (x : Request) → code_of (ring.verdict (run_of ring (start_of n flags).state xs) x) ≡ 9
      → (kind x ≡ Send) × (sends_in (accepted_of ring (start_of n flags).state xs) ≡ send_limit)
  from_start x p =
      let w = only (start_of n flags).state (sound_kept.start n flags e) xs x p in
      (w.0, omega (arith, w.1, none_sent))

pub limit_counted : LimitCounted
limit_counted =
    record {
      only = only;
      decides = decides;
      from_start = from_start;
      below = λ n flags e xs h x p. omega (arith, (from_start n flags e xs x p).1);
    }
