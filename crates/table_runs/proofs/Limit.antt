-- The limit of sends, counted over a table's run. Assumes nothing.
use Prim.Native.Nat.{◌+◌, ◌<◌, ◌≤◌, ℕ}
use lib.ListN.{length}
use mathlib.Core.Bool.{false, true}
use mathlib.Core.List.{List, [], ◌∷◌}
use mathlib.Core.Logic.{◌↔◌}
use mathlib.Core.Path.{◌∙◌, ◌≡◌, ap, refl, subst, sym}
use native.Mathlib.Decide.{ℕ_discrete}
use native.Mathlib.Omega.{arith}
use Rattle.laws.proofs.Sums.{total_zeros}
use Rattle.refusal.specs.Table.{code_of, send_limit, settle}
use Rattle.refusal.specs.Table.{Verdict}
use Rattle.refusal.specs.Table.{Accepted, Refused}
use Rattle.ring_rules.specs.Rules.{Announce, Idle, Kind, Pass, Probe, Send, Take, Unknown}
use Rattle.ring_rules.specs.Start.{first_state}
use Rattle.ring_rules.specs.State.{State}
use Rattle.ring_rules.specs.Theorems.{Sending}
use Rattle.ring_runs.proofs.Trace.{run_active, run_closed, run_n, run_sent}
use Rattle.ring_runs.specs.Counts.{announced_in, kind, ring, sends_in}
use Rattle.runs.proofs.Runs.{run_of_lem}
use Rattle.runs.specs.Runs.{Request, run_of}
use Rattle.table_rules.proofs.Keeps.{after_sends, next_sound}
use Rattle.table_rules.proofs.Slots.{never_started, put_other}
use Rattle.table_rules.proofs.Soundness.{empty_fixed, empty_sound}
use Rattle.table_rules.proofs.Theorems.{limit_of_each, run_sound, table_numbers}
use Rattle.table_rules.specs.Answers.{Ask, Start, Step, after, names, next_table, verdict_on}
use Rattle.table_rules.specs.Runs.{table}
use Rattle.table_rules.specs.Soundness.{SoundTable}
use Rattle.table_rules.specs.Table.{NotStarted, Slot, Started, Table, empty_table, sends_of, slot_at}
use Rattle.table_rules.specs.Theorems.{is_send}
use Rattle.table_runs.proofs.Updates.{start_first, told_of, unknown_step}
use Rattle.table_runs.proofs.WholeRun.{latest}
use Rattle.table_runs.specs.Counts.{active_in, heard_of, history_of, sends_since, started_of}
use Rattle.table_runs.specs.WholeRun.{LimitCounted}

module _ (t : Table) (ok : SoundTable t) (ls : List Ask) where
  abbrev here : Table
  here = run_of table t ls

  -- the sends of an update
  counted : (u : ℕ) → sends_of (slot_at here u) ≡ sends_since (history_of u t ls)
  counted u = go (history_of u t ls).first refl
    where
      go : (s : Slot) → (history_of u t ls).first ≡ s → sends_of (slot_at here u) ≡ sends_since (history_of u t ls)
      go NotStarted e =
          let w = (told_of u t ok ls).none e in
          omega (arith, ap sends_of w.0, ap sends_of e, ap sends_in w.1)
      go (Started r) e =
          let w = (told_of u t ok ls).some r e in
          omega (arith, ap sends_of w.stands, run_sent (run_of_lem ring r (heard_of u t ls).steps) w.sound, ap sends_of e, ap sends_in w.accepted)

  -- what stands at an update was started
  began : (u : ℕ) (s : State) → slot_at here u ≡ Started s → (r : State) × ((history_of u t ls).first ≡ Started r)
  began u s at = go (history_of u t ls).first refl
    where
      go : (f : Slot) → (history_of u t ls).first ≡ f → (r : State) × ((history_of u t ls).first ≡ Started r)
      go NotStarted e = absurd (never_started (sym ((told_of u t ok ls).none e).0 ∙ at))
      go (Started r) e = (r, e)

  only :
      (a : Ask) → code_of (verdict_on here a) ≡ 9
      → (u : ℕ) × (x : Request) × (r : State) × (a ≡ Step u x) × (kind x ≡ Send) × ((history_of u t ls).first ≡ Started r)
      × (sends_since (history_of u t ls) ≡ send_limit)
  only a e =
      let w = limit_of_each.only here (run_sound t ok ls) a e in
      let b = began w.0 w.2 w.5 in
      (w.0, w.1, b.0, w.3, w.4, b.1, sym (counted w.0) ∙ w.6)

  module _ (u : ℕ) (r : State) (e : (history_of u t ls).first ≡ Started r) where
    decides :
        r.closed ≡ false → announced_in (history_of u t ls).taken ≡ false → (x : Request) → kind x ≡ Send → x.i < r.n → x.j < r.n
        → active_in r (history_of u t ls).taken x.i ≡ true
        → ((code_of (verdict_on here (Step u x)) ≡ 0) ↔ (sends_since (history_of u t ls) < send_limit))
        × ((code_of (verdict_on here (Step u x)) ≡ 9) ↔ (sends_since (history_of u t ls) ≡ send_limit))
    decides running n x k hi hj act =
        let w = (told_of u t ok ls).some r e in
        let c = run_of_lem ring r (heard_of u t ls).steps in
        let m = run_n c in
        let s : Sending (run_of ring r (heard_of u t ls).steps) x.i x.j =
        record {
          sender = omega (arith, m);
          receiver = omega (arith, m);
          active = run_active c w.sound x.i ∙ ap (λ (l : List Request). active_in r l x.i) (sym w.accepted) ∙ act;
        } in
        subst
        (λ (m : ℕ). ((code_of (verdict_on here (Step u x)) ≡ 0) ↔ (m < send_limit)) × ((code_of (verdict_on here (Step u x)) ≡ 9) ↔ (m ≡ send_limit)))
        (counted u)
        (limit_of_each.decides here (run_sound t ok ls) u _ w.stands (run_closed c w.sound ∙ rw (sym w.accepted, running, n)) x k s)

-- ---- since a start

same_step : {u v : ℕ} {x y : Request} → Step u x ≡ Step v y → (u ≡ v) × (x ≡ y)
same_step e = (cc, cc)

-- a start begins at none
fresh_none : (u : ℕ) (t : Table) (ls : List Ask) → started_of u t ls ≡ true → sends_since (history_of u t ls) ≡ sends_in (history_of u t ls).taken
unfolding first_state
fresh_none u t ls e =
    let w = latest u t ls e in
    let z : sends_of (history_of u t ls).first ≡ 0 = ap sends_of w.stands ∙ total_zeros 96 w.n (start_first w.n w.flags w.accepted).sound.nodes in
    omega arith

module _ (t : Table) (ok : SoundTable t) (u : ℕ) (ls : List Ask) (e : started_of u t ls ≡ true) (x : Request) where
  since : code_of (verdict_on (run_of table t ls) (Step u x)) ≡ 9 → (kind x ≡ Send) × (sends_in (history_of u t ls).taken ≡ send_limit)
  since q =
      let w = only t ok ls (Step u x) q in
      let p = same_step w.3 in
      (ap kind p.1 ∙ w.4, sym (fresh_none u t ls e) ∙ ap (λ (v : ℕ). sends_since (history_of v t ls)) p.0 ∙ w.6)

-- ---- how many requests come before a 9

one_more : (k : Kind) → is_send k ≤ 1
one_more Send = omega arith
one_more Take = omega arith
one_more Idle = omega arith
one_more Probe = omega arith
one_more Pass = omega arith
one_more Announce = omega arith
one_more Unknown = omega arith

-- an accepted request makes one send more at most of its own update; an update that is not started has none after it
abbrev Most : Slot → Slot → Type 0
Most s s' = (sends_of s' ≤ sends_of s + 1) × (s ≡ NotStarted → sends_of s' ≡ 0)

own_most : (t : Table) → SoundTable t → (a : Ask) → verdict_on t a ≡ Accepted → Most (slot_at t (names a)) (slot_at (after t a) (names a))
own_most t ok (Start u n flags) e = let z = after_sends t (Start u n flags) e in (omega arith, λ _. z)
own_most t ok (Step u x) e = (
  omega (arith, after_sends t (Step u x) e, one_more (kind x)),
  λ s. absurd (let z = ap code_of (unknown_step t ok u x s) in omega (arith, ap code_of e)),
)

next_most : (t : Table) → SoundTable t → (a : Ask) (u : ℕ) → Most (slot_at t u) (slot_at (next_table t a) u)
next_most t ok a u = go (ℕ_discrete u (names a)) (verdict_on t a) refl
  where
    same : (s : Slot) → slot_at t u ≡ s → Most (slot_at t u) s
    same s e = (omega (arith, ap sends_of e), λ z. ap sends_of (sym e ∙ z))

    go : Dec (u ≡ names a) → (v : Verdict) → verdict_on t a ≡ v → Most (slot_at t u) (slot_at (settle v (after t a) t) u)
    go (yes p) Accepted e = subst (λ (w : ℕ). Most (slot_at t w) (slot_at (after t a) w)) (sym p) (own_most t ok a e)
    go (no p) Accepted e = same _ (sym (put_other t (names a) u _ p))
    go d (Refused f) e = same _ refl

run_most : (ls : List Ask) (t : Table) → SoundTable t → (u : ℕ) → sends_of (slot_at (run_of table t ls) u) ≤ sends_of (slot_at t u) + length ls
unfolding run_of
run_most [] t ok u = omega arith
run_most (a ∷ ls) t ok u = omega (arith, run_most ls (next_table t a) (next_sound t a ok) u, (next_most t ok a u).0)

far : (ls : List Ask) (a : Ask) → code_of (verdict_on (run_of table empty_table ls) a) ≡ 9 → send_limit < length ls
unfolding run_of
far ls a e = go ls (let w = limit_of_each.only (run_of table empty_table ls) (run_sound empty_table empty_sound ls) a e in (w.0, w.6))
  where
    none : (u : ℕ) → slot_at empty_table u ≡ NotStarted
    none = table_numbers.none_fixed empty_table empty_sound empty_fixed

    go : (l : List Ask) → (u : ℕ) × (sends_of (slot_at (run_of table empty_table l) u) ≡ send_limit) → send_limit < length l
    go [] (u, s) = absurd (omega (arith, ap sends_of (none u)))
    go (b ∷ l) (u, s) =
        omega (
          arith,
          run_most l (next_table empty_table b) (next_sound empty_table b empty_sound) u,
          (next_most empty_table empty_sound b u).1 (none u),
        )

pub limit_counted : LimitCounted
limit_counted =
    record {
      counted = λ t ok u ls. counted t ok ls u;
      only = only;
      fresh = λ t u ls. fresh_none u t ls;
      from_start = since;
      below = λ t ok u ls e h x q. let w = since t ok u ls e x q in omega (arith, w.1);
      far = far;
      decides = λ t ok u ls r. decides t ok ls u r;
    }
