-- The statements of specs/Agreement.antt, proved. Assumes nothing.
use Prim.Native.Nat.{◌<◌, ◌≤◌, ℕ}
use lib.ListN.{length}
use mathlib.Core.Bool.{false, true}
use mathlib.Core.List.{List, [], ◌∷◌}
use mathlib.Core.Logic.{◌⊎◌, inl}
use mathlib.Core.Path.{◌∙◌, ◌≡◌, ap, ap₂, refl, subst, sym}
use native.Mathlib.Omega.{arith}
use Rattle.refusal.specs.Table.{send_limit, settle}
use Rattle.refusal.specs.Table.{Verdict}
use Rattle.refusal.specs.Table.{Accepted, Refused}
use Rattle.ring_rules.proofs.Fields.{same_n}
use Rattle.ring_rules.proofs.Theorems.{start_answered}
use Rattle.ring_rules.specs.Answers.{answer_of}
use Rattle.ring_rules.specs.Rules.{Announce}
use Rattle.ring_rules.specs.Start.{first_state, start_of}
use Rattle.ring_rules.specs.State.{State}
use Rattle.ring_runs.proofs.Agreement as rings
use Rattle.ring_runs.proofs.Trace.{run_n}
use Rattle.ring_runs.specs.Agreement.{BelowLimit, Behaves, NextAnswered as NextAnsweredRing, Reachable, Started as InitBy, at_limit as at_limit_ring, matched as matched_ring, nexts_of, sends_made, shown, shown_after as shown_after_ring}
use Rattle.ring_runs.specs.Counts.{kind, ring}
use Rattle.ring_runs.specs.EWD998.{Next, Vars, TerminationDetected}
use Rattle.ring_runs.specs.Requests.{announce, send, take}
use Rattle.ring_runs.specs.View.{Action, InARow, vars_of}
use Rattle.runs.proofs.Runs.{run_of_lem}
use Rattle.runs.specs.Runs.{Accepts, Request, accepted_of, next, run_of}
use Rattle.table_rules.proofs.Keeps.{next_other, next_sound}
use Rattle.table_rules.proofs.Limit.{ring_verdict}
use Rattle.table_rules.proofs.Slots.{same_state}
use Rattle.table_rules.proofs.Soundness.{empty_fixed, empty_sound}
use Rattle.table_rules.proofs.Theorems.{accepted_table, table_answered, table_numbers}
use Rattle.table_rules.specs.Answers.{Ask, Start, Step, after, answer_on, next_table, verdict_on}
use Rattle.table_rules.specs.Runs.{table}
use Rattle.table_rules.specs.Soundness.{SoundTable}
use Rattle.table_rules.specs.Table.{Started, Table, empty_table, fixed, slot_at}
use Rattle.table_runs.proofs.Updates.{ring_accepts, ring_next, start_begins, start_stands, table_accepts, told_of}
use Rattle.table_runs.proofs.WholeRun.{latest}
use Rattle.table_runs.specs.Agreement.{NextAnswered, OthersAlone, RunTo, RunsAgree, StartsAgree, StepsAgree, at_limit, matched, ring_after, shown_after, some_node, steps_on}
use Rattle.table_runs.specs.Counts.{AcceptsOn, heard_of, history_of, started_of}

-- ---- the starts

init_shown : (t : Table) (u N : ℕ) (flags : List ℕ) → verdict_on t (Start u N flags) ≡ Accepted → InitBy flags (vars_of N (first_state N flags))
init_shown t u N flags e =
    let b = start_begins t u N flags e in
    subst (λ (r : State). InitBy flags (vars_of N r)) (start_answered.first N flags b) ((rings.starts_agree N).start_is_init flags b)

pub starts_agree : (t : Table) → StartsAgree t
starts_agree t =
    record {
      stands = λ u N flags e. ap (λ (x : Table). slot_at x u) (accepted_table t (Start u N flags) e) ∙ start_stands t u N flags e;
      start_is_init = init_shown t;
      init_is_start =
          λ ok u N hu h hi f s i.
          let w = (rings.starts_agree N).init_is_start h hi s i in
          record {
            flags = w.flags;
            accepted = (table_numbers.start t ok u N w.flags).1 (hu, f, w.accepted);
            there = ap (vars_of N) (sym (start_answered.first N w.flags w.accepted)) ∙ w.there;
          };
    }

-- ---- one step

module _ (t : Table) (ok : SoundTable t) (u : ℕ) (r : State) (at : slot_at t u ≡ Started r) where
  ring_shown : (x : Request) → AcceptsOn t u x → shown_after t u r x ≡ shown_after_ring r x.kind x.i x.j
  unfolding answer_of
  ring_shown x a =
      ap (λ (v : Verdict). vars_of r.n (settle v (ring.effect r x) r)) (a ∙ sym (ring_accepts t ok u r at x a))

  accepted_action : (x : Request) → AcceptsOn t u x → Action (some_node t ok u r at) (shown r) (shown_after t u r x) (kind x) x.i x.j
  unfolding answer_of
  accepted_action x a =
      subst (λ (s : Vars r.n). Action (some_node t ok u r at) (shown r) s (kind x) x.i x.j) (sym (ring_shown x a))
      ((rings.steps_agree r (ok.each u r at)).accepted_is_action x.kind x.i x.j (ring_accepts t ok u r at x a))

  action_accepted :
      r.closed ≡ false → (x : Request) (s : Vars r.n) → Action (some_node t ok u r at) (shown r) s (kind x) x.i x.j → BelowLimit r x.kind
      → AcceptsOn t u x × (shown_after t u r x ≡ s)
  unfolding answer_of
  action_accepted running x s a room =
      let p = (rings.steps_agree r (ok.each u r at)).action_is_accepted running x.kind x.i x.j s a room in
      let b = table_accepts t ok u r at x p.0 in
      (b, ring_shown x b ∙ p.1)

  -- the ring's answer is the table's
  next_answered : (s : Vars r.n) → Next (some_node t ok u r at) (shown r) s → NextAnswered t ok u r at s
  unfolding answer_of
  next_answered s a = go ((rings.steps_agree r (ok.each u r at)).next_is_answered s a)
    where
      go : NextAnsweredRing r (ok.each u r at) s → NextAnswered t ok u r at s
      go (matched_ring k i j b e) =
          let x : Request = record { kind = k; i = i; j = j } in
          let c = table_accepts t ok u r at x b in
          matched x c (ring_shown x c ∙ e)
      go (at_limit_ring i b h e) =
          let l = (ok.each u r at).limit in
          at_limit i b (omega arith) (ring_verdict t ok u r at (send i.nr b.j.nr) ∙ e)

  refused_same : (x : Request) → (AcceptsOn t u x → ⊥) → (answer_on t (Step u x)).table ≡ t
  refused_same x ne = go (verdict_on t (Step u x)) refl
    where
      go : (v : Verdict) → verdict_on t (Step u x) ≡ v → (answer_on t (Step u x)).table ≡ t
      go Accepted e = absurd (ne e)
      go (Refused f) e = table_answered.same t (Step u x) f e

  kept_n : (x : Request) → (ring_after t u r x).n ≡ r.n
  kept_n x = go (verdict_on t (Step u x))
    where
      go : (v : Verdict) → (settle v (ring.effect r x) r).n ≡ r.n
      go Accepted = same_n r (kind x) x.i x.j
      go (Refused f) = refl

  pub steps_agree : StepsAgree t ok u r at
  unfolding answer_on answer_of
  steps_agree =
      record {
        stands = ring_next t ok u r at;
        nodes_kept = kept_n;
        accepted_is_action = accepted_action;
        action_is_accepted = action_accepted;
        accepted_is_next =
            λ x a.
            subst
            (λ (s : Vars r.n).
            InARow (Next (some_node t ok u r at)) (nexts_of (kind x) x.j) (shown r) s × (kind x ≡ Announce → TerminationDetected (some_node t ok u r at) (shown r)))
            (sym (ring_shown x a))
            ((rings.steps_agree r (ok.each u r at)).accepted_is_next x.kind x.i x.j (ring_accepts t ok u r at x a));
        refused_is_same = refused_same;
        next_is_answered = next_answered;
        receipts_are_take =
            λ i n s lo le x.
            let w = (rings.steps_agree r (ok.each u r at)).receipts_are_take i n s lo le x in
            let a = table_accepts t ok u r at (take i.nr n) w.0 in
            (a, ring_shown (take i.nr n) a ∙ w.1);
        announce_is_detected =
            λ running.
            let w = (rings.steps_agree r (ok.each u r at)).announce_is_detected running 0 0 in
            (λ a. w.0 (ring_accepts t ok u r at announce a), λ d. table_accepts t ok u r at announce (w.1 d));
      }

pub others_alone : OthersAlone
unfolding answer_on
others_alone = record { same = next_other }

-- ---- whole runs

first_n : (n : ℕ) (flags : List ℕ) → (first_state n flags).n ≡ n
unfolding first_state
first_n n flags = refl

module _ (t : Table) (ok : SoundTable t) (u : ℕ) (ls : List Ask) (e : started_of u t ls ≡ true) where
  run_reachable : (r : State) → slot_at (run_of table t ls) u ≡ Started r → (h : 0 < r.n) → Reachable h (shown r) (sends_made r)
  run_reachable r at =
      let w = latest u t ls e in
      let first = first_state w.n w.flags in
      let xs = (heard_of u t ls).steps in
      let same : run_of ring first xs ≡ r = same_state (sym ((told_of u t ok ls).some first w.stands).stands ∙ at) in
      let reach : (h : 0 < w.n) → Reachable h (vars_of w.n (run_of ring first xs)) (sends_made (run_of ring first xs)) =
      λ h.
      subst (λ (s : State). Reachable h (vars_of w.n (run_of ring s xs)) (sends_made (run_of ring s xs)))
      (start_answered.first w.n w.flags w.accepted)
      ((rings.runs_agree h).run_is_reachable w.flags w.accepted xs) in
      let size : w.n ≡ r.n = sym (ap (λ (s : State). s.n) (sym same) ∙ run_n (run_of_lem ring first xs) ∙ first_n w.n w.flags) in
      subst (λ (n : ℕ). (h : 0 < n) → Reachable h (vars_of n r) (sends_made r)) size
      (subst (λ (s : State). (h : 0 < w.n) → Reachable h (vars_of w.n s) (sends_made s)) same reach)

run_behaves :
    (t : Table) → SoundTable t → (u : ℕ) (ls : List Ask) (r : State) → (history_of u t ls).first ≡ Started r → (h : 0 < r.n)
    → (s : State) → slot_at (run_of table t ls) u ≡ Started s → Behaves h r (history_of u t ls).taken s
run_behaves t ok u ls r e h s at =
    let f = (told_of u t ok ls).some r e in
    let xs = (heard_of u t ls).steps in
    let same : run_of ring r xs ≡ s = same_state (sym f.stands ∙ at) in
    subst (Behaves h r (history_of u t ls).taken) same
    (subst (λ (acc : List Request). Behaves h r acc (run_of ring r xs)) (sym f.accepted) ((rings.runs_agree h).run_is_behaviour r f.sound refl xs))

-- no more requests are accepted than are made
accepted_length : (r : State) (xs : List Request) → length (accepted_of ring r xs) ≤ length xs
unfolding accepted_of
accepted_length r [] = omega arith
accepted_length r (x ∷ xs) = go (ring.verdict r x) (accepted_length (next ring r x) xs)
  where
    go :
        (v : Verdict) → length (accepted_of ring (next ring r x) xs) ≤ length xs
        → length (settle v (x ∷ accepted_of ring (next ring r x) xs) (accepted_of ring (next ring r x) xs)) ≤ length (x ∷ xs)
    go Accepted h = omega arith
    go (Refused f) h = omega arith

tail : List Request → List Request
tail [] = []
tail (x ∷ xs) = xs

-- where all are accepted, the first is, and all that follow
all_first :
    (r : State) (x : Request) (xs : List Request) → accepted_of ring r (x ∷ xs) ≡ x ∷ xs → Accepts ring r x × (accepted_of ring (next ring r x) xs ≡ xs)
unfolding accepted_of tail
all_first r x xs e = go (ring.verdict r x) refl e (accepted_length (next ring r x) xs)
  where
    go :
        (v : Verdict) → ring.verdict r x ≡ v
        → settle v (x ∷ accepted_of ring (next ring r x) xs) (accepted_of ring (next ring r x) xs) ≡ x ∷ xs
        → length (accepted_of ring (next ring r x) xs) ≤ length xs
        → Accepts ring r x × (accepted_of ring (next ring r x) xs ≡ xs)
    go Accepted q f h = (q, ap tail f)
    go (Refused g) q f h = absurd (omega (arith, ap length f))

-- steps that the ring accepts are accepted as steps of u
all_accepted :
    (u : ℕ) (xs : List Request) (t : Table) → SoundTable t → (r : State) → slot_at t u ≡ Started r → accepted_of ring r xs ≡ xs
    → (accepted_of table t (steps_on u xs) ≡ steps_on u xs) × (slot_at (run_of table t (steps_on u xs)) u ≡ Started (run_of ring r xs))
unfolding accepted_of run_of answer_on
all_accepted u [] t ok r at e = (refl, at)
all_accepted u (x ∷ xs) t ok r at e =
    let p = all_first r x xs e in
    let a = table_accepts t ok u r at x p.0 in
    let here : slot_at (next_table t (Step u x)) u ≡ Started (next ring r x) =
    ring_next t ok u r at x ∙ ap (λ (v : Verdict). Started (settle v (ring.effect r x) r)) (ring_verdict t ok u r at x) in
    let w = all_accepted u xs (next_table t (Step u x)) (next_sound t (Step u x) ok) (next ring r x) here p.1 in
    (ap₂ (λ (v : Verdict) (l : List Ask). settle v (Step u x ∷ l) l) a w.0, w.1)

module _ (t : Table) (ok : SoundTable t) (u : ℕ) (hu : u < 8) {N : ℕ} (h : 0 < N) (hi : N ≤ 96) (f : (fixed t ≡ 0) ⊎ (N ≡ fixed t)) where
  reachable_run : (s : Vars N) (m : ℕ) → Reachable h s m → m ≤ send_limit → RunTo t u s m
  unfolding accepted_of run_of answer_on
  reachable_run s m b room =
      let w = (rings.runs_agree h).reachable_is_run hi s m b room in
      let ask = Start u N w.flags in
      let a = (table_numbers.start t ok u N w.flags).1 (hu, f, w.start) in
      let first = start_answered.first N w.flags w.start in
      let at : slot_at (next_table t ask) u ≡ Started (start_of N w.flags).state =
      ap (λ (v : Verdict). slot_at (settle v (after t ask) t) u) a ∙ start_stands t u N w.flags a ∙ ap Started (sym first) in
      let all = all_accepted u w.requests (next_table t ask) (next_sound t ask ok) _ at w.accepted in
      record {
        flags = w.flags;
        requests = w.requests;
        accepted = ap₂ (λ (v : Verdict) (l : List Ask). settle v (ask ∷ l) l) a all.0;
        r = run_of ring (start_of N w.flags).state w.requests;
        stands = all.1;
        running = w.running;
        count = w.count;
        there = w.there;
      }

pub runs_agree : RunsAgree
runs_agree =
    record {
      run_is_behaviour = run_behaves;
      run_is_reachable = run_reachable;
      reachable_is_run = reachable_run;
      from_empty = λ u hu h hi. reachable_run empty_table empty_sound u hu h hi (inl empty_fixed);
    }
