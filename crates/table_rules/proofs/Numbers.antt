-- Which requests to a sound table are 13, and which starts are accepted. Assumes nothing.
use Prim.Native.Nat.{◌<◌, ◌≤◌, ℕ}
use borrow.Author.Tests.{eq-eqb, eqb-false, eqb-true, le-leb, le-ltb, leb-false, leb-true, lt-leb, lt-ltb, ltb-false, ltb-true, ne_eqb, not-false, not-true}
use lib.Dec.{eqb, leb, ltb}
use lib.ListN.{get_or-eq_default}
use mathlib.Core.Bool.{Bool, ◌&&◌, and-false, false, not, true}
use mathlib.Core.List.{List}
use mathlib.Core.Logic.{◌↔◌, ◌≢◌, ◌⊎◌, inl, inr, ⊎_elim}
use mathlib.Core.Path.{◌∙◌, ◌≡◌, ap, refl, sym}
use native.Mathlib.Omega.{arith}
use Rattle.laws.proofs.Tests.{both, both_true, false_true, split}
use Rattle.refusal.proofs.Table.{accepts, none_holds}
use Rattle.refusal.specs.Table.{NoneHolds, also, code_of, first_of, step_rows}
use Rattle.refusal.specs.Table.{Accepted}
use Rattle.ring_rules.specs.Answers.{outside, sends_spent, unknown, verdict_of}
use Rattle.ring_rules.specs.Rules.{guard, kind_of}
use Rattle.ring_rules.specs.Soundness.{sound_test}
use Rattle.ring_rules.specs.Start.{first_state, flags_test, start_table, start_verdict}
use Rattle.runs.specs.Runs.{Request}
use Rattle.table_rules.proofs.Keeps.{after_sound, place, taken}
use Rattle.table_rules.proofs.Limit.{ring_verdict, start_code}
use Rattle.table_rules.proofs.Slots.{put_same}
use Rattle.table_rules.proofs.Soundness.{fixed-n, table_true, true_table}
use Rattle.table_rules.specs.Answers.{Ask, Start, Step, after, other_nodes, rows_of, verdict_on}
use Rattle.table_rules.specs.Soundness.{SoundTable, sound_table_test}
use Rattle.table_rules.specs.Table.{NotStarted, Slot, Started, Table, fixed, slot_at}

-- 13 is the first row of a start, and no row of a ring's step
first_alone : (a b c d : Bool) → start_code a b c d ≡ 13 → a ≡ true
first_alone true b c d e = refl
first_alone false true c d e = absurd (omega arith)
first_alone false false true d e = absurd (omega arith)
first_alone false false false true e = absurd (omega arith)
first_alone false false false false e = absurd (omega arith)

-- 1 is its next two rows, and 2 its last
one_met : (a b c d : Bool) → start_code a b c d ≡ 1 → (a ≡ false) × ((b ≡ true) ⊎ (c ≡ true))
one_met true b c d e = absurd (omega arith)
one_met false true c d e = (refl, inl refl)
one_met false false true d e = (refl, inr refl)
one_met false false false true e = absurd (omega arith)
one_met false false false false e = absurd (omega arith)

meets_one : (b c d : Bool) → (b ≡ true) ⊎ (c ≡ true) → start_code false b c d ≡ 1
meets_one true c d w = refl
meets_one false true d w = refl
meets_one false false d (inl e) = absurd (false_true e)
meets_one false false d (inr e) = absurd (false_true e)

two_met : (a b c d : Bool) → start_code a b c d ≡ 2 → (a ≡ false) × (b ≡ false) × (c ≡ false) × (d ≡ true)
two_met true b c d e = absurd (omega arith)
two_met false true c d e = absurd (omega arith)
two_met false false true d e = absurd (omega arith)
two_met false false false true e = (refl, refl, refl, refl)
two_met false false false false e = absurd (omega arith)

no_thirteen : (s c u o g p : Bool) → code_of (first_of (step_rows s c u o g p)) ≡ 13 → ⊥
no_thirteen false c u o g p e = omega arith
no_thirteen true true u o g p e = omega arith
no_thirteen true false true o g p e = omega arith
no_thirteen true false false true g p e = omega arith
no_thirteen true false false false false p e = omega arith
no_thirteen true false false false true true e = omega arith
no_thirteen true false false false true false e = omega arith

pub unsound_three : (t : Table) → (SoundTable t → ⊥) → (a : Ask) → code_of (verdict_on t a) ≡ 3
unfolding verdict_on
unsound_three t bad a = ⊎_elim (λ e. absurd (bad (table_true t e))) (λ e. go e a) (split (sound_table_test t))
  where
    go : sound_table_test t ≡ false → (b : Ask) → code_of (first_of (rows_of t b)) ≡ 3
    go e (Start u n flags) = rw e
    go e (Step u x) = rw e

-- another number of nodes than the one fixed
other_false : (a b : Bool) → (not a && not b) ≡ false → (a ≡ true) ⊎ (b ≡ true)
other_false true b q = inl refl
other_false false true q = inr refl
other_false false false q = absurd (false_true (sym q))

other_none : (a b : Bool) → (a ≡ true) ⊎ (b ≡ true) → (not a && not b) ≡ false
other_none a b (inl e) = rw e
other_none true b (inr e) = refl
other_none false b (inr e) = rw e

-- a number of nodes that is not from 1 to 96
not_in_range : (n : ℕ) → not (ltb 0 n && leb n 96) ≡ true → (n ≡ 0) ⊎ (96 < n)
not_in_range n e = go (split (ltb 0 n)) (split (leb n 96))
  where
    go : (ltb 0 n ≡ true) ⊎ (ltb 0 n ≡ false) → (leb n 96 ≡ true) ⊎ (leb n 96 ≡ false) → (n ≡ 0) ⊎ (96 < n)
    go (inr z) q = inl (omega (arith, ltb-false 0 n z))
    go (inl h) (inr q) = inr (omega (arith, leb-false n 96 q))
    go (inl h) (inl q) = absurd (false_true (sym (not-true _ e) ∙ both_true h q))

out_of_range : (n : ℕ) → (n ≡ 0) ⊎ (96 < n) → not (ltb 0 n && leb n 96) ≡ true
out_of_range n (inl e) = rw e
out_of_range n (inr h) = rw (lt-leb n 96 h, and-false (ltb 0 n))

module _ (t : Table) (ok : SoundTable t) where
  pub unknown_start : (u n : ℕ) (flags : List ℕ) → (code_of (verdict_on t (Start u n flags)) ≡ 13) ↔ (7 < u)
  unfolding verdict_on
  unknown_start u n flags = (
    λ e.
        let f = first_alone (not (ltb u 8)) (other_nodes t n) (not (ltb 0 n && leb n 96)) (not (flags_test n flags)) (rw (true_table t ok) at e) in
        omega (arith, ltb-false u 8 (not-true _ f)),
    λ h. rw (true_table t ok, le-ltb u 8 (omega arith)),
  )

  pub past : (u : ℕ) → 7 < u → slot_at t u ≡ NotStarted
  past u h = let l = ok.places in get_or-eq_default t.slots NotStarted {n = u} (omega arith)

  pub unknown_step : (u : ℕ) (x : Request) → (code_of (verdict_on t (Step u x)) ≡ 13) ↔ (slot_at t u ≡ NotStarted)
  unfolding verdict_on verdict_of
  unknown_step u x = (λ e. go (slot_at t u) refl e, λ at. rw (true_table t ok, at))
    where
      go : (s : Slot) → slot_at t u ≡ s → code_of (verdict_on t (Step u x)) ≡ 13 → slot_at t u ≡ NotStarted
      go NotStarted at e = at
      go (Started r) at e =
          let k = kind_of x.kind in
          absurd
          (no_thirteen (sound_test r) r.closed (unknown k) (outside r k x.i x.j) (guard r k x.i x.j) (sends_spent r k)
          (sym (ap code_of (ring_verdict t ok u r at x)) ∙ e))

  pub start_accepted :
      (u n : ℕ) (flags : List ℕ)
      → (verdict_on t (Start u n flags) ≡ Accepted) ↔ ((u < 8) × ((fixed t ≡ 0) ⊎ (n ≡ fixed t)) × (start_verdict n flags ≡ Accepted))
  unfolding verdict_on start_verdict
  start_accepted u n flags = (
    λ e. go (none_holds (rows_of t (Start u n flags)) e),
    λ w.
        rw (true_table t ok, lt-ltb u 8 w.0, other_none (eqb (fixed t) 0) (eqb n (fixed t)) (⊎_elim (λ z. inl (eq-eqb _ _ z)) (λ z. inr (eq-eqb _ _ z)) w.1))
        w.2,
  )
    where
      go : NoneHolds (rows_of t (Start u n flags)) → (u < 8) × ((fixed t ≡ 0) ⊎ (n ≡ fixed t)) × (first_of (start_table n flags) ≡ Accepted)
      go (also s (also v (also o rest))) = (
        ltb-true _ _ (not-false _ v),
        ⊎_elim (λ z. inl (eqb-true _ _ z)) (λ z. inr (eqb-true _ _ z)) (other_false (eqb (fixed t) 0) (eqb n (fixed t)) o),
        accepts (start_table n flags) rest,
      )

  module _ (u n : ℕ) (flags : List ℕ) where
    abbrev told : Bool → ℕ
    told a = start_code a (other_nodes t n) (not (ltb 0 n && leb n 96)) (not (flags_test n flags))

    start_told : code_of (verdict_on t (Start u n flags)) ≡ told (not (ltb u 8))
    unfolding verdict_on
    start_told = rw (true_table t ok)

    inside_told : u < 8 → code_of (verdict_on t (Start u n flags)) ≡ told false
    inside_told h = start_told ∙ ap (λ (b : Bool). told (not b)) (lt-ltb u 8 h)

    pub node_count : (code_of (verdict_on t (Start u n flags)) ≡ 1) ↔ ((u < 8) × ((n ≡ 0) ⊎ ((96 < n) ⊎ ((0 < fixed t) × (n ≢ fixed t)))))
    node_count = (
      λ e.
          let w = one_met (not (ltb u 8)) (other_nodes t n) (not (ltb 0 n && leb n 96)) (not (flags_test n flags)) (sym start_told ∙ e) in
          (ltb-true _ _ (not-false _ w.0), ⊎_elim (λ o. inr (inr (other o))) (λ o. ⊎_elim inl (λ h. inr (inl h)) (not_in_range n o)) w.1),
      λ w. inside_told w.0 ∙ meets_one (other_nodes t n) (not (ltb 0 n && leb n 96)) (not (flags_test n flags)) (met w.1),
    )
      where
        other : other_nodes t n ≡ true → (0 < fixed t) × (n ≢ fixed t)
        other o =
            let p = both _ _ o in
            let z = eqb-false (fixed t) 0 (not-true _ p.0) in
            (omega arith, eqb-false n (fixed t) (not-true _ p.1))

        met : (n ≡ 0) ⊎ ((96 < n) ⊎ ((0 < fixed t) × (n ≢ fixed t))) → (other_nodes t n ≡ true) ⊎ (not (ltb 0 n && leb n 96) ≡ true)
        met (inl e) = inr (out_of_range n (inl e))
        met (inr (inl h)) = inr (out_of_range n (inr h))
        met (inr (inr w)) = inl (rw (ne_eqb (fixed t) 0 (λ z. let h = w.0 in omega arith), ne_eqb n (fixed t) w.1))

    pub start_flags :
        (code_of (verdict_on t (Start u n flags)) ≡ 2)
        ↔ ((u < 8) × (0 < n) × (n ≤ 96) × ((fixed t ≡ 0) ⊎ (n ≡ fixed t)) × (flags_test n flags ≡ false))
    start_flags = (
      λ e.
          let w = two_met (not (ltb u 8)) (other_nodes t n) (not (ltb 0 n && leb n 96)) (not (flags_test n flags)) (sym start_told ∙ e) in
          let r = both _ _ (not-false _ w.2) in (
            ltb-true _ _ (not-false _ w.0),
            ltb-true _ _ r.0,
            leb-true _ _ r.1,
            ⊎_elim (λ z. inl (eqb-true _ _ z)) (λ z. inr (eqb-true _ _ z)) (other_false (eqb (fixed t) 0) (eqb n (fixed t)) w.1),
            not-true _ w.3,
          ),
      λ w.
          inside_told w.0
          ∙ rw (
            other_none (eqb (fixed t) 0) (eqb n (fixed t)) (⊎_elim (λ z. inl (eq-eqb _ _ z)) (λ z. inr (eq-eqb _ _ z)) w.3),
            lt-ltb 0 n w.1,
            le-leb n 96 w.2,
            w.4,
          ),
    )

  pub none_fixed : fixed t ≡ 0 → (u : ℕ) → slot_at t u ≡ NotStarted
  none_fixed z u = go (slot_at t u) refl
    where
      go : (s : Slot) → slot_at t u ≡ s → slot_at t u ≡ NotStarted
      go NotStarted e = e
      go (Started r) e = absurd (let h = (ok.each u r e).some_node in omega (arith, fixed-n t ok u r e))

pub start_fixed : (t : Table) (u n : ℕ) (flags : List ℕ) → verdict_on t (Start u n flags) ≡ Accepted → fixed (after t (Start u n flags)) ≡ n
unfolding first_state
start_fixed t u n flags e =
    let w = taken t (Start u n flags) e in
    fixed-n (after t (Start u n flags)) (after_sound t (Start u n flags) e) u (first_state n flags)
    (put_same t u (Started (first_state n flags)) (place t u w.state w.changed))
