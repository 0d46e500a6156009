-- The test of soundness agrees with its facts. Assumes nothing.
use Prim.Native.Nat.{◌<◌, ℕ}
use borrow.Author.Tests.{eq-eqb, eqb-false, eqb-true, le-leb, leb-true, lt-ltb, ltb-true, ne_eqb, not-false, not-true}
use lib.Dec.{eqb, ltb}
use mathlib.Core.Bool.{Bool, ◌&&◌, ◌||◌, false, not, true}
use mathlib.Core.Logic.{◌≢◌, inl, inr}
use mathlib.Core.Path.{◌∙◌, ◌≡◌, ap, sym}
use native.Mathlib.Omega.{arith}
use Rattle.laws.proofs.Places.{all_at, all_from}
use Rattle.laws.proofs.Tests.{both, both_true, false_true, left_true, not_eq, one_of, right_true, split}
use Rattle.laws.specs.Places.{all_to}
use Rattle.tree_rules.proofs.Facts.{Facts, engaged-false, engaged-true, facts, false-engaged, sound, true-engaged}
use Rattle.tree_rules.specs.Soundness.{Shape, Sound, balance_test, chain_test, closed_test, engager_test, limit_test, pair_test, place_test, range_test, rest_test, shape_test, sound_test}
use Rattle.tree_rules.specs.State.{State, active_at, engaged, engager_at, transit_at, unacked_at}

-- a alternative read as: where the first fails, the second holds
pub else_true : (a b : Bool) → (a || b) ≡ true → a ≡ false → b ≡ true
else_true a b e f = elim (one_of a b e) [ inl p ↦ absurd (false_true (sym f ∙ p)) | inr q ↦ q ]

pub true_else : (a b : Bool) → (a ≡ false → b ≡ true) → (a || b) ≡ true
true_else a b f = elim (split a) [ inl p ↦ left_true b p | inr q ↦ right_true a (f q) ]

-- ---- the columns

shape_true : (t : State) → shape_test t ≡ true → Shape t
unfolding shape_test
shape_true t e =
    let p = both _ _ e in
    let p₂ = both _ _ p.1 in
    let p₃ = both _ _ p₂.1 in
    let p₄ = both _ _ p₃.1 in
    record {
      active_places = eqb-true _ _ p.0;
      engager_places = eqb-true _ _ p₂.0;
      unacked_places = eqb-true _ _ p₃.0;
      transit_places = eqb-true _ _ p₄.0;
      acks_places = eqb-true _ _ p₄.1;
    }

pub true_shape : (t : State) → Shape t → shape_test t ≡ true
unfolding shape_test
true_shape t s =
    both_true (eq-eqb _ _ s.active_places)
    (both_true (eq-eqb _ _ s.engager_places)
    (both_true (eq-eqb _ _ s.unacked_places) (both_true (eq-eqb _ _ s.transit_places) (eq-eqb _ _ s.acks_places))))

-- ---- a place

record Place (t : State) (i : ℕ) : Type 0 where
  engager : engager_test t i ≡ true
  chain : chain_test t i ≡ true
  balance : balance_test t i ≡ true
  rest : rest_test t i ≡ true
  pairs : all_to 16 (pair_test t i) ≡ true

place_true : (t : State) (i : ℕ) → place_test t i ≡ true → Place t i
unfolding place_test
place_true t i e =
    let p = both _ _ e in
    let p₂ = both _ _ p.1 in
    let p₃ = both _ _ p₂.1 in
    let p₄ = both _ _ p₃.1 in
    record { engager = p.0; chain = p₂.0; balance = p₃.0; rest = p₄.0; pairs = p₄.1 }

true_pair : (t : State) → Facts t → (i k : ℕ) → i < 16 → k < 16 → pair_test t i k ≡ true
unfolding pair_test
true_pair t f i k hi hk = true_else _ _ there
  where
    there : eqb (transit_at t i k) 0 ≡ false → (ltb i t.n && ltb k t.n) ≡ true
    there e =
        let ne : transit_at t i k ≢ 0 = eqb-false _ _ e in
        let r = f.messages i k hi hk (omega arith) in
        both_true (lt-ltb _ _ r.0) (lt-ltb _ _ r.1)

true_place : (t : State) → Facts t → (i : ℕ) → i < 16 → place_test t i ≡ true
unfolding place_test engager_test chain_test balance_test rest_test
true_place t f i h =
    both_true (true_else _ _ engager)
    (both_true (true_else _ _ (λ e. eq-eqb _ _ (f.chained i h (engaged-true t i (not-false _ e)))))
    (both_true (eq-eqb _ _ (f.balance i h)) (both_true (true_else _ _ rest) (all_from 16 (pair_test t i) (λ k hk. true_pair t f i k h hk)))))
  where
    engager : not (engaged t i) ≡ false → (ltb i t.n && ltb (engager_at t i) t.n) ≡ true
    engager e = let r = f.engagers i h (engaged-true t i (not-false _ e)) in both_true (lt-ltb _ _ r.0) (lt-ltb _ _ r.1)

    rest : engaged t i ≡ false → (not (active_at t i) && eqb (unacked_at t i) 0) ≡ true
    rest e = let r = f.resting i h (engaged-false t i e) in both_true (not_eq r.passive) (eq-eqb _ _ r.settled)

-- ---- the whole test

true_facts : (t : State) → Facts t → sound_test t ≡ true
unfolding sound_test range_test limit_test closed_test
true_facts t f =
    both_true (true_shape t f.shape)
    (both_true (both_true (le-leb _ _ f.nodes) (both_true (lt-ltb _ _ f.root_in) (eq-eqb _ _ f.root_own)))
    (both_true (all_from 16 (place_test t) (true_place t f))
    (both_true (both_true (le-leb _ _ f.spent) (le-leb _ _ f.limit)) (true_else _ _ (λ c. f.announced (not-false _ c))))))

facts_true : (t : State) → sound_test t ≡ true → Facts t
unfolding sound_test range_test engager_test chain_test balance_test rest_test pair_test limit_test closed_test
facts_true t e =
    let p = both _ _ e in
    let p₂ = both _ _ p.1 in
    let p₃ = both _ _ p₂.1 in
    let p₄ = both _ _ p₃.1 in
    let ranges = both _ _ p₂.0 in
    let ranges₂ = both _ _ ranges.1 in
    let limits = both _ _ p₄.0 in
    let place : (i : ℕ) → i < 16 → Place t i = λ i h. place_true t i (all_at 16 (place_test t) p₃.0 i h) in
    record {
      shape = shape_true t p.0;
      nodes = leb-true _ _ ranges.0;
      root_in = ltb-true _ _ ranges₂.0;
      root_own = eqb-true _ _ ranges₂.1;
      engagers =
          λ i h ne.
          let q = both _ _ (else_true _ _ (place i h).engager (ap not (true-engaged t i ne))) in
          (ltb-true _ _ q.0, ltb-true _ _ q.1);
      chained = λ i h ne. eqb-true _ _ (else_true _ _ (place i h).chain (ap not (true-engaged t i ne)));
      balance = λ j h. eqb-true _ _ (place j h).balance;
      resting =
          λ i h free.
          let q = both _ _ (else_true _ _ (place i h).rest (false-engaged t i free)) in
          record { passive = not-true _ q.0; settled = eqb-true _ _ q.1 };
      messages =
          λ i k hi hk has.
          let ne : transit_at t i k ≢ 0 = omega arith in
          let q = both _ _ (else_true _ _ (all_at 16 (pair_test t i) (place i hi).pairs k hk) (ne_eqb _ _ ne)) in
          (ltb-true _ _ q.0, ltb-true _ _ q.1);
      spent = leb-true _ _ limits.0;
      limit = leb-true _ _ limits.1;
      announced = λ c. else_true _ _ p₄.1 (ap not c);
    }

pub sound_true : (t : State) → sound_test t ≡ true → Sound t
sound_true t e = sound t (facts_true t e)

pub true_sound : (t : State) → Sound t → sound_test t ≡ true
true_sound t s = true_facts t (facts t s)
