-- The parts of the soundness test, by what is looked at. Assumes nothing.
use Prim.Native.Nat.{◌*◌, ◌+◌, ◌-◌, ◌<◌, ◌^◌, ◌≤◌, suc, zero, ℕ}
use borrow.Author.Tests.{le-leb, le-ltb, lt-leb, lt-ltb}
use lib.Dec.{eqb, ltb}
use lib.IntN.{nat_abs, ℤ}
use lib.Signed.{mag}
use mathlib.Core.Bool.{Bool, ◌&&◌, ◌||◌, and-false, false, not, true}
use mathlib.Core.List.{List}
use mathlib.Core.Path.{◌∙◌, ◌≡◌, ap, ap₂, refl, sym}
use Rattle.color.specs.Between.{white_between}
use Rattle.laws.proofs.Places.{all_at, all_from}
use Rattle.laws.proofs.Tests.{false_true, left_true, right_true, same_test}
use native.Mathlib.Decide.{dec_lt}
use native.Mathlib.Omega.{arith}
use Rattle.std.specs.Prelude.{◌↔◌}
use Rattle.ring.specs.Empty.{empty_at}
use Rattle.laws.specs.Places.{all_to}
use Rattle.ring_rules.proofs.Soundness.{true_shape}
use Rattle.ring_rules.specs.Rules.{conclusive}
use Rattle.ring_rules.specs.Soundness.{Shape, closed_test, counter_limit, flow_test, range_test, safra_test, shape_test, sound_test, sum_test, unused_at, unused_test}
use Rattle.ring_rules.specs.State.{State, active_at, black_at, pending_at, received_at, sent_at}
use Rattle.signed.proofs.Parts.{mag_abs}

-- ---- the places that no node uses

-- b tells whether the places n to m - 1 are empty: of no place yet, and of one place more
abbrev pub EmptyTo : ℕ → List Bool → List ℕ → List ℕ → List ℕ → ℕ → Bool → Type 0
EmptyTo n active sent received pending m b = (b ≡ true) ↔ ((i : ℕ) → n ≤ i → i < m → empty_at active sent received pending i ≡ true)

module _ (n : ℕ) (active : List Bool) (sent received pending : List ℕ) where
  pub empty_begun : EmptyTo n active sent received pending n true
  empty_begun = ((λ e i lo hi. absurd (omega arith)), (λ h. refl))

  pub empty_more :
      (m : ℕ) (b : Bool) → n ≤ m → EmptyTo n active sent received pending m b
      → EmptyTo n active sent received pending (m + 1) (b && empty_at active sent received pending m)
  empty_more m true low h = (forth, (λ f. f m low (omega arith)))
    where
      forth : empty_at active sent received pending m ≡ true → (i : ℕ) → n ≤ i → i < m + 1 → empty_at active sent received pending i ≡ true
      forth e i lo hi = at (dec_lt i m)
        where
          at : Dec (i < m) → empty_at active sent received pending i ≡ true
          at (yes below) = h.0 refl i lo below
          at (no last) = let same : i ≡ m = omega arith in ap (empty_at active sent received pending) same ∙ e
  empty_more m false low h = ((λ e. absurd (false_true e)), (λ f. h.1 (λ i lo hi. f i lo (omega arith))))

-- the places n to m - 1 are empty
unfoldable pub empty_between : ℕ → List Bool → List ℕ → List ℕ → List ℕ → ℕ → Bool
empty_between n active sent received pending m = all_to m (λ i. ltb i n || empty_at active sent received pending i)

-- two tests of each place are one of both
both_all : (n : ℕ) (p q both : ℕ → Bool) → ((i : ℕ) → (p i && q i) ≡ both i) → (all_to n p && all_to n q) ≡ all_to n both
both_all zero p q both e = refl
both_all (suc n) p q both e = paired (all_to n p) (p n) (all_to n q) (q n) ∙ ap₂ ◌&&◌ (both_all n p q both e) (e n)
  where
    paired : (a b c d : Bool) → ((a && b) && (c && d)) ≡ ((a && c) && (b && d))
    paired true b true d = refl
    paired true true false d = refl
    paired true false false d = refl
    paired false b c d = refl

module _ (n : ℕ) (active : List Bool) (sent received pending : List ℕ) where
  -- one test of each place from n on
  pub empty_all :
      (b : Bool) → (b ≡ true) ↔ ((i : ℕ) → n ≤ i → i < 96 → empty_at active sent received pending i ≡ true)
      → b ≡ empty_between n active sent received pending 96
  unfolding empty_between
  empty_all b h = same_test b _ forth back
    where
      forth : b ≡ true → all_to 96 (λ i. ltb i n || empty_at active sent received pending i) ≡ true
      forth e = all_from 96 _ (λ i k. at i k (dec_lt i n))
        where
          at : (i : ℕ) → i < 96 → Dec (i < n) → (ltb i n || empty_at active sent received pending i) ≡ true
          at i k (yes used) = left_true _ (lt-ltb i n used)
          at i k (no free) = right_true (ltb i n) (h.0 e i (omega arith) k)

      back : all_to 96 (λ i. ltb i n || empty_at active sent received pending i) ≡ true → b ≡ true
      back e =
          h.1 (λ i lo hi. sym (ap (λ (c : Bool). c || empty_at active sent received pending i) (le-ltb i n lo))
          ∙ all_at 96 (λ i. ltb i n || empty_at active sent received pending i) e i hi)

-- with the colors it is the test
pub unused_is :
    (r : State) (empty white : Bool) → empty ≡ empty_between r.n r.active r.sent r.received r.pending 96
    → white ≡ white_between r.color r.n 96 → (empty && white) ≡ unused_test r
unfolding unused_test empty_between
unused_is r empty white e f =
    ap₂ ◌&&◌ e f
    ∙ both_all 96 (λ i. ltb i r.n || empty_at r.active r.sent r.received r.pending i) (λ i. ltb i r.n || not (black_at r i))
    (λ i. ltb i r.n || unused_at r i)
    (λ i. joined (ltb i r.n) (not (active_at r i)) (not (black_at r i)) (eqb (sent_at r i) 0 && (eqb (received_at r i) 0 && eqb (pending_at r i) 0)))
  where
    joined : (u a b c : Bool) → ((u || (a && c)) && (u || b)) ≡ (u || (a && (b && c)))
    joined true a b c = refl
    joined false false b c = refl
    joined false true true true = refl
    joined false true true false = refl
    joined false true false true = refl
    joined false true false false = refl

-- ---- the whole test, part by part

module _ (r : State) where
  -- a part that fails decides by itself
  pub range_fails : range_test r ≡ false → sound_test r ≡ false
  unfolding sound_test
  range_fails e = rw (e, and-false (shape_test r))

  pub flow_fails : flow_test r ≡ false → sound_test r ≡ false
  unfolding sound_test
  flow_fails e = rw (e, and-false (range_test r), and-false (shape_test r))

  pub sum_fails : sum_test r ≡ false → sound_test r ≡ false
  unfolding sound_test
  sum_fails e = rw (e, and-false (flow_test r), and-false (range_test r), and-false (shape_test r))

  pub safra_fails : safra_test r ≡ false → sound_test r ≡ false
  unfolding sound_test
  safra_fails e = rw (e, and-false (sum_test r), and-false (flow_test r), and-false (range_test r), and-false (shape_test r))

  pub unused_fails : unused_test r ≡ false → sound_test r ≡ false
  unfolding sound_test
  unused_fails e = rw (e, and-false (safra_test r), and-false (sum_test r), and-false (flow_test r), and-false (range_test r), and-false (shape_test r))

  -- where all others hold, the last does
  pub closed_decides :
      Shape r → range_test r ≡ true → flow_test r ≡ true → sum_test r ≡ true → safra_test r ≡ true → unused_test r ≡ true → sound_test r ≡ closed_test r
  unfolding sound_test
  closed_decides shape e₁ e₂ e₃ e₄ e₅ = rw (true_shape r shape, e₁, e₂, e₃, e₄, e₅)

  pub no_node : r.n ≡ 0 → range_test r ≡ false
  unfolding range_test
  no_node e = rw (le-ltb 0 r.n (omega arith))

  pub too_many : 96 < r.n → range_test r ≡ false
  unfolding range_test
  too_many h = rw (lt-leb r.n 96 h, lt-ltb 0 r.n (omega arith))

  pub no_holder : r.n ≤ r.pos → 0 < r.n → r.n ≤ 96 → range_test r ≡ false
  unfolding range_test
  no_holder h lo hi = rw (lt-ltb 0 r.n lo, le-leb r.n 96 hi, le-ltb r.pos r.n h)

  pub in_range_lem : 0 < r.n → r.n ≤ 96 → r.pos < r.n → range_test r ≡ true
  unfolding range_test
  in_range_lem lo hi holder = rw (lt-ltb 0 r.n lo, le-leb r.n 96 hi, lt-ltb r.pos r.n holder)

  pub closed_part : r.closed ≡ true → closed_test r ≡ conclusive r
  unfolding closed_test
  closed_part e = ap (λ (b : Bool). not b || conclusive r) e

  pub open_part : r.closed ≡ false → closed_test r ≡ true
  unfolding closed_test
  open_part e = ap (λ (b : Bool). not b || conclusive r) e

-- a q that passed its test is small
pub small_sum : (q : ℤ) (n p : ℕ) → n ≤ 96 → nat_abs q ≤ (n - 1 - p) * counter_limit → mag q < 2 ^ 62
small_sum q n p h b = omega (arith, mag_abs q)
