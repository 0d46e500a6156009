-- One accepted step changes what is counted as document 01 says. Assumes nothing.
use Prim.Native.Nat.{◌*◌, ◌+◌, ◌<◌, ℕ}
use borrow.Author.Tests.{eq-eqb, ne_eqb}
use lib.Dec.{eqb}
use lib.ListN.{get_or, length, set}
use mathlib.Core.Bool.{Bool, ◌&&◌, ◌||◌, cond, false, not, true}
use mathlib.Core.Logic.{◌≢◌}
use mathlib.Core.Path.{◌∙◌, ◌≡◌, ap, refl}
use native.Mathlib.Decide.{ℕ_discrete}
use native.Mathlib.Omega.{arith}
use Rattle.laws.proofs.Columns.{set_at}
use Rattle.laws.proofs.Indicators.{ind, ind_eq, ind_ne, lowered_at, raised_at, sum_lowered, sum_raised}
use Rattle.laws.proofs.Tests.{not_eq}
use Rattle.laws.specs.Sums.{sum_to}
use Rattle.tree_rules.proofs.Accepted.{Rule, acknowledges, idles, leaves, sends, takes}
use Rattle.tree_rules.proofs.Engages.{engager_16}
use Rattle.tree_rules.proofs.Facts.{Facts, false-engaged, in_acks, in_engager, in_range_lem, in_transit, take_cases, true-engaged}
use Rattle.tree_rules.specs.Rules.{Ack, Announce, Idle, Kind, Leave, Send, Take, Unknown, effect, engage_of, leave_of}
use Rattle.tree_rules.specs.State.{State, acks_at, active_at, engaged, engager_at, transit_at}
use Rattle.tree_rules.specs.Termination.{acks_total}
use Rattle.tree_runs.specs.Counts.{active_next, engaged_next, is_announce, received, reply, send_between, sending, take_between}

-- one place of the pairs
pair_ind : (b c i j : ℕ) → c < 16 → j < 16 → ind (b * 16 + c) (i * 16 + j) ≡ cond (eqb i b && eqb j c) 1 0
pair_ind b c i j hc hj =
    elim (ℕ_discrete i b) [
      | yes p ↦ elim (ℕ_discrete j c) [
        | yes q ↦ rw (eq-eqb i b p, eq-eqb j c q) (ind_eq (b * 16 + c) (i * 16 + j) (omega arith))
        | no q ↦ rw (eq-eqb i b p, ne_eqb j c q) (ind_ne (b * 16 + c) (i * 16 + j) (omega arith))
      ]
      | no p ↦ rw (ne_eqb i b p) (ind_ne (b * 16 + c) (i * 16 + j) (omega arith))
    ]

module _ (t : State) (f : Facts t) where
  in_active : (i : ℕ) → i < t.n → i < length t.active
  in_active i h = omega (arith, f.shape.active_places, f.nodes)

  -- ---- active

  pub active_step : (k : Kind) (i j : ℕ) → Rule t i j k → (b : ℕ) → active_at (effect t k i j) b ≡ active_next k i (active_at t b) b
  active_step Send i j r b = refl
  active_step Take i j (takes hi hj m) b =
      let v : get_or (set t.active i true) b false ≡ cond (eqb i b) true (active_at t b) = set_at t.active i b true false (in_active i hi) in
      take_cases (λ (s : State). active_at s b ≡ cond (eqb i b) true (active_at t b)) t i j (λ _. v) (λ _. v)
  active_step Idle i j (idles hi act) b = set_at t.active i b false false (in_active i hi)
  active_step Ack i j r b = refl
  active_step Leave i j r b = refl
  active_step Announce i j r b = refl
  active_step Unknown i j r b = elim r [ ]

  -- ---- messages

  pub transit_step :
      (k : Kind) (i j : ℕ) → Rule t i j k → (b c : ℕ) → c < 16
      → transit_at (effect t k i j) b c + take_between k i j b c ≡ transit_at t b c + send_between k i j b c
  transit_step Send i j (sends hi hj act lim) b c hc =
      let i16 : i < 16 = in_range_lem t f i hi in
      let j16 : j < 16 = in_range_lem t f j hj in
      omega (arith, raised_at t.transit (i * 16 + j) (b * 16 + c) (in_transit t f i j i16 j16), pair_ind b c i j hc j16)
  transit_step Take i j (takes hi hj has) b c hc =
      let i16 : i < 16 = in_range_lem t f i hi in
      let j16 : j < 16 = in_range_lem t f j hj in
      let v = lowered_at t.transit (j * 16 + i) (b * 16 + c) (in_transit t f j i j16 i16) has in
      let w = pair_ind b c j i hc i16 in
      take_cases (λ (s : State). transit_at s b c + cond (eqb j b && eqb i c) 1 0 ≡ transit_at t b c + 0) t i j
      (λ _. omega (arith, v, w))
      (λ _. omega (arith, v, w))
  transit_step Idle i j r b c hc = refl
  transit_step Ack i j r b c hc = refl
  transit_step Leave i j r b c hc = refl
  transit_step Announce i j r b c hc = refl
  transit_step Unknown i j r b c hc = elim r [ ]

  -- ---- engagement

  joined : (b i j : ℕ) → i < t.n → j < t.n → engaged (engage_of t i j) b ≡ cond (eqb i b) true (engaged t b)
  joined b i j hi hj = rw (set_at t.engager i b j 16 (in_engager t f i (in_range_lem t f i hi))) (go (eqb i b))
    where
      go : (c : Bool) → not (eqb (cond c j (engager_at t b)) 16) ≡ cond c true (engaged t b)
      go true = not_eq (ne_eqb j 16 (omega (arith, f.nodes)))
      go false = refl

  gone : (b i : ℕ) → i < t.n → engaged (leave_of t i) b ≡ cond (eqb i b) false (engaged t b)
  gone b i hi = rw (set_at t.engager i b 16 16 (in_engager t f i (in_range_lem t f i hi))) (go (eqb i b))
    where
      go : (c : Bool) → not (eqb (cond c 16 (engager_at t b)) 16) ≡ cond c false (engaged t b)
      go true = refl
      go false = refl

  already : (b i : ℕ) → engager_at t i ≢ 16 → engaged t b ≡ cond (eqb i b) true (engaged t b)
  already b i e =
      elim (ℕ_discrete i b) [
        | yes p ↦ rw (eq-eqb i b p) (true-engaged t b (λ z. e (ap (engager_at t) p ∙ z)))
        | no q ↦ rw (ne_eqb i b q)
      ]

  pub engaged_step : (k : Kind) (i j : ℕ) → Rule t i j k → (b : ℕ) → engaged (effect t k i j) b ≡ engaged_next k i (engaged t b) b
  engaged_step Send i j r b = refl
  engaged_step Take i j (takes hi hj m) b =
      take_cases (λ (s : State). engaged s b ≡ cond (eqb i b) true (engaged t b)) t i j (λ _. joined b i j hi hj) (already b i)
  engaged_step Idle i j r b = refl
  engaged_step Ack i j r b = refl
  engaged_step Leave i j (leaves hi l) b = gone b i hi
  engaged_step Announce i j r b = refl
  engaged_step Unknown i j r b = elim r [ ]

  -- ---- acknowledgements

  pub acks_step :
      t.closed ≡ false → (k : Kind) (i j : ℕ) → Rule t i j k
      → acks_total (effect t k i j) + received k ≡ acks_total t + reply k (engaged t i)
  unfolding acks_total
  acks_step o Send i j r = refl
  acks_step o Take i j (takes hi hj m) =
      let j16 : j < 16 = in_range_lem t f j hj in
      take_cases (λ (s : State). sum_to 16 (acks_at s) + 0 ≡ sum_to 16 (acks_at t) + cond (engaged t i) 1 0) t i j
      (λ e. rw (false-engaged t i e))
      (λ e. rw (true-engaged t i e) (omega (arith, sum_raised 16 t.acks j (in_acks t f j j16) j16)))
  acks_step o Idle i j r = refl
  acks_step o Ack i j (acknowledges hi has) =
      omega (arith, sum_lowered 16 t.acks i (in_acks t f i (in_range_lem t f i hi)) (in_range_lem t f i hi) has)
  acks_step o Leave i j (leaves hi l) =
      let e16 = engager_16 t f o i hi l in
      omega (arith, sum_raised 16 t.acks (engager_at t i) (in_acks t f (engager_at t i) e16) e16)
  acks_step o Announce i j r = refl
  acks_step o Unknown i j r = elim r [ ]

-- ---- sends

pub sends_step : (t : State) (k : Kind) (i j : ℕ) → (effect t k i j).sends ≡ t.sends + sending k
sends_step t Send i j = refl
sends_step t Take i j = take_cases (λ (s : State). s.sends ≡ t.sends + 0) t i j (λ _. omega arith) (λ _. omega arith)
sends_step t Idle i j = omega arith
sends_step t Ack i j = omega arith
sends_step t Leave i j = omega arith
sends_step t Announce i j = omega arith
sends_step t Unknown i j = omega arith

-- ---- what closes the run

pub closed_step : (t : State) (k : Kind) (i j : ℕ) → (effect t k i j).closed ≡ (is_announce k || t.closed)
closed_step t Send i j = refl
closed_step t Take i j = take_cases (λ (s : State). s.closed ≡ t.closed) t i j (λ _. refl) (λ _. refl)
closed_step t Idle i j = refl
closed_step t Ack i j = refl
closed_step t Leave i j = refl
closed_step t Announce i j = refl
closed_step t Unknown i j = refl
