-- Soundness in the form that the proofs use: each fact over all 16 places, "only if" as an implication. It says no more and no less.
-- Assumes nothing.
use Prim.Native.Nat.{◌*◌, ◌+◌, ◌<◌, ◌≤◌, ℕ}
use borrow.Author.Tests.{eq-eqb, eqb-false, eqb-true, ne_eqb, not-false, not-true}
use lib.ListN.{get_or, length}
use mathlib.Core.Bool.{Bool, cond, false, not, true}
use mathlib.Core.Logic.{◌≢◌, ◌⊎◌, inl, inr}
use mathlib.Core.Path.{◌∙◌, ◌≡◌, ap, sym}
use native.Mathlib.Decide.{dec_lt, ℕ_discrete}
use native.Mathlib.Omega.{arith}
use Rattle.laws.proofs.Sums.{count_zero, sum_term, sum_zero}
use Rattle.laws.proofs.Tests.{false_true, not_eq}
use Rattle.laws.specs.Sums.{sum_to}
use Rattle.tree_rules.proofs.Chains.{climb_any}
use Rattle.tree_rules.proofs.Sums.{no_child}
use Rattle.tree_rules.specs.Rules.{conclusive, engage_of, reply_of, take_of}
use Rattle.tree_rules.specs.Soundness.{Resting, Shape, Sound, Unused}
use Rattle.refusal.specs.Table.{send_limit}
use Rattle.tree_rules.specs.State.{State, acks_at, active_at, children, climb, engaged, engager_at, is_child, messages_from, transit_at, unacked_at}

-- unacked of j is made up of its messages, its acknowledgements and the nodes under it
abbrev pub Balanced : State → ℕ → Type 0
Balanced t j = unacked_at t j ≡ messages_from t.transit j + acks_at t j + children t.root t.engager j

pub record Facts (t : State) : Type 0 where
  pub shape : Shape t
  pub nodes : t.n ≤ 16
  pub root_in : t.root < t.n
  pub root_own : engager_at t t.root ≡ t.root
  pub engagers : (i : ℕ) → i < 16 → engager_at t i ≢ 16 → (i < t.n) × (engager_at t i < t.n)
  pub chained : (i : ℕ) → i < 16 → engager_at t i ≢ 16 → climb t.engager 16 i ≡ t.root
  pub balance : (j : ℕ) → j < 16 → Balanced t j
  pub resting : (i : ℕ) → i < 16 → engager_at t i ≡ 16 → Resting t i
  pub messages : (i k : ℕ) → i < 16 → k < 16 → 0 < transit_at t i k → (i < t.n) × (k < t.n)
  pub spent : sum_to 16 (unacked_at t) ≤ t.sends
  pub limit : t.sends ≤ send_limit
  pub announced : t.closed ≡ true → conclusive t ≡ true

pub engaged-true : (t : State) (i : ℕ) → engaged t i ≡ true → engager_at t i ≢ 16
engaged-true t i e = eqb-false _ _ (not-true _ e)

pub true-engaged : (t : State) (i : ℕ) → engager_at t i ≢ 16 → engaged t i ≡ true
true-engaged t i e = not_eq (ne_eqb (engager_at t i) 16 e)

pub engaged-false : (t : State) (i : ℕ) → engaged t i ≡ false → engager_at t i ≡ 16
engaged-false t i e = eqb-true _ _ (not-false _ e)

pub false-engaged : (t : State) (i : ℕ) → engager_at t i ≡ 16 → engaged t i ≡ false
false-engaged t i e = ap not (eq-eqb (engager_at t i) 16 e)

-- ---- from soundness

module _ (t : State) (s : Sound t) where
  place : (i : ℕ) → i < 16 → (i < t.n) ⊎ Unused t i
  place i h = elim (dec_lt i t.n) [ yes p ↦ inl p | no q ↦ inr (s.unused i (omega arith) h) ]

  node : (i : ℕ) → i < 16 → engager_at t i ≢ 16 → i < t.n
  node i h e = elim (place i h) [ inl p ↦ p | inr u ↦ absurd (e u.no_engager) ]

  engager_node : (i : ℕ) → i < 16 → engager_at t i ≢ 16 → engager_at t i < t.n
  engager_node i h e = elim (s.engagers i (node i h e)) [ inl p ↦ p | inr q ↦ absurd (e q) ]

  -- an unused place is nobody's engager
  no_engager_of : (j : ℕ) → t.n ≤ j → j < 16 → (i : ℕ) → i < 16 → engager_at t i ≢ j
  no_engager_of j lo hj i h e = let q : engager_at t i < t.n = engager_node i h (omega arith) in omega arith

  empty_balance : (j : ℕ) → t.n ≤ j → j < 16 → Unused t j → Balanced t j
  unfolding messages_from children
  empty_balance j lo hj u =
      omega (
        arith,
        u.no_unacked,
        u.no_acks,
        sum_zero 16 (λ k. get_or t.transit (j * 16 + k) 0) (λ k hk. (u.no_messages k hk).0),
        count_zero 16 (is_child t.root t.engager j) (λ i h. no_child t.root t.engager j i (no_engager_of j lo hj i h)),
      )

  message_nodes : (i k : ℕ) → i < 16 → k < 16 → 0 < transit_at t i k → (i < t.n) × (k < t.n)
  message_nodes i k hi hk has =
      let hi' : i < t.n = elim (place i hi) [ inl p ↦ p | inr u ↦ absurd (omega (arith, (u.no_messages k hk).0)) ] in
      let hk' : k < t.n = elim (place k hk) [ inl p ↦ p | inr u ↦ absurd (omega (arith, (u.no_messages i hi).1)) ] in
      (hi', hk')

  pub facts : Facts t
  facts =
      record {
        shape = s.shape;
        nodes = s.nodes;
        root_in = s.root_in;
        root_own = s.root_own;
        engagers = λ i h e. (node i h e, engager_node i h e);
        chained =
            λ i h e.
            let c = s.chains i (node i h e) (true-engaged t i e) in
            climb_any t.engager t.root s.shape.engager_places (omega (arith, s.root_in, s.nodes)) s.root_own c.0 i c.1;
        balance = λ j h. elim (dec_lt j t.n) [ yes p ↦ s.balance j p | no q ↦ empty_balance j (omega arith) h (s.unused j (omega arith) h) ];
        resting =
            λ i h e.
            elim (place i h) [
              | inl p ↦ s.resting i p (false-engaged t i e)
              | inr u ↦ record { passive = u.passive; settled = u.no_unacked }
            ];
        messages = message_nodes;
        spent = s.spent;
        limit = s.limit;
        announced = s.announced;
      }

-- ---- to soundness

module _ (t : State) (f : Facts t) where
  pub in_range_lem : (i : ℕ) → i < t.n → i < 16
  in_range_lem i h = omega (arith, f.nodes)

  pub root_16 : t.root < 16
  root_16 = in_range_lem t.root f.root_in

  pub active_engaged : (i : ℕ) → i < 16 → active_at t i ≡ true → engager_at t i ≢ 16
  active_engaged i h a e = false_true (sym (f.resting i h e).passive ∙ a)

  pub unacked_engaged : (i : ℕ) → i < 16 → 0 < unacked_at t i → engager_at t i ≢ 16
  unacked_engaged i h p e = omega (arith, (f.resting i h e).settled)

  pub in_unacked : (i : ℕ) → i < 16 → i < length t.unacked
  in_unacked i h = omega (arith, f.shape.unacked_places)

  pub in_engager : (i : ℕ) → i < 16 → i < length t.engager
  in_engager i h = omega (arith, f.shape.engager_places)

  pub in_acks : (i : ℕ) → i < 16 → i < length t.acks
  in_acks i h = omega (arith, f.shape.acks_places)

  pub in_transit : (i k : ℕ) → i < 16 → k < 16 → i * 16 + k < length t.transit
  in_transit i k hi hk = omega (arith, f.shape.transit_places)

  -- whoever has a message in transit has it unacknowledged
  pub transit_unacked : (i k : ℕ) → i < 16 → k < 16 → transit_at t i k ≤ unacked_at t i
  unfolding messages_from
  transit_unacked i k hi hk = omega (arith, f.balance i hi, sum_term 16 k (λ x. get_or t.transit (i * 16 + x) 0) hk)

  -- so it is engaged
  pub sender_engaged : (i k : ℕ) → i < 16 → k < 16 → 0 < transit_at t i k → engager_at t i ≢ 16
  sender_engaged i k hi hk has = unacked_engaged i hi (omega (arith, transit_unacked i k hi hk))

  unused_place : (i : ℕ) → t.n ≤ i → i < 16 → Unused t i
  unused_place i lo h =
      let free : engager_at t i ≡ 16 =
      elim (ℕ_discrete (engager_at t i) 16) [ yes e ↦ e | no e ↦ absurd (omega (arith, (f.engagers i h e).0)) ] in
      let r = f.resting i h free in
      record {
        passive = r.passive;
        no_engager = free;
        no_unacked = r.settled;
        no_acks = omega (arith, f.balance i h, r.settled);
        no_messages = λ k hk. (
          omega (arith, transit_unacked i k h hk, r.settled),
          elim (dec_lt 0 (transit_at t k i)) [ yes p ↦ absurd (omega (arith, (f.messages k i hk h p).1)) | no q ↦ omega arith ],
        );
      }

  engager_of : (i : ℕ) → i < t.n → (engager_at t i < t.n) ⊎ (engager_at t i ≡ 16)
  engager_of i h =
      elim (ℕ_discrete (engager_at t i) 16) [ yes e ↦ inr e | no e ↦ inl (f.engagers i (in_range_lem i h) e).1 ]

  pub sound : Sound t
  sound =
      record {
        shape = f.shape;
        chains = λ i h e. (16, f.chained i (in_range_lem i h) (engaged-true t i e));
        balance = λ j h. f.balance j (in_range_lem j h);
        resting = λ i h e. f.resting i (in_range_lem i h) (engaged-false t i e);
        spent = f.spent;
        limit = f.limit;
        unused = unused_place;
        some_node = omega (arith, f.root_in);
        nodes = f.nodes;
        root_in = f.root_in;
        engagers = engager_of;
        root_own = f.root_own;
        announced = f.announced;
      }

-- a state that is not closed owes no announce test
pub still_open {ℓ} : {A : Type ℓ} (t : State) → t.closed ≡ false → t.closed ≡ true → A
still_open t o c = absurd (false_true (sym o ∙ c))

-- a take, by its two cases
pub take_cases :
    (P : State → Type 0) (t : State) (i k : ℕ) → (engager_at t i ≡ 16 → P (engage_of t i k)) → (engager_at t i ≢ 16 → P (reply_of t i k))
    → P (take_of t i k)
take_cases P t i k f g =
    elim (ℕ_discrete (engager_at t i) 16) [
      | yes e ↦ rw (false-engaged t i e) (f e)
      | no e ↦ rw (true-engaged t i e) (g e)
    ]

pub take_engages : (t : State) (i k : ℕ) → engager_at t i ≡ 16 → engage_of t i k ≡ take_of t i k
take_engages t i k e = sym (ap (λ (b : Bool). cond b (reply_of t i k) (engage_of t i k)) (false-engaged t i e))

pub take_replies : (t : State) (i k : ℕ) → engager_at t i ≢ 16 → reply_of t i k ≡ take_of t i k
take_replies t i k e = sym (ap (λ (b : Bool). cond b (reply_of t i k) (engage_of t i k)) (true-engaged t i e))
