-- An announcement is made only by a quiet tree; a quiet tree makes exactly A + 2E acknowledgements and leavings before it.
-- Assumes nothing.
use Prim.Native.Nat.{◌*◌, ◌+◌, ◌<◌, ℕ}
use borrow.Author.Tests.{eqb-false, ne_eqb, not-true}
use lib.ListN.{get_or}
use lib.Seq.{get_or-set_other, get_or-set_same}
use mathlib.Core.Bool.{Bool, cond, false, true}
use mathlib.Core.Logic.{◌≢◌, ◌⊎◌, inl, inr}
use mathlib.Core.Path.{◌∙◌, ◌≡◌, ap, refl, sym}
use native.Mathlib.Decide.{dec_lt, ℕ_discrete}
use native.Mathlib.Omega.{arith}
use Rattle.laws.proofs.Indicators.{sum_lowered, sum_raised}
use Rattle.laws.proofs.Sums.{count_some, count_sum, count_zero, count_zero_at, sum_at, sum_some, sum_zero, sum_zero_at}
use Rattle.laws.proofs.Tests.{both, both_true, false_true, not_eq, split}
use Rattle.tree_rules.proofs.Accepted.{Conclusion, Leaver, Rule, acknowledges, announces, idles, leaves, sends, takes}
use Rattle.tree_rules.proofs.Chains.{leaf, lonely, under_nobody}
use Rattle.tree_rules.proofs.Engages.{engager_16}
use Rattle.tree_rules.proofs.Facts.{Facts, engaged-true, facts, in_acks, in_engager, in_range_lem, root_16, transit_unacked, true-engaged, unacked_engaged}
use Rattle.tree_rules.proofs.Sums.{child_of}
use Rattle.tree_rules.specs.Rules.{Ack, Announce, Idle, Kind, Leave, Send, Take, ack_of, effect, leave_of}
use Rattle.tree_rules.specs.Soundness.{Resting, Sound}
use Rattle.tree_rules.specs.State.{State, acks_at, active_at, children, engager_at, is_child, messages_from, transit_at, unacked_at}
use Rattle.tree_rules.specs.Termination.{Closing, Quiet, acknowledging, acks_total, engaged_others, is_other, leaving, steps_left}
use Rattle.tree_rules.specs.Rules.{Unknown}

-- ---- engaged nodes besides the root

other_true : (t : State) (i : ℕ) → is_other t i ≡ true → (i ≢ t.root) × (engager_at t i ≢ 16)
other_true t i e = let p = both _ _ e in (eqb-false _ _ (not-true _ p.0), engaged-true t i p.1)

true_other : (t : State) (i : ℕ) → i ≢ t.root → engager_at t i ≢ 16 → is_other t i ≡ true
true_other t i a b = both_true (not_eq (ne_eqb _ _ a)) (true-engaged t i b)

false_other : (t : State) (i : ℕ) → (i ≢ t.root → engager_at t i ≡ 16) → is_other t i ≡ false
false_other t i f =
    elim (split (is_other t i)) [
      | inl e ↦ let p = other_true t i e in absurd (p.1 (f p.0))
      | inr e ↦ e
    ]

module _ (t : State) (f : Facts t) where
  -- ---- an announcement

  -- where the root has nothing unacknowledged, no other node is engaged
  pub alone : unacked_at t t.root ≡ 0 → (i : ℕ) → i < 16 → i ≢ t.root → engager_at t i ≡ 16
  alone z i h ne =
      elim (ℕ_discrete (engager_at t i) 16) [
        | yes p ↦ p
        | no q ↦ absurd (ne (lonely t.engager t.root childless_root 16 i (f.chained i h q)))
      ]
    where
      childless_root : (j : ℕ) → j ≢ t.root → engager_at t j ≢ t.root
      childless_root =
          under_nobody t.engager t.root f.shape.engager_places (root_16 t f) f.root_own t.root (root_16 t f)
          (omega (arith, f.balance t.root (root_16 t f)))

  pub at_rest : Conclusion t → (i : ℕ) → i < 16 → Resting t i
  at_rest c i h =
      elim (ℕ_discrete i t.root) [
        | yes p ↦ record { passive = ap (active_at t) p ∙ c.passive; settled = ap (unacked_at t) p ∙ c.settled }
        | no q ↦ f.resting i h (alone c.settled i h q)
      ]

  quiet_by : Conclusion t → Quiet t
  quiet_by c =
      record {
        passive = λ i h. (at_rest c i (in_range_lem t f i h)).passive;
        empty =
            λ i k hi hk.
            omega (arith, transit_unacked t f i k (in_range_lem t f i hi) (in_range_lem t f k hk), (at_rest c i (in_range_lem t f i hi)).settled);
      }

  none_left : Conclusion t → steps_left t ≡ 0
  unfolding steps_left acks_total engaged_others
  none_left c =
      omega (
        arith,
        sum_zero 16 (acks_at t) (λ i h. omega (arith, f.balance i h, (at_rest c i h).settled)),
        count_zero 16 (is_other t) (λ i h. false_other t i (alone c.settled i h)),
      )

  -- ---- an acknowledgement and a leaving take one from what is left

  ack_takes : (i : ℕ) → i < t.n → 0 < acks_at t i → steps_left (ack_of t i) + 1 ≡ steps_left t
  unfolding steps_left acks_total engaged_others
  ack_takes i h has =
      omega (arith, sum_lowered 16 t.acks i (in_acks t f i (in_range_lem t f i h)) (in_range_lem t f i h) has)

  leave_others : (i : ℕ) → i < t.n → Leaver t i → engaged_others (leave_of t i) + 1 ≡ engaged_others t
  unfolding engaged_others
  leave_others i h l =
      let i16 = in_range_lem t f i h in
      omega (
        arith,
        count_sum 16 (is_other t),
        count_sum 16 (is_other (leave_of t i)),
        sum_at 16 i (λ m. cond (is_other t m) 1 0) (λ m. cond (is_other (leave_of t i) m) 1 0) i16 (λ m _ ne. simp (get_or-set_other t.engager i m 16 16 ne)),
        ap (λ (b : Bool). cond {A = ℕ} b 1 0) (true_other t i l.no_root l.engaged),
        ap (λ (b : Bool). cond {A = ℕ} b 1 0) (false_other (leave_of t i) i (λ _. get_or-set_same t.engager i 16 16 (in_engager t f i i16))),
      )

  leave_takes : t.closed ≡ false → (i : ℕ) → i < t.n → Leaver t i → steps_left (leave_of t i) + 1 ≡ steps_left t
  unfolding steps_left acks_total
  leave_takes o i h l =
      omega (
        arith,
        sum_raised 16 t.acks (engager_at t i) (in_acks t f (engager_at t i) (engager_16 t f o i h l)) (engager_16 t f o i h l),
        leave_others i h l,
      )

  -- ---- a quiet tree

  module _ (q : Quiet t) where
    passive_16 : (i : ℕ) → i < 16 → active_at t i ≡ false
    passive_16 i h =
        elim (ℕ_discrete (engager_at t i) 16) [ yes e ↦ (f.resting i h e).passive | no e ↦ q.passive i (f.engagers i h e).0 ]

    nothing_from : (i : ℕ) → i < 16 → messages_from t.transit i ≡ 0
    unfolding messages_from
    nothing_from i h = sum_zero 16 (λ k. get_or t.transit (i * 16 + k) 0) empty
      where
        empty : (k : ℕ) → k < 16 → transit_at t i k ≡ 0
        empty k hk =
            elim (dec_lt 0 (transit_at t i k)) [
              | yes p ↦ let w = f.messages i k h hk p in absurd (omega (arith, q.empty i k w.0 w.1))
              | no z ↦ omega arith
            ]

    -- some acknowledgement is under way: it can be received
    next_ack : 0 < acks_total t → (i : ℕ) × (i < t.n) × (0 < acks_at t i)
    unfolding acks_total
    next_ack h =
        let s = sum_some 16 (acks_at t) h in
        let e : engager_at t s.0 ≢ 16 = unacked_engaged t f s.0 s.1 (omega (arith, f.balance s.0 s.1, s.2)) in
        (s.0, (f.engagers s.0 s.1 e).0, s.2)

    -- none is, and some node besides the root is engaged: one without children can leave
    next_leaver : acks_total t ≡ 0 → 0 < engaged_others t → (i : ℕ) × (i < t.n) × Leaver t i
    unfolding acks_total engaged_others
    next_leaver z h =
        let s = count_some 16 (is_other t) h in
        let o = other_true t s.0 s.2 in
        let l = leaf t.engager t.root f.shape.engager_places (root_16 t f) f.root_own f.chained s.0 s.1 o.1 o.0 in
        let j : ℕ = l.at in (
          j,
          (f.engagers j l.inside l.engaged).0,
          record {
            no_root = l.no_root;
            engaged = l.engaged;
            passive = passive_16 j l.inside;
            settled =
                omega (arith, f.balance j l.inside, nothing_from j l.inside, sum_zero_at 16 j (acks_at t) z l.inside, l.no_children);
          },
        )

    -- nothing is left: the root has nothing unacknowledged
    concludes : steps_left t ≡ 0 → Conclusion t
    unfolding steps_left acks_total engaged_others children
    concludes z =
        let r16 = root_16 t f in
        record {
          passive = q.passive t.root f.root_in;
          settled =
              omega (
                arith,
                f.balance t.root r16,
                nothing_from t.root r16,
                sum_zero_at 16 t.root (acks_at t) (omega arith) r16,
                count_zero 16 (is_child t.root t.engager t.root) (λ i h. no_child_here i (count_zero_at 16 i (is_other t) (omega arith) h)),
              );
        }
      where
        no_child_here : (i : ℕ) → is_other t i ≡ false → is_child t.root t.engager t.root i ≡ false
        no_child_here i e =
            elim (split (is_child t.root t.engager t.root i)) [
              | inl c ↦
                  let p = child_of t.root t.engager t.root i c in
                  absurd (false_true (sym e ∙ true_other t i p.0 (λ w. omega (arith, p.1, root_16 t f))))
              | inr c ↦ c
            ]

-- ---- for a sound tree

pub conclusive_quiet : (t : State) → Sound t → Conclusion t → Quiet t
conclusive_quiet t s c = quiet_by t (facts t s) c

pub conclusive_left : (t : State) → Sound t → Conclusion t → steps_left t ≡ 0
conclusive_left t s c = none_left t (facts t s) c

module _ (t : State) (s : Sound t) (q : Quiet t) where
  -- a quiet tree accepts acknowledgements, leavings and announcements only
  pub quiet_only : (k : Kind) (i j : ℕ) → Rule t i j k → Closing k ⊎ (k ≡ Announce)
  quiet_only Send i j (sends hi hj act lim) = absurd (false_true (sym (q.passive i hi) ∙ act))
  quiet_only Take i j (takes hi hj m) = absurd (omega (arith, q.empty j i hj hi))
  quiet_only Idle i j (idles hi act) = absurd (false_true (sym (q.passive i hi) ∙ act))
  quiet_only Ack i j (acknowledges hi a) = inl acknowledging
  quiet_only Leave i j (leaves hi l) = inl leaving
  quiet_only Announce i j (announces c) = inr refl
  quiet_only Unknown i j x' = elim x' [ ]

  -- an acknowledgement or a leaving keeps it quiet and takes exactly one from what is left
  pub quiet_stays :
      t.closed ≡ false → (k : Kind) (i j : ℕ) → Closing k → Rule t i j k
      → Quiet (effect t k i j) × (steps_left (effect t k i j) + 1 ≡ steps_left t)
  quiet_stays o Ack i j c (acknowledges hi a) = (record { passive = q.passive; empty = q.empty }, ack_takes t (facts t s) i hi a)
  quiet_stays o Leave i j c (leaves hi l) = (record { passive = q.passive; empty = q.empty }, leave_takes t (facts t s) o i hi l)
  quiet_stays o Send i j c _ = elim c [ ]
  quiet_stays o Take i j c _ = elim c [ ]
  quiet_stays o Idle i j c _ = elim c [ ]
  quiet_stays o Announce i j c _ = elim c [ ]
  quiet_stays o Unknown i j c _ = elim c [ ]

  -- while something is left, an acknowledgement or a leaving is allowed
  pub quiet_next : 0 < steps_left t → (k : Kind) × (i : ℕ) × Closing k × Rule t i 0 k
  unfolding steps_left
  quiet_next h =
      elim (dec_lt 0 (acks_total t)) [
        | yes p ↦ let a = next_ack t (facts t s) q p in (Ack, a.0, acknowledging, acknowledges a.1 a.2)
        | no z ↦ let a = next_leaver t (facts t s) q (omega arith) (omega arith) in (Leave, a.0, leaving, leaves a.1 a.2)
      ]

  -- once nothing is left, the announcement is
  pub quiet_last : steps_left t ≡ 0 → Conclusion t
  quiet_last = concludes t (facts t s) q
