-- Rules 2 and 5 keep a state sound: engaging a node and leaving keep the tree. Assumes nothing.
use Prim.Native.Nat.{◌*◌, ◌+◌, ◌<◌, ℕ}
use lib.ListN.{get_or, length, length-set, set}
use lib.Seq.{get_or-set_other, get_or-set_same}
use mathlib.Core.Bool.{false, true}
use mathlib.Core.Logic.{◌≢◌}
use mathlib.Core.Path.{◌∙◌, ◌≡◌, ap, sym}
use native.Mathlib.Decide.{ℕ_discrete}
use native.Mathlib.Omega.{arith}
use Rattle.laws.proofs.Indicators.{ind_eq, ind_ne, lowered_at, raised_at, set_here}
use Rattle.tree_rules.proofs.Accepted.{Leaver}
use Rattle.tree_rules.proofs.Chains.{childless, climb_any, climb_engage, climb_leave}
use Rattle.tree_rules.proofs.Facts.{Balanced, Facts, in_acks, in_engager, in_range_lem, in_transit, root_16, sender_engaged, still_open, take_cases}
use Rattle.tree_rules.proofs.Sums.{children-set, from_lowered}
use Rattle.tree_rules.specs.Rules.{engage_of, leave_of, reply_of, take_of}
use Rattle.tree_rules.specs.Soundness.{Resting}
use Rattle.tree_rules.specs.State.{State, acks_at, active_at, climb, engager_at, transit_at, unacked_at}

module _ (t : State) (f : Facts t) (running : t.closed ≡ false) where
  -- ---- rule 2

  module _ (i k : ℕ) (hi : i < t.n) (hk : k < t.n) (has : 0 < transit_at t k i) where
    i16 : i < 16
    i16 = in_range_lem t f i hi

    k16 : k < 16
    k16 = in_range_lem t f k hk

    pair : k * 16 + i < length t.transit
    pair = in_transit t f k i k16 i16

    fewer : (a b : ℕ) → a < 16 → b < 16 → 0 < transit_at (engage_of t i k) a b → (a < t.n) × (b < t.n)
    fewer a b ha hb p = f.messages a b ha hb (omega (arith, lowered_at t.transit (k * 16 + i) (a * 16 + b) pair has))

    -- i has no engager: it is not the root, and its sender is engaged
    module _ (free : engager_at t i ≡ 16) where
      not_root : i ≢ t.root
      not_root p = omega (arith, f.root_own, ap (engager_at t) p, root_16 t f)

      engage_balance : (m : ℕ) → m < 16 → Balanced (engage_of t i k) m
      engage_balance m hm =
          omega (
            arith,
            f.balance m hm,
            from_lowered t.transit k i m pair i16 has,
            children-set t.root t.engager i k m (in_engager t f i i16) i16 not_root,
            ind_ne m (engager_at t i) (omega arith),
          )

      sender : engager_at t k ≢ 16
      sender = sender_engaged t f k i k16 i16 has

      size : length (set t.engager i k) ≡ 16
      size = length-set t.engager i k ∙ f.shape.engager_places

      own : get_or (set t.engager i k) t.root 16 ≡ t.root
      own = get_or-set_other t.engager i t.root k 16 (λ p. not_root (sym p)) ∙ f.root_own

      old_chain : (m : ℕ) → m < 16 → engager_at t m ≢ 16 → climb (set t.engager i k) 16 m ≡ t.root
      old_chain m hm em =
          climb_engage t.engager t.root f.shape.engager_places (root_16 t f) f.root_own i k free 16 m (f.chained m hm em)

      new_chain : climb (set t.engager i k) 17 i ≡ t.root
      unfolding climb
      new_chain = ap (climb (set t.engager i k) 16) (get_or-set_same t.engager i k 16 (in_engager t f i i16)) ∙ old_chain k k16 sender

      engage_chained : (m : ℕ) → m < 16 → engager_at (engage_of t i k) m ≢ 16 → climb (set t.engager i k) 16 m ≡ t.root
      engage_chained m hm e =
          elim (ℕ_discrete m i) [
            | yes p ↦ climb_any (set t.engager i k) t.root size (root_16 t f) own 17 m (ap (climb (set t.engager i k) 17) p ∙ new_chain)
            | no q ↦ old_chain m hm (λ z. e (get_or-set_other t.engager i m k 16 q ∙ z))
          ]

      engage_engagers : (m : ℕ) → m < 16 → engager_at (engage_of t i k) m ≢ 16 → (m < t.n) × (engager_at (engage_of t i k) m < t.n)
      engage_engagers m hm e =
          elim (ℕ_discrete m i) [
            | yes p ↦ omega (arith, set_here t.engager i m k 16 (in_engager t f i i16) p)
            | no q ↦
                let v = get_or-set_other t.engager i m k 16 q in
                omega (arith, v, f.engagers m hm (λ z. e (v ∙ z)))
          ]

      engage_resting : (m : ℕ) → m < 16 → engager_at (engage_of t i k) m ≡ 16 → Resting (engage_of t i k) m
      engage_resting m hm e =
          elim (ℕ_discrete m i) [
            | yes p ↦ absurd (omega (arith, set_here t.engager i m k 16 (in_engager t f i i16) p))
            | no q ↦
                let r = f.resting m hm (sym (get_or-set_other t.engager i m k 16 q) ∙ e) in
                record { passive = get_or-set_other t.active i m true false q ∙ r.passive; settled = r.settled }
          ]

      engage_keeps : Facts (engage_of t i k)
      engage_keeps =
          record {
            shape =
                record {
                  active_places = length-set t.active i true ∙ f.shape.active_places;
                  engager_places = size;
                  unacked_places = f.shape.unacked_places;
                  transit_places = length-set t.transit (k * 16 + i) _ ∙ f.shape.transit_places;
                  acks_places = f.shape.acks_places;
                };
            nodes = f.nodes;
            root_in = f.root_in;
            root_own = own;
            engagers = engage_engagers;
            chained = engage_chained;
            balance = engage_balance;
            resting = engage_resting;
            messages = fewer;
            spent = f.spent;
            limit = f.limit;
            announced = still_open t running;
          }

    -- i has an engager

    -- the acknowledgements on their way to k then
    abbrev replied : ℕ
    replied = acks_at t k + 1

    reply_balance : (m : ℕ) → m < 16 → Balanced (reply_of t i k) m
    reply_balance m hm =
        let less = from_lowered t.transit k i m pair i16 has in
        elim (ℕ_discrete m k) [
          | yes e ↦ omega (arith, f.balance m hm, less, set_here t.acks k m replied 0 (in_acks t f k k16) e, ap (acks_at t) e, ind_eq m k e)
          | no e ↦ omega (arith, f.balance m hm, less, get_or-set_other t.acks k m replied 0 e, ind_ne m k e)
        ]

    reply_keeps : engager_at t i ≢ 16 → Facts (reply_of t i k)
    reply_keeps busy =
        record {
          shape =
              record {
                active_places = length-set t.active i true ∙ f.shape.active_places;
                engager_places = f.shape.engager_places;
                unacked_places = f.shape.unacked_places;
                transit_places = length-set t.transit (k * 16 + i) _ ∙ f.shape.transit_places;
                acks_places = length-set t.acks k _ ∙ f.shape.acks_places;
              };
          nodes = f.nodes;
          root_in = f.root_in;
          root_own = f.root_own;
          engagers = f.engagers;
          chained = f.chained;
          balance = reply_balance;
          resting =
              λ m hm e.
              record {
                passive =
                    get_or-set_other t.active i m true false (λ p. busy (ap (engager_at t) (sym p) ∙ e)) ∙ (f.resting m hm e).passive;
                settled = (f.resting m hm e).settled;
              };
          messages = fewer;
          spent = f.spent;
          limit = f.limit;
          announced = still_open t running;
        }

    pub take_keeps : Facts (take_of t i k)
    take_keeps = take_cases Facts t i k engage_keeps reply_keeps

  -- ---- rule 5

  module _ (i : ℕ) (hi : i < t.n) (l : Leaver t i) where
    l16 : i < 16
    l16 = in_range_lem t f i hi

    pub engager_16 : engager_at t i < 16
    engager_16 = omega (arith, (f.engagers i l16 l.engaged).1, f.nodes)

    leave_balance : (m : ℕ) → m < 16 → Balanced (leave_of t i) m
    leave_balance m hm =
        omega (
          arith,
          f.balance m hm,
          raised_at t.acks (engager_at t i) m (in_acks t f (engager_at t i) engager_16),
          children-set t.root t.engager i 16 m (in_engager t f i l16) l16 l.no_root,
          ind_ne m 16 (omega arith),
        )

    -- nobody has i for an engager
    alone : (j : ℕ) → engager_at t j ≢ i
    alone =
        childless t.engager t.root f.shape.engager_places (root_16 t f) f.root_own i l16 l.no_root
        (omega (arith, f.balance i l16, l.settled))

    leave_engagers : (m : ℕ) → m < 16 → engager_at (leave_of t i) m ≢ 16 → (m < t.n) × (engager_at (leave_of t i) m < t.n)
    leave_engagers m hm e =
        elim (ℕ_discrete m i) [
          | yes p ↦ absurd (e (set_here t.engager i m 16 16 (in_engager t f i l16) p))
          | no q ↦
              let v = get_or-set_other t.engager i m 16 16 q in
              omega (arith, v, f.engagers m hm (λ z. e (v ∙ z)))
        ]

    leave_chained : (m : ℕ) → m < 16 → engager_at (leave_of t i) m ≢ 16 → climb (leave_of t i).engager 16 m ≡ t.root
    leave_chained m hm e =
        elim (ℕ_discrete m i) [
          | yes p ↦ absurd (e (set_here t.engager i m 16 16 (in_engager t f i l16) p))
          | no q ↦
              climb_leave t.engager t.root f.shape.engager_places (root_16 t f) f.root_own i alone 16 m q
              ∙ f.chained m hm (λ z. e (get_or-set_other t.engager i m 16 16 q ∙ z))
        ]

    leave_resting : (m : ℕ) → m < 16 → engager_at (leave_of t i) m ≡ 16 → Resting (leave_of t i) m
    leave_resting m hm e =
        elim (ℕ_discrete m i) [
          | yes p ↦ record { passive = ap (active_at t) p ∙ l.passive; settled = ap (unacked_at t) p ∙ l.settled }
          | no q ↦
              let r = f.resting m hm (sym (get_or-set_other t.engager i m 16 16 q) ∙ e) in
              record { passive = r.passive; settled = r.settled }
        ]

    pub leave_keeps : Facts (leave_of t i)
    leave_keeps =
        record {
          shape =
              record {
                active_places = f.shape.active_places;
                engager_places = length-set t.engager i _ ∙ f.shape.engager_places;
                unacked_places = f.shape.unacked_places;
                transit_places = f.shape.transit_places;
                acks_places = length-set t.acks (engager_at t i) _ ∙ f.shape.acks_places;
              };
          nodes = f.nodes;
          root_in = f.root_in;
          root_own = get_or-set_other t.engager i t.root _ 16 (λ p. l.no_root (sym p)) ∙ f.root_own;
          engagers = leave_engagers;
          chained = leave_chained;
          balance = leave_balance;
          resting = leave_resting;
          messages = f.messages;
          spent = f.spent;
          limit = f.limit;
          announced = still_open t running;
        }
