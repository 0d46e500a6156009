-- Every accepted step of a sound state gives a sound state: the invariants of Dijkstra and Scholten. Assumes nothing.
use Prim.Native.Nat.{◌*◌, ◌+◌, ◌<◌, ℕ}
use lib.ListN.{length-set}
use lib.Seq.{get_or-set_other}
use mathlib.Core.Bool.{false, true}
use mathlib.Core.Path.{◌∙◌, ◌≡◌, ap, sym}
use native.Mathlib.Decide.{ℕ_discrete}
use native.Mathlib.Omega.{arith}
use Rattle.laws.proofs.Indicators.{ind, ind_ne, lowered_at, raised_at, set_here, sum_lowered, sum_raised}
use Rattle.tree_rules.proofs.Accepted.{Conclusion, Rule, acknowledges, announces, idles, leaves, sends, takes, true-conclusive}
use Rattle.tree_rules.proofs.Engages.{leave_keeps, take_keeps}
use Rattle.tree_rules.proofs.Facts.{Balanced, Facts, active_engaged, facts, in_acks, in_range_lem, in_transit, in_unacked, sound, still_open}
use Rattle.tree_rules.proofs.Sums.{from_raised}
use Rattle.tree_rules.specs.Rules.{Ack, Announce, Idle, Kind, Leave, Send, Take, ack_of, announce_of, effect, idle_of, send_of}
use Rattle.tree_rules.specs.Soundness.{Sound}
use Rattle.refusal.specs.Table.{send_limit}
use Rattle.tree_rules.specs.State.{State, acks_at, active_at, engager_at, unacked_at}
use Rattle.tree_rules.specs.Rules.{Unknown}

module _ (t : State) (f : Facts t) (running : t.closed ≡ false) where
  -- ---- rule 1

  send_balance : (i j : ℕ) → i < t.n → j < t.n → (m : ℕ) → m < 16 → Balanced (send_of t i j) m
  send_balance i j hi hj m hm =
      let i16 : i < 16 = in_range_lem t f i hi in
      let j16 : j < 16 = in_range_lem t f j hj in
      omega
      (arith, f.balance m hm, raised_at t.unacked i m (in_unacked t f i i16), from_raised t.transit i j m (in_transit t f i j i16 j16) j16)

  send_keeps : (i j : ℕ) → i < t.n → j < t.n → active_at t i ≡ true → t.sends < send_limit → Facts (send_of t i j)
  send_keeps i j hi hj act few =
      let i16 : i < 16 = in_range_lem t f i hi in
      let j16 : j < 16 = in_range_lem t f j hj in
      let pair = in_transit t f i j i16 j16 in
      record {
        shape =
            record {
              active_places = f.shape.active_places;
              engager_places = f.shape.engager_places;
              unacked_places = length-set t.unacked i _ ∙ f.shape.unacked_places;
              transit_places = length-set t.transit (i * 16 + j) _ ∙ f.shape.transit_places;
              acks_places = f.shape.acks_places;
            };
        nodes = f.nodes;
        root_in = f.root_in;
        root_own = f.root_own;
        engagers = f.engagers;
        chained = f.chained;
        balance = send_balance i j hi hj;
        resting =
            λ m hm e.
            record {
              passive = (f.resting m hm e).passive;
              settled =
                  get_or-set_other t.unacked i m _ 0 (λ p. active_engaged t f i i16 act (ap (engager_at t) (sym p) ∙ e)) ∙ (f.resting m hm e).settled;
            };
        messages =
            λ a b ha hb has.
            elim (ℕ_discrete (a * 16 + b) (i * 16 + j)) [
              | yes p ↦ omega arith
              | no q ↦ f.messages a b ha hb (omega (arith, raised_at t.transit (i * 16 + j) (a * 16 + b) pair, ind_ne _ _ q))
            ];
        spent = omega (arith, f.spent, sum_raised 16 t.unacked i (in_unacked t f i i16) i16);
        limit = omega arith;
        announced = still_open t running;
      }

  -- ---- rule 3

  idle_keeps : (i : ℕ) → i < t.n → Facts (idle_of t i)
  idle_keeps i hi =
      record {
        shape =
            record {
              active_places = length-set t.active i false ∙ f.shape.active_places;
              engager_places = f.shape.engager_places;
              unacked_places = f.shape.unacked_places;
              transit_places = f.shape.transit_places;
              acks_places = f.shape.acks_places;
            };
        nodes = f.nodes;
        root_in = f.root_in;
        root_own = f.root_own;
        engagers = f.engagers;
        chained = f.chained;
        balance = f.balance;
        resting = λ m hm e. record { passive = idle_at m (f.resting m hm e).passive; settled = (f.resting m hm e).settled };
        messages = f.messages;
        spent = f.spent;
        limit = f.limit;
        announced = still_open t running;
      }
    where
      idle_at : (m : ℕ) → active_at t m ≡ false → active_at (idle_of t i) m ≡ false
      idle_at m e =
          elim (ℕ_discrete m i) [
            | yes p ↦ set_here t.active i m false false (omega (arith, f.shape.active_places, f.nodes)) p
            | no q ↦ get_or-set_other t.active i m false false q ∙ e
          ]

  -- ---- rule 4

  owed : (i : ℕ) → i < 16 → 0 < acks_at t i → 0 < unacked_at t i
  owed i h has = omega (arith, f.balance i h)

  ack_balance : (i : ℕ) → i < t.n → 0 < acks_at t i → (m : ℕ) → m < 16 → Balanced (ack_of t i) m
  ack_balance i hi has m hm =
      let i16 : i < 16 = in_range_lem t f i hi in
      omega
      (arith, f.balance m hm, lowered_at t.acks i m (in_acks t f i i16) has, lowered_at t.unacked i m (in_unacked t f i i16) (owed i i16 has))

  ack_keeps : (i : ℕ) → i < t.n → 0 < acks_at t i → Facts (ack_of t i)
  ack_keeps i hi has =
      let i16 : i < 16 = in_range_lem t f i hi in
      let lower : (m : ℕ) → unacked_at (ack_of t i) m + ind m i ≡ unacked_at t m =
      λ m. lowered_at t.unacked i m (in_unacked t f i i16) (owed i i16 has) in
      record {
        shape =
            record {
              active_places = f.shape.active_places;
              engager_places = f.shape.engager_places;
              unacked_places = length-set t.unacked i _ ∙ f.shape.unacked_places;
              transit_places = f.shape.transit_places;
              acks_places = length-set t.acks i _ ∙ f.shape.acks_places;
            };
        nodes = f.nodes;
        root_in = f.root_in;
        root_own = f.root_own;
        engagers = f.engagers;
        chained = f.chained;
        balance = ack_balance i hi has;
        resting =
            λ m hm e.
            record { passive = (f.resting m hm e).passive; settled = omega (arith, (f.resting m hm e).settled, lower m) };
        messages = f.messages;
        spent = omega (arith, f.spent, sum_lowered 16 t.unacked i (in_unacked t f i i16) i16 (owed i i16 has));
        limit = f.limit;
        announced = still_open t running;
      }

  -- ---- rule 6

  announce_keeps : Conclusion t → Facts (announce_of t)
  announce_keeps c =
      record {
        shape =
            record {
              active_places = f.shape.active_places;
              engager_places = f.shape.engager_places;
              unacked_places = f.shape.unacked_places;
              transit_places = f.shape.transit_places;
              acks_places = f.shape.acks_places;
            };
        nodes = f.nodes;
        root_in = f.root_in;
        root_own = f.root_own;
        engagers = f.engagers;
        chained = f.chained;
        balance = f.balance;
        resting = λ m hm e. record { passive = (f.resting m hm e).passive; settled = (f.resting m hm e).settled };
        messages = f.messages;
        spent = f.spent;
        limit = f.limit;
        announced = λ _. true-conclusive (announce_of t) (record { passive = c.passive; settled = c.settled });
      }

  keeps_facts : (k : Kind) (i j : ℕ) → Rule t i j k → Facts (effect t k i j)
  keeps_facts Send i j (sends hi hj act lim) = send_keeps i j hi hj act lim
  keeps_facts Take i j (takes hi hj m) = take_keeps t f running i j hi hj m
  keeps_facts Idle i j (idles hi act) = idle_keeps i hi
  keeps_facts Ack i j (acknowledges hi a) = ack_keeps i hi a
  keeps_facts Leave i j (leaves hi l) = leave_keeps t f running i hi l
  keeps_facts Announce i j (announces c) = announce_keeps c
  keeps_facts Unknown i j x' = elim x' [ ]

-- an accepted step of an open state gives a sound state
pub keeps : (t : State) → Sound t → t.closed ≡ false → (k : Kind) (i j : ℕ) → Rule t i j k → Sound (effect t k i j)
keeps t s running k i j r = sound (effect t k i j) (keeps_facts t (facts t s) running k i j r)
