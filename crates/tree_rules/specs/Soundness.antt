-- Soundness, which every state has that a start and steps lead to: as facts, and as the test that code computes.
use Rattle.std.specs.Prelude.{◌+◌, ◌<◌, ◌≤◌, ℕ, eqb, leb, ltb, length, Bool, ◌&&◌, ◌||◌, false, not, true, ◌⊎◌, ◌≡◌}
use Rattle.laws.specs.Places.{all_to}
use Rattle.laws.specs.Sums.{sum_to}
use Rattle.refusal.specs.Table.{send_limit}
use Rattle.tree_rules.specs.Rules.{conclusive}
use Rattle.tree_rules.specs.State.{State, acks_at, active_at, children, climb, engaged, engager_at, messages_from, transit_at, unacked_at}

-- ---- as facts

-- the columns' lengths, which the state's type fixes
pub record Shape (t : State) : Type 0 where
  pub active_places : length t.active ≡ 16
  pub engager_places : length t.engager ≡ 16
  pub unacked_places : length t.unacked ≡ 16
  pub transit_places : length t.transit ≡ 256
  pub acks_places : length t.acks ≡ 16

-- node i's chain of engagers reaches the root: some number of links leads there
abbrev pub Chained : State → ℕ → Type 0
Chained t i = (m : ℕ) × (climb t.engager m i ≡ t.root)

-- a node without engager
pub record Resting (t : State) (i : ℕ) : Type 0 where
  pub passive : active_at t i ≡ false
  pub settled : unacked_at t i ≡ 0

-- a place that no node uses: empty, and its engager 16
pub record Unused (t : State) (i : ℕ) : Type 0 where
  pub passive : active_at t i ≡ false
  pub no_engager : engager_at t i ≡ 16
  pub no_unacked : unacked_at t i ≡ 0
  pub no_acks : acks_at t i ≡ 0
  pub no_messages : (k : ℕ) → k < 16 → (transit_at t i k ≡ 0) × (transit_at t k i ≡ 0)

pub record Sound (t : State) : Type 0 where
  pub shape : Shape t
  pub chains : (i : ℕ) → i < t.n → engaged t i ≡ true → Chained t i
  pub balance : (j : ℕ) → j < t.n → unacked_at t j ≡ messages_from t.transit j + acks_at t j + children t.root t.engager j
  pub resting : (i : ℕ) → i < t.n → engaged t i ≡ false → Resting t i
  pub spent : sum_to 16 (unacked_at t) ≤ t.sends
  pub limit : t.sends ≤ send_limit
  pub unused : (i : ℕ) → t.n ≤ i → i < 16 → Unused t i
  pub some_node : 0 < t.n
  pub nodes : t.n ≤ 16
  pub root_in : t.root < t.n
  pub engagers : (i : ℕ) → i < t.n → (engager_at t i < t.n) ⊎ (engager_at t i ≡ 16)
  pub root_own : engager_at t t.root ≡ t.root
  pub announced : t.closed ≡ true → conclusive t ≡ true

-- a sound state whose run is not closed
pub record Open (t : State) : Type 0 where
  pub sound : Sound t
  pub running : t.closed ≡ false

-- ---- as a test, over all 16 places

unfoldable pub shape_test : State → Bool
shape_test t =
    eqb (length t.active) 16
    && (eqb (length t.engager) 16
    && (eqb (length t.unacked) 16 && (eqb (length t.transit) 256 && eqb (length t.acks) 16)))

unfoldable pub range_test : State → Bool
range_test t = leb t.n 16 && (ltb t.root t.n && eqb (engager_at t t.root) t.root)

-- an engaged node and its engager are nodes
unfoldable pub engager_test : State → ℕ → Bool
engager_test t i = not (engaged t i) || (ltb i t.n && ltb (engager_at t i) t.n)

-- the root is its own engager, so 16 links lead to it where any number does
unfoldable pub chain_test : State → ℕ → Bool
chain_test t i = not (engaged t i) || eqb (climb t.engager 16 i) t.root

unfoldable pub balance_test : State → ℕ → Bool
balance_test t j = eqb (unacked_at t j) (messages_from t.transit j + acks_at t j + children t.root t.engager j)

unfoldable pub rest_test : State → ℕ → Bool
rest_test t i = engaged t i || (not (active_at t i) && eqb (unacked_at t i) 0)

-- a message is in transit only from a node to a node, itself or another
unfoldable pub pair_test : State → ℕ → ℕ → Bool
pair_test t i k = eqb (transit_at t i k) 0 || (ltb i t.n && ltb k t.n)

unfoldable pub place_test : State → ℕ → Bool
place_test t i = engager_test t i && (chain_test t i && (balance_test t i && (rest_test t i && all_to 16 (pair_test t i))))

unfoldable pub limit_test : State → Bool
limit_test t = leb (sum_to 16 (unacked_at t)) t.sends && leb t.sends send_limit

unfoldable pub closed_test : State → Bool
closed_test t = not t.closed || conclusive t

unfoldable pub sound_test : State → Bool
sound_test t = shape_test t && (range_test t && (all_to 16 (place_test t) && (limit_test t && closed_test t)))
