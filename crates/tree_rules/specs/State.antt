-- The state of a tree, and what it says of node i.
use Rattle.std.specs.Prelude.{◌*◌, ◌+◌, suc, zero, ℕ, eqb, get_or, Bool, ◌&&◌, false, not, List}
use Rattle.laws.specs.Sums.{count_to, sum_to}

-- Columns have a place for each of 16 nodes, `transit` one for each pair: the messages in transit from i to k stand at i * 16 + k.
-- `engager` is 16 where a node has none; `acks` are the acknowledgements on their way to a node, `sends` the accepted sends.
pub record State : Type 0 where
  pub n : ℕ
  pub root : ℕ
  pub active : List Bool
  pub engager : List ℕ
  pub unacked : List ℕ
  pub transit : List ℕ
  pub acks : List ℕ
  pub sends : ℕ
  pub closed : Bool

abbrev pub active_at : State → ℕ → Bool
active_at t i = get_or t.active i false

abbrev pub engager_at : State → ℕ → ℕ
engager_at t i = get_or t.engager i 16

abbrev pub unacked_at : State → ℕ → ℕ
unacked_at t i = get_or t.unacked i 0

abbrev pub transit_at : State → ℕ → ℕ → ℕ
transit_at t i k = get_or t.transit (i * 16 + k) 0

abbrev pub acks_at : State → ℕ → ℕ
acks_at t i = get_or t.acks i 0

abbrev pub engaged : State → ℕ → Bool
engaged t i = not (eqb (engager_at t i) 16)

-- messages in transit from node i, over all receivers
unfoldable pub messages_from : List ℕ → ℕ → ℕ
messages_from transit i = sum_to 16 (λ k. get_or transit (i * 16 + k) 0)

-- nodes whose engager is j, the root not counted under itself
abbrev pub is_child : ℕ → List ℕ → ℕ → ℕ → Bool
is_child root engager j i = not (eqb i root) && eqb (get_or engager i 16) j

unfoldable pub children : ℕ → List ℕ → ℕ → ℕ
children root engager j = count_to 16 (is_child root engager j)

-- the node that m links of engagers lead to from node i
unfoldable pub climb : List ℕ → ℕ → ℕ → ℕ
climb engager zero i = i
climb engager (suc m) i = climb engager m (get_or engager i 16)
