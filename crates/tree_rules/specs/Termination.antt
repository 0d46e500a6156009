-- A terminated tree, here called quiet, and the acknowledgements and leavings that are left until the announcement.
use Rattle.std.specs.Prelude.{◌*◌, ◌+◌, ◌<◌, ℕ, eqb, Bool, ◌&&◌, false, not, ◌≡◌}
use Rattle.laws.specs.Sums.{count_to, sum_to}
use Rattle.tree_rules.specs.Rules.{Ack, Kind, Leave}
use Rattle.tree_rules.specs.State.{State, acks_at, active_at, engaged, transit_at}

-- every node is passive and no message is in transit
pub record Quiet (t : State) : Type 0 where
  pub passive : (i : ℕ) → i < t.n → active_at t i ≡ false
  pub empty : (i k : ℕ) → i < t.n → k < t.n → transit_at t i k ≡ 0

-- A: acknowledgements under way
unfoldable pub acks_total : State → ℕ
acks_total t = sum_to 16 (acks_at t)

-- E: engaged nodes besides the root
abbrev pub is_other : State → ℕ → Bool
is_other t i = not (eqb i t.root) && engaged t i

unfoldable pub engaged_others : State → ℕ
engaged_others t = count_to 16 (is_other t)

-- A + 2E
unfoldable pub steps_left : State → ℕ
steps_left t = acks_total t + 2 * engaged_others t

-- the steps that a quiet tree waits for: acknowledgements and leavings
pub data Closing : Kind → Type 0 where
  acknowledging : Closing Ack
  leaving : Closing Leave
