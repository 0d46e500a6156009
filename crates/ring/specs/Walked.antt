-- What the walk tells of the nodes 0 to n - 1, the token at pos.
use Rattle.std.specs.Prelude.{Bool, List, ◌≡◌, ℕ, suc, ◌-◌, ◌*◌, ◌≤◌, ◌^◌}
use Rattle.laws.specs.Sums.{total}
use Rattle.ring_rules.specs.Soundness.{passive_above, white_to}
use Rattle.ring.specs.declared.walk.Seen.{Seen}

-- totals of at most 96 places, whatever these hold, and parts of them: no sum or difference of two wraps
pub record Bounded (w : Seen) : Type 0 where
  pub sends : w.sent ≤ 96 * 2 ^ 32
  pub receipts : w.received ≤ 96 * 2 ^ 32
  pub transit : w.pending ≤ 96 * 2 ^ 32
  pub sends_above : w.above.sent ≤ w.sent
  pub receipts_above : w.above.received ≤ w.received

pub record Walked (n pos : ℕ) (active : List Bool) (color sent received pending : List ℕ) (w : Seen) : Type 0 where
  pub sends : w.sent ≡ total sent n
  pub receipts : w.received ≡ total received n
  pub transit : w.pending ≡ total pending n
  pub sends_above : w.above.sent ≡ total sent n - total sent (suc pos)
  pub receipts_above : w.above.received ≡ total received n - total received (suc pos)
  pub passive : w.above.passive ≡ passive_above active n pos
  pub white : w.white ≡ white_to color (suc pos)
  pub bounded : Bounded w
