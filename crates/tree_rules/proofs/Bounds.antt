-- The counts of a sound state are small, so that a step over its columns fits. Assumes nothing.
use Prim.Native.Nat.{◌<◌, ◌≤◌, ℕ}
use mathlib.Core.Bool.{true}
use mathlib.Core.Path.{◌≡◌}
use native.Mathlib.Omega.{arith}
use Rattle.laws.proofs.Sums.{sum_term}
use Rattle.tree_rules.proofs.Accepted.{leave_true}
use Rattle.tree_rules.proofs.Facts.{facts, transit_unacked}
use Rattle.tree_rules.specs.Rules.{may_leave}
use Rattle.tree_rules.specs.Soundness.{Sound}
use Rattle.refusal.specs.Table.{send_limit}
use Rattle.tree_rules.specs.State.{State, acks_at, engager_at, transit_at, unacked_at}

module _ (t : State) (s : Sound t) where
  pub unacked_small : (i : ℕ) → i < 16 → unacked_at t i ≤ send_limit
  unacked_small i h = omega (arith, s.spent, s.limit, sum_term 16 i (unacked_at t) h)

  pub acks_small : (i : ℕ) → i < 16 → acks_at t i ≤ send_limit
  acks_small i h = omega (arith, unacked_small i h, (facts t s).balance i h)

  pub transit_small : (i k : ℕ) → i < 16 → k < 16 → transit_at t i k ≤ send_limit
  transit_small i k hi hk = omega (arith, unacked_small i hi, transit_unacked t (facts t s) i k hi hk)

  -- an acknowledgement is on its way only to a node that waits for one
  pub ack_awaited : (i : ℕ) → i < 16 → 0 < acks_at t i → 0 < unacked_at t i
  ack_awaited i h has = omega (arith, (facts t s).balance i h)

  -- the engager of a node that may leave
  pub leaver_engager : (i : ℕ) → i < 16 → may_leave t i ≡ true → engager_at t i < 16
  leaver_engager i h e = omega (arith, ((facts t s).engagers i h (leave_true t i e).engaged).1, s.nodes)
