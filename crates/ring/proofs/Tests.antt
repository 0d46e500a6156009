-- The tests of what the walk has seen are those of the state. Assumes nothing.
use Prim.Native.Nat.{◌-◌, ◌<◌, suc, ℕ}
use mathlib.Core.List.{List}
use mathlib.Core.Path.{◌≡◌}
use native.Mathlib.Omega.{arith}
use Rattle.laws.proofs.Sums.{total_mono}
use Rattle.laws.specs.Sums.{total}
use Rattle.ring_rules.specs.Soundness.{flow_test, gathered_test, safra_test}
use Rattle.ring_rules.specs.State.{State}
use Rattle.ring.specs.Seen.{flow_seen, safra_seen}
use Rattle.ring.specs.Walked.{Walked}
use Rattle.ring.specs.declared.walk.Seen.{Seen}

module _ (r : State) (w : Seen) (seen : Walked r.n r.pos r.active r.color r.sent r.received r.pending w) where
  pub flow_seen_lem : flow_seen w ≡ flow_test r
  unfolding flow_test
  flow_seen_lem = rw (seen.sends, seen.receipts, seen.transit)

  pub safra_seen_lem : r.pos < r.n → safra_seen r.q r.black w ≡ safra_test r
  unfolding safra_test gathered_test
  safra_seen_lem holder =
      rw (
        seen.passive,
        seen.white,
        up_to r.sent seen.sends seen.sends_above,
        up_to r.received seen.receipts seen.receipts_above,
        seen.sends_above,
        seen.receipts_above,
      )
    where
      -- what the nodes above the token leave of a total
      up_to : (l : List ℕ) {all above : ℕ} → all ≡ total l r.n → above ≡ total l r.n - total l (suc r.pos) → all - above ≡ total l (suc r.pos)
      up_to l e above = omega (arith, total_mono l (suc r.pos) r.n (omega arith))
