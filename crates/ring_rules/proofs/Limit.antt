-- What meets the limit of sends. Assumes nothing.
use Prim.Native.Nat.{◌<◌, ◌≤◌, ℕ}
use borrow.Author.Tests.{leb-true, lt-leb}
use mathlib.Core.Bool.{false, true}
use mathlib.Core.Logic.{◌↔◌}
use mathlib.Core.Path.{◌≡◌, refl}
use native.Mathlib.Omega.{arith}
use Rattle.laws.proofs.Tests.{false_true}
use Rattle.laws.specs.Sums.{total}
use Rattle.refusal.proofs.Table.{last_row, limit_row}
use Rattle.refusal.specs.Table.{code_of, send_limit}
use Rattle.ring_rules.proofs.Answers.{by_tests}
use Rattle.ring_rules.proofs.Soundness.{sound_true, true_sound}
use Rattle.ring_rules.specs.Answers.{answer_of, outside, sends_spent, unknown, verdict_of}
use Rattle.ring_rules.specs.Rules.{Announce, Idle, Kind, Pass, Probe, Send, Take, Unknown, guard}
use Rattle.ring_rules.specs.Soundness.{Open, sound_test}
use Rattle.ring_rules.specs.State.{State}
use Rattle.ring_rules.specs.Theorems.{Sending}

-- the last row applies to sends alone
spent_send : (r : State) (k : Kind) → sends_spent r k ≡ true → (k ≡ Send) × (send_limit ≤ total r.sent r.n)
spent_send r Send e = (refl, leb-true _ _ e)
spent_send r Take e = absurd (false_true e)
spent_send r Idle e = absurd (false_true e)
spent_send r Probe e = absurd (false_true e)
spent_send r Pass e = absurd (false_true e)
spent_send r Announce e = absurd (false_true e)
spent_send r Unknown e = absurd (false_true e)

pub limit_only : (r : State) (k : Kind) (i j : ℕ) → code_of (answer_of r k i j).verdict ≡ 9 → (k ≡ Send) × (total r.sent r.n ≡ send_limit)
unfolding answer_of verdict_of
limit_only r k i j e =
    let w = limit_row (sound_test r) r.closed (unknown k) (outside r k i j) (guard r k i j) (sends_spent r k) e in
    let s = spent_send r k w.1 in
    (s.0, omega (arith, s.1, (sound_true r w.0).limit))

pub limit_decides :
    (r : State) (i j : ℕ) → Open r → Sending r i j
    → ((code_of (answer_of r Send i j).verdict ≡ 0) ↔ (total r.sent r.n < send_limit))
    × ((code_of (answer_of r Send i j).verdict ≡ 9) ↔ (total r.sent r.n ≡ send_limit))
unfolding answer_of
limit_decides r i j o s =
    last_row _ (total r.sent r.n)
    (rw (by_tests r Send i j _ _ _ _ _ _ (true_sound r o.sound) o.running refl inside s.active refl))
    o.sound.limit
  where
    inside : outside r Send i j ≡ false
    inside = rw (lt-leb r.n i s.sender, lt-leb r.n j s.receiver)
