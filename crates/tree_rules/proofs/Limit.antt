-- What meets the limit of sends. Assumes nothing.
use Prim.Native.Nat.{◌<◌, ◌≤◌, ℕ}
use borrow.Author.Tests.{leb-true, lt-leb}
use mathlib.Core.Bool.{false, true}
use mathlib.Core.Logic.{◌↔◌}
use mathlib.Core.Path.{◌≡◌, refl}
use native.Mathlib.Omega.{arith}
use Rattle.laws.proofs.Tests.{false_true}
use Rattle.refusal.proofs.Table.{last_row, limit_row}
use Rattle.refusal.specs.Table.{code_of, send_limit}
use Rattle.tree_rules.proofs.Answers.{by_tests}
use Rattle.tree_rules.proofs.Soundness.{sound_true, true_sound}
use Rattle.tree_rules.specs.Answers.{answer_of, outside, sends_spent, unknown, verdict_of}
use Rattle.tree_rules.specs.Rules.{Ack, Announce, Idle, Kind, Leave, Send, Take, Unknown, guard}
use Rattle.tree_rules.specs.Soundness.{Open, sound_test}
use Rattle.tree_rules.specs.State.{State}
use Rattle.tree_rules.specs.Theorems.{Sending}

-- the last row applies to sends alone
spent_send : (t : State) (k : Kind) → sends_spent t k ≡ true → (k ≡ Send) × (send_limit ≤ t.sends)
spent_send t Send e = (refl, leb-true _ _ e)
spent_send t Take e = absurd (false_true e)
spent_send t Idle e = absurd (false_true e)
spent_send t Ack e = absurd (false_true e)
spent_send t Leave e = absurd (false_true e)
spent_send t Announce e = absurd (false_true e)
spent_send t Unknown e = absurd (false_true e)

pub limit_only : (t : State) (k : Kind) (i j : ℕ) → code_of (answer_of t k i j).verdict ≡ 9 → (k ≡ Send) × (t.sends ≡ send_limit)
unfolding answer_of verdict_of
limit_only t k i j e =
    let w = limit_row (sound_test t) t.closed (unknown k) (outside t k i j) (guard t k i j) (sends_spent t k) e in
    let s = spent_send t k w.1 in
    (s.0, omega (arith, s.1, (sound_true t w.0).limit))

pub limit_decides :
    (t : State) (i j : ℕ) → Open t → Sending t i j
    → ((code_of (answer_of t Send i j).verdict ≡ 0) ↔ (t.sends < send_limit))
    × ((code_of (answer_of t Send i j).verdict ≡ 9) ↔ (t.sends ≡ send_limit))
unfolding answer_of
limit_decides t i j o s =
    last_row _ t.sends
    (rw (by_tests t Send i j _ _ _ _ _ _ (true_sound t o.sound) o.running refl inside s.active refl))
    o.sound.limit
  where
    inside : outside t Send i j ≡ false
    inside = rw (lt-leb t.n i s.sender, lt-leb t.n j s.receiver)
