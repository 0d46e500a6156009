-- When a take is accepted. Assumes nothing.
use Prim.Native.Nat.{◌<◌, ◌≤◌, ℕ}
use borrow.Author.Tests.{le-leb, lt-leb}
use mathlib.Core.Bool.{Bool, false, true}
use mathlib.Core.Logic.{◌↔◌}
use mathlib.Core.Path.{◌≡◌, ap, refl}
use native.Mathlib.Omega.{arith}
use Rattle.laws.proofs.Tests.{false_true}
use Rattle.refusal.specs.Table.{code_of, first_of, step_rows}
use Rattle.ring_rules.proofs.Accepted.{take_true, true_take}
use Rattle.ring_rules.proofs.Answers.{by_tests}
use Rattle.ring_rules.proofs.Soundness.{true_sound}
use Rattle.ring_rules.specs.Answers.{answer_of}
use Rattle.ring_rules.specs.Rules.{Take, can_take}
use Rattle.ring_rules.specs.Soundness.{Open}
use Rattle.ring_rules.specs.State.{State, pending_at}
use Rattle.ring_rules.specs.Theorems.{Takeable}

takeable : (r : State) (i n : ℕ) → can_take (pending_at r i) n ≡ true → Takeable r i n
takeable r i n e = let p = take_true (pending_at r i) n e in record { some = p.0; few = p.1; enough = p.2 }

-- what the answer's number says of the test
0_or_8 : {T : Type 0} (may : Bool) {k : ℕ} → k ≡ code_of (first_of (step_rows true false false false may false)) → (may ≡ true → T) → (T → may ≡ true)
    → ((k ≡ 0) ↔ T) × ((k ≡ 8) ↔ (T → ⊥))
0_or_8 true e holds met = ((λ _. holds refl, λ _. e), (λ z. absurd (omega (arith, e)), λ none. absurd (none (holds refl))))
0_or_8 false e holds met = ((λ z. absurd (omega (arith, e)), λ t. absurd (false_true (met t))), (λ _ t. false_true (met t), λ _. e))

module _ (r : State) (i n : ℕ) (o : Open r) where
  pub take_decides : i < r.n
      → ((code_of (answer_of r Take i n).verdict ≡ 0) ↔ Takeable r i n) × ((code_of (answer_of r Take i n).verdict ≡ 8) ↔ (Takeable r i n → ⊥))
  unfolding answer_of
  take_decides h =
      0_or_8 (can_take (pending_at r i) n)
      (ap code_of (by_tests r Take i n _ _ _ _ _ _ (true_sound r o.sound) o.running refl (lt-leb _ _ h) refl refl))
      (takeable r i n) (λ t. true_take (pending_at r i) n t.some t.few t.enough)

  pub take_outside : r.n ≤ i → code_of (answer_of r Take i n).verdict ≡ 6
  unfolding answer_of
  take_outside h = ap code_of (by_tests r Take i n _ _ _ _ _ _ (true_sound r o.sound) o.running refl (le-leb _ _ h) refl refl)
