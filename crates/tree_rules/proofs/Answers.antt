-- What the code of a step has to show: the tests that it passed or failed give the definition's answer. Assumes nothing.
use Prim.Native.Nat.{ℕ}
use mathlib.Core.Bool.{Bool, false, true}
use mathlib.Core.Path.{◌≡◌, ap, refl, sym}
use Rattle.refusal.specs.Table.{first_of, settle, step_rows}
use Rattle.refusal.specs.declared.Refusal.{Refusal}
use Rattle.refusal.specs.declared.Refusal.TheVariants.{Closed, RuleFails, SendLimit, UnknownKind, UnknownNode, Unsound}
use Rattle.refusal.specs.Table.{Verdict}
use Rattle.refusal.specs.Table.{Accepted, Refused}
use Rattle.tree_rules.proofs.Soundness.{true_sound}
use Rattle.tree_rules.specs.Answers.{Answer, answer_of, outside, sends_spent, unknown, verdict_of}
use Rattle.tree_rules.specs.Rules.{Kind, effect, guard}
use Rattle.tree_rules.specs.Soundness.{Open, Sound, sound_test}
use Rattle.tree_rules.specs.State.{State}

abbrev pub refused_as : Refusal → State → Answer
refused_as e t = record { verdict = Refused e; state = t }

abbrev pub accepted_as : State → Answer
accepted_as s = record { verdict = Accepted; state = s }

by_verdict :
    (t : State) (k : Kind) (i j : ℕ) (v : Verdict) → verdict_of t k i j ≡ v → record { verdict = v; state = settle v (effect t k i j) t }
    ≡ answer_of t k i j
unfolding answer_of
by_verdict t k i j v e = ap (λ (w : Verdict). record { verdict = w; state = settle w (effect t k i j) t }) (sym e)

-- the verdict by its six tests, each known as far as the table is read
pub by_tests :
    (t : State) (k : Kind) (i j : ℕ) (s c u o g p : Bool)
    → sound_test t ≡ s → t.closed ≡ c → unknown k ≡ u → outside t k i j ≡ o → guard t k i j ≡ g → sends_spent t k ≡ p
    → verdict_of t k i j ≡ first_of (step_rows s c u o g p)
unfolding verdict_of
by_tests t k i j s c u o g p e₁ e₂ e₃ e₄ e₅ e₆ =
    λ x. first_of (step_rows (e₁ x) (e₂ x) (e₃ x) (e₄ x) (e₅ x) (e₆ x))

module _ (t : State) (k : Kind) (i j : ℕ) where
  pub unsound_answer : sound_test t ≡ false → refused_as Unsound t ≡ answer_of t k i j
  unsound_answer s = by_verdict t k i j (Refused Unsound) (by_tests t k i j _ _ _ _ _ _ s refl refl refl refl refl)

  pub closed_answer : Sound t → t.closed ≡ true → refused_as Closed t ≡ answer_of t k i j
  closed_answer s c = by_verdict t k i j (Refused Closed) (by_tests t k i j _ _ _ _ _ _ (true_sound t s) c refl refl refl refl)

  module _ (run : Open t) where
    sound : sound_test t ≡ true
    sound = true_sound t run.sound

    pub kind_answer : unknown k ≡ true → refused_as UnknownKind t ≡ answer_of t k i j
    kind_answer u =
        by_verdict t k i j (Refused UnknownKind) (by_tests t k i j _ _ _ _ _ _ sound run.running u refl refl refl)

    module _ (u : unknown k ≡ false) where
      pub node_answer : outside t k i j ≡ true → refused_as UnknownNode t ≡ answer_of t k i j
      node_answer o =
          by_verdict t k i j (Refused UnknownNode) (by_tests t k i j _ _ _ _ _ _ sound run.running u o refl refl)

      module _ (o : outside t k i j ≡ false) where
        pub rule_answer : guard t k i j ≡ false → refused_as RuleFails t ≡ answer_of t k i j
        rule_answer g =
            by_verdict t k i j (Refused RuleFails) (by_tests t k i j _ _ _ _ _ _ sound run.running u o g refl)

        pub limit_answer : guard t k i j ≡ true → sends_spent t k ≡ true → refused_as SendLimit t ≡ answer_of t k i j
        limit_answer g p =
            by_verdict t k i j (Refused SendLimit) (by_tests t k i j _ _ _ _ _ _ sound run.running u o g p)

        pub accepted_answer : guard t k i j ≡ true → sends_spent t k ≡ false → accepted_as (effect t k i j) ≡ answer_of t k i j
        accepted_answer g p = by_verdict t k i j Accepted (by_tests t k i j _ _ _ _ _ _ sound run.running u o g p)
