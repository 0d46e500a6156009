-- What the code of a step has to show: the tests that it passed or failed give the definition's verdict. Assumes nothing.
use Prim.Native.Nat.{ℕ}
use mathlib.Core.Bool.{Bool, false, true}
use mathlib.Core.Path.{◌∙◌, ◌≡◌, ap, refl, sym}
use Rattle.panel_rules.proofs.Soundness.{true_sound}
use Rattle.panel_rules.specs.Answers.{answer_of, panel_rows, verdict_of}
use Rattle.panel_rules.specs.Rules.{bad_word, panel_effect, second, unequal}
use Rattle.panel_rules.specs.Soundness.{Sound, sound_test}
use Rattle.panel_rules.specs.State.{Panel}
use Rattle.refusal.specs.Table.{first_of, settle, step_rows}
use Rattle.refusal.specs.declared.Refusal.TheVariants.{Unsound}
use Rattle.refusal.specs.Table.{Verdict}
use Rattle.refusal.specs.Table.{Refused}
use Rattle.ring_rules.proofs.Soundness as ring_sound
use Rattle.ring_rules.specs.Answers as ring
use Rattle.ring_rules.specs.Rules.{Kind, guard}
use Rattle.ring_rules.specs.Soundness as ring_sound_specs
use Rattle.ring_rules.specs.State.{State}

-- an answer by its verdict
pub by_verdict :
    (p : Panel) (k : Kind) (i j : ℕ) (v : Verdict) → verdict_of p k i j ≡ v
    → record { verdict = v; state = settle v (panel_effect p k i j) p } ≡ answer_of p k i j
unfolding answer_of
by_verdict p k i j v e = ap (λ (w : Verdict). record { verdict = w; state = settle w (panel_effect p k i j) p }) (sym e)

-- the verdict by its eight tests, each known as far as the table is read; and the ring's by its six
pub by_tests :
    (p : Panel) (k : Kind) (i j : ℕ) (s c u o b g q l : Bool)
    → sound_test p ≡ s → p.ring.closed ≡ c → ring.unknown k ≡ u → ring.outside p.ring k i (second k j) ≡ o
    → bad_word k j ≡ b → guard p.ring k i (second k j) ≡ g → unequal p k ≡ q → ring.sends_spent p.ring k ≡ l
    → verdict_of p k i j ≡ first_of (panel_rows s c u o b g q l)
unfolding verdict_of
by_tests p k i j s c u o b g q l e₁ e₂ e₃ e₄ e₅ e₆ e₇ e₈ =
    λ x. first_of (panel_rows (e₁ x) (e₂ x) (e₃ x) (e₄ x) (e₅ x) (e₆ x) (e₇ x) (e₈ x))

ring_by_sound :
    (r : State) (k : Kind) (i j : ℕ) → ring_sound_specs.sound_test r ≡ true
    → ring.verdict_of r k i j
    ≡ first_of (step_rows true r.closed (ring.unknown k) (ring.outside r k i j) (guard r k i j) (ring.sends_spent r k))
unfolding ring.verdict_of
ring_by_sound r k i j e =
    λ x. first_of (step_rows (e x) r.closed (ring.unknown k) (ring.outside r k i j) (guard r k i j) (ring.sends_spent r k))

pub unsound_verdict : (p : Panel) (k : Kind) (i j : ℕ) → sound_test p ≡ false → verdict_of p k i j ≡ Refused Unsound
unsound_verdict p k i j e = by_tests p k i j _ _ _ _ _ _ _ _ e refl refl refl refl refl refl refl

module _ (p : Panel) (s : Sound p) where
  ring-true : ring_sound_specs.sound_test p.ring ≡ true
  ring-true = ring_sound.true_sound p.ring s.ring

  -- where neither the word nor the marks refuse, the verdict is the ring's own
  pub ring_verdict :
      (k : Kind) (i j : ℕ) → bad_word k j ≡ false → unequal p k ≡ false → verdict_of p k i j ≡ ring.verdict_of p.ring k i (second k j)
  ring_verdict k i j b q =
      by_tests p k i j _ _ _ _ _ _ _ _ (true_sound p s) refl refl refl b refl q refl
      ∙ sym (ring_by_sound p.ring k i (second k j) ring-true)
