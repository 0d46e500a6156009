-- A sound panel stays sound, and any other is turned back.
use Rattle.std.proofs.Common.{◌≡◌, ℕ, refl, subst, sym}
use Rattle.panel_rules.proofs.Answers.{by_verdict, unsound_verdict}
use Rattle.panel_rules.proofs.Soundness.{sound_true, true_sound}
use Rattle.panel_rules.proofs.Keeps.{step_keeps}
use Rattle.panel_rules.specs.Answers.{Answer, answer_of, verdict_of}
use Rattle.panel_rules.specs.Request.{answer_to}
use Rattle.panel_rules.specs.Soundness.{Sound, sound_test}
use Rattle.panel_rules.specs.State.{Panel}
use Rattle.refusal.specs.Table.{Verdict, Accepted, Refused}
use Rattle.ring_rules.specs.Rules.{Kind}
use Rattle.refusal.specs.Answers.{Keeps, Turns}
use Rattle.ring_rules.specs.Request.{first_number, kind_of_request, second_number}

any_kind : (p : Panel) (k : Kind) (i j : ℕ) → Sound p → Sound (answer_of p k i j).state
any_kind p k i j s = go (verdict_of p k i j) refl
  where
    go : (v : Verdict) → verdict_of p k i j ≡ v → Sound (answer_of p k i j).state
    go Accepted e = subst (λ (a : Answer). Sound a.state) (by_verdict p k i j Accepted e) (step_keeps p k i j e)
    go (Refused r) e = subst (λ (a : Answer). Sound a.state) (by_verdict p k i j (Refused r) e) s

pub keeps_sound : Keeps sound_test answer_to
keeps_sound p x s = true_sound _ (any_kind p (kind_of_request x) (first_number x) (second_number x) (sound_true p s))

pub turns_back : Turns sound_test answer_to
turns_back p x s = sym (by_verdict p (kind_of_request x) (first_number x) (second_number x) _ (unsound_verdict p (kind_of_request x) (first_number x) (second_number x) s))
