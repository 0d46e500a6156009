-- A line of a ring's run. Assumes nothing.
use Prim.Native.Nat.{◌+◌, ◌≤◌, ℕ}
use mathlib.Core.Bool.{Bool, ◌&&◌, cond, false, true}
use mathlib.Core.List.{List}
use mathlib.Core.Path.{◌∙◌, ◌≡◌, ap, refl, subst, sym}
use native.Mathlib.Omega.{arith}
use Rattle.std.specs.Prelude.{Result, Ok, Err, Some}
use Rattle.forms.specs.Read.{ring_at}
use Rattle.forms.specs.declared.RingStep.{RingStep}
use Rattle.log_rules.proofs.InPlace.{ring_ended, ring_in_place}
use Rattle.log_rules.specs.Answers.{Told, answer_text, is_move, line_told, on_ring, ring_request, ring_told}
use Rattle.refusal.specs.Answers.{Answer, handed, verdict_from}
use Rattle.refusal.specs.Table.{is_accepted}
use Rattle.refusal.specs.declared.Refusal.{Refusal}
use Rattle.ring_rules.proofs.Theorems.{sound_kept}
use Rattle.ring_rules.specs.Answers.{step_of}
use Rattle.ring_rules.specs.Request.{answer_to}
use Rattle.runs.specs.Runs.{Request as Numbered}
use Rattle.table.proofs.Laws.{numbered}
use Rattle.ring_rules.specs.Rules.{kind_of}
use Rattle.ring_rules.specs.Soundness.{Sound}
use Rattle.ring_rules.specs.State.{State}
use Rattle.ring_rules.specs.declared.request.Request.{Request}
use Rattle.log_lines.specs.Requests.{Asks, moves_token}
use Rattle.log_lines.specs.Stages.{LineAnswered, SoundStage}

-- an answer in place has the verdict that is answered, and the state that is left
pub handed_parts : {S : Type 0} (a : Result (Unit {0}) Refusal) (s : S) → handed a s ≡ record { verdict = verdict_from a; state = s }
handed_parts (Ok x) s = refl
handed_parts (Err e) s = refl

-- the request is answered as the step's form is
pub asked : (r : State) (f : RingStep) (x : Request) → Asks f x → answer_to r x ≡ step_of r (ring_request f).kind (ring_request f).i (ring_request f).j
asked r f x a = numbered r x ∙ ap (λ (y : Numbered). step_of r y.kind y.i y.j) a.numbers

pub one_at_most : (b : Bool) → cond b 1 0 ≤ 1
one_at_most true = omega arith
one_at_most false = omega arith

module _ (r r' : State) (m lines : ℕ) (p : List ℕ) (at e : ℕ) (f : RingStep) (x : Request) (a : Result (Unit {0}) Refusal) (n : ℕ) where
  pub step_answered :
      SoundStage (on_ring r m) lines → Asks f x → Some (f, e) ≡ ring_at p at → handed a r' ≡ answer_to r x
      → n ≡ cond (moves_token x && is_accepted (verdict_from a)) 1 0
      → LineAnswered (on_ring r m) (on_ring r' (m + n)) (lines + 1) p at (record { number = lines + 1; answer = a; next = e })
  step_answered s asks is same count =
      let k = lines + 1 in
      let en = ring_ended p at f e (sym is) in
      let y = ring_request f in
      let q : ◌≡◌ {A = Answer State} (record { verdict = verdict_from a; state = r' }) (step_of r y.kind y.i y.j) = sym (handed_parts a r') ∙ same ∙ asked r f x asks in
      let t : ring_told r m k (Some (f, e)) ≡ line_told (on_ring r m) k _ = ap (ring_told r m k) is ∙ ring_in_place r m k p at in
      let c : n ≡ cond (is_move f && is_accepted (verdict_from a)) 1 0 = count ∙ ap (λ (b : Bool). cond (b && is_accepted (verdict_from a)) 1 0) asks.token in
      record {
        whole = en.0;
        past = en.1;
        stage =
            ap (λ (d : ℕ). on_ring r' (m + d)) c
            ∙ ap (λ (z : Answer State). on_ring z.state (m + cond (is_move f && is_accepted z.verdict) 1 0)) q
            ∙ ap (λ (z : Told). z.stage) t;
        text = ap (λ (z : Answer State). answer_text k z.verdict) q ∙ ap (λ (z : Told). z.text) t;
        number = omega arith;
        sound = (
          subst (λ (z : Answer State). Sound z.state) (sym q) (sound_kept.any r (kind_of y.kind) y.i y.j s.0),
          omega (arith, c, one_at_most (is_move f && is_accepted (verdict_from a))),
        );
      }
