-- A line of a tree's run. Assumes nothing.
use Prim.Native.Nat.{◌+◌, ℕ}
use mathlib.Core.List.{List}
use mathlib.Core.Path.{◌∙◌, ◌≡◌, ap, subst, sym}
use native.Mathlib.Omega.{arith}
use Rattle.std.specs.Prelude.{Result, Some}
use Rattle.forms.specs.Read.{tree_at}
use Rattle.forms.specs.declared.TreeStep.{TreeStep}
use Rattle.log_rules.proofs.InPlace.{tree_ended, tree_in_place}
use Rattle.log_rules.specs.Answers.{Told, answer_text, line_told, on_tree, tree_request, tree_told}
use Rattle.refusal.specs.Answers.{Answer, handed, verdict_from}
use Rattle.refusal.specs.declared.Refusal.{Refusal}
use Rattle.tree_rules.proofs.Theorems.{sound_kept}
use Rattle.tree_rules.specs.Answers.{answer_of, step_of}
use Rattle.tree_rules.specs.Request.{answer_to, first_number, second_number}
use Rattle.tree_rules.specs.Rules.{Kind, kind_of}
use Rattle.tree_rules.specs.Soundness.{Sound}
use Rattle.tree_rules.specs.State.{State}
use Rattle.tree_rules.specs.declared.request.Request.{Request}
use Rattle.log_lines.proofs.Rings.{handed_parts}
use Rattle.log_lines.specs.Requests.{AsksTree}
use Rattle.log_lines.specs.Stages.{LineAnswered}

-- the request is answered as the step's form is
asked : (t : State) (f : TreeStep) (x : Request) → AsksTree f x → answer_to t x ≡ step_of t (tree_request f).kind (tree_request f).i (tree_request f).j
asked t f x a =
    ap (λ (k : Kind). answer_of t k (first_number x) (second_number x)) a.kind
    ∙ (ap (λ (i : ℕ). step_of t (tree_request f).kind i (second_number x)) a.first ∙ ap (λ (j : ℕ). step_of t (tree_request f).kind (tree_request f).i j) a.second)

module _ (t t' : State) (lines : ℕ) (p : List ℕ) (at e : ℕ) (f : TreeStep) (x : Request) (a : Result (Unit {0}) Refusal) where
  pub tree_answered :
      Sound t → AsksTree f x → Some (f, e) ≡ tree_at p at → handed a t' ≡ answer_to t x
      → LineAnswered (on_tree t) (on_tree t') (lines + 1) p at (record { number = lines + 1; answer = a; next = e })
  tree_answered s asks is same =
      let k = lines + 1 in
      let en = tree_ended p at f e (sym is) in
      let y = tree_request f in
      let q : ◌≡◌ {A = Answer State} (record { verdict = verdict_from a; state = t' }) (step_of t y.kind y.i y.j) = sym (handed_parts a t') ∙ same ∙ asked t f x asks in
      let h : tree_told t k (Some (f, e)) ≡ line_told (on_tree t) k _ = ap (tree_told t k) is ∙ tree_in_place t k p at in
      record {
        whole = en.0;
        past = en.1;
        stage = ap (λ (z : Answer State). on_tree z.state) q ∙ ap (λ (z : Told). z.stage) h;
        text = ap (λ (z : Answer State). answer_text k z.verdict) q ∙ ap (λ (z : Told). z.text) h;
        number = omega arith;
        sound = subst (λ (z : Answer State). Sound z.state) (sym q) (sound_kept.any t (kind_of y.kind) y.i y.j s);
      }
