-- The steps of the ring and of the tree, as the lines of a log say them. Assumes nothing.
use Rattle.std.specs.Prelude.{Some, None}
use Prim.Native.Nat.{ℕ}
use mathlib.Core.List.{List}
use mathlib.Core.Logic.{◌⊎◌, inl, inr}
use mathlib.Core.Path.{◌∙◌, ◌≡◌, ap, refl, sym}
use Rattle.forms.proofs.Steps.{ring_exact, ring_not, ring_once, tree_exact, tree_not, tree_once}
use Rattle.forms.specs.Form.{Says, announce, ring_form, tree_form}
use Rattle.forms.specs.Read.{Read, ring_at, tree_at}
use Rattle.forms.specs.declared.RingStep.{RingStep}
use Rattle.forms.specs.declared.TreeStep.{TreeStep}
use Rattle.laws.proofs.Tests.{false_true}
use Rattle.log_rules.proofs.Theorems.{lines_say, says_first, says_itself}
use Rattle.log_rules.specs.Answers.{Told, is_move, on_ring, on_tree, ring_request, tree_request}
use Rattle.log_rules.specs.Pieces.{OneLine}
use mathlib.Core.Bool.{Bool, ◌&&◌, cond, false, true}
use Rattle.runs.specs.Runs.{Request}
use Rattle.log_runs.proofs.Runs.{Answers, Reads, Steps}
use Rattle.log_runs.specs.Says.{Ask, RingAsks, TreeAsks, cut, move_by, other, says}
use Rattle.forms.specs.declared.RingStep.TheVariants as ring_step
use Rattle.forms.specs.declared.TreeStep.TheVariants as tree_step
use Rattle.ring_rules.specs.Answers as RingAnswers
use Rattle.ring_rules.specs.State as ring_state
use Rattle.ring_runs.specs.Counts as ring_counts
use Rattle.tree_rules.specs.Answers as TreeAnswers
use Rattle.tree_rules.specs.State as tree_state
use Rattle.tree_runs.specs.Counts as tree_counts

-- ---- the ring

pub move_is : (f : RingStep) → cond (is_move f && true) 1 0 ≡ move_by (ring_counts.kind (ring_request f))
move_is (ring_step.Send i j) = refl
move_is (ring_step.TakeOne i) = refl
move_is (ring_step.Take i n) = refl
move_is (ring_step.Idle i) = refl
move_is ring_step.Probe = refl
move_is (ring_step.Pass i) = refl
move_is ring_step.Announce = refl

pub no_move : (b : Bool) → ◌≡◌ {A = ℕ} (cond (b && false) 1 0) 0
no_move true = refl
no_move false = refl

pub ring_only : (f : RingStep) → ring_counts.is_announce (ring_counts.kind (ring_request f)) ≡ true → ring_form f ≡ announce
ring_only (ring_step.Send i j) e = absurd (false_true e)
ring_only (ring_step.TakeOne i) e = absurd (false_true e)
ring_only (ring_step.Take i n) e = absurd (false_true e)
ring_only (ring_step.Idle i) e = absurd (false_true e)
ring_only ring_step.Probe e = absurd (false_true e)
ring_only (ring_step.Pass i) e = absurd (false_true e)
ring_only ring_step.Announce e = refl

pub ring_read : (l : List ℕ) → OneLine l → ((f : RingStep) × Says l (ring_form f)) ⊎ ((f : RingStep) → Says l (ring_form f) → ⊥)
ring_read l o = go (ring_at l 0) refl
  where
    go : (x : Read RingStep) → ring_at l 0 ≡ x → ((f : RingStep) × Says l (ring_form f)) ⊎ ((f : RingStep) → Says l (ring_form f) → ⊥)
    go (Some (f, e)) p = inl (f, says_itself (ring_form f) l o ((ring_exact l 0 f e).0 p).0)
    go None p = inr (λ f s. (ring_not l 0).0 p f (says_first (ring_form f) l s))

abbrev pub ring_reads : Reads RingStep Request
ring_reads = record {
  form = ring_form;
  asked = ring_request;
  once = λ l f g s t. ring_once f g s.1.0 t.1.0 (sym s.0 ∙ t.0);
  told = ring_read;
}

abbrev pub ring_steps : Steps RingStep
ring_steps = record {
  read = ring_reads;
  announces = λ x. ring_counts.is_announce (ring_counts.kind x);
  last = ring_step.Announce;
  is = refl;
  does = refl;
  only = ring_only;
}

pub ring_answers : (r : ring_state.State) (moves k : ℕ) (l : List ℕ) (a : Ask Request) → RingAsks l a → Answers ring_counts.ring on_ring r moves k l a
unfolding RingAnswers.answer_of
ring_answers r moves k l a (says f s) =
    let e = lines_say.ring_step r moves k l f s in
    record { text = ap (λ (x : Told). x.text) e; moves' = _; there = ap (λ (x : Told). x.stage) e }
ring_answers r moves k l a (other o h) =
    let e = lines_say.ring_other r moves k l o h in
    record { text = ap (λ (x : Told). x.text) e; moves' = moves; there = ap (λ (x : Told). x.stage) e }
ring_answers r moves k l a (cut u) =
    let e = lines_say.unended (on_ring r moves) k l u in
    record { text = ap (λ (x : Told). x.text) e; moves' = moves; there = ap (λ (x : Told). x.stage) e }

-- ---- the tree

pub tree_only : (f : TreeStep) → tree_counts.is_announce (tree_counts.kind (tree_request f)) ≡ true → tree_form f ≡ announce
tree_only (tree_step.Send i j) e = absurd (false_true e)
tree_only (tree_step.Take i k) e = absurd (false_true e)
tree_only (tree_step.Idle i) e = absurd (false_true e)
tree_only (tree_step.Ack i) e = absurd (false_true e)
tree_only (tree_step.Leave i) e = absurd (false_true e)
tree_only tree_step.Announce e = refl

pub tree_read : (l : List ℕ) → OneLine l → ((f : TreeStep) × Says l (tree_form f)) ⊎ ((f : TreeStep) → Says l (tree_form f) → ⊥)
tree_read l o = go (tree_at l 0) refl
  where
    go : (x : Read TreeStep) → tree_at l 0 ≡ x → ((f : TreeStep) × Says l (tree_form f)) ⊎ ((f : TreeStep) → Says l (tree_form f) → ⊥)
    go (Some (f, e)) p = inl (f, says_itself (tree_form f) l o ((tree_exact l 0 f e).0 p).0)
    go None p = inr (λ f s. (tree_not l 0).0 p f (says_first (tree_form f) l s))

abbrev pub tree_reads : Reads TreeStep Request
tree_reads = record {
  form = tree_form;
  asked = tree_request;
  once = λ l f g s t. tree_once f g s.1.0 t.1.0 (sym s.0 ∙ t.0);
  told = tree_read;
}

abbrev pub tree_steps : Steps TreeStep
tree_steps = record {
  read = tree_reads;
  announces = λ x. tree_counts.is_announce (tree_counts.kind x);
  last = tree_step.Announce;
  is = refl;
  does = refl;
  only = tree_only;
}

pub tree_answers :
    (t : tree_state.State) (moves k : ℕ) (l : List ℕ) (a : Ask Request) → TreeAsks l a → Answers tree_counts.tree (λ t moves. on_tree t) t moves k l a
unfolding TreeAnswers.answer_of
tree_answers t moves k l a (says f s) =
    let e = lines_say.tree_step t k l f s in
    record { text = ap (λ (x : Told). x.text) e; moves' = 0; there = ap (λ (x : Told). x.stage) e }
tree_answers t moves k l a (other o h) =
    let e = lines_say.tree_other t k l o h in
    record { text = ap (λ (x : Told). x.text) e; moves' = 0; there = ap (λ (x : Told). x.stage) e }
tree_answers t moves k l a (cut u) =
    let e = lines_say.unended (on_tree t) k l u in
    record { text = ap (λ (x : Told). x.text) e; moves' = 0; there = ap (λ (x : Told). x.stage) e }
