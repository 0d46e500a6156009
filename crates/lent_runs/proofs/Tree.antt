-- Steps on a tree, one by one and in lists. Assumes nothing.
use mathlib.Core.List.{List, [], ◌∷◌}
use mathlib.Core.Path.{◌∙◌, ◌≡◌, ap, refl}
use Rattle.lent.proofs.Calls.{calls_answer}
use Rattle.lent.specs.Tree.{LentTree, lent_tree_of, tree_step_fields, tree_step_number}
use Rattle.refusal.specs.Table.{code_of}
use Rattle.runs.specs.Runs.{Request, next, run_of}
use Rattle.tree_rules.specs.Answers.{Answer}
use Rattle.tree_rules.specs.State.{State}
use Rattle.tree_runs.proofs.WholeRun.{whole_runs}
use Rattle.tree_runs.specs.Counts.{tree}
use Rattle.lent_runs.specs.Tree.{tree_fields_after}

step_left : (t : State) (x : Request) → tree_step_fields (lent_tree_of t) x.kind x.i x.j ≡ lent_tree_of (next tree t x)
step_left t x =
    (calls_answer.tree_step t {kind = x.kind} {i = x.i} {j = x.j} (record { told = refl; fields = refl })).1
    ∙ ap (λ (a : Answer). lent_tree_of a.state) (whole_runs.answers t x)

pub step_told : (t : State) (x : Request) → tree_step_number (lent_tree_of t) x.kind x.i x.j ≡ code_of (tree.verdict t x)
step_told t x =
    (calls_answer.tree_step t {kind = x.kind} {i = x.i} {j = x.j} (record { told = refl; fields = refl })).0
    ∙ ap (λ (a : Answer). code_of a.verdict) (whole_runs.answers t x)

pub steps_run : (t : State) (xs : List Request) → tree_fields_after (lent_tree_of t) xs ≡ lent_tree_of (run_of tree t xs)
unfolding tree_fields_after run_of
steps_run t [] = refl
steps_run t (x ∷ xs) = ap (λ (l : LentTree). tree_fields_after l xs) (step_left t x) ∙ steps_run (next tree t x) xs
