-- What the tree's own answers make of lent fields. Assumes nothing.
use Prim.Native.Nat.{ℕ}
use mathlib.Core.Bool.{Bool, false, true}
use mathlib.Core.Path.{◌∙◌, ◌≡◌, ap, refl}
use native.Mathlib.Omega.{arith}
use Rattle.std.specs.Prelude.{Result, Ok, Err, cond, is_ok}
use Rattle.flag_bytes.specs.Narrow.{kind_byte}
use Rattle.lent.proofs.Tree.{tree_kind_same}
use Rattle.lent.specs.Tree.{LentTree, TreeSteppedTo, lent_tree_of, tree_of, tree_truths_test}
use Rattle.refusal.specs.Table.{Accepted}
use Rattle.refusal.specs.declared.Refusal.{Refusal}
use Rattle.refusal.specs.declared.Refusal.TheVariants.{Unsound}
use Rattle.tree_rules.specs.Answers.{step_of}
use Rattle.tree_rules.specs.State.{State}
use Rattle.tree_fields.specs.Fields.{tree_in}

-- where a tree lies in the fields
pub tree_found : (l : LentTree) (t : State) → Ok t ≡ tree_in l → (tree_truths_test l ≡ true) × (t ≡ tree_of l)
tree_found l t e = go (tree_truths_test l) e
  where
    or_found : Result State Refusal → State
    or_found (Ok s) = s
    or_found (Err e) = t

    go : (b : Bool) → Ok t ≡ cond b (Ok (tree_of l)) (Err Unsound) → (b ≡ true) × (t ≡ tree_of l)
    go true h = (refl, ap or_found h)
    go false h = absurd (not_both (ap is_ok h))
      where
        not_both : true ≡ false → ⊥
        not_both x = grind (arith, x)

pub stepped :
    {l : LentTree} {kind k i j : ℕ} (s : State) → k ≡ kind_byte kind → tree_truths_test l ≡ true → record { verdict = Accepted; state = s } ≡ step_of (tree_of l) k i j
    → TreeSteppedTo l kind i j 0 (lent_tree_of s)
stepped {l} {kind} {k} {i} {j} s e f h =
    let a : record { verdict = Accepted; state = s } ≡ step_of (tree_of l) kind i j = h ∙ tree_kind_same (tree_of l) k kind i j e in
    record { told = rw (f, ← a) refl; fields = rw (f, ← a) refl }
