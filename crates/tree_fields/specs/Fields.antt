-- A lent tree as the code has it.
use Rattle.std.specs.Prelude.{◌≡◌, ◌&&◌, Bool, cond, Result, Ok, Err}
use Rattle.lent.specs.Tree.{LentTree, lent_tree_of, tree_of, tree_truths_test}
use Rattle.refusal.specs.declared.Refusal.{Refusal}
use Rattle.refusal.specs.declared.Refusal.TheVariants.{Unsound}
use Rattle.tree_rules.specs.Soundness.{sound_test}
use Rattle.tree_rules.specs.State.{State}

-- a tree put into fields
abbrev pub IsLentOf : State → LentTree → Type 0
IsLentOf t l = l ≡ lent_tree_of t

-- the tree that lies in them
abbrev pub tree_in : LentTree → Result State Refusal
tree_in l = cond (tree_truths_test l) (Ok (tree_of l)) (Err Unsound)

abbrev pub found_sound : LentTree → Bool
found_sound l = tree_truths_test l && sound_test (tree_of l)
