-- Trees whose numbers may be of any size, and their texts.
use Rattle.std.specs.Prelude.{◌+◌, ◌<◌, ◌≤◌, ℕ, eqb, cond, List, [], ◌++◌, ◌∷◌}
use Rattle.decimal.specs.Text.{decimal}
use Rattle.tree_text.specs.Text.{closing, opening, space}

-- a list of nodes: the first one's number and children, and the nodes after it
pub data Nodes : Type 0 where
  none : Nodes
  node : (k : ℕ) (children after : Nodes) → Nodes

-- "a list is boards in ascending order, each after one space": the order is `Ascends`
abbrev pub nodes_text : Nodes → List ℕ
nodes_text none = []
nodes_text (node k children after) = space ∷ (opening ∷ (decimal k ++ (nodes_text children ++ (closing ∷ nodes_text after))))

-- "A board is an opening bracket, its number, then its list of children, then a closing bracket"
abbrev pub tree_text : ℕ → Nodes → List ℕ
tree_text k children = opening ∷ (decimal k ++ (nodes_text children ++ (closing ∷ [])))

-- from `low` on, and every list of children too
abbrev pub Ascends : ℕ → Nodes → Type 0
Ascends low none = Unit {0}
Ascends low (node k children after) = (low ≤ k) × Ascends 0 children × Ascends (k + 1) after

-- how often the number d is there
abbrev pub times : ℕ → Nodes → ℕ
times d none = 0
times d (node k children after) = cond (eqb d k) 1 0 + times d children + times d after

abbrev pub AllBelow : ℕ → Nodes → Type 0
AllBelow n none = Unit {0}
AllBelow n (node k children after) = (k < n) × AllBelow n children × AllBelow n after

-- a root with its children: lists ascend, and no number is there twice
pub record TreeShape (root : ℕ) (children : Nodes) : Type 0 where
  pub ascends : Ascends 0 children
  pub once : (d : ℕ) → times d (node root children none) ≤ 1
