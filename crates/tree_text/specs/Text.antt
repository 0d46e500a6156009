-- The text of a tree of engagers, 16 places, 16 for a node that has none.
use Rattle.std.specs.Prelude.{◌+◌, ◌-◌, suc, zero, ℕ, eqb, get_or, length, Bool, ◌&&◌, cond, not, List, [], ◌++◌, ◌∷◌}
use Rattle.decimal.specs.Text.{decimal}
use Rattle.laws.specs.Sums.{sum_to}

abbrev pub opening : ℕ
opening = 40

abbrev pub closing : ℕ
closing = 41

abbrev pub space : ℕ
space = 32

-- node c is a child of node k: another node, whose engager is k
abbrev pub is_under : List ℕ → ℕ → ℕ → Bool
is_under e k c = eqb (get_or e c 16) k && not (eqb c k)

-- a list is nodes in ascending order, each after one space: the children of k among the m nodes from c on, `node` being a node's text
unfoldable pub children_text : (ℕ → List ℕ) → List ℕ → ℕ → ℕ → ℕ → List ℕ
children_text node e k zero c = []
children_text node e k (suc m) c = cond (is_under e k c) (space ∷ node c) [] ++ children_text node e k m (c + 1)

-- a node is an opening bracket, its number, then its list of children, then a closing bracket: node k, no deeper than `left` nodes
unfoldable pub node_text : ℕ → List ℕ → ℕ → List ℕ
node_text zero e k = []
node_text (suc left) e k = opening ∷ (decimal k ++ (children_text (node_text left e) e k 16 0 ++ (closing ∷ [])))

-- the children of k from node c on
unfoldable pub list_text : ℕ → List ℕ → ℕ → ℕ → List ℕ
list_text left e k c = children_text (node_text left e) e k (16 - c) c

-- only engaged nodes are written, the root outermost
abbrev pub text_of : List ℕ → ℕ → List ℕ
text_of e root = node_text 16 e root

-- ---- the length of the text

-- what an engaged node adds: two brackets, its digits, and the space before it
unfoldable pub share : List ℕ → ℕ → ℕ
share e i = cond (eqb (get_or e i 16) 16) 0 (3 + length (decimal i))

-- all but the root have a space before them
unfoldable pub length_of : List ℕ → ℕ
length_of e = sum_to 16 (share e) - 1

-- the most that n nodes take
unfoldable pub longest : ℕ → ℕ
longest n = sum_to n (λ i. 3 + length (decimal i)) - 1
