-- The reader: the first fault from the left decides. It reads n nodes at most, so that nodes left bound its depth (`left`): this bound is
-- never met (`DepthEnough` of Theorems.antt).
use Rattle.std.specs.Prelude.{◌+◌, suc, zero, ℕ, eqb, leb, ltb, get_or, length, replicate, set, ◌&&◌, cond, not, List, [], ◌∷◌, Some, None}
use Rattle.decimal.specs.Number.{number_at, Read}
use Rattle.refusal.specs.Table.{Row, ◌⟶◌, first_of, settle}
use Rattle.refusal.specs.declared.Refusal.{Refusal}
use Rattle.refusal.specs.declared.Refusal.TheVariants.{NodeCount, NotAForm, UnknownNode}
use Rattle.refusal.specs.Table.{Verdict}
use Rattle.refusal.specs.Table.{Accepted, Refused}
use Rattle.tree_text.specs.Text.{closing, opening, space}

-- ---- a reading under way

-- a verdict, the engagers so far, the index of the next byte, the node entered or closed last
pub record Reading : Type 0 where
  pub verdict : Verdict
  pub engager : List ℕ
  pub at : ℕ
  pub node : ℕ

abbrev pub refused : Reading → Refusal → Reading
refused r e = record { verdict = Refused e; engager = r.engager; at = r.at; node = r.node }

-- one byte further
abbrev pub stepped : Reading → Reading
stepped r = record { verdict = r.verdict; engager = r.engager; at = r.at + 1; node = r.node }

-- go on where nothing is refused
unfoldable pub and_then : Reading → (Reading → Reading) → Reading
and_then r f = settle r.verdict (f r) r

-- ---- a node's number

-- where a number belongs, one without leading zero, read to its last digit, of n or more is 6; anything else, such as a leading zero, a
-- repeated node, other spacing or order, is 10
abbrev pub number_table : ℕ → Reading → ℕ → ℕ → List Row
number_table n r low k =
    (leb n k ⟶ UnknownNode)
    ∷ (ltb k low ⟶ NotAForm)
    ∷ (not (eqb (get_or r.engager k 16) 16) ⟶ NotAForm)
    ∷ []

-- the node k gets its engager, the outermost node (by = 16) itself
abbrev pub placed : Reading → ℕ → ℕ → ℕ → Reading
placed r k by at = record { verdict = Accepted; engager = set r.engager k (cond (eqb by 16) k by); at = at; node = k }

abbrev pub judged : Verdict → Reading → Reading → Reading
judged Accepted m r = m
judged (Refused e) m r = refused r e

-- a number that was read, as a node of engager `by`, and no lower than `low`
unfoldable pub entered : ℕ → Reading → ℕ → ℕ → Read ℕ → Reading
entered n r by low None = refused r NotAForm
entered n r by low (Some (k, at)) = judged (first_of (number_table n r low k)) (placed r k by at) r

-- ---- a node and a list

-- the bracket that closes node k
unfoldable pub closed : List ℕ → ℕ → Reading → Reading
closed s k m =
    cond (eqb (get_or s m.at 0) closing)
    (record { verdict = Accepted; engager = m.engager; at = m.at + 1; node = k })
    (refused m NotAForm)

-- past the number: the children, then the closing bracket
unfoldable pub body_of : (Reading → ℕ → ℕ → Reading) → List ℕ → Reading → Reading
body_of list s m = and_then (list m m.node 0) (closed s m.node)

-- an opening bracket, the number, the list of children, a closing bracket
unfoldable pub node_by : (Reading → ℕ → ℕ → Reading) → List ℕ → ℕ → Reading → ℕ → ℕ → Reading
node_by list s n r by low =
    cond (eqb (get_or s r.at 0) opening)
    (and_then (entered n r by low (number_at s (r.at + 1))) (body_of list s))
    (refused r NotAForm)

-- the children of k from `low` on, each after one space; `left` is above the number of nodes that are not in the tree yet
unfoldable pub list_of : ℕ → List ℕ → ℕ → Reading → ℕ → ℕ → Reading
list_of zero s n r k low = refused r NotAForm
list_of (suc left) s n r k low =
    cond (eqb (get_or s r.at 0) space)
    (and_then (node_by (list_of left s n) s n (stepped r) k low) (λ m. list_of left s n m k (m.node + 1)))
    r

unfoldable pub node_of : ℕ → List ℕ → ℕ → Reading → ℕ → ℕ → Reading
node_of left s n r by low = node_by (list_of left s n) s n r by low

-- ---- the whole text

-- what was read; where it is refused, no engagers and no root, each 16
pub record Found : Type 0 where
  pub verdict : Verdict
  pub engager : List ℕ
  pub root : ℕ

abbrev pub fresh : Reading
fresh = record { verdict = Accepted; engager = replicate 16 16; at = 0; node = 0 }

-- where the text is refused nothing is given: no engagers, no root
abbrev pub nothing : Refusal → Found
nothing e = record { verdict = Refused e; engager = replicate 16 16; root = 16 }

-- a text must end with its last bracket, and gives back the engagers, the outermost node being the root
abbrev pub ended : Verdict → Reading → ℕ → Found
ended Accepted m size =
    cond (eqb m.at size) (record { verdict = Accepted; engager = m.engager; root = m.node }) (nothing NotAForm)
ended (Refused e) m size = nothing e

abbrev pub end_of : List ℕ → Reading → Found
end_of s m = ended m.verdict m (length s)

-- a number of nodes outside 1 to 16 is refused with 1, before the text is looked at
unfoldable pub read_of : ℕ → List ℕ → Found
read_of n s = cond (ltb 0 n && leb n 16) (end_of s (node_of 16 s n fresh 16 0)) (nothing NodeCount)
