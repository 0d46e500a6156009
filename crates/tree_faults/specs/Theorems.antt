-- "The first fault from the left decides", for every text. The proof stands in proofs/ under the lower-case name: `FirstFault` is `first_fault`.
use Rattle.std.specs.Prelude.{◌+◌, ◌<◌, ◌≤◌, ℕ, eqb, get_or, length, take, cond, List, [], ◌++◌, ◌∷◌, ◌↔◌, ◌≡◌}
use Rattle.decimal.specs.Exact.{Stands}
use Rattle.decimal.specs.Text.{decimal}
use Rattle.refusal.specs.declared.Refusal.{Refusal}
use Rattle.refusal.specs.declared.Refusal.TheVariants.{NotAForm, UnknownNode}
use Rattle.refusal.specs.Table.{Accepted, Refused}
use Rattle.tree_faults.specs.Trees.{AllBelow, Nodes, TreeShape, node, none, tree_text}
use Rattle.tree_text.specs.Read.{read_of}
use Rattle.tree_text.specs.Text.{opening, space, text_of}
use Rattle.tree_text.specs.Theorems.{EngagementTree}

-- the number v stands where a number belongs, right after an opening bracket, its last digit right before `end`
pub record NumberTo (s : List ℕ) (v end : ℕ) : Type 0 where
  pub at : ℕ
  pub bracket : get_or s at 0 ≡ opening
  pub number : Stands s (at + 1) v end

abbrev pub LargeTo : ℕ → List ℕ → ℕ → Type 0
LargeTo n s end = (v : ℕ) × NumberTo s v end × (n ≤ v)

-- u is the beginning of the text of a tree. A number that is complete in u, so that another byte of u follows it, is below n; the one that
-- u breaks off in, and those after u, may be of any size.
pub record BeginsText (n : ℕ) (u : List ℕ) : Type 0 where
  pub root : ℕ
  pub children : Nodes
  pub rest : List ℕ
  pub tree : TreeShape root children
  pub text : tree_text root children ≡ u ++ rest
  pub below : (v end : ℕ) → NumberTo u v end → end < length u → v < n

-- the fault of a text that is refused with e
pub record Fault (n : ℕ) (s : List ℕ) (e : Refusal) : Type 0 where
  pub place : ℕ
  pub inside : place ≤ length s
  -- up to there s is the beginning of a tree's text, and no further
  pub begins : BeginsText n (take place s)
  pub longest : (p : ℕ) → p ≤ length s → BeginsText n (take p s) → p ≤ place
  -- "where a number belongs, one without leading zero, read to its last digit, of N or more is 6"
  pub six : (e ≡ UnknownNode) ↔ LargeTo n s place
  -- "anything else, such as a leading zero, a repeated board, other spacing or order, is 10"
  pub ten : (e ≡ NotAForm) ↔ (LargeTo n s place → ⊥)

-- u is the beginning of the text of a tree of n nodes
pub record BeginsWritten (n : ℕ) (u : List ℕ) : Type 0 where
  pub engagers : List ℕ
  pub root : ℕ
  pub rest : List ℕ
  pub tree : EngagementTree n engagers root
  pub text : text_of engagers root ≡ u ++ rest

-- what node k begins with, `at` bytes into a text: a space, but not at the root, an opening bracket and its number
abbrev pub opening_at : ℕ → ℕ → List ℕ
opening_at at k = cond (eqb at 0) [] (space ∷ []) ++ (opening ∷ decimal k)

-- from `from` to `place` stands what one node begins with, or the first part of it
pub record OpenedTo (s : List ℕ) (from place : ℕ) : Type 0 where
  pub part : List ℕ
  pub is : take place s ≡ take from s ++ part
  pub number : ℕ
  pub more : List ℕ
  pub opens : opening_at from number ≡ part ++ more

-- the place of a fault, by the texts of trees of n nodes
pub record Near (n : ℕ) (s : List ℕ) (place : ℕ) : Type 0 where
  -- up to `last` s is the beginning of such a text, and no further
  pub last : ℕ
  pub written : BeginsWritten n (take last s)
  pub longest : (p : ℕ) → p ≤ length s → BeginsWritten n (take p s) → p ≤ last
  -- the fault is there, or later in the opening of the same node
  pub from : ℕ
  pub before : from ≤ last
  pub after : last ≤ place
  pub opened : OpenedTo s from place

-- s is the whole text of a tree with every number below n
pub record WholeText (n : ℕ) (s : List ℕ) : Type 0 where
  pub root : ℕ
  pub children : Nodes
  pub tree : TreeShape root children
  pub numbers : AllBelow n (node root children none)
  pub text : s ≡ tree_text root children

pub record FirstFault : Type 0 where
  pub refused : (n : ℕ) (s : List ℕ) (e : Refusal) → 0 < n → n ≤ 16 → (read_of n s).verdict ≡ Refused e → Fault n s e
  -- these trees are those that the reader accepts
  pub accepted : (n : ℕ) (s : List ℕ) → 0 < n → n ≤ 16 → ((read_of n s).verdict ≡ Accepted) ↔ WholeText n s
  -- and what the text of a tree of n nodes begins with is such a beginning
  pub written : (n : ℕ) (e : List ℕ) (root : ℕ) (u rest : List ℕ) → EngagementTree n e root → text_of e root ≡ u ++ rest → BeginsText n u
  -- by the texts of trees of n nodes alone the fault is there too, or earlier in the opening of the same node
  pub near : (n : ℕ) (s : List ℕ) (e : Refusal) → 0 < n → n ≤ 16 → (F : Fault n s e) → Near n s F.place
