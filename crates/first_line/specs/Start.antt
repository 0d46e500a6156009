-- What the answer to a first line holds. Assumes nothing.
use Rattle.std.specs.Prelude.{cond, List, [], ◌∷◌, ℕ, ◌+◌, max, get_or, set, replicate, ltb, Some, None}
use Rattle.std.specs.Int.Bits.{bit_or}
use Rattle.forms.specs.Form.{Form, bare_ring, ring_with, tree_of}
use Rattle.forms.specs.Read.{Read, read}
use Rattle.first_line.specs.declared.RingStart.{RingStart}
use Rattle.first_line.specs.declared.First.{First}
use Rattle.first_line.specs.declared.First.TheVariants.{Ring, Tree}

-- a first line: a ring without lists, a ring with both, a tree
pub data Start : Type 0 where
  bare : (n : ℕ) → Start
  lists : (n : ℕ) (active black : List ℕ) → Start
  tree : (n root : ℕ) → Start

abbrev pub start_form : Start → Form
start_form (bare n) = bare_ring n
start_form (lists n active black) = ring_with n active black
start_form (tree n root) = tree_of n root

abbrev pub zeros : List ℕ
zeros = replicate 96 0

-- every node active and white
abbrev pub ones : List ℕ
ones = replicate 96 1

abbrev pub ring_first : ℕ → List ℕ → ℕ → RingStart
ring_first n flags top = record { n = n; flags = flags; top = top }

-- node k is named: "lowest bit active, next bit black"; a node past the 96 has no flag
abbrev pub flagged : ℕ → ℕ → List ℕ → List ℕ
flagged bit k flags = cond (ltb k 96) (set flags k (bit_or (get_or flags k 0) bit)) flags

-- the flags after the nodes of a list are named
abbrev pub flag_all : ℕ → List ℕ → List ℕ → List ℕ
flag_all bit [] flags = flags
flag_all bit (k ∷ ks) flags = flag_all bit ks (flagged bit k flags)

-- one more than the largest node of a list, and no less than `top`
abbrev pub top_of : List ℕ → ℕ → ℕ
top_of [] top = top
top_of (k ∷ ks) top = top_of ks (max top (k + 1))

-- what the answer holds of a ring's line. Where it has no lists, all nodes are active and white
abbrev pub bare_start : ℕ → RingStart
bare_start n = ring_first n ones n

abbrev pub lists_start : ℕ → List ℕ → List ℕ → RingStart
lists_start n active black = ring_first n (flag_all 2 black (flag_all 1 active zeros)) (top_of black (top_of active 0))

-- what the answer holds of a form
abbrev pub seen : Start → First
seen (bare n) = Ring (bare_start n)
seen (lists n active black) = Ring (lists_start n active black)
seen (tree n root) = Tree n root

abbrev pub seen_of : Read Start → Read First
seen_of (Some (f, e)) = read (seen f) e
seen_of None = None
