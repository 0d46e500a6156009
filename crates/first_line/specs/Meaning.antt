-- What the fields of a ring's answer mean. Assumes nothing.
use Rattle.std.specs.Prelude.{◌≡◌, Bool, cond, false, true, ◌↔◌, List, [], ◌∷◌, ℕ, zero, suc, ◌+◌, ◌≤◌, ◌<◌, length, get_or, eqb}
use Rattle.first_line.specs.declared.RingStart.{RingStart}

-- the list names node i
abbrev pub named : List ℕ → ℕ → Bool
named [] i = false
named (k ∷ ks) i = cond (eqb k i) true (named ks i)

-- so many nodes from `low` on; all n nodes
unfoldable pub nodes_from : ℕ → ℕ → List ℕ
nodes_from low zero = []
nodes_from low (suc many) = low ∷ nodes_from (low + 1) many

abbrev pub every_node : ℕ → List ℕ
every_node n = nodes_from 0 n

-- each node of the list is below n
abbrev pub Below : ℕ → List ℕ → Type 0
Below n [] = Unit {0}
Below n (k ∷ ks) = (k < n) × Below n ks

-- "value 0 to 3, lowest bit active, next bit black": 1 if the node is active, and 2 more if it is black
abbrev pub flag_byte : Bool → Bool → ℕ
flag_byte active black = cond active 1 0 + cond black 2 0

-- the answer r to a ring line that names these nodes active and these black; its flags are told of so many places
pub record Means (places : ℕ) (active black : List ℕ) (r : RingStart) : Type 0 where
  pub many : length r.flags ≡ 96
  pub flag : (i : ℕ) → i < places → i < 96 → get_or r.flags i 0 ≡ flag_byte (named active i) (named black i)
  pub most : (n : ℕ) → (r.top ≤ n) ↔ (Below n active × Below n black)

-- start flags for 96 nodes
pub record Flags (flags : List ℕ) : Type 0 where
  pub places : length flags ≡ 96
  pub small : (i : ℕ) → i < 96 → get_or flags i 0 ≤ 3
