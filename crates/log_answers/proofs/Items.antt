-- The length of an item. Assumes nothing.
use Prim.Native.Nat.{◌<◌, ◌≤◌, ℕ}
use lib.ListN.{length, length-append}
use mathlib.Core.List.{List, ◌++◌}
use Rattle.decimal.specs.Bytes.{bytes}
use native.Mathlib.Omega.{arith}
use Rattle.decimal.proofs.Decimal.{decimal_width}
use Rattle.decimal.specs.Text.{decimal}
use Rattle.tree_text.proofs.Lengths.{length_known}
use Rattle.tree_text.proofs.Theorems.{sound_tree}
use Rattle.tree_text.specs.Write.{state_text}
use Rattle.tree_rules.specs.State as rules
use Rattle.tree_rules.specs.Soundness as soundness
use Rattle.log_answers.specs.Ends.{ring_text}
use Rattle.log_answers.specs.declared.ring_end.RingEnd.{RingEnd}

-- a number that a u64 holds has at most 20 digits
pub decimal_short : (n : ℕ) → n < 18446744073709551616 → length (decimal n) ≤ 20
decimal_short n k = decimal_width 19 n (omega arith)

-- the end line of a ring, of numbers that a u64 holds
pub ring_short : (last : List ℕ) (e : RingEnd) → length last ≤ 8
    → e.nodes < 18446744073709551616 → e.position < 18446744073709551616 → e.moves < 18446744073709551616
    → e.in_transit < 18446744073709551616 → e.black < 18446744073709551616 → length (ring_text last e) ≤ 256
ring_short last e l n p m f b =
    simp length-append (
    omega (
      arith,
      decimal_short e.nodes n,
      decimal_short e.position p,
      decimal_short e.moves m,
      decimal_short e.in_transit f,
      decimal_short e.black b,
    )
    )

-- the text of a sound tree
pub tree_short : (t : rules.State) → soundness.Sound t → length (state_text t) ≤ 69
tree_short t s =
    let T = sound_tree t s in
    omega (arith, length_known.bound t.n t.engager t.root T, length_known.most t.n T.nodes)

-- the end line of a tree, of a text so long and numbers that a u64 holds
pub tree_end_short : (n acks : ℕ) (text : List ℕ) → n < 18446744073709551616 → acks < 18446744073709551616 → length text ≤ 69
    → length (bytes "(end (boards " ++ (decimal n ++ (bytes ") (engaged " ++ (text ++ (bytes ") (acks " ++ (decimal acks ++ bytes "))\n")))))) ≤ 256
tree_end_short n acks text hn ha h = simp length-append (omega (arith, decimal_short n hn, decimal_short acks ha))
