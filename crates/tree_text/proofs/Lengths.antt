-- The length of the text of a tree, and the most that n nodes take. Assumes nothing.
use Prim.Native.Nat.{◌+◌, ◌<◌, ◌≤◌, ℕ}
use borrow.Author.Tests.{eq-eqb, ne_eqb}
use lib.Dec.{eqb}
use lib.ListN.{get_or, length, length-append}
use mathlib.Core.Bool.{Bool, cond, false, true}
use mathlib.Core.List.{List}
use mathlib.Core.Logic.{◌≢◌}
use mathlib.Core.Path.{◌≡◌, refl}
use native.Mathlib.Omega.{arith}
use Rattle.decimal.specs.Text.{decimal, digits}
use Rattle.laws.proofs.Sums.{sum_le, sum_mono, sum_same, sum_short}
use Rattle.laws.specs.Sums.{sum_to}
use Rattle.tree_text.proofs.Lists.{alone_places, list_length, root_share}
use Rattle.tree_text.proofs.Printed.{node_next}
use Rattle.tree_text.proofs.Trees.{tree_lists}
use Rattle.tree_text.specs.Text.{length_of, longest, share, text_of}
use Rattle.tree_text.specs.Theorems.{EngagementTree, LengthKnown}

full : ℕ → ℕ
full i = 3 + length (decimal i)

module _ (n : ℕ) (e : List ℕ) (root : ℕ) (T : EngagementTree n e root) where
  r16 : root < 16
  r16 = omega (arith, T.root_in, T.nodes)

  -- one more than the text, for the root has no space before it
  shares : length (text_of e root) + 1 ≡ sum_to 16 (share e)
  shares =
      rw (node_next 15 e root)
      (simp length-append
      (omega (
        arith,
        list_length T.nodes r16 (alone_places root) (tree_lists n e root T),
        root_share root r16,
      )))

  pub tree_length : length (text_of e root) ≡ length_of e
  unfolding length_of
  tree_length = omega (arith, shares)

  -- places from n on have no share
  below : sum_to 16 (share e) ≡ sum_to n (share e)
  unfolding share
  below = sum_short n 16 (share e) T.nodes (λ j lo h. rw (eq-eqb _ _ (T.unused j lo h)))

  at_most : (i : ℕ) → share e i ≤ full i
  unfolding share full
  at_most i = by (eqb (get_or e i 16) 16)
    where
      by : (b : Bool) → cond b 0 (3 + length (decimal i)) ≤ 3 + length (decimal i)
      by true = omega arith
      by false = omega arith

  pub tree_bound : length (text_of e root) ≤ longest n
  unfolding longest full
  tree_bound = omega (arith, shares, below, sum_le n (share e) full (λ j _. at_most j))

  pub tree_full : ((i : ℕ) → i < n → get_or e i 16 ≢ 16) → length (text_of e root) ≡ longest n
  unfolding longest full share
  tree_full h =
      omega (arith, shares, below, sum_same n (share e) full (λ j l. rw (ne_eqb (get_or e j 16) 16 (h j l))))

seventy : sum_to 16 full ≡ 70
unfolding sum_to full decimal digits
seventy = refl

pub longest_most : (n : ℕ) → n ≤ 16 → longest n ≤ 69
unfolding longest full
longest_most n h = omega (arith, sum_mono n 16 full h, seventy)

pub length_known : LengthKnown
length_known = record { exact = tree_length; bound = tree_bound; most = longest_most; met = tree_full }
