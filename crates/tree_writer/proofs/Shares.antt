-- What the nodes add to the length of the text. Assumes nothing.
use Prim.Native.Nat.{◌+◌, ◌<◌, ◌≤◌, ℕ}
use lib.Dec.{eqb}
use lib.ListN.{get_or, length}
use mathlib.Core.Bool.{Bool, cond, false, true}
use mathlib.Core.List.{List}
use mathlib.Core.Path.{◌∙◌, ◌≡◌, ap, refl, sym}
use Rattle.refusal.specs.declared.Refusal.TheVariants.{ShortBuffer, Unsound}
use Rattle.tree_text.proofs.Answers.{fits, left_no, left_yes, short, told_no, told_yes, unsound}
use Rattle.tree_text.specs.Theorems.{EngagementTree}
use Rattle.tree_rules.proofs.Soundness.{sound_true}
use Rattle.tree_rules.specs.Soundness.{sound_test}
use Rattle.tree_rules.specs.State.{State}
use Rattle.tree_text.proofs.Lengths.{tree_length}
use Rattle.tree_text.proofs.Theorems.{sound_tree}
use Rattle.tree_text.specs.Write.{Length, NotWritten, buffer_of, state_text, written_of}
use native.Mathlib.Omega.{arith}
use Rattle.decimal.proofs.Decimal.{decimal_width}
use Rattle.decimal.specs.Text.{decimal, put}
use Rattle.laws.proofs.Sums.{sum_le}
use Rattle.laws.specs.Sums.{sum_to}
use Rattle.tree_text.specs.Text.{length_of, share, text_of}

pub share_small : (e : List ℕ) (i : ℕ) → i < 16 → share e i ≤ 5
unfolding share
share_small e i h = go (eqb (get_or e i 16) 16)
  where
    go : (b : Bool) → cond b 0 (3 + length (decimal i)) ≤ 5
    go true = omega arith
    go false = omega (arith, decimal_width 1 i (omega arith))

pub shares_small : (e : List ℕ) → sum_to 16 (share e) ≤ 80
unfolding sum_to
shares_small e =
    let most : sum_to 16 (λ i. 5) ≡ 80 = refl in
    omega (arith, sum_le 16 (share e) (λ i. 5) (share_small e), most)

-- a tree that is not sound
pub unsound_told : (t : State) (b : List ℕ) → sound_test t ≡ false → NotWritten Unsound ≡ written_of t b
unsound_told t b h = sym (told_no t b Unsound (unsound t b h))

pub unsound_left : (t : State) (b : List ℕ) → sound_test t ≡ false → b ≡ buffer_of t b
unsound_left t b h = sym (left_no t b Unsound (unsound t b h))

-- a sound tree and a buffer, shorter than the text or not
module _ (t : State) (b : List ℕ) (h : sound_test t ≡ true) where
  tree : EngagementTree t.n t.engager t.root
  tree = sound_tree t (sound_true t h)

  size : length (state_text t) ≡ length_of t.engager
  size = tree_length t.n t.engager t.root tree

  module _ (less : length b < length_of t.engager) where
    pub short_told : NotWritten ShortBuffer ≡ written_of t b
    short_told = sym (told_no t b ShortBuffer (short t b h (omega (arith, size))))

    pub short_left : b ≡ buffer_of t b
    short_left = sym (left_no t b ShortBuffer (short t b h (omega (arith, size))))

  module _ (enough : length_of t.engager ≤ length b) where
    pub room : (length t.engager ≡ 16) × (t.root < 16) × (0 + length (text_of t.engager t.root) ≤ length b)
    room = (tree.places, omega (arith, tree.root_in, tree.nodes), omega (arith, size))

    pub text_told : (k : ℕ) → k ≡ 0 + length (text_of t.engager t.root) → Length k ≡ written_of t b
    text_told k e = ap Length (e ∙ let f : 0 + length (text_of t.engager t.root) ≡ length (state_text t) = omega arith in f) ∙ sym (told_yes t b (fits t b h (omega (arith, size))))

    pub text_left : (next : List ℕ) → next ≡ put b 0 (text_of t.engager t.root) → next ≡ buffer_of t b
    text_left next e = e ∙ sym (left_yes t b (fits t b h (omega (arith, size))))
