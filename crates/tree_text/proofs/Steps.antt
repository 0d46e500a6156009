-- The steps of the reader, as the code goes. Assumes nothing.
use Rattle.std.specs.Prelude.{None}
use Prim.Native.Nat.{◌+◌, ◌-◌, ◌<◌, ◌≤◌, suc, zero, ℕ}
use borrow.Author.Tests.{eq-eqb, le-leb, le-ltb, lt-leb, lt-ltb, ne_eqb}
use lib.ListN.{get_or}
use mathlib.Core.List.{List}
use mathlib.Core.Logic.{◌≢◌, ◌⊎◌, inl, inr}
use mathlib.Core.Path.{◌∙◌, ◌≡◌, ap, refl}
use native.Mathlib.Omega.{arith}
use Rattle.decimal.specs.Number.{number_at, read}
use Rattle.refusal.specs.declared.Refusal.{Refusal}
use Rattle.refusal.specs.declared.Refusal.TheVariants.{NotAForm, UnknownNode}
use Rattle.refusal.specs.Table.{Verdict}
use Rattle.refusal.specs.Table.{Accepted, Refused}
use Rattle.tree_text.specs.Read.{and_then, body_of, closed, entered, list_of, node_by, node_of, placed, refused, stepped}
use Rattle.tree_text.specs.Text.{closing, opening, space}
use Rattle.tree_text.specs.Read.{Reading}

-- ---- verdicts

pub verdict_of : (v : Verdict) → (v ≡ Accepted) ⊎ ((e : Refusal) × (v ≡ Refused e))
verdict_of Accepted = inl refl
verdict_of (Refused e) = inr (e, refl)

pub then_yes : (r : Reading) (f : Reading → Reading) → r.verdict ≡ Accepted → and_then r f ≡ f r
unfolding and_then
then_yes r f p = rw p

pub then_no : (r : Reading) (f : Reading → Reading) (e : Refusal) → r.verdict ≡ Refused e → and_then r f ≡ r
unfolding and_then
then_no r f e p = rw p

-- ---- a number

module _ (n : ℕ) (r : Reading) (by low : ℕ) where
  pub enter_wrong : entered n r by low None ≡ refused r NotAForm
  unfolding entered
  enter_wrong = refl

  module _ (k at : ℕ) where
    pub enter_large : n ≤ k → entered n r by low (read k at) ≡ refused r UnknownNode
    unfolding entered
    enter_large h = rw (le-leb n k h)

    pub enter_low : k < n → k < low → entered n r by low (read k at) ≡ refused r NotAForm
    unfolding entered
    enter_low h l = rw (lt-leb n k h, lt-ltb k low l)

    pub enter_again : k < n → low ≤ k → get_or r.engager k 16 ≢ 16 → entered n r by low (read k at) ≡ refused r NotAForm
    unfolding entered
    enter_again h l f = rw (lt-leb n k h, le-ltb k low l, ne_eqb (get_or r.engager k 16) 16 f)

    pub enter_new : k < n → low ≤ k → get_or r.engager k 16 ≡ 16 → entered n r by low (read k at) ≡ placed r k by at
    unfolding entered
    enter_new h l f = rw (lt-leb n k h, le-ltb k low l, eq-eqb (get_or r.engager k 16) 16 f)

-- ---- a node

pub close_no : (s : List ℕ) (k : ℕ) (m : Reading) → get_or s m.at 0 ≢ closing → closed s k m ≡ refused m NotAForm
unfolding closed
close_no s k m h = rw (ne_eqb (get_or s m.at 0) closing h)

pub close_yes : (s : List ℕ) (k : ℕ) (m : Reading) → get_or s m.at 0 ≡ closing
    → closed s k m ≡ record { verdict = Accepted; engager = m.engager; at = m.at + 1; node = k }
unfolding closed
close_yes s k m h = rw (eq-eqb (get_or s m.at 0) closing h)

module _ (left : ℕ) (s : List ℕ) (n : ℕ) (r : Reading) (by low : ℕ) where
  pub node_no : get_or s r.at 0 ≢ opening → node_of left s n r by low ≡ refused r NotAForm
  unfolding node_of node_by
  node_no h = rw (ne_eqb (get_or s r.at 0) opening h)

  pub node_yes : get_or s r.at 0 ≡ opening
      → node_of left s n r by low ≡ and_then (entered n r by low (number_at s (r.at + 1))) (body_of (list_of left s n) s)
  unfolding node_of node_by
  node_yes h = rw (eq-eqb (get_or s r.at 0) opening h)

pub body_is : (left : ℕ) (s : List ℕ) (n : ℕ) (m : Reading)
    → body_of (list_of left s n) s m ≡ and_then (list_of left s n m m.node 0) (closed s m.node)
unfolding body_of
body_is left s n m = refl

-- ---- a list

module _ (s : List ℕ) (n : ℕ) (r : Reading) (k low : ℕ) where
  pub list_zero : list_of 0 s n r k low ≡ refused r NotAForm
  unfolding list_of
  list_zero = refl

  pub list_none : (left : ℕ) → left ≢ 0 → get_or s r.at 0 ≢ space → list_of left s n r k low ≡ r
  unfolding list_of
  list_none zero h q = absurd (h refl)
  list_none (suc left) h q = rw (ne_eqb (get_or s r.at 0) space q)

  pub list_next : (left : ℕ) → get_or s r.at 0 ≡ space
      → list_of (suc left) s n r k low ≡ and_then (node_of left s n (stepped r) k low) (λ m. list_of left s n m k (m.node + 1))
  unfolding list_of node_of
  list_next left q = rw (eq-eqb (get_or s r.at 0) space q)

  pub list_more : (left : ℕ) → left ≢ 0 → get_or s r.at 0 ≡ space
      → list_of left s n r k low ≡ and_then (node_of (left - 1) s n (stepped r) k low) (λ m. list_of (left - 1) s n m k (m.node + 1))
  list_more zero h q = absurd (h refl)
  list_more (suc left) h q =
      let p : left ≡ suc left - 1 = omega arith in
      list_next left q ∙ ap (λ (f : ℕ). and_then (node_of f s n (stepped r) k low) (λ m. list_of f s n m k (m.node + 1))) p
