-- Messages from a node, and the nodes under a node, where one place of a column changes. Assumes nothing.
use Prim.Native.Nat.{◌*◌, ◌+◌, ◌-◌, ◌<◌, ℕ}
use borrow.Author.Tests.{eqb-false, eqb-true, ne_eqb, not-true}
use lib.Dec.{eqb}
use lib.ListN.{get_or, length, set}
use lib.Seq.{get_or-set_other, get_or-set_same}
use mathlib.Core.Bool.{Bool, ◌&&◌, cond, false, not, true}
use mathlib.Core.List.{List}
use mathlib.Core.Logic.{◌≢◌}
use mathlib.Core.Path.{◌≡◌, ap, refl}
use native.Mathlib.Decide.{ℕ_discrete}
use native.Mathlib.Omega.{arith}
use Rattle.laws.proofs.Indicators.{ind, ind_eq, ind_ne, ind_sym, lowered_at, raised_at, sum_ind}
use Rattle.laws.proofs.Sums.{count_sum, sum_add, sum_at, sum_same, sum_zero}
use Rattle.laws.proofs.Tests.{both}
use Rattle.laws.specs.Sums.{sum_to}
use Rattle.tree_rules.specs.State.{children, is_child, messages_from}

-- ---- messages from a node

ind_pair : (i j m k : ℕ) → j < 16 → k < 16 → m ≡ i → ind (m * 16 + k) (i * 16 + j) ≡ ind k j
ind_pair i j m k hj hk e =
    elim (ℕ_discrete k j) [
      | yes p ↦ omega (arith, ind_eq k j p, ind_eq (m * 16 + k) (i * 16 + j) (omega arith))
      | no q ↦ omega (arith, ind_ne k j q, ind_ne (m * 16 + k) (i * 16 + j) (omega arith))
    ]

ind_row : (i j m : ℕ) → j < 16 → sum_to 16 (λ k. ind (m * 16 + k) (i * 16 + j)) ≡ ind m i
ind_row i j m hj =
    elim (ℕ_discrete m i) [
      | yes e ↦
          omega
          (arith, sum_same 16 (λ k. ind (m * 16 + k) (i * 16 + j)) (λ k. ind k j) (λ k hk. ind_pair i j m k hj hk e), sum_ind 16 j hj, ind_eq m i e)
      | no e ↦
          omega
          (arith, sum_zero 16 (λ k. ind (m * 16 + k) (i * 16 + j)) (λ k hk. ind_ne (m * 16 + k) (i * 16 + j) (omega arith)), ind_ne m i e)
    ]

pub from_raised :
    (l : List ℕ) (i j m : ℕ) → i * 16 + j < length l → j < 16
    → messages_from (set l (i * 16 + j) (get_or l (i * 16 + j) 0 + 1)) m ≡ messages_from l m + ind m i
unfolding messages_from
from_raised l i j m h hj =
    omega (
      arith,
      sum_same 16
          (λ k. get_or (set l (i * 16 + j) (get_or l (i * 16 + j) 0 + 1)) (m * 16 + k) 0)
          (λ k. get_or l (m * 16 + k) 0 + ind (m * 16 + k) (i * 16 + j))
          (λ k _. raised_at l (i * 16 + j) (m * 16 + k) h),
      sum_add 16 (λ k. get_or l (m * 16 + k) 0) (λ k. ind (m * 16 + k) (i * 16 + j)),
      ind_row i j m hj,
    )

pub from_lowered :
    (l : List ℕ) (i j m : ℕ) → i * 16 + j < length l → j < 16 → 0 < get_or l (i * 16 + j) 0
    → messages_from (set l (i * 16 + j) (get_or l (i * 16 + j) 0 - 1)) m + ind m i ≡ messages_from l m
unfolding messages_from
from_lowered l i j m h hj has =
    omega (
      arith,
      sum_same 16
          (λ k. get_or (set l (i * 16 + j) (get_or l (i * 16 + j) 0 - 1)) (m * 16 + k) 0 + ind (m * 16 + k) (i * 16 + j))
          (λ k. get_or l (m * 16 + k) 0)
          (λ k _. lowered_at l (i * 16 + j) (m * 16 + k) h has),
      sum_add 16 (λ k. get_or (set l (i * 16 + j) (get_or l (i * 16 + j) 0 - 1)) (m * 16 + k) 0) (λ k. ind (m * 16 + k) (i * 16 + j)),
      ind_row i j m hj,
    )

-- ---- nodes under a node

-- node i, which is not the root, gets the engager k
pub children-set :
    (root : ℕ) (l : List ℕ) (i k j : ℕ) → i < length l → i < 16 → i ≢ root
    → children root (set l i k) j + ind j (get_or l i 16) ≡ children root l j + ind j k
unfolding children ind
children-set root l i k j h hi ne =
    omega (
      arith,
      count_sum 16 (is_child root l j),
      count_sum 16 (is_child root (set l i k) j),
      sum_at 16 i (one l) (one (set l i k)) hi (λ m _ q. simp (get_or-set_other l i m k 16 q)),
      at l,
      at (set l i k),
      ap (λ (x : ℕ). ind x j) (get_or-set_same l i k 16 h),
      ind_sym (get_or l i 16) j,
      ind_sym k j,
    )
  where
    one : List ℕ → ℕ → ℕ
    one e m = cond (is_child root e j m) 1 0

    at : (e : List ℕ) → one e i ≡ ind (get_or e i 16) j
    at e = simp (ne_eqb i root ne)

-- a child is no root, and has the engager that it is counted under
pub child_of : (root : ℕ) (l : List ℕ) (j i : ℕ) → is_child root l j i ≡ true → (i ≢ root) × (get_or l i 16 ≡ j)
child_of root l j i e = let p = both _ _ e in (eqb-false _ _ (not-true _ p.0), eqb-true _ _ p.1)

pub no_child : (root : ℕ) (l : List ℕ) (j i : ℕ) → get_or l i 16 ≢ j → is_child root l j i ≡ false
no_child root l j i ne = rw (ne_eqb (get_or l i 16) j ne) (go (not (eqb i root)))
  where
    go : (b : Bool) → (b && false) ≡ false
    go true = refl
    go false = refl
