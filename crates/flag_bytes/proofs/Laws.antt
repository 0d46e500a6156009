-- One byte more of each walk; flags are what their truths give back; one narrow number stands for all that are too large. Assumes nothing.
use Prim.Native.Nat.{◌<◌, suc, zero, ℕ}
use borrow.Author.Tests.{leb-true, lt-leb, ltb-true}
use lib.Dec.{ltb}
use lib.ListN.{get_or}
use mathlib.Core.Bool.{Bool, and-false, cond, false, true}
use mathlib.Core.List.{List, [], ◌∷◌}
use mathlib.Core.Path.{◌≡◌, refl}
use native.Mathlib.Omega.{arith}
use Rattle.laws.proofs.Tests.{both, both_true}
use Rattle.flag_bytes.specs.Flags.{are_flags, byte_of, bytes_of, flag_of, flags_of, is_flag}

-- truths are what their bytes give back, and flags what their truths give back
pub truth_back : (b : Bool) → (is_flag (byte_of b) ≡ true) × (flag_of (byte_of b) ≡ b)
truth_back true = (refl, refl)
truth_back false = (refl, refl)

pub truths_back : (l : List Bool) → (are_flags (bytes_of l) ≡ true) × (flags_of (bytes_of l) ≡ l)
unfolding are_flags bytes_of flags_of
truths_back [] = (refl, refl)
truths_back (b ∷ l) =
    let first = truth_back b in let rest = truths_back l in (both_true first.0 rest.0, λ x. first.1 x ∷ rest.1 x)

pub flag_back : (b : ℕ) → is_flag b ≡ true → byte_of (flag_of b) ≡ b
flag_back zero e = refl
flag_back (suc zero) e = refl
flag_back (suc (suc b)) e = absurd (omega (arith, leb-true (suc (suc b)) 1 e))

pub flags_back : (l : List ℕ) → are_flags l ≡ true → bytes_of (flags_of l) ≡ l
unfolding are_flags bytes_of flags_of
flags_back [] e = refl
flags_back (b ∷ l) e =
    let h = both (is_flag b) (are_flags l) e in λ x. flag_back b h.0 x ∷ flags_back l h.1 x

-- a byte above 1 is no flag, alone or at a place of a column
pub no_flag : (b : ℕ) → 1 < b → is_flag b ≡ false
no_flag b h = lt-leb b 1 h

pub no_flags : (l : List ℕ) (k : ℕ) → 1 < get_or l k 0 → are_flags l ≡ false
unfolding are_flags
no_flags [] k h = absurd (omega arith)
no_flags (b ∷ l) zero h = rw (no_flag b h)
no_flags (b ∷ l) (suc k) h = rw (no_flags l k h) (and-false (is_flag b))

-- what answers all numbers above `top` alike does not tell a number from the narrow one
pub narrow_same :
    {A : Type 0} (f : ℕ → A) (top one m : ℕ) → ((k : ℕ) → top < k → f one ≡ f k) → f (cond (ltb top m) one m) ≡ f m
narrow_same {A} f top one m h = go (ltb top m) refl
  where
    go : (b : Bool) → ltb top m ≡ b → f (cond b one m) ≡ f m
    go true p = h m (ltb-true top m p)
    go false p = refl
