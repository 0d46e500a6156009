-- The start flags that a first line gives. Assumes nothing.
use Rattle.std.specs.Prelude.{Some, None}
use Prim.Native.Nat.{◌≤◌, ℕ}
use lib.ListN.{get_or-replicate, length-replicate, replicate}
use mathlib.Core.Bool.{Bool, false, true}
use mathlib.Core.List.{List}
use mathlib.Core.Path.{◌≡◌, refl, subst⁻¹}
use native.Mathlib.Omega.{arith}
use Rattle.forms.specs.Form.{SmallForm}
use Rattle.forms.specs.Read.{Read}
use Rattle.first_line.proofs.Meaning.{rings_mean}
use Rattle.first_line.proofs.Opens.{first_exact}
use Rattle.first_line.specs.Meaning.{Flags, flag_byte, named}
use Rattle.first_line.specs.declared.First.{First}
use Rattle.first_line.specs.declared.First.TheVariants.{Ring, Tree}
use Rattle.first_line.specs.Read.{first_at}
use Rattle.first_line.specs.Start as starts

pub flag_small : (a b : Bool) → flag_byte a b ≤ 3
flag_small true true = omega arith
flag_small true false = omega arith
flag_small false true = omega arith
flag_small false false = omega arith

-- the same flag at every place
same_flags : (v : ℕ) → v ≤ 3 → Flags (replicate 96 v)
same_flags v small = record {
  places = length-replicate {A = ℕ} 96 v;
  small = λ i h. omega (arith, get_or-replicate {A = ℕ} 96 i v 0 h);
}

pub zero_flags : Flags starts.zeros
zero_flags = same_flags 0 (omega arith)

pub one_flags : Flags starts.ones
one_flags = same_flags 1 (omega arith)

pub lists_flags : (n : ℕ) (a b : List ℕ) → SmallForm (starts.start_form (starts.lists n a b)) → Flags (starts.lists_start n a b).flags
lists_flags n a b v = record {
  places = (rings_mean.both n a b v.1 v.2).many;
  small = λ i h. subst⁻¹ (λ (x : ℕ). x ≤ 3) ((rings_mean.both n a b v.1 v.2).flag i h h) (flag_small (named a i) (named b i));
}

-- the flags of a ring that was seen
abbrev pub FirstFlags : First → Type 0
FirstFlags (Ring r) = Flags r.flags
FirstFlags (Tree n root) = Unit {0}

abbrev pub ReadFlags : Read First → Type 0
ReadFlags (Some (f, e)) = FirstFlags f
ReadFlags None = Unit {0}

pub start_flags : (f : starts.Start) → SmallForm (starts.start_form f) → FirstFlags (starts.seen f)
start_flags (starts.bare n) v = one_flags
start_flags (starts.tree n root) v = tt
start_flags (starts.lists n a b) v = lists_flags n a b v

pub seen_flags : (l : List ℕ) (at : ℕ) → ReadFlags (starts.seen_of (first_at l at))
seen_flags l at = go (first_at l at) refl
  where
    go : (r : Read starts.Start) → first_at l at ≡ r → ReadFlags (starts.seen_of r)
    go None p = tt
    go (Some (f, e)) p = start_flags f ((first_exact l at f e).0 p).0.1.0
