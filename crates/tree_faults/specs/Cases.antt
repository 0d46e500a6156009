-- Texts with the place of their fault and the number that they are refused with. proofs/Cases.antt shows each.
use Rattle.std.specs.Prelude.{ℕ, ◌≡◌}
use Prim.Native.String.{String}
use Rattle.decimal.specs.Bytes.{bytes}
use Rattle.refusal.specs.Table.{number_of}
use Rattle.refusal.specs.declared.Refusal.{Refusal}
use Rattle.refusal.specs.Table.{Refused}
use Rattle.tree_faults.specs.Theorems.{Fault, Near}
use Rattle.tree_text.specs.Read.{read_of}

-- a text is refused by a reader of n nodes with this number, its fault after so many bytes
abbrev pub Faulty : ℕ → String → ℕ → ℕ → Type 0
Faulty n s place number =
    (e : Refusal) × ((read_of n (bytes s)).verdict ≡ Refused e) × (number_of e ≡ number) × ((F : Fault n (bytes s) e) → F.place ≡ place)

-- by the texts of trees of n nodes alone, the fault at that place is after so many bytes
abbrev pub Literally : ℕ → String → ℕ → ℕ → Type 0
Literally n s place last = (N : Near n (bytes s) place) → N.last ≡ last

pub record AllCases : Type 0 where
  pub empty : Faulty 4 "" 0 10
  pub after_the_end : Faulty 4 "(0) " 3 10
  pub cut_off : Faulty 4 "(0 (1" 5 10
  pub leading_zero : Faulty 4 "(3 (03))" 5 10
  -- the number could still be 10
  pub falling : Faulty 4 "(0 (2) (1))" 9 10
  pub twelve_of_four : Faulty 4 "(0 (12))" 6 6
  -- a number belongs there, though no node is left
  pub five_of_two : Faulty 2 "(0 (1) (5))" 9 6
  pub two_by_trees : Literally 2 "(0 (1) (5))" 9 6
  -- nodes are left, but none for that place
  pub five_of_four : Faulty 4 "(0 (3) (5))" 9 6
  pub four_by_trees : Literally 4 "(0 (3) (5))" 9 6
