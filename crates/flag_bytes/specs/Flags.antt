-- Truths that are lent as bytes: 1 is true, 0 is false, and a byte above 1 is no flag.
use Rattle.std.specs.Prelude.{ℕ, eqb, leb, Bool, cond, List, map}
use Rattle.std.specs.List.{list_all}

abbrev pub is_flag : ℕ → Bool
is_flag b = leb b 1

abbrev pub flag_of : ℕ → Bool
flag_of b = eqb b 1

abbrev pub byte_of : Bool → ℕ
byte_of b = cond b 1 0

-- the same of columns: is each byte a flag; the truths; the bytes
unfoldable pub are_flags : List ℕ → Bool
are_flags l = list_all is_flag l

unfoldable pub flags_of : List ℕ → List Bool
flags_of l = map flag_of l

unfoldable pub bytes_of : List Bool → List ℕ
bytes_of l = map byte_of l
