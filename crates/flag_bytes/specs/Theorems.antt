-- What a lent byte says of a truth.
use Rattle.std.specs.Prelude.{◌<◌, ℕ, get_or, Bool, false, true, List, ◌≡◌}
use Rattle.flag_bytes.specs.Flags.{are_flags, byte_of, bytes_of, flag_of, flags_of, is_flag}

-- 1 is true and 0 is false, each a flag, alone or in a column; a byte above 1 is none, at whatever place of a column; flags are what their
-- truths give back
pub record FlagsJudged : Type 0 where
  pub flag : (b : Bool) → (is_flag (byte_of b) ≡ true) × (flag_of (byte_of b) ≡ b)
  pub one : byte_of true ≡ 1
  pub none : (b : ℕ) → 1 < b → is_flag b ≡ false
  pub none_at : (l : List ℕ) (k : ℕ) → 1 < get_or l k 0 → are_flags l ≡ false
  pub back : (b : ℕ) → is_flag b ≡ true → byte_of (flag_of b) ≡ b
  pub all : (l : List Bool) → (are_flags (bytes_of l) ≡ true) × (flags_of (bytes_of l) ≡ l)
  pub all_back : (l : List ℕ) → are_flags l ≡ true → bytes_of (flags_of l) ≡ l
