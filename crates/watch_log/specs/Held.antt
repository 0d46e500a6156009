-- What is held of a line.
use Rattle.std.specs.Prelude.{ℕ, take, List, [], ◌++◌, ◌∷◌}
use Rattle.forms.specs.Form.{line_bytes}

-- a buffer, and how many of its bytes are held
pub record HeldBytes : Type 0 where
  pub bytes : List ℕ
  pub len : ℕ

-- the line so far: what lies behind it in the buffer is no part of it
abbrev pub held_line : HeldBytes → List ℕ
held_line h = take h.len h.bytes

-- one byte more is held: of a line with more than 700 the first 700 and the latest
abbrev pub keep : List ℕ → ℕ → List ℕ
keep held b = take line_bytes held ++ b ∷ []

-- the bytes of a text, one after the other
unfoldable pub kept : List ℕ → List ℕ → List ℕ
kept held [] = held
kept held (b ∷ s) = kept (keep held b) s
