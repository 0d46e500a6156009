-- A log that comes in pieces, cut anywhere.
use Rattle.std.specs.Prelude.{◌*◌, ◌+◌, ◌≤◌, ℕ, eqb, leb, drop, get_or, length, replicate, take, Bool, cond, false, true, List, [], ◌++◌, ◌∷◌, ◌≡◌}
use Rattle.decimal.specs.Text.{put}
use Rattle.forms.specs.Form.{line_bytes}
use Rattle.refusal.specs.declared.Refusal.TheVariants.{NotAForm}
use Rattle.refusal.specs.Table.{Refused}
use Rattle.log_rules.specs.Answers.{Stage, Told, answer_bytes, answer_text, fresh, on_ring, on_table, on_tree, opened_by, over}
use Rattle.log_rules.specs.Lines.{line_limit}
use Rattle.log_rules.specs.Output.{rest_of}

-- a text with no byte 10
pub data PartLine : List ℕ → Type 0 where
  empty : PartLine []
  another : {b : ℕ} {l : List ℕ} → (b ≡ 10 → ⊥) → PartLine l → PartLine (b ∷ l)

-- a line: byte 10 is its last, and stands nowhere else
pub data OneLine : List ℕ → Type 0 where
  newline : OneLine (10 ∷ [])
  preceded : {b : ℕ} {l : List ℕ} → (b ≡ 10 → ⊥) → OneLine l → OneLine (b ∷ l)

-- does a whole line stand at the front
unfoldable pub has_line : List ℕ → Bool
has_line [] = false
has_line (b ∷ s) = cond (eqb b 10) true (has_line s)

-- the count of bytes that is told of every line that is too long
abbrev pub long_bytes : ℕ
long_bytes = line_bytes + 1

-- what a buffer holds of the next line: its first `len` bytes; so many zeros stand for every line that is too long already
abbrev pub held_of : List ℕ → ℕ → List ℕ
held_of line len = cond (leb len line_bytes) (take len line) (replicate long_bytes 0)

-- the moves of the eight updates, none more than the lines that are answered
pub record Moves (ms : List ℕ) (lines : ℕ) : Type 0 where
  pub places : length ms ≡ 8
  pub few : (u : ℕ) → get_or ms u 0 ≤ lines

-- the answer to a line that says no form
abbrev pub not_told : Stage → ℕ → Told
not_told fresh k = opened_by (Refused NotAForm) fresh
not_told (on_ring r m) k = record { stage = on_ring r m; text = answer_text k (Refused NotAForm) }
not_told (on_tree t) k = record { stage = on_tree t; text = answer_text k (Refused NotAForm) }
not_told (on_table t ms) k = record { stage = on_table t ms; text = answer_text k (Refused NotAForm) }
not_told over k = record { stage = over; text = [] }

-- Some whole lines of a piece are answered: those from index `next` to `next'`, k being answered before and k' after. `written` is
-- their answers, which stand in the buffer from `at` on; every other byte of it is as it was.
pub record Went (s s' : Stage) (k k' next next' at at' : ℕ) (piece out out' : List ℕ) : Type 0 where
  pub written : List ℕ
  pub left : (rest : List ℕ) → rest_of s k [] (drop next piece ++ rest) ≡ written ++ rest_of s' k' [] (drop next' piece ++ rest)
  pub wrote : out' ≡ put out at written
  pub ends : at' ≡ at + length written
  pub room : length written + next * answer_bytes ≤ next' * answer_bytes
  pub inside : next' ≤ length piece
  pub counts : k' ≤ line_limit

-- no further line of the piece is to be answered: all are, or the next is not whole
pub data NoMore (k next : ℕ) (piece : List ℕ) : Type 0 where
  full : line_limit ≤ k → NoMore k next piece
  cut : has_line (drop next piece) ≡ false → NoMore k next piece
