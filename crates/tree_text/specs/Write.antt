-- The writer: a state that is not sound is refused with 3, and then a buffer shorter than the text with 12.
use Rattle.std.specs.Prelude.{ℕ, ltb, length, not, List, [], ◌∷◌}
use Rattle.decimal.specs.Text.{put}
use Rattle.refusal.specs.Table.{Row, ◌⟶◌, first_of, number_of, settle}
use Rattle.refusal.specs.declared.Refusal.{Refusal}
use Rattle.refusal.specs.declared.Refusal.TheVariants.{ShortBuffer, Unsound}
use Rattle.refusal.specs.Table.{Verdict}
use Rattle.refusal.specs.Table.{Accepted, Refused}
use Rattle.tree_rules.specs.Soundness.{sound_test}
use Rattle.tree_rules.specs.State.{State}
use Rattle.tree_text.specs.Text.{text_of}

-- the length of the text that was written, or why none was
pub data Written : Type 0 where
  Length : ℕ → Written
  NotWritten : Refusal → Written

abbrev pub state_text : State → List ℕ
state_text t = text_of t.engager t.root

abbrev pub write_table : State → List ℕ → List Row
write_table t b = (not (sound_test t) ⟶ Unsound) ∷ (ltb (length b) (length (state_text t)) ⟶ ShortBuffer) ∷ []

unfoldable pub write_verdict : State → List ℕ → Verdict
write_verdict t b = first_of (write_table t b)

abbrev pub told : Verdict → ℕ → Written
told Accepted n = Length n
told (Refused e) n = NotWritten e

-- the answer: the text's length, or the refusal
unfoldable pub written_of : State → List ℕ → Written
written_of t b = told (write_verdict t b) (length (state_text t))

-- the buffer: the text from its first byte on, and each byte past it as it was; a refusal leaves every byte
unfoldable pub buffer_of : State → List ℕ → List ℕ
buffer_of t b = settle (write_verdict t b) (put b 0 (state_text t)) b

-- the number of the answer, 0 where the text is written
abbrev pub written_number : Written → ℕ
written_number (Length k) = 0
written_number (NotWritten e) = number_of e
