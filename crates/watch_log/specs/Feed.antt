-- A log between two pieces, and what a piece of it comes to.
use Rattle.std.specs.Prelude.{◌-◌, ◌≤◌, ℕ, leb, length, Bool, ◌&&◌, ◌||◌, true, List, [], ◌++◌, ◌≡◌}
use Rattle.forms.specs.Form.{line_bytes}
use Rattle.log_lines.specs.Stages.{SoundStage, stage_of}
use Rattle.log_rules.specs.Lines.{line_limit}
use Rattle.log_rules.specs.Output.{rest_of}
use Rattle.log_rules.specs.Pieces.{PartLine}
use Rattle.log_answers.specs.Wrote.{Wrote}
use Rattle.watch_log.specs.Held.{HeldBytes, held_line, kept}
use Rattle.log_lines.specs.declared.stage.Stage as code
use Rattle.log_rules.specs.Answers as rules

-- what a log has come to, how many lines of it are answered, and what is read of the next
pub record LogState : Type 0 where
  pub stage : rules.Stage
  pub lines : ℕ
  pub held : List ℕ

-- the fields of the code's log
pub record LogFields : Type 0 where
  pub stage : code.Stage
  pub lines : ℕ
  pub held : HeldBytes

-- as the definitions see it
abbrev pub log_of : LogFields → LogState
log_of l = record { stage = stage_of l.stage; lines = l.lines; held = held_line l.held }

-- what is true of every log between two pieces
pub record Good (l : LogState) : Type 0 where
  pub sound : SoundStage l.stage l.lines
  pub most : l.lines ≤ line_limit
  pub part : PartLine l.held

-- THE CONTRACT of a piece: where k lines are answered by stage s and `held` is read of the next, the bytes `text` make the log l', and
-- `written` is what is written of their answers. Whatever follows, what is still to be written before is `written` and what is still to be
-- written after. Bytes of the buffer past `written` keep their values.
pub record FedFrom (s : rules.Stage) (k : ℕ) (held text : List ℕ) (l' : LogState) (count : ℕ) (at : ℕ) (out out' : List ℕ) : Type 0 where
  pub written : List ℕ
  pub left : (rest : List ℕ) → rest_of s k held (text ++ rest) ≡ written ++ rest_of l'.stage l'.lines l'.held rest
  pub wrote : Wrote out at written count out'
  pub room : count ≤ length out
  pub good : Good l'

-- The log l goes on where k lines are answered by stage s and `part` is read of the next: whatever follows, the same is still to be written.
-- A line that is too long is held as one with 701 bytes.
pub record Resumed (s : rules.Stage) (k : ℕ) (part : List ℕ) (l : LogState) : Type 0 where
  pub stage : l.stage ≡ s
  pub lines : l.lines ≡ k
  pub held : l.held ≡ kept [] part
  pub short : length part ≤ line_bytes → l.held ≡ part
  pub left : (rest : List ℕ) → rest_of s k part rest ≡ rest_of l.stage l.lines l.held rest

-- the last line is answered; or it is the next
abbrev pub all_answered : ℕ → Bool
all_answered k = leb line_limit k

abbrev pub last_is_next : ℕ → Bool
last_is_next k = leb (line_limit - 1) k

-- a line of which `len` bytes are held, no byte 10 among them: it is too long even if byte 10 follows
abbrev pub is_too_long : ℕ → Bool
is_too_long len = leb line_bytes len

-- Is what is still to be written settled, whatever follows (`Settled`, Theorems.antt)? The first line was refused, or is too long; or the
-- last line is answered, or is too long.
abbrev pub decided_by : rules.Stage → ℕ → ℕ → Bool
decided_by rules.fresh k len = all_answered k || is_too_long len
decided_by (rules.on_ring r m) k len = all_answered k || (is_too_long len && last_is_next k)
decided_by (rules.on_tree t) k len = all_answered k || (is_too_long len && last_is_next k)
decided_by (rules.on_table t ms) k len = all_answered k || (is_too_long len && last_is_next k)
decided_by rules.over k len = true

abbrev pub decided : LogState → Bool
decided l = decided_by l.stage l.lines (length l.held)
