-- Where a line of a piece ends.
use Rattle.std.specs.Prelude.{◌+◌, ℕ, drop, length, cond, List, Option, Some, None}
use Rattle.forms.specs.Form.{line}
use Rattle.log_rules.specs.Pieces.{has_line}

-- the index past the line that begins at `from`, where it is whole
unfoldable pub end_at : List ℕ → ℕ → Option ℕ
end_at piece from = cond (has_line (drop from piece)) (Some (from + length (line (drop from piece)))) None
