-- Document 01, "The log program": the output of a whole log, for every list of bytes.
use Rattle.std.specs.Prelude.{◌+◌, ◌-◌, ℕ, take, List, [], ◌++◌, ◌∷◌}
use Rattle.log_rules.specs.Answers.{Stage, end_text, fresh, line_told}
use Rattle.log_rules.specs.Lines.{line_limit, split}

-- the lines from line k on
unfoldable pub lines_told : Stage → ℕ → List (List ℕ) → List ℕ
lines_told s k [] = end_text s
lines_told s k (l ∷ ls) = (line_told s k l).text ++ lines_told (line_told s k l).stage (k + 1) ls

-- what is still to be written, where k lines are answered, `held` is read of the next, and the bytes `s` follow
unfoldable pub rest_of : Stage → ℕ → List ℕ → List ℕ → List ℕ
rest_of stage k held s = lines_told stage (k + 1) (take (line_limit - k) (split held s))

-- the output of a log
abbrev pub output_of : List ℕ → List ℕ
output_of s = rest_of fresh 0 [] s
