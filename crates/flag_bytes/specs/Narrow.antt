-- Numbers that are handed in wide. Those that are too large are refused alike, so that one narrow number stands for all of them.
use Rattle.std.specs.Prelude.{ℕ, ltb, cond}

-- a step's kind in a byte: 0 is no kind, and stands for all above 255
abbrev pub kind_byte : ℕ → ℕ
kind_byte kind = cond (ltb 255 kind) 0 kind

-- a driver's limit in 32 bits: the greatest number of 32 bits stands for all above it
abbrev pub limit_word : ℕ → ℕ
limit_word limit = cond (ltb 4294967295 limit) 4294967295 limit
