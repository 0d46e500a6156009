-- Document 01, "The log program": "One form a line, ending in byte 10 .. at most 1,000,000 lines; further lines are not read."
use Rattle.std.specs.Prelude.{ℕ, eqb, take, cond, List, [], ◌++◌, ◌∷◌}

-- the lines of a text, `held` being what is read of the first: each up to its byte 10 and with it; what is left without one is a line too
unfoldable pub split : List ℕ → List ℕ → List (List ℕ)
split [] [] = []
split (b ∷ held) [] = (b ∷ held) ∷ []
split held (b ∷ s) = cond (eqb b 10) ((held ++ (b ∷ [])) ∷ split [] s) (split (held ++ (b ∷ [])) s)

abbrev pub line_limit : ℕ
line_limit = 1000000

-- the lines of a log
abbrev pub lines_of : List ℕ → List (List ℕ)
lines_of s = take line_limit (split [] s)

-- texts one after the other
abbrev pub joined : List (List ℕ) → List ℕ
joined [] = []
joined (t ∷ ts) = t ++ joined ts
