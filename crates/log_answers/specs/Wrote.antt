-- What a writer does: the text stands in the buffer from `at` on, every other byte is as it was, and r is the index past the text.
use Rattle.std.specs.Prelude.{◌+◌, ℕ, length, List, ◌++◌, ◌≡◌}
use Rattle.decimal.specs.Text.{decimal, put}

abbrev pub Wrote : List ℕ → ℕ → List ℕ → ℕ → List ℕ → Type 0
Wrote out at text r out' = (r ≡ at + length text) × (out' ≡ put out at text)

-- an item: a fixed word, and a number
abbrev pub item : List ℕ → ℕ → List ℕ
item word n = word ++ decimal n
