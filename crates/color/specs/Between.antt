-- The colors of a stretch of nodes.
use Rattle.std.specs.Prelude.{ℕ, ltb, Bool, ◌||◌, not, List}
use Rattle.laws.specs.Places.{all_to}
use Rattle.color.specs.Colors.{is_black}

-- the nodes n to m - 1 are white
abbrev pub white_between : List ℕ → ℕ → ℕ → Bool
white_between c n m = all_to m (λ i. ltb i n || not (is_black c i))
