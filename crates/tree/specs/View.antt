-- The engager of a node as the code tells it.
use Rattle.std.specs.Prelude.{ℕ, cond, Option, None, Some}
use Rattle.tree_rules.specs.State.{State, engaged, engager_at}

-- the node that engaged node i, where one did
abbrev pub engager_told : State → ℕ → Option ℕ
engager_told t i = cond (engaged t i) (Some (engager_at t i)) None
