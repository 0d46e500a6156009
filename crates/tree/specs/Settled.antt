-- What the soundness test asks of a place by its engager.
use Rattle.std.specs.Prelude.{ℕ, Bool, ◌&&◌, cond, eqb, ltb, not}
use Rattle.tree_rules.specs.State.{State, active_at, climb, engaged, engager_at, unacked_at}

-- an engaged place is a node under a node, and its chain of engagers ends at the root; any other is passive with nothing unacknowledged
unfoldable pub settled_test : State → ℕ → Bool
settled_test t i =
    cond (engaged t i) (ltb i t.n && (ltb (engager_at t i) t.n && eqb (climb t.engager 16 i) t.root))
    (not (active_at t i) && eqb (unacked_at t i) 0)
