-- The requests to a tree by name, and the numbers that a list of them is answered with.
use Rattle.std.specs.Prelude.{ℕ, List, [], ◌∷◌}
use Rattle.refusal.specs.Table.{code_of}
use Rattle.runs.specs.Runs.{Request, next}
use Rattle.tree_rules.specs.State.{State}
use Rattle.tree_runs.specs.Counts.{tree}

abbrev pub send : ℕ → ℕ → Request
send i j = record { kind = 1; i = i; j = j }

abbrev pub take : ℕ → ℕ → Request
take i k = record { kind = 2; i = i; j = k }

abbrev pub idle : ℕ → Request
idle i = record { kind = 3; i = i; j = 0 }

abbrev pub ack : ℕ → Request
ack i = record { kind = 4; i = i; j = 0 }

abbrev pub leave : ℕ → Request
leave i = record { kind = 5; i = i; j = 0 }

abbrev pub announce : Request
announce = record { kind = 6; i = 0; j = 0 }

-- the number of each answer, 0 where the request is accepted
unfoldable pub numbers : State → List Request → List ℕ
numbers t [] = []
numbers t (x ∷ xs) = code_of (tree.verdict t x) ∷ numbers (next tree t x) xs
