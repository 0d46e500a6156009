-- The requests to a ring by name, and the numbers that a list of them is answered with.
use Rattle.std.specs.Prelude.{ℕ, List, [], ◌∷◌}
use Rattle.refusal.specs.Table.{code_of}
use Rattle.ring_rules.specs.State.{State}
use Rattle.runs.specs.Runs.{Request, next}
use Rattle.ring_runs.specs.Counts.{ring}

abbrev pub send : ℕ → ℕ → Request
send i j = record { kind = 1; i = i; j = j }

-- i takes n messages
abbrev pub take : ℕ → ℕ → Request
take i n = record { kind = 2; i = i; j = n }

abbrev pub idle : ℕ → Request
idle i = record { kind = 3; i = i; j = 0 }

abbrev pub probe : Request
probe = record { kind = 4; i = 0; j = 0 }

abbrev pub pass : ℕ → Request
pass i = record { kind = 5; i = i; j = 0 }

abbrev pub announce : Request
announce = record { kind = 6; i = 0; j = 0 }

-- the number of each answer, 0 where the request is accepted
unfoldable pub numbers : State → List Request → List ℕ
numbers r [] = []
numbers r (x ∷ xs) = code_of (ring.verdict r x) ∷ numbers (next ring r x) xs
