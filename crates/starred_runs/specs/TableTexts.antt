-- Document 01, "Text of the tree": its worked text, and faulty ones: "The first fault from the left decides".
use Rattle.std.specs.Prelude.{suc, zero, ℕ, replicate, List, [], ◌++◌, ◌∷◌}
use Rattle.starred_runs.specs.Case.{Case, fault, text}

-- each node under the one before it
abbrev pub line : ℕ → List ℕ
line zero = 0 ∷ []
line (suc n) = line n ++ (n ∷ [])

unfoldable pub texts : List Case
texts =
    text 4 (0 ∷ 0 ∷ 0 ∷ 2 ∷ []) 0 "(0 (1) (2 (3)))"
    ∷ text 3 (0 ∷ []) 0 "(0)"
    ∷ text 12 (replicate 12 11) 11 "(11 (0) (1) (2) (3) (4) (5) (6) (7) (8) (9) (10))"
    ∷ text 16 (line 15) 0 "(0 (1 (2 (3 (4 (5 (6 (7 (8 (9 (10 (11 (12 (13 (14 (15))))))))))))))))"
    ∷ fault 0 "(0)" 1
    ∷ fault 17 "(0" 1
    ∷ fault 3 "(3" 6
    ∷ fault 3 "(0 (4294967296000000000000" 6
    ∷ fault 4 "(0 (1 (2 (3 (4))))" 6
    ∷ fault 16 "(0 (1 (2 (3 (4 (5 (6 (7 (8 (9 (10 (11 (12 (13 (14 (15 (16" 6
    ∷ fault 16 "(0 (1 (2 (3 (4 (5 (6 (7 (8 (9 (10 (11 (12 (13 (14 (15 (15" 10
    ∷ fault 4 "(0 (1) (1))" 10
    ∷ fault 4 "(0 (0))" 10
    ∷ fault 4 "(0 (2) (1))" 10
    ∷ fault 4 "(0 (03))" 10
    ∷ fault 4 "(0 (09))" 10
    ∷ fault 4 "(0 ())" 10
    ∷ fault 4 "(0  (1))" 10
    ∷ fault 4 "(0(1))" 10
    ∷ fault 4 "(0 (1)" 10
    ∷ fault 4 "(0) " 10
    ∷ fault 4 "(0)(9)" 10
    ∷ fault 4 "" 10
    ∷ fault 4 "(0 (2) (1) (9))" 10
    ∷ []
