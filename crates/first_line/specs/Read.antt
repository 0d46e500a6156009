-- The recogniser of first lines, as the code goes. What it answers is `Exact`. Assumes nothing.
use Rattle.std.specs.Prelude.{Option, cond, List, [], ◌∷◌, ℕ, zero, suc, ◌+◌, length, get_or, drop, ltb, eqb, Some, None}
use Rattle.decimal.specs.Bytes.{bytes}
use Rattle.decimal.specs.Word.{starts}
use Rattle.forms.specs.Read.{spaced_of, Read, read, lined}
use Rattle.first_line.specs.declared.First.{First}
use Rattle.first_line.specs.declared.First.TheVariants.{Ring}
use Rattle.first_line.specs.declared.Marks.{Marks}
use Rattle.first_line.specs.Start.{Start, bare, lists, tree, zeros, ring_first, flag_all, top_of}

-- 1. a list: its nodes, and the index past them
abbrev pub cons_of : ℕ → Read (List ℕ) → Read (List ℕ)
cons_of k (Some (ks, e)) = read (k ∷ ks) e
cons_of k None = None

unfoldable pub entry_of : (ℕ → ℕ → Read (List ℕ)) → ℕ → Read ℕ → Read (List ℕ)
entry_of others low (Some (k, p)) = cond (ltb k low) None (cons_of k (others (k + 1) p))
entry_of others low None = None

-- the nodes at index `at`, each of `low` or more and after one space
unfoldable pub entries_of : ℕ → List ℕ → ℕ → ℕ → Read (List ℕ)
entries_of zero s low at = None
entries_of (suc fuel) s low at = cond (eqb (get_or s at 0) 32) (entry_of (entries_of fuel s) low (spaced_of s at)) (read [] at)

abbrev pub entries_at : List ℕ → ℕ → Read (List ℕ)
entries_at s at = entries_of (length s + 1) s 0 at

-- 2. what the code holds of a list
abbrev pub no_marks : Marks
no_marks = record { flags = zeros; top = 0 }

abbrev pub marked : ℕ → List ℕ → Marks → Marks
marked bit ks m = record { flags = flag_all bit ks m.flags; top = top_of ks m.top }

abbrev pub marks_of : ℕ → Marks → Read (List ℕ) → Read Marks
marks_of bit m (Some (ks, e)) = read (marked bit ks m) e
marks_of bit m None = None

-- the index past a word
unfoldable pub past : List ℕ → ℕ → List ℕ → Option ℕ
past s at w = cond (starts w (drop at s)) (Some (at + length w)) None

-- and of both lists, as the code goes
unfoldable pub after_black : List ℕ → ℕ → Read Marks → Read First
after_black s n (Some (b, q)) = cond (starts (bytes "))") (drop q s)) (read (Ring (ring_first n b.flags b.top)) (q + 2)) None
after_black s n None = None

unfoldable pub after_active : List ℕ → ℕ → Read Marks → Read First
after_active s n (Some (a, q)) = cond (starts (bytes ") (black") (drop q s)) (after_black s n (marks_of 2 a (entries_at s (q + 8)))) None
after_active s n None = None

unfoldable pub lists_held : List ℕ → ℕ → ℕ → Read First
lists_held s n at = cond (starts (bytes " (active") (drop at s)) (after_active s n (marks_of 1 no_marks (entries_at s (at + 8)))) None

-- 3. the form
unfoldable pub black_read : List ℕ → ℕ → List ℕ → Read (List ℕ) → Read Start
black_read s n active (Some (black, q)) = cond (starts (bytes "))") (drop q s)) (read (lists n active black) (q + 2)) None
black_read s n active None = None

unfoldable pub active_read : List ℕ → ℕ → Read (List ℕ) → Read Start
active_read s n (Some (active, q)) = cond (starts (bytes ") (black") (drop q s)) (black_read s n active (entries_at s (q + 8))) None
active_read s n None = None

unfoldable pub lists_at : List ℕ → ℕ → ℕ → Read Start
lists_at s n at = cond (starts (bytes " (active") (drop at s)) (active_read s n (entries_at s (at + 8))) None

unfoldable pub ring_after : List ℕ → Read ℕ → Read Start
ring_after s (Some (n, p)) = cond (starts (bytes ")") (drop p s)) (read (bare n) (p + 1)) (lists_at s n p)
ring_after s None = None

unfoldable pub root_after : List ℕ → ℕ → Read ℕ → Read Start
root_after s n (Some (root, q)) = cond (starts (bytes "))") (drop q s)) (read (tree n root) (q + 2)) None
root_after s n None = None

unfoldable pub tree_after : List ℕ → Read ℕ → Read Start
tree_after s (Some (n, p)) = cond (starts (bytes " (root") (drop p s)) (root_after s n (spaced_of s (p + 6))) None
tree_after s None = None

unfoldable pub start_at : List ℕ → ℕ → Read Start
start_at s at =
    cond (starts (bytes "(ring") (drop at s)) (ring_after s (spaced_of s (at + 5)))
    (cond (starts (bytes "(tree") (drop at s)) (tree_after s (spaced_of s (at + 5))) None)

-- the first line that the line of s at `at` says
unfoldable pub first_at : List ℕ → ℕ → Read Start
first_at s at = lined s at (start_at s at)
