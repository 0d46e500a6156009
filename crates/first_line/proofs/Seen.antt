-- What the code holds of a ring's lists is what is seen of them. Assumes nothing.
use mathlib.Core.Path.{◌≡◌, refl, sym, ap, ◌∙◌}
use mathlib.Core.Bool.{Bool, cond, false, true}
use mathlib.Core.List.{List}
use Prim.Native.Nat.{ℕ, ◌+◌}
use lib.ListN.{drop}
use Rattle.std.specs.Prelude.{Some, None}
use Rattle.decimal.specs.Bytes.{bytes}
use Rattle.decimal.specs.Word.{starts}
use Rattle.forms.specs.Read.{Read, read, ends_line, lined}
use Rattle.first_line.specs.declared.First.{First}
use Rattle.first_line.specs.Start.{Start, lists, seen_of}
use Rattle.first_line.specs.Read.{entries_at, no_marks, marked, marks_of, after_black, after_active, black_read, active_read, lists_at, lists_held}

pick_seen : (t : Bool) (a b : Read Start) → cond t (seen_of a) (seen_of b) ≡ seen_of (cond t a b)
pick_seen true a b = refl
pick_seen false a b = refl

black_seen : (s : List ℕ) (n : ℕ) (active : List ℕ) (r : Read (List ℕ))
    → after_black s n (marks_of 2 (marked 1 active no_marks) r) ≡ seen_of (black_read s n active r)
unfolding after_black black_read
black_seen s n active (Some (black, q)) = pick_seen (starts (bytes "))") (drop q s)) (read (lists n active black) (q + 2)) None
black_seen s n active None = refl

active_seen : (s : List ℕ) (n : ℕ) (r : Read (List ℕ)) → after_active s n (marks_of 1 no_marks r) ≡ seen_of (active_read s n r)
unfolding after_active active_read
active_seen s n (Some (active, q)) =
    ap (λ (x : Read First). cond (starts (bytes ") (black") (drop q s)) x None) (black_seen s n active (entries_at s (q + 8)))
    ∙ pick_seen (starts (bytes ") (black") (drop q s)) (black_read s n active (entries_at s (q + 8))) None
active_seen s n None = refl

pub lists_seen : (s : List ℕ) (n at : ℕ) → seen_of (lists_at s n at) ≡ lists_held s n at
unfolding lists_at lists_held
lists_seen s n at =
    sym
    (ap (λ (x : Read First). cond (starts (bytes " (active") (drop at s)) x None) (active_seen s n (entries_at s (at + 8)))
    ∙ pick_seen (starts (bytes " (active") (drop at s)) (active_read s n (entries_at s (at + 8))) None)

-- the answer to a line, from the form that stands in it
pub line_seen : (s : List ℕ) (at : ℕ) (r : Read Start) → seen_of (lined s at r) ≡ lined s at (seen_of r)
unfolding lined
line_seen s at (Some (f, e)) = sym (pick_seen (ends_line s at e) (read f (e + 1)) None)
line_seen s at None = refl
