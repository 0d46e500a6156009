-- The recogniser of wrapped lines, as the code goes. What it answers is `Exact`. Assumes nothing.
use Rattle.std.specs.Prelude.{cond, Option, Some, None, List, ℕ, ◌+◌, drop}
use Rattle.decimal.specs.Bytes.{bytes}
use Rattle.decimal.specs.Word.{starts}
use Rattle.forms.specs.declared.RingStep.{RingStep}
use Rattle.forms.specs.Read.{spaced_of, Read, read, read_by, ring_shapes, ends_line, lined}
use Rattle.first_line.specs.declared.First.{First}
use Rattle.first_line.specs.declared.First.TheVariants.{Ring, Tree}
use Rattle.first_line.specs.declared.RingStart.{RingStart}
use Rattle.first_line.specs.Start.{Start, bare_start, lists_start}
use Rattle.first_line.specs.Start as start
use Rattle.first_line.specs.Read.{start_at}
use Rattle.update_forms.specs.Wrapped.{Wrapped, step, bare, lists}

-- 1. the number of an update, and the index of the form inside: one space stands before it
unfoldable pub space_after : List ℕ → Read ℕ → Read ℕ
space_after s (Some (u, p)) = cond (starts (bytes " ") (drop p s)) (read u (p + 1)) None
space_after s None = None

unfoldable pub opened_of : List ℕ → ℕ → Read ℕ
opened_of s at = cond (starts (bytes "(update") (drop at s)) (space_after s (spaced_of s (at + 7))) None

-- 2. the form inside: a step of the ring, or else the start of a ring; "trees are not wrapped"
unfoldable pub inner_of : ℕ → Read RingStep → Read Start → Read Wrapped
inner_of u (Some (f, e)) r = read (step u f) e
inner_of u None (Some (start.bare n, e)) = read (bare u n) e
inner_of u None (Some (start.lists n active black, e)) = read (lists u n active black) e
inner_of u None (Some (start.tree n root, e)) = None
inner_of u None None = None

-- 3. the end of the wrapping
unfoldable pub closed_read : List ℕ → Read Wrapped → Read Wrapped
closed_read s (Some (w, e)) = cond (starts (bytes ")") (drop e s)) (read w (e + 1)) None
closed_read s None = None

unfoldable pub inside_at : List ℕ → Read ℕ → Read Wrapped
inside_at s (Some (u, p)) = closed_read s (inner_of u (read_by ring_shapes s p) (start_at s p))
inside_at s None = None

-- the wrapped form at index `at`
unfoldable pub update_at : List ℕ → ℕ → Read Wrapped
update_at s at = inside_at s (opened_of s at)

-- the wrapped form that the line of s at `at` says
unfoldable pub wrapped_at : List ℕ → ℕ → Read Wrapped
wrapped_at s at = lined s at (update_at s at)

-- 4. what the code holds of a step: its update, the step, and the index past the line
unfoldable pub step_in : List ℕ → ℕ → Read RingStep → Option (ℕ × RingStep × ℕ)
step_in s u (Some (f, e)) =
    cond (starts (bytes ")") (drop e s)) (cond (starts (bytes "\n") (drop (e + 1) s)) (Some (u, f, e + 1 + 1)) None) None
step_in s u None = None

abbrev pub update_line_of : Read Wrapped → Option (ℕ × RingStep × ℕ)
update_line_of (Some (step u f, e)) = Some (u, f, e)
update_line_of (Some (bare u n, e)) = None
update_line_of (Some (lists u n active black, e)) = None
update_line_of None = None

-- 5. what the code holds of a start: its update, its ring, and the index past the line
unfoldable pub start_in : List ℕ → ℕ → ℕ → Read First → Option (ℕ × RingStart × ℕ)
start_in s at u (Some (Ring r, e)) = cond (starts (bytes ")") (drop e s)) (cond (ends_line s at (e + 1)) (Some (u, r, e + 1 + 1)) None) None
start_in s at u (Some (Tree n root, e)) = None
start_in s at u None = None

abbrev pub wrapped_seen : Read Wrapped → Option (ℕ × RingStart × ℕ)
wrapped_seen (Some (step u f, e)) = None
wrapped_seen (Some (bare u n, e)) = Some (u, bare_start n, e)
wrapped_seen (Some (lists u n active black, e)) = Some (u, lists_start n active black, e)
wrapped_seen None = None
