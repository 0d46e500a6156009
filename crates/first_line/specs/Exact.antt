-- What the answer to a first line tells. Assumes nothing.
use Rattle.std.specs.Prelude.{◌≡◌, ◌⊎◌, None, List, ℕ}
use Rattle.forms.specs.Form.{SaysAt}
use Rattle.first_line.specs.declared.First.{First}
use Rattle.forms.specs.Read.{Read, read}
use Rattle.first_line.specs.Start.{Start, start_form, seen}

-- the answer r to the line of s at `at`: what is seen of the first line that it says, and None if it says none
pub record Opened (s : List ℕ) (at : ℕ) (r : Read First) : Type 0 where
  pub whole : (f : Start) (e : ℕ) → SaysAt s at (start_form f) e → r ≡ read (seen f) e
  pub sound : (r ≡ None) ⊎ ((f : Start) × (e : ℕ) × SaysAt s at (start_form f) e × (r ≡ read (seen f) e))
