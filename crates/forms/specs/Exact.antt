-- What the answer to a line tells: it is a step exactly if the line says that step. Assumes nothing.
use Rattle.std.specs.Prelude.{◌≡◌, List, ◌↔◌, ℕ}
use Rattle.forms.specs.declared.RingStep.{RingStep}
use Rattle.forms.specs.declared.TreeStep.{TreeStep}
use Rattle.forms.specs.Read.{Read, read}
use Rattle.forms.specs.Form.{SaysAt, ring_form, tree_form}

-- the answer r to the line of s at `at` is the step f, and e the index past it, exactly if that line says f and ends there: so it is
-- None exactly if the line says no step
abbrev pub RingRead : List ℕ → ℕ → Read RingStep → Type 0
RingRead s at r = (f : RingStep) (e : ℕ) → (r ≡ read f e) ↔ SaysAt s at (ring_form f) e

abbrev pub TreeRead : List ℕ → ℕ → Read TreeStep → Type 0
TreeRead s at r = (f : TreeStep) (e : ℕ) → (r ≡ read f e) ↔ SaysAt s at (tree_form f) e
