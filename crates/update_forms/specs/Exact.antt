-- What is read of a wrapped line. Assumes nothing.
use Rattle.std.specs.Prelude.{◌≡◌, Option, Some, None, List, ◌↔◌, ℕ, ◌≤◌, ◌<◌, length, drop}
use Rattle.forms.specs.declared.RingStep.{RingStep}
use Rattle.forms.specs.Form.{Says, SaysAt, line, ring_form, update}
use Rattle.forms.specs.Read.{read}
use Rattle.update_forms.specs.Wrapped.{Wrapped, wrapped_form}
use Rattle.update_forms.specs.Read.{wrapped_at}

pub record WrappedLines : Type 0 where
  -- w is read up to index e exactly if the line says w and ends there
  pub exact : (s : List ℕ) (at : ℕ) (w : Wrapped) (e : ℕ) → (wrapped_at s at ≡ read w e) ↔ SaysAt s at (wrapped_form w) e
  -- none is read exactly if the line says none
  pub none : (s : List ℕ) (at : ℕ) → (wrapped_at s at ≡ None) ↔ ((w : Wrapped) → Says (line (drop at s)) (wrapped_form w) → ⊥)
  -- what is read lies inside
  pub inside : (s : List ℕ) (at : ℕ) (w : Wrapped) (e : ℕ) → wrapped_at s at ≡ read w e → (at < e) × (e ≤ length s)

-- the answer r to the line of s at `at` is the step f of update u, and e the index past the line, exactly if that line says so and ends there
abbrev pub UpdateRead : List ℕ → ℕ → Option (ℕ × RingStep × ℕ) → Type 0
UpdateRead s at r = (u : ℕ) (f : RingStep) (e : ℕ) → (r ≡ Some (u, f, e)) ↔ SaysAt s at (update u (ring_form f)) e
