-- What is read of a wrapped line is what it says. Assumes nothing.
use Rattle.std.specs.Prelude.{None}
use mathlib.Core.Path.{◌≡◌}
use mathlib.Core.Logic.{◌↔◌}
use mathlib.Core.List.{List}
use Prim.Native.Nat.{ℕ, ◌≤◌, ◌<◌}
use lib.ListN.{length, drop}
use Rattle.forms.specs.Form.{form_text, SmallForm, Says, SaysAt, line}
use Rattle.forms.specs.Read.{read}
use Rattle.forms.proofs.Reading.{line_exact, line_other, line_inside, line_once}
use Rattle.update_forms.specs.Wrapped.{Wrapped, wrapped_form}
use Rattle.update_forms.specs.Read.{wrapped_at}
use Rattle.update_forms.specs.Exact.{WrappedLines}
use Rattle.update_forms.proofs.Opens.{wrapped_reader}

pub wrapped_exact : (s : List ℕ) (at : ℕ) (w : Wrapped) (e : ℕ) → (wrapped_at s at ≡ read w e) ↔ SaysAt s at (wrapped_form w) e
unfolding wrapped_at
wrapped_exact = line_exact wrapped_form wrapped_reader

pub wrapped_other : (s : List ℕ) (at : ℕ) → (wrapped_at s at ≡ None) ↔ ((w : Wrapped) → Says (line (drop at s)) (wrapped_form w) → ⊥)
unfolding wrapped_at
wrapped_other = line_other wrapped_form wrapped_reader

pub wrapped_inside : (s : List ℕ) (at : ℕ) (w : Wrapped) (e : ℕ) → wrapped_at s at ≡ read w e → (at < e) × (e ≤ length s)
unfolding wrapped_at
wrapped_inside = line_inside wrapped_form wrapped_reader

-- no two wrapped forms share a line
pub wrapped_once : (v w : Wrapped) → SmallForm (wrapped_form v) → SmallForm (wrapped_form w) → form_text (wrapped_form v) ≡ form_text (wrapped_form w)
    → v ≡ w
wrapped_once = line_once wrapped_form wrapped_reader

pub wrapped_lines : WrappedLines
wrapped_lines = record { exact = wrapped_exact; none = wrapped_other; inside = wrapped_inside }
