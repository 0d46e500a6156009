-- The wrapped lines of a log: a step or a start of the ring, and the number of its update. Assumes nothing.
use Rattle.std.specs.Prelude.{List, ℕ}
use Rattle.forms.specs.declared.RingStep.{RingStep}
use Rattle.forms.specs.Form.{Form, bare_ring, ring_with, update, ring_form}

-- "`(update 2 (send 0 3))`, a start `(update 2 (ring 4))`", without lists or with both
pub data Wrapped : Type 0 where
  step : (u : ℕ) → RingStep → Wrapped
  bare : (u n : ℕ) → Wrapped
  lists : (u n : ℕ) (active black : List ℕ) → Wrapped

-- the number of its update, and the form inside
abbrev pub update_of : Wrapped → ℕ
update_of (step u f) = u
update_of (bare u n) = u
update_of (lists u n active black) = u

abbrev pub inner_form : Wrapped → Form
inner_form (step u f) = ring_form f
inner_form (bare u n) = bare_ring n
inner_form (lists u n active black) = ring_with n active black

abbrev pub wrapped_form : Wrapped → Form
wrapped_form w = update (update_of w) (inner_form w)
