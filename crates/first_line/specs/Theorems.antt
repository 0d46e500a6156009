-- What holds of the forms of a log, and what its first lines mean.
use Rattle.std.specs.Prelude.{◌≡◌, List, [], ◌++◌, ℕ}
use Rattle.forms.specs.Form.{Ascending, Form, form_text, Valid, line}
use Rattle.first_line.specs.Meaning.{Means, every_node}
use Rattle.first_line.specs.Start.{bare_start, lists_start}

pub record Grammar : Type 0 where
  -- no two valid forms share a line
  pub once : (f g : Form) → Valid f → Valid g → form_text f ≡ form_text g → f ≡ g
  -- no byte 10 stands inside a form but its last: whatever follows a form, the first line is the form's
  pub last : (f : Form) (u : List ℕ) → line (form_text f ++ u) ≡ form_text f

-- "A ring line has both lists or neither". With both it means what they name, at all places; with neither all nodes are active and white,
-- at the places of its n nodes, the only ones that a start takes
pub record RingsMean : Type 0 where
  pub both :
      (n : ℕ) (active black : List ℕ) → Ascending 0 active → Ascending 0 black → Means 96 active black (lists_start n active black)
  pub neither : (n : ℕ) → Means n (every_node n) [] (bare_start n)
