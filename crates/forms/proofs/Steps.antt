-- The recognisers of the ring's steps and of the tree's are exact: each is a table of shapes. Assumes nothing.
use mathlib.Core.Path.{◌≡◌, refl, ◌∙◌}
use mathlib.Core.Logic.{◌↔◌}
use mathlib.Core.List.{List, ◌++◌}
use Prim.Native.Nat.{ℕ, zero, suc, ◌+◌, ◌≤◌, ◌<◌}
use native.Mathlib.Omega.{arith}
use lib.ListN.{length, drop}
use Rattle.decimal.specs.Bytes.{bytes}
use Rattle.forms.specs.declared.RingStep.{RingStep}
use Rattle.forms.specs.declared.RingStep.TheVariants as ring
use Rattle.forms.specs.declared.TreeStep.{TreeStep}
use Rattle.forms.specs.declared.TreeStep.TheVariants as tree
use Rattle.forms.specs.Form.{written, form_text, SmallForm, Says, line, ring_form, tree_form}
use Rattle.std.specs.Prelude.{None}
use Rattle.forms.specs.Read.{none, one, two, one_or_two, Read, read, shape, read_by, ring_take, ring_shapes, tree_shapes, ended, ring_at, tree_at}
use Rattle.forms.specs.Exact.{RingRead, TreeRead}
use Rattle.forms.proofs.Arguments.{args_text, SmallArgs}
use Rattle.forms.proofs.Reading.{Reader, line_other, line_once}
use Rattle.forms.proofs.Shapes.{here, there, Spelled, Entry, step_bytes, table_reader, table_short, table_ended, table_exact, table_told, table_inside}

-- the ring
take_spelled : (i j : ℕ) → written (ring_form (ring_take i j)) ≡ bytes "(take" ++ args_text one_or_two i j
take_spelled i zero = refl
take_spelled i (suc n) = refl

take_fits : (i j : ℕ) → SmallArgs one_or_two i j → SmallForm (ring_form (ring_take i j))
take_fits i zero h = h
take_fits i (suc n) h = h

ring_spells : Spelled ring_form ring_shapes
ring_spells = (
  record { short = omega arith; spelled = λ i j h. refl; fits = λ i j h. h },
  (
    record { short = omega arith; spelled = λ i j h. take_spelled i j; fits = take_fits },
    (
      record { short = omega arith; spelled = λ i j h. refl; fits = λ i j h. h.0 },
      (
        record { short = omega arith; spelled = λ i j h. refl; fits = λ i j h. tt },
        (
          record { short = omega arith; spelled = λ i j h. refl; fits = λ i j h. h.0 },
          (
            record { short = omega arith; spelled = λ i j h. refl; fits = λ i j h. tt },
            tt,
          ),
        ),
      ),
    ),
  ),
)

ring_entry : (f : RingStep) → Entry ring_form ring_shapes f
ring_entry (ring.Send i j) = record {
  of = shape (bytes "(send") two (λ i j. ring.Send i j);
  among = here;
  first = i;
  second = j;
  makes = refl;
  needs = λ h. h;
}
ring_entry (ring.TakeOne i) = record {
  of = shape (bytes "(take") one_or_two ring_take;
  among = there here;
  first = i;
  second = 0;
  makes = refl;
  needs = λ h. h;
}
ring_entry (ring.Take i n) = record {
  of = shape (bytes "(take") one_or_two ring_take;
  among = there here;
  first = i;
  second = suc n;
  makes = refl;
  needs = λ h. h;
}
ring_entry (ring.Idle i) = record {
  of = shape (bytes "(idle") one (λ i j. ring.Idle i);
  among = there (there here);
  first = i;
  second = 0;
  makes = refl;
  needs = λ h. (h, refl);
}
ring_entry ring.Probe = record {
  of = shape (bytes "(probe") none (λ i j. ring.Probe);
  among = there (there (there here));
  first = 0;
  second = 0;
  makes = refl;
  needs = λ h. (refl, refl);
}
ring_entry (ring.Pass i) = record {
  of = shape (bytes "(pass") one (λ i j. ring.Pass i);
  among = there (there (there (there here)));
  first = i;
  second = 0;
  makes = refl;
  needs = λ h. (h, refl);
}
ring_entry ring.Announce = record {
  of = shape (bytes "(announce") none (λ i j. ring.Announce);
  among = there (there (there (there (there here))));
  first = 0;
  second = 0;
  makes = refl;
  needs = λ h. (refl, refl);
}

pub ring_reader : Reader ring_form (read_by ring_shapes)
ring_reader = table_reader ring_form ring_shapes ring_spells refl ring_entry

pub ring_exact : (s : List ℕ) (at : ℕ) → RingRead s at (ring_at s at)
unfolding ring_at
ring_exact = table_exact ring_form ring_shapes ring_spells refl ring_entry

-- the contract of `ring_step`, from the step that stands in the line
pub ring_told : (s : List ℕ) (at : ℕ) (r : Read RingStep) → r ≡ ended s (read_by ring_shapes s at) → (r ≡ ring_at s at) × RingRead s at r
unfolding ring_at
ring_told s at r h = table_told ring_form ring_shapes ring_spells refl ring_entry s at r (h ∙ table_ended ring_form ring_shapes ring_spells refl ring_entry s at)

pub ring_short : (s : List ℕ) (at : ℕ) (f : RingStep) (e : ℕ) → read_by ring_shapes s at ≡ read f e → e ≤ at + step_bytes
ring_short = table_short ring_form ring_shapes ring_spells refl ring_entry

-- a step that was read lies inside
pub ring_inside : (s : List ℕ) (at : ℕ) (f : RingStep) (e : ℕ) → ring_at s at ≡ read f e → (at < e) × (e ≤ length s)
unfolding ring_at
ring_inside = table_inside ring_form ring_shapes ring_spells refl ring_entry

-- none is the answer exactly if the line says no step
pub ring_not : (s : List ℕ) (at : ℕ) → (ring_at s at ≡ None) ↔ ((f : RingStep) → Says (line (drop at s)) (ring_form f) → ⊥)
unfolding ring_at
ring_not = line_other ring_form ring_reader

-- no two steps share a line
pub ring_once : (f g : RingStep) → SmallForm (ring_form f) → SmallForm (ring_form g) → form_text (ring_form f) ≡ form_text (ring_form g) → f ≡ g
ring_once = line_once ring_form ring_reader

-- the tree
tree_spells : Spelled tree_form tree_shapes
tree_spells = (
  record { short = omega arith; spelled = λ i j h. refl; fits = λ i j h. h },
  (
    record { short = omega arith; spelled = λ i j h. refl; fits = λ i j h. h },
    (
      record { short = omega arith; spelled = λ i j h. refl; fits = λ i j h. h.0 },
      (
        record { short = omega arith; spelled = λ i j h. refl; fits = λ i j h. h.0 },
        (
          record { short = omega arith; spelled = λ i j h. refl; fits = λ i j h. h.0 },
          (
            record { short = omega arith; spelled = λ i j h. refl; fits = λ i j h. tt },
            tt,
          ),
        ),
      ),
    ),
  ),
)

tree_entry : (f : TreeStep) → Entry tree_form tree_shapes f
tree_entry (tree.Send i j) = record {
  of = shape (bytes "(send") two (λ i j. tree.Send i j);
  among = here;
  first = i;
  second = j;
  makes = refl;
  needs = λ h. h;
}
tree_entry (tree.Take i j) = record {
  of = shape (bytes "(take") two (λ i j. tree.Take i j);
  among = there here;
  first = i;
  second = j;
  makes = refl;
  needs = λ h. h;
}
tree_entry (tree.Idle i) = record {
  of = shape (bytes "(idle") one (λ i j. tree.Idle i);
  among = there (there here);
  first = i;
  second = 0;
  makes = refl;
  needs = λ h. (h, refl);
}
tree_entry (tree.Ack i) = record {
  of = shape (bytes "(ack") one (λ i j. tree.Ack i);
  among = there (there (there here));
  first = i;
  second = 0;
  makes = refl;
  needs = λ h. (h, refl);
}
tree_entry (tree.Leave i) = record {
  of = shape (bytes "(leave") one (λ i j. tree.Leave i);
  among = there (there (there (there here)));
  first = i;
  second = 0;
  makes = refl;
  needs = λ h. (h, refl);
}
tree_entry tree.Announce = record {
  of = shape (bytes "(announce") none (λ i j. tree.Announce);
  among = there (there (there (there (there here))));
  first = 0;
  second = 0;
  makes = refl;
  needs = λ h. (refl, refl);
}

pub tree_reader : Reader tree_form (read_by tree_shapes)
tree_reader = table_reader tree_form tree_shapes tree_spells refl tree_entry

pub tree_exact : (s : List ℕ) (at : ℕ) → TreeRead s at (tree_at s at)
unfolding tree_at
tree_exact = table_exact tree_form tree_shapes tree_spells refl tree_entry

-- the contract of `tree_step`, from the step that stands in the line
pub tree_told : (s : List ℕ) (at : ℕ) (r : Read TreeStep) → r ≡ ended s (read_by tree_shapes s at) → (r ≡ tree_at s at) × TreeRead s at r
unfolding tree_at
tree_told s at r h = table_told tree_form tree_shapes tree_spells refl tree_entry s at r (h ∙ table_ended tree_form tree_shapes tree_spells refl tree_entry s at)

-- a step that was read lies inside
pub tree_inside : (s : List ℕ) (at : ℕ) (f : TreeStep) (e : ℕ) → tree_at s at ≡ read f e → (at < e) × (e ≤ length s)
unfolding tree_at
tree_inside = table_inside tree_form tree_shapes tree_spells refl tree_entry

-- none is the answer exactly if the line says no step
pub tree_not : (s : List ℕ) (at : ℕ) → (tree_at s at ≡ None) ↔ ((f : TreeStep) → Says (line (drop at s)) (tree_form f) → ⊥)
unfolding tree_at
tree_not = line_other tree_form tree_reader

-- no two steps share a line
pub tree_once : (f g : TreeStep) → SmallForm (tree_form f) → SmallForm (tree_form g) → form_text (tree_form f) ≡ form_text (tree_form g) → f ≡ g
tree_once = line_once tree_form tree_reader
