-- No two valid forms share a line. Assumes nothing.
use Rattle.std.specs.Prelude.{None}
use mathlib.Core.Path.{◌≡◌, refl, sym, ap, ◌∙◌}
use mathlib.Core.List.{List, ◌∷◌, ◌++◌, append_assoc}
use Prim.Native.Nat.{ℕ, ◌+◌}
use native.Mathlib.Omega.{arith}
use lib.ListN.{length, take, drop, length-append}
use lib.Seq.{take-append_seam, take_at}
use Rattle.decimal.proofs.Cases.{same_read}
use Rattle.decimal.specs.Bytes.{bytes}
use Rattle.decimal.specs.Text.{decimal}
use Rattle.decimal.specs.Word.{starts}
use Rattle.forms.specs.declared.RingStep.{RingStep}
use Rattle.forms.specs.declared.RingStep.TheVariants as ring
use Rattle.forms.specs.declared.TreeStep.{TreeStep}
use Rattle.forms.specs.declared.TreeStep.TheVariants as tree
use Rattle.forms.specs.Form.{Form, bare_ring, ring_with, tree_of, send, take_one, take_with, idle, probe, pass, ack, leave, announce, update, written, form_text, Small, SmallForm, ring_form, tree_form}
use Rattle.forms.specs.Read.{Read, read_by, ring_shapes, tree_shapes}
use Rattle.forms.proofs.Arguments.{spaced_found}
use Rattle.forms.proofs.Lines.{form_line}
use Rattle.forms.proofs.Reading.{no_read, Reader, line_once}
use Rattle.forms.proofs.Steps.{ring_reader, ring_once, tree_reader, tree_once}
use Rattle.first_line.specs.Start.{Start, bare, lists, tree, start_form}
use Rattle.first_line.specs.Read.{start_at}
use Rattle.first_line.specs.Theorems.{Grammar}
use Rattle.first_line.proofs.Opens.{start_reader}

-- the steps that only the tree has
data Only : Type 0 where
  acks : ℕ → Only
  leaves : ℕ → Only

only_tree : Only → TreeStep
only_tree (acks i) = tree.Ack i
only_tree (leaves i) = tree.Leave i

abbrev only_form : Only → Form
only_form o = tree_form (only_tree o)

-- every form is a first line, a step of the ring, a step that only the tree has, or one of these inside updates
data Sort : Form → Type 0 where
  opens : (a : Start) → Sort (start_form a)
  steps : (a : RingStep) → Sort (ring_form a)
  only : (a : Only) → Sort (only_form a)
  inside : (u : ℕ) {f : Form} → Sort f → Sort (update u f)

sort_of : (f : Form) → Sort f
unfolding only_tree
sort_of (bare_ring n) = opens (bare n)
sort_of (ring_with n active black) = opens (lists n active black)
sort_of (tree_of n root) = opens (tree n root)
sort_of (send i j) = steps (ring.Send i j)
sort_of (take_one i) = steps (ring.TakeOne i)
sort_of (take_with i k) = steps (ring.Take i k)
sort_of (idle i) = steps (ring.Idle i)
sort_of probe = steps ring.Probe
sort_of (pass i) = steps (ring.Pass i)
sort_of (ack i) = only (acks i)
sort_of (leave i) = only (leaves i)
sort_of announce = steps ring.Announce
sort_of (update u f) = inside u (sort_of f)

-- a form whose line a reader reads, and one whose line it does not
apart : {A B : Type 0} {form : A → Form} {reader : List ℕ → ℕ → Read A} → Reader form reader
    → (a : A) (g : Form) → SmallForm (form a) → reader (form_text g) 0 ≡ None → form_text (form a) ≡ form_text g → B
apart {form = form} {reader} R a g v h e =
    no_read (sym (ap (λ (l : List ℕ). reader l 0) e ∙ h) ∙ R.found (form_text (form a)) 0 a (bytes "\n") v refl)

-- no step is a first line
not_first : (f : RingStep) → start_at (form_text (ring_form f)) 0 ≡ None
unfolding start_at starts
not_first (ring.Send i j) = refl
not_first (ring.TakeOne i) = refl
not_first (ring.Take i n) = refl
not_first (ring.Idle i) = refl
not_first ring.Probe = refl
not_first (ring.Pass i) = refl
not_first ring.Announce = refl

only_not_first : (f : Only) → start_at (form_text (only_form f)) 0 ≡ None
unfolding start_at starts only_tree
only_not_first (acks i) = refl
only_not_first (leaves i) = refl

-- no step of the ring is one that only the tree has
not_ring : (f : Only) → read_by ring_shapes (form_text (only_form f)) 0 ≡ None
unfolding read_by starts only_tree
not_ring (acks i) = refl
not_ring (leaves i) = refl

-- no update is another form
update_not_first : (u : ℕ) (f : Form) → start_at (form_text (update u f)) 0 ≡ None
unfolding start_at starts
update_not_first u f = refl

update_not_ring : (u : ℕ) (f : Form) → read_by ring_shapes (form_text (update u f)) 0 ≡ None
unfolding read_by starts
update_not_ring u f = refl

update_not_tree : (u : ℕ) (f : Form) → read_by tree_shapes (form_text (update u f)) 0 ≡ None
unfolding read_by starts
update_not_tree u f = refl

-- the number of an update, and the line of what stands inside it
cut : (l k t : List ℕ) → l ++ t ≡ k ++ t → l ≡ k
cut l k t h =
    let n : length k ≡ length l = omega (arith, ap length h, length-append l t, length-append k t) in
    sym (take-append_seam l t) ∙ (ap (take (length l)) h ∙ take_at k t (length l) n)

module _ (u v : ℕ) (f g : Form) (hu : Small u) (hv : Small v) (e : form_text (update u f) ≡ form_text (update v g)) where
  s : List ℕ
  s = form_text (update u f)

  -- what follows the number of an update
  abbrev inner : Form → List ℕ
  inner h = bytes " " ++ ((written h ++ bytes ")") ++ bytes "\n")

  number_after : (w : ℕ) (h : Form) → drop 7 (form_text (update w h)) ≡ bytes " " ++ (decimal w ++ inner h)
  number_after w h = ap (λ (l : List ℕ). 32 ∷ l) (append_assoc (decimal w) (bytes " " ++ (written h ++ bytes ")")) (bytes "\n"))

  update_opened : (u ≡ v) × (form_text f ≡ form_text g)
  unfolding s
  update_opened =
      let a = spaced_found s 7 u (inner f) hu (number_after u f) refl in
      let b = spaced_found s 7 v (inner g) hv (ap (drop 7) e ∙ number_after v g) refl in
      let is : u ≡ v = (same_read (sym a.0 ∙ b.0)).0 in
      let n : 7 + 1 + length (decimal u) ≡ 7 + 1 + length (decimal v) = ap (λ (w : ℕ). 7 + 1 + length (decimal w)) is in
      let r : inner f ≡ inner g = sym a.1 ∙ (ap (λ (k : ℕ). drop k s) n ∙ b.1) in
      let p = cut (written f ++ bytes ")") (written g ++ bytes ")") (bytes "\n") (ap (drop 1) r) in
      (is, ap (λ (l : List ℕ). l ++ bytes "\n") (cut (written f) (written g) (bytes ")") p))

abbrev Once : Form → Form → Type 0
Once f g = SmallForm f → SmallForm g → form_text f ≡ form_text g → f ≡ g

once_by : {f g : Form} → Sort f → Sort g → Once f g
once_by (opens a) (opens b) = λ vf vg e. ap start_form (line_once start_form start_reader a b vf vg e)
once_by (opens a) (steps b) = λ vf vg e. apart start_reader a (ring_form b) vf (not_first b) e
once_by (opens a) (only b) = λ vf vg e. apart start_reader a (only_form b) vf (only_not_first b) e
once_by (steps a) (opens b) = λ vf vg e. apart start_reader b (ring_form a) vg (not_first a) (sym e)
once_by (steps a) (steps b) = λ vf vg e. ap ring_form (ring_once a b vf vg e)
once_by (steps a) (only b) = λ vf vg e. apart ring_reader a (only_form b) vf (not_ring b) e
once_by (only a) (opens b) = λ vf vg e. apart start_reader b (only_form a) vg (only_not_first a) (sym e)
once_by (only a) (steps b) = λ vf vg e. apart ring_reader b (only_form a) vg (not_ring a) (sym e)
once_by (only a) (only b) = λ vf vg e. ap tree_form (tree_once (only_tree a) (only_tree b) vf vg e)
once_by (opens a) (inside v {f = g} b) = λ vf vg e. apart start_reader a (update v g) vf (update_not_first v g) e
once_by (steps a) (inside v {f = g} b) = λ vf vg e. apart ring_reader a (update v g) vf (update_not_ring v g) e
once_by (only a) (inside v {f = g} b) = λ vf vg e. apart tree_reader (only_tree a) (update v g) vf (update_not_tree v g) e
once_by (inside u {f} a) (opens b) = λ vf vg e. apart start_reader b (update u f) vg (update_not_first u f) (sym e)
once_by (inside u {f} a) (steps b) = λ vf vg e. apart ring_reader b (update u f) vg (update_not_ring u f) (sym e)
once_by (inside u {f} a) (only b) = λ vf vg e. apart tree_reader (only_tree b) (update u f) vg (update_not_tree u f) (sym e)
once_by (inside u {f} a) (inside v {f = g} b) = λ vf vg e.
    let x = update_opened u v f g vf.0 vg.0 e in
    ap (λ (w : ℕ). update w f) x.0 ∙ ap (update v) (once_by a b vf.1 vg.1 x.1)

form_once : (f g : Form) → Once f g
form_once f g = once_by (sort_of f) (sort_of g)

pub grammar : Grammar
grammar = record { once = λ f g vf vg e. form_once f g vf.0 vg.0 e; last = form_line }
