-- Where a line ends. Assumes nothing.
use Prim.Native.Nat.{◌≤◌, suc, zero, ℕ}
use borrow.Author.Tests.{eqb-false, eqb-true, ne_eqb}
use lib.Dec.{eqb}
use lib.ListN.{drop, drop_of_length-le, length, length-append}
use mathlib.Core.Bool.{Bool, cond, false, true}
use mathlib.Core.List.{List, [], ◌++◌, ◌∷◌, append-nil}
use mathlib.Core.Path.{◌∙◌, ◌≡◌, ap, refl, subst, sym}
use native.Mathlib.Omega.{arith}
use Rattle.forms.proofs.Lines.{form_line}
use Rattle.forms.specs.Form.{Form, form_text, line}
use Rattle.laws.proofs.Tests.{false_true}
use Rattle.log_rules.specs.Pieces.{OneLine, PartLine, another, empty, has_line, newline, preceded}

pub line_ended : (s : List ℕ) → has_line s ≡ true → OneLine (line s)
unfolding has_line line
line_ended [] h = absurd (false_true h)
line_ended (b ∷ s) h = go (line_ended s) (eqb b 10) refl h
  where
    go : (has_line s ≡ true → OneLine (line s)) → (t : Bool) → eqb b 10 ≡ t → cond t true (has_line s) ≡ true → OneLine (b ∷ cond t [] (line s))
    go ih true e h = subst (λ (x : ℕ). OneLine (x ∷ [])) (sym (eqb-true b 10 e)) newline
    go ih false e h = preceded (eqb-false b 10 e) (ih h)

pub no_line : (s : List ℕ) → has_line s ≡ false → PartLine s
unfolding has_line
no_line [] h = empty
no_line (b ∷ s) h = go (no_line s) (eqb b 10) refl h
  where
    go : (has_line s ≡ false → PartLine s) → (t : Bool) → eqb b 10 ≡ t → cond t true (has_line s) ≡ false → PartLine (b ∷ s)
    go ih true e h = absurd (false_true (sym h))
    go ih false e h = another (eqb-false b 10 e) (ih h)

pub unended_line : {s : List ℕ} → PartLine s → line s ≡ s
unfolding line
unended_line empty = refl
unended_line (another {b} {l} ne u) = rw (ne_eqb b 10 ne) (ap (λ (x : List ℕ). b ∷ x) (unended_line u))

pub unended_none : {s : List ℕ} → PartLine s → has_line s ≡ false
unfolding has_line
unended_none empty = refl
unended_none (another {b} {l} ne u) = rw (ne_eqb b 10 ne) (unended_none u)

pub ended_line : {w : List ℕ} → OneLine w → (u : List ℕ) → line (w ++ u) ≡ w
unfolding line
ended_line newline u = refl
ended_line (preceded {b} {l} ne w) u = rw (ne_eqb b 10 ne) (ap (λ (x : List ℕ). b ∷ x) (ended_line w u))

pub ended_itself : {w : List ℕ} → OneLine w → line w ≡ w
ended_itself {w} e = ap line (sym (append-nil w)) ∙ ended_line e []

pub unended_append : {a b : List ℕ} → PartLine a → PartLine b → PartLine (a ++ b)
unended_append empty u = u
unended_append (another ne a) u = another ne (unended_append a u)

pub ended_append : {a b : List ℕ} → PartLine a → OneLine b → OneLine (a ++ b)
ended_append empty u = u
ended_append (another ne a) u = preceded ne (ended_append a u)

pub ended_long : {w : List ℕ} → OneLine w → 1 ≤ length w
ended_long newline = omega arith
ended_long (preceded ne w) = omega arith

ended_has : {w : List ℕ} → OneLine w → has_line w ≡ true
unfolding has_line
ended_has newline = refl
ended_has (preceded {b} {l} ne w) = rw (ne_eqb b 10 ne) (ended_has w)

-- what is left inside a line has its byte 10 still
pub ended_left : {w : List ℕ} → OneLine w → (i : ℕ) → has_line (drop i w) ≡ false → drop i w ≡ []
ended_left w zero e = absurd (false_true (sym e ∙ ended_has w))
ended_left newline (suc i) e = drop_of_length-le [] {i = i} (omega arith)
ended_left (preceded ne w) (suc i) e = ended_left w i e

pub line_twice : (s : List ℕ) → line (line s) ≡ line s
line_twice s = go (has_line s) refl
  where
    go : (t : Bool) → has_line s ≡ t → line (line s) ≡ line s
    go true e = ended_itself (line_ended s e)
    go false e = ap line (unended_line (no_line s e))

-- every form ends in byte 10
pub form_ended : (f : Form) → OneLine (form_text f)
form_ended f = go (has_line (form_text f)) refl
  where
    itself : line (form_text f) ≡ form_text f
    itself = ap line (sym (append-nil (form_text f))) ∙ form_line f []

    go : (t : Bool) → has_line (form_text f) ≡ t → OneLine (form_text f)
    go true e = subst OneLine itself (line_ended (form_text f) e)
    go false e =
        let u : PartLine (form_text f ++ (0 ∷ [])) = unended_append (no_line (form_text f) e) (another (λ z. omega arith) empty) in
        let p : form_text f ++ (0 ∷ []) ≡ form_text f = sym (unended_line u) ∙ form_line f (0 ∷ []) in
        absurd (let z : ⊥ = omega (arith, ap length p, length-append (form_text f) (0 ∷ [])) in z)

-- a line that has ended has no end before
pub not_both : {w : List ℕ} → OneLine w → PartLine w → ⊥
not_both newline (another ne u) = ne refl
not_both (preceded ne w) (another m u) = not_both w u
