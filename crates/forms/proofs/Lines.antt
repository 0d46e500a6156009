-- No byte 10 stands inside a form but its last: a form's text is the first line of every text that begins with it. Assumes nothing.
use mathlib.Core.Path.{◌≡◌, refl, sym, ap, ◌∙◌}
use mathlib.Core.Bool.{Bool, cond, false, true}
use mathlib.Core.Logic.{◌↔◌}
use mathlib.Core.List.{List, [], ◌∷◌, ◌++◌, append_assoc, append-nil}
use Prim.Native.Nat.{ℕ, ◌+◌, ◌<◌}
use native.Mathlib.Omega.{arith}
use lib.ListN.{length, drop}
use lib.Dec.{eqb}
use lib.Seq.{drop-length}
use borrow.Author.Tests.{ne_eqb}
use Rattle.decimal.specs.Bytes.{bytes}
use Rattle.decimal.specs.Text.{decimal}
use Rattle.decimal.proofs.Numbers.{Digits, decimal_digits, digit_low}
use Rattle.forms.specs.Form.{Form, bare_ring, ring_with, tree_of, send, take_one, take_with, idle, probe, pass, ack, leave, announce, update, spaced_numbers, written, form_text, Says, line, SaysAt}

line_digits : (d l : List ℕ) → Digits d → line (d ++ l) ≡ d ++ line l
unfolding line
line_digits [] l h = refl
line_digits (b ∷ d) l h =
    let z : b ≡ 10 → ⊥ = λ e. omega (arith, digit_low b h.0) in
    rw (ne_eqb b 10 z) (ap (λ (t : List ℕ). b ∷ t) (line_digits d l h.1))

line-decimal : (n : ℕ) (l : List ℕ) → line (decimal n ++ l) ≡ decimal n ++ line l
line-decimal n l = line_digits (decimal n) l (decimal_digits n)

line_numbers : (ks l : List ℕ) → line (spaced_numbers ks ++ l) ≡ spaced_numbers ks ++ line l
unfolding line
line_numbers [] l = refl
line_numbers (k ∷ ks) l =
    ap (λ (t : List ℕ). 32 ∷ t)
    (ap line (append_assoc (decimal k) (spaced_numbers ks) l)
    ∙ (line-decimal k (spaced_numbers ks ++ l)
    ∙ (ap (λ (t : List ℕ). decimal k ++ t) (line_numbers ks l) ∙ sym (append_assoc (decimal k) (spaced_numbers ks) (line l)))))

-- no byte 10 stands in a number and what follows it, if none stands in that
after : (n : ℕ) (l u : List ℕ) → line (l ++ u) ≡ l ++ line u → line ((decimal n ++ l) ++ u) ≡ (decimal n ++ l) ++ line u
after n l u h =
    ap line (append_assoc (decimal n) l u)
    ∙ (line-decimal n (l ++ u) ∙ (ap (λ (x : List ℕ). decimal n ++ x) h ∙ sym (append_assoc (decimal n) l (line u))))

after_all : (ks l u : List ℕ) → line (l ++ u) ≡ l ++ line u → line ((spaced_numbers ks ++ l) ++ u) ≡ (spaced_numbers ks ++ l) ++ line u
after_all ks l u h =
    ap line (append_assoc (spaced_numbers ks) l u)
    ∙ (line_numbers ks (l ++ u) ∙ (ap (λ (x : List ℕ). spaced_numbers ks ++ x) h ∙ sym (append_assoc (spaced_numbers ks) l (line u))))

written-line : (f : Form) (u : List ℕ) → line (written f ++ u) ≡ written f ++ line u
unfolding line
written-line (bare_ring n) u = ap (λ (l : List ℕ). bytes "(ring " ++ l) (after n (bytes ")") u refl)
written-line (ring_with n active black) u =
    ap (λ (l : List ℕ). bytes "(ring " ++ l)
    (after n _ u (ap (λ (l : List ℕ). bytes " (active" ++ l)
    (after_all active _ u (ap (λ (l : List ℕ). bytes ") (black" ++ l) (after_all black (bytes "))") u refl)))))
written-line (tree_of n root) u =
    ap (λ (l : List ℕ). bytes "(tree " ++ l)
    (after n _ u (ap (λ (l : List ℕ). bytes " (root " ++ l) (after root (bytes "))") u refl)))
written-line (send i j) u =
    ap (λ (l : List ℕ). bytes "(send " ++ l)
    (after i _ u (ap (λ (l : List ℕ). bytes " " ++ l) (after j (bytes ")") u refl)))
written-line (take_one i) u = ap (λ (l : List ℕ). bytes "(take " ++ l) (after i (bytes ")") u refl)
written-line (take_with i k) u =
    ap (λ (l : List ℕ). bytes "(take " ++ l)
    (after i _ u (ap (λ (l : List ℕ). bytes " " ++ l) (after k (bytes ")") u refl)))
written-line (idle i) u = ap (λ (l : List ℕ). bytes "(idle " ++ l) (after i (bytes ")") u refl)
written-line probe u = refl
written-line (pass i) u = ap (λ (l : List ℕ). bytes "(pass " ++ l) (after i (bytes ")") u refl)
written-line (ack i) u = ap (λ (l : List ℕ). bytes "(ack " ++ l) (after i (bytes ")") u refl)
written-line (leave i) u = ap (λ (l : List ℕ). bytes "(leave " ++ l) (after i (bytes ")") u refl)
written-line announce u = refl
written-line (update v f) u =
    ap (λ (l : List ℕ). bytes "(update " ++ l)
    (after v _ u
    (ap (λ (l : List ℕ). bytes " " ++ l)
    (ap line (append_assoc (written f) (bytes ")") u)
    ∙ (written-line f (bytes ")" ++ u) ∙ sym (append_assoc (written f) (bytes ")") (line u))))))

pub form_line : (f : Form) (u : List ℕ) → line (form_text f ++ u) ≡ form_text f
unfolding line
form_line f u = ap line (append_assoc (written f) (bytes "\n") u) ∙ written-line f (bytes "\n" ++ u)

-- a text is its first line, and what follows
line_by : (b : ℕ) (l : List ℕ) (t : Bool) → l ≡ line l ++ drop (length (line l)) l
    → b ∷ l ≡ (b ∷ cond t [] (line l)) ++ drop (length (b ∷ cond t [] (line l))) (b ∷ l)
line_by b l true h = refl
line_by b l false h = ap (λ (x : List ℕ). b ∷ x) h

pub line_rest : (l : List ℕ) → l ≡ line l ++ drop (length (line l)) l
unfolding line
line_rest [] = refl
line_rest (b ∷ l) = line_by b l (eqb b 10) (line_rest l)

pub written_some : (f : Form) → 0 < length (written f)
written_some (bare_ring n) = omega arith
written_some (ring_with n active black) = omega arith
written_some (tree_of n root) = omega arith
written_some (send i j) = omega arith
written_some (take_one i) = omega arith
written_some (take_with i k) = omega arith
written_some (idle i) = omega arith
written_some probe = omega arith
written_some (pass i) = omega arith
written_some (ack i) = omega arith
written_some (leave i) = omega arith
written_some announce = omega arith
written_some (update u f) = omega arith

-- a line that is handed over by itself
pub says_whole : (s : List ℕ) (f : Form) → Says s f ↔ SaysAt s 0 f (length s)
says_whole s f = (
  λ h.
      let e : s ≡ form_text f ++ [] = h.0 ∙ sym (append-nil (form_text f)) in
      let n : length s ≡ 0 + length (form_text f) = omega (arith, ap length h.0) in
      ((ap line e ∙ form_line f [], h.1), n),
  λ h.
      let n : length (line s) ≡ length s = omega (arith, ap length h.0.0, h.1) in
      let e : s ≡ form_text f ++ drop (length s) s =
      line_rest s
      ∙ (ap (λ (l : List ℕ). l ++ drop (length (line s)) s) h.0.0 ∙ ap (λ (k : ℕ). form_text f ++ drop k s) n) in
      (e ∙ (ap (λ (l : List ℕ). form_text f ++ l) (drop-length s) ∙ append-nil (form_text f)), h.0.1),
)
