-- A reader of forms, and byte 10: together they read of a line exactly what it says. Assumes nothing.
use mathlib.Core.Path.{◌≡◌, refl, sym, ap, ◌∙◌}
use mathlib.Core.Bool.{◌&&◌, Bool, cond, false, true}
use mathlib.Core.Logic.{◌↔◌}
use mathlib.Core.List.{List, ◌++◌, append_assoc}
use Prim.Native.Nat.{ℕ, ◌+◌, ◌≤◌, ◌<◌}
use native.Mathlib.Omega.{arith}
use lib.ListN.{length, drop, length-append}
use lib.Dec.{ltb}
use borrow.Author.Tests.{lt-ltb, ltb-true}
use Rattle.decimal.specs.Bytes.{bytes}
use Rattle.decimal.specs.Word.{starts}
use Rattle.decimal.proofs.Cases.{both_left, both_right, advance}
use Rattle.decimal.proofs.Words.{word_sound, word_back, word_in}
use Rattle.forms.specs.Form.{Form, written, form_text, SmallForm, line_bytes, Says, line, SaysAt}
use Rattle.std.specs.Prelude.{Some, None}
use Rattle.forms.specs.Read.{Read, read, ends_line, lined}
use Rattle.decimal.proofs.Cases.{same_read}
use Rattle.forms.proofs.Arguments.{place}
use Rattle.forms.proofs.Lines.{form_line, written_some, line_rest}

abbrev newline : List ℕ
newline = bytes "\n"

pub no_read : {A B : Type 0} {a : A} {e : ℕ} → None ≡ read a e → B
no_read h = absurd (let z : ◌≡◌ {A = ℕ} 0 1 = cc in let y : ⊥ = omega arith in y)

-- 1. the end of a line
pub ends_sound : (s : List ℕ) (at e : ℕ) → ends_line s at e ≡ true → (drop e s ≡ newline ++ drop (e + 1) s) × (e + 1 ≤ length s) × (e < at + line_bytes)
unfolding ends_line
ends_sound s at e h =
    let w : starts newline (drop e s) ≡ true = both_left (starts newline (drop e s)) (ltb e (at + line_bytes)) h in
    let k : ltb e (at + line_bytes) ≡ true = both_right (starts newline (drop e s)) (ltb e (at + line_bytes)) h in
    (word_sound s e newline w, word_in s e newline (omega arith) w, ltb-true e (at + line_bytes) k)

pub ends_short : (s : List ℕ) (at e : ℕ) → e < at + line_bytes → ends_line s at e ≡ starts newline (drop e s)
unfolding ends_line
ends_short s at e k = rw (lt-ltb e (at + line_bytes) k) (both_on (starts newline (drop e s)))
  where
    both_on : (t : Bool) → (t && true) ≡ t
    both_on true = refl
    both_on false = refl

ends_found : (s : List ℕ) (at e : ℕ) (u : List ℕ) → drop e s ≡ newline ++ u → e < at + line_bytes → ends_line s at e ≡ true
ends_found s at e u h k = ends_short s at e k ∙ word_back s e newline u h

module _ {A : Type 0} (form : A → Form) where
  -- a form stands in s from `at` up to e
  pub record Stood (s : List ℕ) (at : ℕ) (a : A) (e : ℕ) : Type 0 where
    pub text : drop at s ≡ written (form a) ++ drop e s
    pub inside : e ≤ length s
    pub small : SmallForm (form a)

  pub stood_end : {s : List ℕ} {at : ℕ} {a : A} {e : ℕ} → Stood s at a e → e ≡ at + length (written (form a))
  stood_end {s} {at} {a} {e} h = place s (written (form a)) at e h.text h.inside (written_some (form a))

  -- a reader of forms: what it reads stands there, and what stands there is read
  pub record Reader (reader : List ℕ → ℕ → Read A) : Type 0 where
    pub stood : (s : List ℕ) (at : ℕ) (a : A) (e : ℕ) → reader s at ≡ read a e → Stood s at a e
    pub found : (s : List ℕ) (at : ℕ) (a : A) (u : List ℕ) → SmallForm (form a) → drop at s ≡ written (form a) ++ u
        → reader s at ≡ read a (at + length (written (form a)))

  module _ {reader : List ℕ → ℕ → Read A} (R : Reader reader) where
    -- 2. what is read of a line is what it says
    pub record Lined (s : List ℕ) (at : ℕ) (a : A) (e : ℕ) : Type 0 where
      pub end : ℕ
      pub is : reader s at ≡ read a end
      pub past : end + 1 ≡ e
      pub ends : ends_line s at end ≡ true

    lined_pick : (s : List ℕ) (at : ℕ) (b : A) (d : ℕ) → reader s at ≡ read b d → (t : Bool) → ends_line s at d ≡ t
        → (a : A) (e : ℕ) → cond t (read b (d + 1)) None ≡ read a e → Lined s at a e
    lined_pick s at b d r false q a e h = no_read h
    lined_pick s at b d r true q a e h =
        let x : b ≡ a = (same_read h).0 in
        let y : d + 1 ≡ e = (same_read h).1 in
        record { end = d; is = r ∙ ap (λ (z : A). read z d) x; past = y; ends = q }

    lined_by : (s : List ℕ) (at : ℕ) (r : Read A) → reader s at ≡ r → (a : A) (e : ℕ) → lined s at r ≡ read a e → Lined s at a e
    unfolding lined
    lined_by s at None q a e h = no_read h
    lined_by s at (Some (b, d)) q a e h = lined_pick s at b d q (ends_line s at d) refl a e h

    pub line_lined : (s : List ℕ) (at : ℕ) (a : A) (e : ℕ) → lined s at (reader s at) ≡ read a e → Lined s at a e
    line_lined s at a e h = lined_by s at (reader s at) refl a e h

    line_sound : (s : List ℕ) (at : ℕ) (a : A) (e : ℕ) → lined s at (reader s at) ≡ read a e → SaysAt s at (form a) e
    line_sound s at a e h =
        let l = line_lined s at a e h in
        let r = R.stood s at a l.end l.is in
        let f = written (form a) in
        let z = ends_sound s at l.end l.ends in
        let u = drop (l.end + 1) s in
        let t : drop at s ≡ form_text (form a) ++ u =
        r.text ∙ (ap (λ (x : List ℕ). f ++ x) z.0 ∙ sym (append_assoc f newline u)) in
        let n : length (form_text (form a)) ≡ length f + 1 = length-append f newline in
        let ends : e ≡ at + length (form_text (form a)) = omega (arith, n, stood_end r, l.past) in
        let few : length (form_text (form a)) ≤ line_bytes = omega (arith, n, stood_end r, z.2) in
        ((ap line t ∙ form_line (form a) u, (r.small, few)), ends)

    line_whole : (s : List ℕ) (at : ℕ) (a : A) (e : ℕ) → SaysAt s at (form a) e → lined s at (reader s at) ≡ read a e
    unfolding lined
    line_whole s at a e ((is, (small, few)), ends) =
        let f = written (form a) in
        let u = drop (length (line (drop at s))) (drop at s) in
        let t : drop at s ≡ f ++ (newline ++ u) =
        line_rest (drop at s) ∙ (ap (λ (l : List ℕ). l ++ u) is ∙ append_assoc f newline u) in
        let d = at + length f in
        let n : length (form_text (form a)) ≡ length f + 1 = length-append f newline in
        let last : d + 1 ≡ e = omega (arith, n, ends) in
        let k : d < at + line_bytes = omega (arith, n, few) in
        rw (R.found s at a (newline ++ u) small t, ends_found s at d u (advance s f (newline ++ u) at t) k) (ap (read a) last)

    pub line_exact : (s : List ℕ) (at : ℕ) (a : A) (e : ℕ) → (lined s at (reader s at) ≡ read a e) ↔ SaysAt s at (form a) e
    line_exact s at a e = (line_sound s at a e, line_whole s at a e)

    -- what was read lies inside
    pub line_inside : (s : List ℕ) (at : ℕ) (a : A) (e : ℕ) → lined s at (reader s at) ≡ read a e → (at < e) × (e ≤ length s)
    line_inside s at a e h =
        let l = line_lined s at a e h in
        let r = R.stood s at a l.end l.is in
        let z = ends_sound s at l.end l.ends in
        (omega (arith, stood_end r, l.past), omega (arith, z.1, l.past))

    -- none is read exactly if the line says none
    none_by : (s : List ℕ) (at : ℕ) (r : Read A) → lined s at (reader s at) ≡ r → ((a : A) → Says (line (drop at s)) (form a) → ⊥) → r ≡ None
    none_by s at None h no_one = refl
    none_by s at (Some (a, e)) h no_one = absurd (no_one a (line_sound s at a e h).0)

    pub line_other : (s : List ℕ) (at : ℕ) → (lined s at (reader s at) ≡ None) ↔ ((a : A) → Says (line (drop at s)) (form a) → ⊥)
    line_other s at = (
      λ h a says.
          let n = at + length (form_text (form a)) in
          no_read (sym h ∙ line_whole s at a n (says, refl)),
      none_by s at (lined s at (reader s at)) refl,
    )

    -- no two forms share a line
    pub line_once : (a b : A) → SmallForm (form a) → SmallForm (form b) → form_text (form a) ≡ form_text (form b) → a ≡ b
    line_once a b ha hb e =
        let f = R.found (form_text (form a)) 0 a newline ha refl in
        let g = R.found (form_text (form a)) 0 b newline hb e in
        (same_read (sym f ∙ g)).0
