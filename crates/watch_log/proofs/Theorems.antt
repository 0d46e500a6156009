-- The statements of specs/Theorems.antt, proved. Assumes nothing.
use Prim.Native.Nat.{◌+◌, ◌<◌, ◌≤◌, ℕ}
use borrow.Author.Tests.{leb-false, leb-true}
use lib.ListN.{drop, get_or, length, length-append, take}
use mathlib.Core.Bool.{Bool, ◌&&◌, ◌||◌, false, true}
use mathlib.Core.List.{List, [], ◌++◌, ◌∷◌, append_assoc, append-nil}
use mathlib.Core.Logic.{◌⊎◌, inl, inr, ⊎_elim}
use mathlib.Core.Path.{◌∙◌, ◌≡◌, ap, refl, subst, subst⁻¹, sym}
use native.Mathlib.Omega.{arith}
use Rattle.decimal.proofs.Put.{put_stands}
use Rattle.decimal.specs.Text.{decimal, digits}
use Rattle.first_line.specs.Start.{bare}
use Rattle.forms.proofs.Lines.{line_rest}
use Rattle.forms.specs.Form.{Says, bare_ring, form_text, line_bytes}
use Rattle.laws.proofs.Tests.{both, both_true, false_true, neither, one_of, right_true}
use Rattle.log_rules.proofs.Cuts.{rest_cut, rest_done, rest_full, rest_held, rest_more, rest_over}
use Rattle.log_rules.proofs.Ends.{ended_append, ended_long, form_ended, line_ended, no_line, unended_append}
use Rattle.log_rules.proofs.Theorems.{lines_say}
use Rattle.log_rules.specs.Lines.{joined, line_limit}
use Rattle.log_rules.specs.Output.{output_of, rest_of}
use Rattle.log_rules.specs.Pieces.{PartLine, another, empty, has_line, not_told}
use Rattle.refusal.specs.declared.Refusal.TheVariants.{NotAForm}
use Rattle.refusal.specs.Table.{Refused}
use Rattle.log_answers.specs.Wrote.{Wrote}
use Rattle.watch_log.proofs.Kept.{told_line, told_long}
use Rattle.watch_log.specs.Feed.{LogState, all_answered, decided_by, is_too_long, last_is_next}
use Rattle.watch_log.specs.Finish.{Finished}
use Rattle.watch_log.specs.Theorems.{CutsDoNotMatter, Feeds, Settled, no_piece, piece}
use Rattle.log_rules.specs.Answers as rules
use Rattle.forms.specs.Form as forms
use Rattle.decimal.proofs.Cases as cases
use lib.Seq as seq

-- ---- a line that is too long

not_false : (t : Bool) → (t ≡ false → ⊥) → t ≡ true
not_false true n = refl
not_false false n = absurd (n refl)

module _ (k len : ℕ) (many : line_bytes ≤ len) where
  long_test : is_too_long len ≡ true
  long_test = not_false (is_too_long len) (λ e. omega (arith, leb-false))

  first_long : decided_by rules.fresh k len ≡ true
  first_long = right_true (all_answered k) long_test

  last_long : (s : rules.Stage) → line_limit ≤ k + 1 → decided_by s k len ≡ true
  last_long s last = go s
    where
      last_test : last_is_next k ≡ true
      last_test = not_false (last_is_next k) (λ e. omega (arith, leb-false))

      go : (s : rules.Stage) → decided_by s k len ≡ true
      go rules.fresh = first_long
      go (rules.on_ring r m) = right_true (all_answered k) (both_true long_test last_test)
      go (rules.on_tree t) = right_true (all_answered k) (both_true long_test last_test)
      go (rules.on_table t ms) = right_true (all_answered k) (both_true long_test last_test)
      go rules.over = refl

-- ---- a log that is decided

by_test : {P : Type 0} (a b : Bool) → (a || b) ≡ true → (a ≡ true → P) → (b ≡ true → P) → P
by_test a b e f g = ⊎_elim f g (one_of a b e)

-- after the next line nothing but the end line is written, if it is refused
abbrev Closes : rules.Stage → ℕ → Type 0
Closes s k = (rest : List ℕ) → rest_of (not_told s (k + 1)).stage (k + 1) [] rest ≡ rules.end_text (not_told s (k + 1)).stage

-- what is held is too long: it is refused, whatever follows
module _ (s : rules.Stage) (k : ℕ) {held : List ℕ} (part : PartLine held) (many : line_bytes ≤ length held) (under : k < line_limit)
    (closes : Closes s k) where
  refused : (rest : List ℕ) (t : Bool) → has_line rest ≡ t
      → rest_of s k held rest ≡ (not_told s (k + 1)).text ++ rules.end_text (not_told s (k + 1)).stage
  refused rest true e =
      let l = forms.line rest in
      let after = drop (length l) rest in
      let ends = line_ended rest e in
      rest_held s k part rest
      ∙ (ap (λ (x : List ℕ). rest_of s k [] (held ++ x)) (line_rest rest)
      ∙ (ap (rest_of s k []) (sym (append_assoc held l after))
      ∙ (told_long s k under (ended_append part ends) (omega (arith, length-append held l, ended_long ends)) after
      ∙ ap (λ (x : List ℕ). (not_told s (k + 1)).text ++ x) (closes after))))
  refused rest false e =
      let part_rest = no_line rest e in
      ap (rest_of s k held) (sym (append-nil rest))
      ∙ (rest_more s k part_rest held [] ∙ rest_cut s k (unended_append part part_rest) (omega (arith, length-append held rest)) under)

  too_long : (rest : List ℕ) → rest_of s k held rest ≡ rest_of s k held []
  too_long rest = refused rest (has_line rest) refl ∙ sym (refused [] (has_line []) refl)

module _ (k : ℕ) {held : List ℕ} (part : PartLine held) (rest : List ℕ) where
  abbrev Same : rules.Stage → Type 0
  Same s = rest_of s k held rest ≡ rest_of s k held []

  full : (s : rules.Stage) → line_limit ≤ k → Same s
  full s h = rest_full s k h held rest ∙ sym (rest_full s k h held [])

  long : (s : rules.Stage) → line_bytes ≤ length held → Closes s k → Same s
  long s many closes = go (cases.split k line_limit)
    where
      go : (k < line_limit) ⊎ (line_limit ≤ k) → Same s
      go (inl h) = too_long s k part many h closes rest
      go (inr h) = full s h

  last : (s : rules.Stage) → (all_answered k || (is_too_long (length held) && last_is_next k)) ≡ true → Same s
  last s e =
      by_test (all_answered k) (is_too_long (length held) && last_is_next k) e (λ h. full s (omega (arith, leb-true)))
      (λ h.
      let long_last = both (is_too_long (length held)) (last_is_next k) h in
      long s (omega (arith, leb-true)) (λ after. rest_full _ (k + 1) (omega (arith, leb-true)) [] after))

  first : (all_answered k || is_too_long (length held)) ≡ true → Same rules.fresh
  first e =
      by_test (all_answered k) (is_too_long (length held)) e (λ h. full rules.fresh (omega (arith, leb-true)))
      (λ h. long rules.fresh (omega (arith, leb-true)) (λ after. rest_over (k + 1) [] after))

  same_rest : (s : rules.Stage) → decided_by s k (length held) ≡ true → Same s
  same_rest rules.fresh e = first e
  same_rest (rules.on_ring r m) e = last (rules.on_ring r m) e
  same_rest (rules.on_tree t) e = last (rules.on_tree t) e
  same_rest (rules.on_table t ms) e = last (rules.on_table t ms) e
  same_rest rules.over e = rest_over k held rest ∙ sym (rest_over k held [])

-- ---- a log that is not decided

-- a first line that is accepted is answered, and not refused
first_open : (k : ℕ) → k < line_limit → rest_of rules.fresh k [] (form_text (bare_ring 1)) ≡ rest_of rules.fresh k [] [] → ⊥
unfolding decimal digits
first_open k h e =
    let says : Says (form_text (bare_ring 1)) (bare_ring 1) = (refl, (omega arith, omega arith)) in
    let told = told_line rules.fresh k h (form_ended (bare_ring 1)) (lines_say.first (k + 1) _ (bare 1) says) [] in
    let same = sym told ∙ (ap (rest_of rules.fresh k []) (append-nil (form_text (bare_ring 1))) ∙ (e ∙ rest_done rules.fresh k)) in
    let z : ◌≡◌ {A = ℕ} 111 110 = ap (λ (x : List ℕ). get_or x 1 0) same in
    omega arith

-- a byte more is one more line, which is answered
line_open : (s : rules.Stage) (k : ℕ) → k < line_limit → not_told s (k + 1) ≡ record { stage = s; text = rules.answer_text (k + 1) (Refused NotAForm) }
    → rest_of s k [] (0 ∷ []) ≡ rest_of s k [] [] → ⊥
line_open s k h stays e =
    let byte : PartLine (0 ∷ []) = another (λ (z : ◌≡◌ {A = ℕ} 0 10). omega arith) empty in
    let told = rest_held s k byte [] ∙ (e ∙ rest_done s k) in
    let cut = sym (rest_cut s k byte (omega arith) h) ∙ told in
    let z = ap length (sym (ap (λ (x : rules.Told). x.text ++ rules.end_text x.stage) stays) ∙ cut) in
    omega (arith, z, length-append (rules.answer_text (k + 1) (Refused NotAForm)) (rules.end_text s))

open_at : (s : rules.Stage) (k : ℕ) → decided_by s k 0 ≡ false → (rest : List ℕ) × (rest_of s k [] rest ≡ rest_of s k [] [] → ⊥)
open_at rules.fresh k e = (form_text (bare_ring 1), first_open k (leb-false line_limit k (neither _ _ e).0))
open_at (rules.on_ring r m) k e = (0 ∷ [], line_open (rules.on_ring r m) k (leb-false line_limit k (neither _ _ e).0) refl)
open_at (rules.on_tree t) k e = (0 ∷ [], line_open (rules.on_tree t) k (leb-false line_limit k (neither _ _ e).0) refl)
open_at (rules.on_table t ms) k e = (0 ∷ [], line_open (rules.on_table t ms) k (leb-false line_limit k (neither _ _ e).0) refl)
open_at rules.over k e = absurd (false_true (sym e))

pub settled : Settled
settled = record {
  same = λ l rest g e. same_rest l.lines g.part rest l.stage e;
  not_yet = λ l unheld e.
      let left : List ℕ → List ℕ → List ℕ = λ held rest. rest_of l.stage l.lines held rest in
      subst⁻¹ (λ (h : List ℕ). (rest : List ℕ) × (left h rest ≡ left h [] → ⊥)) unheld
      (open_at l.stage l.lines (subst (λ (h : List ℕ). decided_by l.stage l.lines (length h) ≡ false) unheld e));
  long_first = λ l e many. subst⁻¹ (λ (s : rules.Stage). decided_by s l.lines (length l.held) ≡ true) e (first_long l.lines (length l.held) many);
  long_last = λ l last many. last_long l.lines (length l.held) many l.stage last;
  nothing = λ l rest e. ap (λ (s : rules.Stage). rest_of s l.lines l.held rest) e ∙ rest_over l.lines l.held rest;
}

-- ---- a log in pieces

-- what stands in the buffer is what was written
pub front : (out written out' : List ℕ) (r : ℕ) → Wrote out 0 written r out' → r ≤ length out → take r out' ≡ written
front out written out' r w room =
    let n : r ≡ length written = omega (arith, w.0) in
    let stands = put_stands written out 0 (omega arith) in
    rw (n, w.1) (ap (take (length written)) stands ∙ seq.take-append_seam written (drop (0 + length written) out))

-- pieces one after the other
fed_all : {l l' : LogState} {texts : List ℕ} {ps : List (List ℕ)} → Feeds l ps texts l' → (rest : List ℕ)
    → rest_of l.stage l.lines l.held (joined ps ++ rest) ≡ texts ++ rest_of l'.stage l'.lines l'.held rest
fed_all no_piece rest = refl
fed_all (piece {l = l} {l₁ = l₁} {l' = l'} {p = p} {out = out} {out₁ = out₁} {texts = texts} {ps = ps} count f later) rest =
    ap (rest_of l.stage l.lines l.held) (append_assoc p (joined ps) rest)
    ∙ (f.left (joined ps ++ rest)
    ∙ (ap (λ (x : List ℕ). f.written ++ x) (fed_all later rest)
    ∙ (sym (append_assoc f.written texts (rest_of l'.stage l'.lines l'.held rest))
    ∙ ap (λ (x : List ℕ). (x ++ texts) ++ rest_of l'.stage l'.lines l'.held rest) (sym (front out f.written out₁ count f.wrote f.room)))))

-- and the end, where what follows does not matter
module _ (l l' : LogState) (texts out out' : List ℕ) (ps : List (List ℕ)) (r : ℕ)
    (start : (l.stage ≡ rules.fresh) × (l.lines ≡ 0) × (l.held ≡ [])) (fed : Feeds l ps texts l') (end : Finished l' r out out') where
  abbrev left : List ℕ → List ℕ
  left rest = rest_of l'.stage l'.lines l'.held rest

  written : (rest : List ℕ) → left rest ≡ left [] → texts ++ take r out' ≡ output_of (joined ps ++ rest)
  written rest same =
      ap (λ (x : List ℕ). texts ++ x) (front out (left []) out' r end.wrote end.room ∙ sym same)
      ∙ (sym (fed_all fed rest)
      ∙ (ap (λ (s : rules.Stage). rest_of s l.lines l.held (joined ps ++ rest)) start.0
      ∙ (ap (λ (k : ℕ). rest_of rules.fresh k l.held (joined ps ++ rest)) start.1
      ∙ ap (λ (h : List ℕ). rest_of rules.fresh 0 h (joined ps ++ rest)) start.2)))

pub cuts_do_not_matter : CutsDoNotMatter
cuts_do_not_matter = record {
  output = λ l l' texts out out' ps r start fed end.
      written l l' texts out out' ps r start fed end [] refl ∙ ap output_of (append-nil (joined ps));
  whatever_follows = λ l l' texts out out' ps r start fed end good e rest.
      written l l' texts out out' ps r start fed end rest (settled.same l' rest good e);
}
