-- What is still to be written, line by line and piece by piece. Assumes nothing.
use Prim.Native.Nat.{◌+◌, ◌-◌, ◌<◌, ◌≤◌, suc, zero, ℕ}
use borrow.Author.Tests.{ne_eqb}
use lib.Dec.{eqb}
use lib.ListN.{drop, length, length-append, take}
use mathlib.Core.Bool.{Bool, cond, false, true}
use mathlib.Core.List.{List, [], ◌++◌, ◌∷◌, append_assoc, append-nil}
use mathlib.Core.Path.{◌∙◌, ◌≡◌, ap, refl, subst, sym}
use native.Mathlib.Decide.{dec_lt}
use native.Mathlib.Omega.{arith}
use Rattle.first_line.proofs.Opens.{first_other}
use Rattle.first_line.specs.Start.{start_form}
use Rattle.forms.proofs.Lines.{line_rest}
use Rattle.forms.proofs.Steps.{ring_not, tree_not}
use Rattle.forms.specs.Form.{Form, Says, line, line_bytes, ring_form, tree_form}
use Rattle.update_forms.proofs.Exact.{wrapped_other}
use Rattle.update_forms.specs.Wrapped.{wrapped_form}
use Rattle.log_rules.proofs.Ends.{ended_append, ended_itself, form_ended, line_ended, no_line, not_both, unended_append, unended_line}
use Rattle.log_rules.specs.Answers.{Stage, Told, end_text, fresh, line_told, on_ring, on_table, on_tree, over}
use Rattle.log_rules.specs.Lines.{line_limit, split}
use Rattle.log_rules.specs.Output.{lines_told, rest_of}
use Rattle.log_rules.specs.Theorems.{line_ends}
use Rattle.log_rules.specs.Pieces.{OneLine, PartLine, another, empty, has_line, newline, not_told, preceded}

-- ---- the lines of a text

split_next : (held : List ℕ) (b : ℕ) (s : List ℕ)
    → split held (b ∷ s) ≡ cond (eqb b 10) ((held ++ (b ∷ [])) ∷ split [] s) (split (held ++ (b ∷ [])) s)
unfolding split
split_next [] b s = refl
split_next (x ∷ held) b s = refl

pub split_more : {w : List ℕ} → PartLine w → (held s : List ℕ) → split held (w ++ s) ≡ split (held ++ w) s
split_more empty held s = ap (λ (l : List ℕ). split l s) (sym (append-nil held))
split_more (another {b} {l} ne u) held s =
    split_next held b (l ++ s)
    ∙ (ap (λ (t : Bool). cond t ((held ++ (b ∷ [])) ∷ split [] (l ++ s)) (split (held ++ (b ∷ [])) (l ++ s))) (ne_eqb b 10 ne)
    ∙ (split_more u (held ++ (b ∷ [])) s ∙ ap (λ (x : List ℕ). split x s) (append_assoc held (b ∷ []) l)))

pub split_line : {w : List ℕ} → OneLine w → (held s : List ℕ) → split held (w ++ s) ≡ (held ++ w) ∷ split [] s
split_line newline held s = split_next held 10 s
split_line (preceded {b} {l} ne e) held s =
    split_next held b (l ++ s)
    ∙ (ap (λ (t : Bool). cond t ((held ++ (b ∷ [])) ∷ split [] (l ++ s)) (split (held ++ (b ∷ [])) (l ++ s))) (ne_eqb b 10 ne)
    ∙ (split_line e (held ++ (b ∷ [])) s ∙ ap (λ (x : List ℕ). x ∷ split [] s) (append_assoc held (b ∷ []) l)))

-- what follows n ends of lines has no part in the first n lines
pub split-take : (n : ℕ) (held s : List ℕ) → n ≤ line_ends s → (more : List ℕ) → take n (split held (s ++ more)) ≡ take n (split held s)
unfolding line_ends
split-take zero held s h more = refl
split-take (suc n) held [] h more = absurd (let z : ⊥ = omega arith in z)
split-take (suc n) held (b ∷ s) h more =
    ap (take (suc n)) (split_next held b (s ++ more))
    ∙ (go (eqb b 10) h (split-take n [] s) (split-take (suc n) (held ++ (b ∷ [])) s) ∙ ap (take (suc n)) (sym (split_next held b s)))
  where
    go :
        (t : Bool) → suc n ≤ cond t 1 0 + line_ends s
        → (n ≤ line_ends s → (more : List ℕ) → take n (split [] (s ++ more)) ≡ take n (split [] s))
        → (suc n ≤ line_ends s → (more : List ℕ) → take (suc n) (split (held ++ (b ∷ [])) (s ++ more)) ≡ take (suc n) (split (held ++ (b ∷ [])) s))
        → take (suc n) (cond t ((held ++ (b ∷ [])) ∷ split [] (s ++ more)) (split (held ++ (b ∷ [])) (s ++ more)))
        ≡ take (suc n) (cond t ((held ++ (b ∷ [])) ∷ split [] s) (split (held ++ (b ∷ [])) s))
    go true h next same = ap (λ (ls : List (List ℕ)). (held ++ (b ∷ [])) ∷ ls) (next (omega arith) more)
    go false h next same = same (omega arith) more

-- ---- what is still to be written

-- a whole line is answered
pub rest_line : (st : Stage) (k : ℕ) {w : List ℕ} → OneLine w → (held s : List ℕ) → k < line_limit
    → rest_of st k held (w ++ s) ≡ (line_told st (k + 1) (held ++ w)).text ++ rest_of (line_told st (k + 1) (held ++ w)).stage (k + 1) [] s
unfolding rest_of lines_told
rest_line st k {w} e held s h =
    let n : line_limit - k ≡ suc (line_limit - (k + 1)) = omega arith in
    rw (split_line e held s, n)

-- a part of a line is held
pub rest_more : (st : Stage) (k : ℕ) {w : List ℕ} → PartLine w → (held s : List ℕ) → rest_of st k held (w ++ s) ≡ rest_of st k (held ++ w) s
unfolding rest_of
rest_more st k u held s = rw (split_more u held s)

-- so what is held may stand before what follows
pub rest_held : (st : Stage) (k : ℕ) {held : List ℕ} → PartLine held → (s : List ℕ) → rest_of st k held s ≡ rest_of st k [] (held ++ s)
rest_held st k u s = sym (rest_more st k u [] s)

-- "further lines are not read"
pub rest_full : (st : Stage) (k : ℕ) → line_limit ≤ k → (held s : List ℕ) → rest_of st k held s ≡ end_text st
unfolding rest_of lines_told
rest_full st k h held s = let n : line_limit - k ≡ 0 = omega arith in rw n

-- "After a bad or missing first line the program prints only that refusal"
pub lines_over : (k : ℕ) (ls : List (List ℕ)) → lines_told over k ls ≡ []
unfolding lines_told line_told
lines_over k [] = refl
lines_over k (l ∷ ls) = lines_over (k + 1) ls

pub rest_over : (k : ℕ) (held s : List ℕ) → rest_of over k held s ≡ []
unfolding rest_of
rest_over k held s = lines_over (k + 1) (take (line_limit - k) (split held s))

-- ---- a line that says no form

abbrev Formless : List ℕ → Type 0
Formless l = (f : Form) → Says (line l) f → ⊥

formless_told : (st : Stage) (k : ℕ) (l : List ℕ) → Formless l → line_told st k l ≡ not_told st k
unfolding line_told
formless_told fresh k l h = rw ((first_other l 0).1 (λ f. h (start_form f)), (wrapped_other l 0).1 (λ w. h (wrapped_form w)))
formless_told (on_ring r m) k l h = rw ((ring_not l 0).1 (λ f. h (ring_form f)))
formless_told (on_tree t) k l h = rw ((tree_not l 0).1 (λ f. h (tree_form f)))
formless_told (on_table t ms) k l h = rw ((wrapped_other l 0).1 (λ w. h (wrapped_form w)))
formless_told over k l h = refl

-- "A line that is too long .. is one line, refused with 10"
pub long_told : (st : Stage) (k : ℕ) (l : List ℕ) → line l ≡ l → line_bytes < length l → line_told st k l ≡ not_told st k
long_told st k l same h = formless_told st k l (λ f s. let z : ⊥ = omega (arith, ap length same, ap length s.0, s.1.1) in z)

-- ".. or lacks its byte 10 is one line, refused with 10"
pub unended_told : (st : Stage) (k : ℕ) {l : List ℕ} → PartLine l → line_told st k l ≡ not_told st k
unended_told st k {l} u = formless_told st k l (λ f s. not_both (form_ended f) (subst PartLine (sym (unended_line u) ∙ s.0) u))

no_lines : (st : Stage) (k n : ℕ) → lines_told st k (take n []) ≡ end_text st
unfolding lines_told
no_lines st k zero = refl
no_lines st k (suc n) = refl

-- the last line without byte 10
pub rest_cut : (st : Stage) (k : ℕ) {l : List ℕ} → PartLine l → 0 < length l → k < line_limit
    → rest_of st k l [] ≡ (not_told st (k + 1)).text ++ end_text (not_told st (k + 1)).stage
unfolding rest_of lines_told split
rest_cut st k empty filled h = absurd (let z : ⊥ = omega arith in z)
rest_cut st k (another ne u) filled h =
    let n : line_limit - k ≡ suc (line_limit - (k + 1)) = omega arith in
    let x = not_told st (k + 1) in
    rw (n, unended_told st (k + 1) (another ne u)) (ap (λ (l : List ℕ). x.text ++ l) (no_lines x.stage (k + 1 + 1) (line_limit - (k + 1))))

-- the last line has ended
pub rest_done : (st : Stage) (k : ℕ) → rest_of st k [] [] ≡ end_text st
unfolding rest_of split
rest_done st k = no_lines st (k + 1) (line_limit - k)

-- two held lines that are too long already are interchangeable
module _ (st : Stage) (k : ℕ) (s : List ℕ) (h : k < line_limit) where
  long_line : has_line s ≡ true → (c : List ℕ) → PartLine c → line_bytes < length c
      → rest_of st k c s ≡ (not_told st (k + 1)).text ++ rest_of (not_told st (k + 1)).stage (k + 1) [] (drop (length (line s)) s)
  long_line e c uc lc =
      let ew : OneLine (c ++ line s) = ended_append uc (line_ended s e) in
      let told = long_told st (k + 1) (c ++ line s) (ended_itself ew) (omega (arith, length-append c (line s))) in
      ap (rest_of st k c) (line_rest s)
      ∙ (rest_line st k (line_ended s e) c (drop (length (line s)) s) h
      ∙ ap (λ (t : Told). t.text ++ rest_of t.stage (k + 1) [] (drop (length (line s)) s)) told)

  long_cut : has_line s ≡ false → (c : List ℕ) → PartLine c → line_bytes < length c
      → rest_of st k c s ≡ (not_told st (k + 1)).text ++ end_text (not_told st (k + 1)).stage
  long_cut e c uc lc =
      let u = no_line s e in
      ap (rest_of st k c) (sym (append-nil s))
      ∙ (rest_more st k u c [] ∙ rest_cut st k (unended_append uc u) (omega (arith, length-append c s)) h)

pub rest_long : (st : Stage) (k : ℕ) {a b : List ℕ} → PartLine a → PartLine b → line_bytes < length a → line_bytes < length b
    → (s : List ℕ) → rest_of st k a s ≡ rest_of st k b s
rest_long st k {a} {b} ua ub la lb s = by_limit (dec_lt k line_limit)
  where
    by_end : (t : Bool) → has_line s ≡ t → k < line_limit → rest_of st k a s ≡ rest_of st k b s
    by_end true e h = long_line st k s h e a ua la ∙ sym (long_line st k s h e b ub lb)
    by_end false e h = long_cut st k s h e a ua la ∙ sym (long_cut st k s h e b ub lb)

    by_limit : Dec (k < line_limit) → rest_of st k a s ≡ rest_of st k b s
    by_limit (yes h) = by_end (has_line s) refl h
    by_limit (no h) = rest_full st k (omega arith) a s ∙ sym (rest_full st k (omega arith) b s)
