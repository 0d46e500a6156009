-- The list of nodes: the steps of its reader, and that it finds exactly the list that stands there. Assumes nothing.
use Rattle.std.specs.Prelude.{Some, None}
use mathlib.Core.Path.{◌≡◌, refl, sym, ap, ◌∙◌}
use mathlib.Core.Bool.{Bool, cond, false, true}
use mathlib.Core.List.{List, [], ◌∷◌, ◌++◌, append_assoc}
use Prim.Native.Nat.{ℕ, zero, suc, ◌+◌, ◌-◌, ◌≤◌, ◌<◌, max}
use native.Mathlib.Omega.{arith}
use lib.ListN.{length, get_or, drop, length-drop, length-append}
use lib.Dec.{ltb, eqb}
use borrow.Author.Tests.{eq-eqb, ne_eqb, lt-ltb, le-ltb, ltb-false}
use Rattle.decimal.specs.Bytes.{bytes}
use Rattle.decimal.specs.Text.{decimal}
use Rattle.decimal.specs.Number.{digit_b}
use Rattle.decimal.proofs.Cases.{take_head, first_of}
use Rattle.forms.specs.Form.{spaced_numbers, Small, Ascending}
use Rattle.forms.specs.Read.{spaced_of, Read, read}
use Rattle.forms.proofs.Arguments.{spaced_sound, spaced_found}
use Rattle.first_line.specs.declared.Marks.{Marks}
use Rattle.first_line.specs.Start.{flagged}
use Rattle.first_line.specs.Read.{cons_of, entry_of, entries_of, entries_at, marks_of}

-- 1. the steps of `entries_of`
module _ (s : List ℕ) (low at fuel : ℕ) (some : 0 < fuel) where
  no_space : (get_or s at 0 ≡ 32 → ⊥) → entries_of fuel s low at ≡ read [] at
  unfolding entries_of
  no_space b =
      let z : fuel ≡ suc (fuel - 1) = omega arith in
      rw (z, ne_eqb (get_or s at 0) 32 b)

  space : get_or s at 0 ≡ 32 → entries_of fuel s low at ≡ entry_of (entries_of (fuel - 1) s) low (spaced_of s at)
  unfolding entries_of
  space b =
      let z : fuel ≡ suc (fuel - 1) = omega arith in
      let e : entries_of fuel s low at ≡ entries_of (suc (fuel - 1)) s low at = ap (λ (f : ℕ). entries_of f s low at) z in
      rw (eq-eqb (get_or s at 0) 32 b) at e

  wrong_entry : get_or s at 0 ≡ 32 → spaced_of s at ≡ None → entries_of fuel s low at ≡ None
  unfolding entry_of
  wrong_entry b m = rw m at (space b)

  low_entry : get_or s at 0 ≡ 32 → (k p : ℕ) → spaced_of s at ≡ read k p → k < low → entries_of fuel s low at ≡ None
  unfolding entry_of
  low_entry b k p m h = rw (m, lt-ltb k low h) at (space b)

  one_entry : get_or s at 0 ≡ 32 → (k p : ℕ) → spaced_of s at ≡ read k p → low ≤ k
      → entries_of fuel s low at ≡ cons_of k (entries_of (fuel - 1) s (k + 1) p)
  unfolding entry_of
  one_entry b k p m h = rw (m, le-ltb k low h) at (space b)

-- 2. the code's loop: what is left of the list gives the whole answer
pub record Left (s : List ℕ) (bit : ℕ) (flags : List ℕ) (top low at : ℕ) (whole : Read Marks) : Type 0 where
  pub fuel : ℕ
  pub some : 0 < fuel
  pub enough : length s < at + fuel
  pub same : marks_of bit (record { flags = flags; top = top }) (entries_of fuel s low at) ≡ whole

pub left_all : (s : List ℕ) (bit : ℕ) (m : Marks) (at : ℕ) → Left s bit m.flags m.top 0 at (marks_of bit m (entries_at s at))
left_all s bit m at = record { fuel = length s + 1; some = omega arith; enough = omega arith; same = refl }

marks_cons : (bit : ℕ) (flags : List ℕ) (top k : ℕ) (r : Read (List ℕ))
    → marks_of bit (record { flags = flagged bit k flags; top = max top (k + 1) }) r ≡ marks_of bit (record { flags = flags; top = top }) (cons_of k r)
marks_cons bit flags top k (Some (ks, e)) = refl
marks_cons bit flags top k None = refl

module _ {s : List ℕ} {bit : ℕ} {flags : List ℕ} {top low at : ℕ} {whole : Read Marks} (l : Left s bit flags top low at whole) where
  pub left_end : (get_or s at 0 ≡ 32 → ⊥) → read (record { flags = flags; top = top }) at ≡ whole
  left_end b = ap (marks_of bit (record { flags = flags; top = top })) (sym (no_space s low at l.fuel l.some b)) ∙ l.same

  module _ (b : get_or s at 0 ≡ 32) where
    pub left_wrong : spaced_of s at ≡ None → None ≡ whole
    left_wrong m = ap (marks_of bit (record { flags = flags; top = top })) (sym (wrong_entry s low at l.fuel l.some b m)) ∙ l.same

    pub left_low : {k p : ℕ} → spaced_of s at ≡ read k p → k < low → None ≡ whole
    left_low {k} {p} m h = ap (marks_of bit (record { flags = flags; top = top })) (sym (low_entry s low at l.fuel l.some b k p m h)) ∙ l.same

    pub left_more : {k p : ℕ} → at < length s → spaced_of s at ≡ read k p → low ≤ k
        → Left s bit (flagged bit k flags) (max top (k + 1)) (k + 1) p whole
    left_more {k} {p} n m h =
        let r = spaced_sound s at k p m in
        record {
          fuel = l.fuel - 1;
          some = omega (arith, l.enough);
          enough = omega (arith, l.enough, r.2);
          same =
              marks_cons bit flags top k (entries_of (l.fuel - 1) s (k + 1) p)
              ∙ (ap (marks_of bit (record { flags = flags; top = top })) (sym (one_entry s low at l.fuel l.some b k p m h)) ∙ l.same);
        }

-- 3. what is read stands there
abbrev pub Listed : List ℕ → ℕ → ℕ → Read (List ℕ) → Type 0
Listed s low at (Some (ks, e)) = Ascending low ks × (drop at s ≡ spaced_numbers ks ++ drop e s)
Listed s low at None = Unit {0}

cons_listed : (s : List ℕ) (low at k p : ℕ) → low ≤ k → Small k → drop at s ≡ bytes " " ++ (decimal k ++ drop p s)
    → (r : Read (List ℕ)) → Listed s (k + 1) p r → Listed s low at (cons_of k r)
cons_listed s low at k p lo small t None h = tt
cons_listed s low at k p lo small t (Some (ks, e)) h = (
  (lo, small, h.0),
  t
      ∙ ap (λ (l : List ℕ). 32 ∷ l)
      (ap (λ (l : List ℕ). decimal k ++ l) h.1 ∙ sym (append_assoc (decimal k) (spaced_numbers ks) (drop e s))),
)

low_by : (s : List ℕ) (low at k p : ℕ) → Small k → drop at s ≡ bytes " " ++ (decimal k ++ drop p s)
    → (r : Read (List ℕ)) → Listed s (k + 1) p r → (t : Bool) → ltb k low ≡ t → Listed s low at (cond t None (cons_of k r))
low_by s low at k p small e r h true q = tt
low_by s low at k p small e r h false q = cons_listed s low at k p (ltb-false k low q) small e r h

entry_by : (s : List ℕ) (low at : ℕ) (others : ℕ → ℕ → Read (List ℕ)) → ((l i : ℕ) → Listed s l i (others l i))
    → (m : Read ℕ) → spaced_of s at ≡ m → Listed s low at (entry_of others low m)
unfolding entry_of
entry_by s low at others ih None e = tt
entry_by s low at others ih (Some (k, p)) e =
    let r = spaced_sound s at k p e in
    low_by s low at k p r.1 r.0 (others (k + 1) p) (ih (k + 1) p) (ltb k low) refl

space_by : (s : List ℕ) (low at : ℕ) (r : Read (List ℕ)) (t : Bool) → Listed s low at r → Listed s low at (cond t r (read [] at))
space_by s low at r true h = h
space_by s low at r false h = (tt, refl)

entries_listed : (fuel : ℕ) (s : List ℕ) (low at : ℕ) → Listed s low at (entries_of fuel s low at)
unfolding entries_of
entries_listed zero s low at = tt
entries_listed (suc fuel) s low at =
    space_by s low at (entry_of (entries_of fuel s) low (spaced_of s at)) (eqb (get_or s at 0) 32)
    (entry_by s low at (entries_of fuel s) (entries_listed fuel s) (spaced_of s at) refl)

pub list_sound : (s : List ℕ) (at : ℕ) → Listed s 0 at (entries_at s at)
list_sound s at = entries_listed (length s + 1) s 0 at

-- 4. what stands there is read
pub no_digit : (ks u : List ℕ) → digit_b (get_or u 0 0) ≡ false → digit_b (get_or (spaced_numbers ks ++ u) 0 0) ≡ false
no_digit [] u h = h
no_digit (k ∷ ks) u h = refl

entries_found : (s u : List ℕ) → (get_or u 0 0 ≡ 32 → ⊥) → digit_b (get_or u 0 0) ≡ false
    → (ks : List ℕ) (low at fuel : ℕ) → length ks < fuel → Ascending low ks → drop at s ≡ spaced_numbers ks ++ u
    → (e : ℕ) × (entries_of fuel s low at ≡ read ks e) × (drop e s ≡ u)
entries_found s u b d [] low at fuel n a h =
    (at, no_space s low at fuel (omega arith) (λ e. b (sym (first_of s u at h) ∙ e)), h)
entries_found s u b d (k ∷ ks) low at fuel n a h =
    let z : 0 < fuel = omega arith in
    let few : length ks < fuel - 1 = omega arith in
    let t : drop at s ≡ bytes " " ++ (decimal k ++ (spaced_numbers ks ++ u)) = h ∙ ap (λ (l : List ℕ). 32 ∷ l) (append_assoc (decimal k) (spaced_numbers ks) u) in
    let f = spaced_found s at k (spaced_numbers ks ++ u) a.1 t (no_digit ks u d) in
    let p = at + 1 + length (decimal k) in
    let ih = entries_found s u b d ks (k + 1) p (fuel - 1) few a.2 f.1 in
    let x = (take_head s at 32 (decimal k ++ (spaced_numbers ks ++ u)) t).0 in
    (ih.0, one_entry s low at fuel z x k p f.0 a.0 ∙ ap (cons_of k) ih.1, ih.2)

numbers_long : (ks : List ℕ) → length ks ≤ length (spaced_numbers ks)
numbers_long [] = omega arith
numbers_long (k ∷ ks) = simp length-append (omega (arith, numbers_long ks))

pub list_found : (s : List ℕ) (at : ℕ) (ks u : List ℕ) → (get_or u 0 0 ≡ 32 → ⊥) → digit_b (get_or u 0 0) ≡ false → Ascending 0 ks
    → drop at s ≡ spaced_numbers ks ++ u → (e : ℕ) × (entries_at s at ≡ read ks e) × (drop e s ≡ u)
list_found s at ks u b d a h =
    let few : length ks < length s + 1 =
    omega (arith, numbers_long ks, ap length h, length-drop at s, length-append (spaced_numbers ks) u) in
    entries_found s u b d ks 0 at (length s + 1) few a h
