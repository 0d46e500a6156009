-- The recogniser of first lines is exact: it opens a line exactly if the line says a first line. Assumes nothing.
use Rattle.std.specs.Prelude.{Some, None}
use mathlib.Core.Path.{◌≡◌, refl, sym, ap, ◌∙◌, subst}
use mathlib.Core.Bool.{Bool, cond, false, true}
use mathlib.Core.Logic.{◌⊎◌, inl, inr, ◌↔◌}
use mathlib.Core.List.{List, ◌++◌, append_assoc}
use Prim.Native.Nat.{ℕ, ◌+◌, ◌≤◌, ◌<◌}
use native.Mathlib.Omega.{arith}
use lib.ListN.{length, get_or, drop}
use Rattle.decimal.specs.Bytes.{bytes}
use Rattle.decimal.specs.Text.{decimal}
use Rattle.decimal.specs.Word.{starts}
use Rattle.decimal.specs.Number.{digit_b}
use Rattle.decimal.proofs.Cases.{advance}
use Rattle.decimal.proofs.Words.{word_sound, word_back, word_in}
use Rattle.forms.specs.Form.{spaced_numbers, written, Small, Ascending, SmallForm, Says, line, SaysAt}
use Rattle.forms.specs.Read.{spaced_of, Read, read, lined}
use Rattle.forms.proofs.Arguments.{spaced_sound, spaced_found, place}
use Rattle.forms.proofs.Lines.{written_some}
use Rattle.forms.proofs.Reading.{Stood, Reader, line_exact, line_other}
use Rattle.first_line.specs.declared.First.{First}
use Rattle.first_line.specs.Start.{Start, bare, lists, tree, start_form, seen, seen_of}
use Rattle.first_line.specs.Read.{entries_at, black_read, active_read, lists_at, ring_after, root_after, tree_after, start_at, first_at}
use Rattle.first_line.specs.Exact.{Opened}
use Rattle.first_line.proofs.Seen.{line_seen}
use Rattle.first_line.proofs.Nodes.{Listed, list_sound, list_found}

-- a first line up to a place, and what follows
abbrev ring_to : ℕ → List ℕ → List ℕ
ring_to n u = bytes "(ring " ++ (decimal n ++ u)

abbrev active_to : ℕ → List ℕ → List ℕ → List ℕ
active_to n a u = ring_to n (bytes " (active" ++ (spaced_numbers a ++ u))

abbrev black_to : ℕ → List ℕ → List ℕ → List ℕ → List ℕ
black_to n a b u = active_to n a (bytes ") (black" ++ (spaced_numbers b ++ u))

abbrev tree_to : ℕ → List ℕ → List ℕ
tree_to n u = bytes "(tree " ++ (decimal n ++ u)

abbrev root_to : ℕ → ℕ → List ℕ → List ℕ
root_to n root u = tree_to n (bytes " (root " ++ (decimal root ++ u))

bare_text : (n : ℕ) (u : List ℕ) → written (start_form (bare n)) ++ u ≡ ring_to n (bytes ")" ++ u)
bare_text n u = simp append_assoc

lists_text : (n : ℕ) (a b u : List ℕ) → written (start_form (lists n a b)) ++ u ≡ black_to n a b (bytes "))" ++ u)
lists_text n a b u = simp append_assoc

tree_text : (n root : ℕ) (u : List ℕ) → written (start_form (tree n root)) ++ u ≡ root_to n root (bytes "))" ++ u)
tree_text n root u = simp append_assoc

-- 1. what is read stands there
module _ (s : List ℕ) (at : ℕ) where
  abbrev Sound : Read Start → Type 0
  Sound (Some (f, e)) = (drop at s ≡ written (start_form f) ++ drop e s) × (e ≤ length s) × SmallForm (start_form f)
  Sound None = Unit {0}

  pick_sound : (t : Bool) (a b : Read Start) → (t ≡ true → Sound a) → Sound b → Sound (cond t a b)
  pick_sound true a b f g = f refl
  pick_sound false a b f g = g

  -- the last word of a line
  last_sound : (w : List ℕ) (q : ℕ) (f : Start) → 0 < length w → SmallForm (start_form f)
      → (drop q s ≡ w ++ drop (q + length w) s → drop at s ≡ written (start_form f) ++ drop (q + length w) s)
      → (b : Read Start) → Sound b → Sound (cond (starts w (drop q s)) (read f (q + length w)) b)
  last_sound w q f n small text b g =
      pick_sound (starts w (drop q s)) _ b (λ h. (text (word_sound s q w h), word_in s q w n h, small)) g

  black_sound : (n : ℕ) (a : List ℕ) (x : ℕ) → Small n → Ascending 0 a → drop at s ≡ active_to n a (bytes ") (black" ++ drop x s)
      → (r : Read (List ℕ)) → Listed s 0 x r → Sound (black_read s n a r)
  unfolding black_read
  black_sound n a x small asc e None h = tt
  black_sound n a x small asc e (Some (b, q)) h =
      last_sound (bytes "))") q (lists n a b) (omega arith) (small, asc, h.0)
      (λ w. e
      ∙ (ap (λ (u : List ℕ). active_to n a (bytes ") (black" ++ u)) h.1
      ∙ (ap (black_to n a b) w ∙ sym (lists_text n a b (drop (q + 2) s)))))
      None tt

  active_sound : (n x : ℕ) → Small n → drop at s ≡ ring_to n (bytes " (active" ++ drop x s)
      → (r : Read (List ℕ)) → Listed s 0 x r → Sound (active_read s n r)
  unfolding active_read
  active_sound n x small e None h = tt
  active_sound n x small e (Some (a, q)) h =
      pick_sound (starts (bytes ") (black") (drop q s)) _ None
      (λ w. black_sound n a (q + 8) small h.0
      (e ∙ (ap (λ (u : List ℕ). ring_to n (bytes " (active" ++ u)) h.1 ∙ ap (active_to n a) (word_sound s q (bytes ") (black") w)))
      (entries_at s (q + 8)) (list_sound s (q + 8)))
      tt

  lists_sound : (n p : ℕ) → Small n → drop at s ≡ ring_to n (drop p s) → Sound (lists_at s n p)
  unfolding lists_at
  lists_sound n p small e =
      pick_sound (starts (bytes " (active") (drop p s)) _ None
      (λ w. active_sound n (p + 8) small (e ∙ ap (ring_to n) (word_sound s p (bytes " (active") w)) (entries_at s (p + 8)) (list_sound s (p + 8)))
      tt

  ring_sound : (x : ℕ) → drop at s ≡ bytes "(ring" ++ drop x s → (m : Read ℕ) → spaced_of s x ≡ m → Sound (ring_after s m)
  unfolding ring_after
  ring_sound x e None h = tt
  ring_sound x e (Some (n, p)) h =
      let r = spaced_sound s x n p h in
      let t : drop at s ≡ ring_to n (drop p s) = e ∙ ap (λ (u : List ℕ). bytes "(ring" ++ u) r.0 in
      last_sound (bytes ")") p (bare n) (omega arith) r.1
      (λ w. t ∙ (ap (ring_to n) w ∙ sym (bare_text n (drop (p + 1) s))))
      (lists_at s n p) (lists_sound n p r.1 t)

  root_sound : (n x : ℕ) → Small n → drop at s ≡ tree_to n (bytes " (root" ++ drop x s) → (m : Read ℕ) → spaced_of s x ≡ m → Sound (root_after s n m)
  unfolding root_after
  root_sound n x small e None h = tt
  root_sound n x small e (Some (root, q)) h =
      let r = spaced_sound s x root q h in
      last_sound (bytes "))") q (tree n root) (omega arith) (small, r.1)
      (λ w. e
      ∙ (ap (λ (u : List ℕ). tree_to n (bytes " (root" ++ u)) r.0
      ∙ (ap (root_to n root) w ∙ sym (tree_text n root (drop (q + 2) s)))))
      None tt

  tree_sound : (x : ℕ) → drop at s ≡ bytes "(tree" ++ drop x s → (m : Read ℕ) → spaced_of s x ≡ m → Sound (tree_after s m)
  unfolding tree_after
  tree_sound x e None h = tt
  tree_sound x e (Some (n, p)) h =
      let r = spaced_sound s x n p h in
      let t : drop at s ≡ tree_to n (drop p s) = e ∙ ap (λ (u : List ℕ). bytes "(tree" ++ u) r.0 in
      pick_sound (starts (bytes " (root") (drop p s)) _ None
      (λ w. root_sound n (p + 6) r.1 (t ∙ ap (tree_to n) (word_sound s p (bytes " (root") w)) (spaced_of s (p + 6)) refl)
      tt

  start_sound : Sound (start_at s at)
  unfolding start_at
  start_sound =
      pick_sound (starts (bytes "(ring") (drop at s)) _ _
      (λ w. ring_sound (at + 5) (word_sound s at (bytes "(ring") w) (spaced_of s (at + 5)) refl)
      (pick_sound (starts (bytes "(tree") (drop at s)) _ None
      (λ w. tree_sound (at + 5) (word_sound s at (bytes "(tree") w) (spaced_of s (at + 5)) refl)
      tt)

  -- 2. what stands there is read
  ring_found : (n : ℕ) (u : List ℕ) → Small n → digit_b (get_or u 0 0) ≡ false → drop at s ≡ ring_to n u
      → (p : ℕ) × (start_at s at ≡ ring_after s (read n p)) × (drop p s ≡ u)
  unfolding start_at
  ring_found n u small d e =
      let x : drop (at + 5) s ≡ bytes " " ++ (decimal n ++ u) = advance s (bytes "(ring") (bytes " " ++ (decimal n ++ u)) at e in
      let f = spaced_found s (at + 5) n u small x d in
      let p = at + 5 + 1 + length (decimal n) in
      (p, rw (word_back s at (bytes "(ring") (bytes " " ++ (decimal n ++ u)) e, f.0), f.1)

  bare_found : (n : ℕ) (u : List ℕ) → Small n → drop at s ≡ ring_to n (bytes ")" ++ u) → (e : ℕ) × (start_at s at ≡ read (bare n) e)
  unfolding ring_after
  bare_found n u small h =
      let r = ring_found n (bytes ")" ++ u) small refl h in
      (r.0 + 1, r.1 ∙ rw (word_back s r.0 (bytes ")") u r.2))

  lists_found : (n : ℕ) (a b u : List ℕ) → Small n → Ascending 0 a → Ascending 0 b → drop at s ≡ black_to n a b (bytes "))" ++ u)
      → (e : ℕ) × (start_at s at ≡ read (lists n a b) e)
  unfolding ring_after lists_at active_read black_read starts
  lists_found n a b u small ha hb h =
      let E = bytes "))" ++ u in
      let B = spaced_numbers b ++ E in
      let A = spaced_numbers a ++ (bytes ") (black" ++ B) in
      let r = ring_found n (bytes " (active" ++ A) small refl h in
      let p = r.0 in
      let off : starts (bytes ")") (drop p s) ≡ false = ap (starts (bytes ")")) r.2 in
      let wa : starts (bytes " (active") (drop p s) ≡ true = word_back s p (bytes " (active") A r.2 in
      let ra = list_found s (p + 8) a (bytes ") (black" ++ B) (λ z. omega arith) refl ha (advance s (bytes " (active") A p r.2) in
      let wb : starts (bytes ") (black") (drop ra.0 s) ≡ true = word_back s ra.0 (bytes ") (black") B ra.2 in
      let rb = list_found s (ra.0 + 8) b E (λ z. omega arith) refl hb (advance s (bytes ") (black") B ra.0 ra.2) in
      let we : starts (bytes "))") (drop rb.0 s) ≡ true = word_back s rb.0 (bytes "))") u rb.2 in
      (rb.0 + 2, r.1 ∙ rw (off, wa, ra.1, wb, rb.1, we))

  tree_found : (n root : ℕ) (u : List ℕ) → Small n → Small root → drop at s ≡ root_to n root (bytes "))" ++ u)
      → (e : ℕ) × (start_at s at ≡ read (tree n root) e)
  unfolding start_at tree_after root_after starts
  tree_found n root u small hr h =
      let R = decimal root ++ (bytes "))" ++ u) in
      let N = decimal n ++ (bytes " (root" ++ (bytes " " ++ R)) in
      let off : starts (bytes "(ring") (drop at s) ≡ false = ap (starts (bytes "(ring")) h in
      let on : starts (bytes "(tree") (drop at s) ≡ true = word_back s at (bytes "(tree") (bytes " " ++ N) h in
      let f = spaced_found s (at + 5) n (bytes " (root" ++ (bytes " " ++ R)) small (advance s (bytes "(tree") (bytes " " ++ N) at h) refl in
      let p = at + 5 + 1 + length (decimal n) in
      let wr : starts (bytes " (root") (drop p s) ≡ true = word_back s p (bytes " (root") (bytes " " ++ R) f.1 in
      let g = spaced_found s (p + 6) root (bytes "))" ++ u) hr (advance s (bytes " (root") (bytes " " ++ R) p f.1) refl in
      let q = p + 6 + 1 + length (decimal root) in
      let we : starts (bytes "))") (drop q s) ≡ true = word_back s q (bytes "))") u g.1 in
      (q + 2, rw (off, on, f.0, wr, g.0, we))

  start_by : (f : Start) (u : List ℕ) → SmallForm (start_form f) → drop at s ≡ written (start_form f) ++ u → (e : ℕ) × (start_at s at ≡ read f e)
  start_by (bare n) u h t = bare_found n u h (t ∙ bare_text n u)
  start_by (lists n a b) u h t = lists_found n a b u h.0 h.1 h.2 (t ∙ lists_text n a b u)
  start_by (tree n root) u h t = tree_found n root u h.0 h.1 (t ∙ tree_text n root u)

  -- where it ends
  start_found : (f : Start) (u : List ℕ) → SmallForm (start_form f) → drop at s ≡ written (start_form f) ++ u
      → start_at s at ≡ read f (at + length (written (start_form f)))
  start_found f u h t =
      let x = start_by f u h t in
      let r : Sound (read f x.0) = subst Sound x.1 start_sound in
      let e : x.0 ≡ at + length (written (start_form f)) = place s (written (start_form f)) at x.0 r.0 r.1 (written_some (start_form f)) in
      x.1 ∙ ap (read f) e

  start_stood : (f : Start) (e : ℕ) → start_at s at ≡ read f e → Stood start_form s at f e
  start_stood f e h =
      let r : Sound (read f e) = subst Sound h start_sound in
      record { text = r.0; inside = r.1; small = r.2 }

-- 3. exact both ways
pub start_reader : Reader start_form start_at
start_reader = record { stood = start_stood; found = start_found }

module _ (s : List ℕ) (at : ℕ) where
  pub first_exact : (f : Start) (e : ℕ) → (first_at s at ≡ read f e) ↔ SaysAt s at (start_form f) e
  unfolding first_at
  first_exact f e = line_exact start_form start_reader s at f e

  -- 4. the answer
  sound_by : (r : Read Start) → first_at s at ≡ r
      → (seen_of r ≡ None) ⊎ ((f : Start) × (e : ℕ) × SaysAt s at (start_form f) e × (seen_of r ≡ read (seen f) e))
  sound_by None h = inl refl
  sound_by (Some (f, e)) h = inr (f, e, (first_exact f e).0 h, refl)

  opened : Opened s at (seen_of (first_at s at))
  opened = record { whole = λ f e says. ap seen_of ((first_exact f e).1 says); sound = sound_by (first_at s at) refl }

  -- the contract of `read_first`, from the form that stands in the line
  pub first_line_is_told : (r : Read First) → r ≡ lined s at (seen_of (start_at s at)) → (r ≡ seen_of (first_at s at)) × Opened s at r
  unfolding first_at
  first_line_is_told r h =
      let is : r ≡ seen_of (first_at s at) = h ∙ sym (line_seen s at (start_at s at)) in
      (is, subst (Opened s at) (sym is) opened)

  -- none is the answer exactly if the line says no first line
  pub first_other : (first_at s at ≡ None) ↔ ((f : Start) → Says (line (drop at s)) (start_form f) → ⊥)
  unfolding first_at
  first_other = line_other start_form start_reader s at
