-- Where the first byte 10 of a text stands, and the line that ends there. Assumes nothing.
use Prim.Native.Nat.{◌+◌, ◌-◌, ◌<◌, ◌≤◌, suc, ℕ}
use borrow.Author.Tests.{le-ltb, lt-ltb}
use lib.Dec.{eqb, ltb}
use lib.ListN.{drop, drop_of_length-le, length, length-append, length-drop}
use lib.Seq.{take_all}
use mathlib.Core.Bool.{Bool, cond, false, not, true}
use mathlib.Core.List.{List, [], ◌∷◌}
use mathlib.Core.Path.{◌∙◌, ◌≡◌, ap, refl, sym}
use native.Mathlib.Decide.{dec_lt}
use native.Mathlib.Omega.{arith}
use Rattle.std.specs.Prelude.{Some, None}
use Rattle.std.specs.List.{position, position_or_len, slice_range}
use Rattle.forms.proofs.Lines.{line_rest}
use Rattle.forms.specs.Form.{line}
use Rattle.laws.proofs.Tests.{false_true}
use Rattle.log_rules.proofs.Ends.{ended_long, line_ended}
use Rattle.log_rules.specs.Pieces.{OneLine, has_line}
use Rattle.log_lines.specs.Lines.{end_at}

abbrev pub ten : ℕ → Bool
ten = λ b. eqb b 10

-- the place of the first byte 10, or the length where there is none
abbrev place : List ℕ → ℕ
place s = position_or_len ten s

later : (m n : ℕ) → ltb (1 + m) (suc n) ≡ ltb m n
later m n = go (dec_lt m n)
  where
    go : Dec (m < n) → ltb (1 + m) (suc n) ≡ ltb m n
    go (yes h) = lt-ltb (1 + m) (suc n) (omega arith) ∙ sym (lt-ltb m n h)
    go (no h) = le-ltb (1 + m) (suc n) (omega arith) ∙ sym (le-ltb m n (omega arith))

place_within : (s : List ℕ) → ltb (place s) (length s) ≡ has_line s
unfolding has_line
place_within [] = refl
place_within (b ∷ s) = go (place_within s) (eqb b 10)
  where
    go : ltb (place s) (length s) ≡ has_line s → (t : Bool) → ltb (cond (not t) (1 + place s) 0) (suc (length s)) ≡ cond t true (has_line s)
    go ih true = lt-ltb 0 (suc (length s)) (omega arith)
    go ih false = later (place s) (length s) ∙ ih

place_length : (s : List ℕ) → has_line s ≡ true → length (line s) ≡ place s + 1
unfolding has_line line
place_length [] h = absurd (false_true h)
place_length (b ∷ s) h = go (place_length s) (eqb b 10) h
  where
    go : (has_line s ≡ true → length (line s) ≡ place s + 1) → (t : Bool) → cond t true (has_line s) ≡ true
        → suc (length (cond t [] (line s))) ≡ cond (not t) (1 + place s) 0 + 1
    go ih true e = refl
    go ih false e = omega (arith, ih e)

-- a text without byte 10, and one with it
pub none_found : (s : List ℕ) → position ten s ≡ None → has_line s ≡ false
none_found s h = go (has_line s) refl
  where
    go : (t : Bool) → has_line s ≡ t → t ≡ false
    go false e = refl
    go true e = absurd (let q : position ten s ≡ Some (place s) = ap (λ (b : Bool). cond b (Some (place s)) None) (place_within s ∙ e) in cc)

pub found : (s : List ℕ) (i : ℕ) → position ten s ≡ Some i → (has_line s ≡ true) × (length (line s) ≡ i + 1)
found s i h = go (has_line s) refl
  where
    go : (t : Bool) → has_line s ≡ t → (has_line s ≡ true) × (length (line s) ≡ i + 1)
    go false e = absurd (let q : position ten s ≡ None = ap (λ (b : Bool). cond b (Some (place s)) None) (place_within s ∙ e) in cc)
    go true e =
        let q : position ten s ≡ Some (place s) = ap (λ (b : Bool). cond b (Some (place s)) None) (place_within s ∙ e) in
        let p : place s ≡ i = cc in
        (e, place_length s e ∙ ap (λ (n : ℕ). n + 1) p)

-- the same of the line of a piece that begins at `from`
pub end_none : (p : List ℕ) (from : ℕ) → has_line (drop from p) ≡ false → None ≡ end_at p from
unfolding end_at
end_none p from h = rw h

pub end_some : (p : List ℕ) (from i : ℕ) → (has_line (drop from p) ≡ true) × (length (line (drop from p)) ≡ i + 1) → Some (from + i + 1) ≡ end_at p from
unfolding end_at
end_some p from i h = let q : from + i + 1 ≡ from + length (line (drop from p)) = omega (arith, h.1) in rw h.0 (ap (λ (n : ℕ). Some n) q)

-- what is left of a piece
pub left : (p : List ℕ) (from : ℕ) → slice_range p from (length p) ≡ drop from p
left p from = take_all (length p - from) (drop from p) (omega (arith, length-drop from p))

-- past the end of the piece no line begins
pub none_left : (p : List ℕ) (from : ℕ) → length p ≤ from → has_line (drop from p) ≡ false
unfolding has_line
none_left p from h = rw (drop_of_length-le p h)

-- what a search has found
pub found_none : (p : List ℕ) (from : ℕ) → end_at p from ≡ None → has_line (drop from p) ≡ false
unfolding end_at
found_none p from e = go (has_line (drop from p)) refl
  where
    go : (t : Bool) → has_line (drop from p) ≡ t → t ≡ false
    go false h = refl
    go true h = absurd (let q : end_at p from ≡ Some (from + length (line (drop from p))) = rw h in cc)

pub record Found (p : List ℕ) (from e : ℕ) : Type 0 where
  pub line_ends : OneLine (line (drop from p))
  pub past : e ≡ from + length (line (drop from p))
  pub inside : e ≤ length p
  pub onward : from < e

pub found_line : (p : List ℕ) (from e : ℕ) → end_at p from ≡ Some e → Found p from e
unfolding end_at
found_line p from e is = go (has_line (drop from p)) refl
  where
    go : (t : Bool) → has_line (drop from p) ≡ t → Found p from e
    go false h = absurd (let q : end_at p from ≡ None = rw h in cc)
    go true h =
        let en = line_ended (drop from p) h in
        let q : end_at p from ≡ Some (from + length (line (drop from p))) = rw h in
        let r : e ≡ from + length (line (drop from p)) = cc in
        let l : length (line (drop from p)) ≤ length (drop from p) =
        omega (arith, ap length (line_rest (drop from p)), length-append (line (drop from p)) (drop (length (line (drop from p))) (drop from p))) in
        record {
          line_ends = en;
          past = r;
          inside = omega (arith, length-drop from p, ended_long en);
          onward = omega (arith, ended_long en);
        }
