-- The reader of wrapped forms reads exactly the wrapped forms that stand there. Assumes nothing.
use Rattle.std.specs.Prelude.{Some, None}
use mathlib.Core.Path.{◌≡◌, refl, sym, ap, ◌∙◌, subst}
use mathlib.Core.Bool.{Bool, cond, false, true}
use mathlib.Core.List.{List, ◌∷◌, ◌++◌, append_assoc}
use Prim.Native.Nat.{ℕ, ◌+◌, ◌≤◌}
use native.Mathlib.Omega.{arith}
use lib.ListN.{length, drop, length-append}
use Rattle.decimal.specs.Bytes.{bytes}
use Rattle.decimal.specs.Text.{decimal}
use Rattle.decimal.specs.Word.{starts}
use Rattle.decimal.proofs.Cases.{advance, same_read}
use Rattle.decimal.proofs.Numbers.{no_number}
use Rattle.decimal.proofs.Words.{word_sound, word_back, word_in}
use Rattle.forms.specs.declared.RingStep.{RingStep}
use Rattle.forms.specs.Form.{written, Small, SmallForm}
use Rattle.forms.specs.Read.{spaced_of, Read, read, read_by, ring_shapes}
use Rattle.forms.proofs.Arguments.{spaced_sound, spaced_found}
use Rattle.forms.proofs.Reading.{no_read, Stood, Reader}
use Rattle.forms.proofs.Shapes.{read_none}
use Rattle.forms.proofs.Steps.{ring_reader}
use Rattle.first_line.specs.Start.{Start}
use Rattle.first_line.specs.Start as start
use Rattle.first_line.specs.Read.{start_at}
use Rattle.first_line.proofs.Opens.{start_reader}
use Rattle.update_forms.specs.Wrapped.{Wrapped, step, bare, lists, update_of, inner_form, wrapped_form}
use Rattle.update_forms.specs.Read.{space_after, opened_of, inner_of, closed_read, inside_at, update_at}

-- 1. the number of an update
-- an update's form up to the form inside
abbrev update_to : ℕ → List ℕ → List ℕ
update_to u l = bytes "(update " ++ (decimal u ++ (bytes " " ++ l))

pub record Opened (s : List ℕ) (at u p : ℕ) : Type 0 where
  pub text : drop at s ≡ update_to u (drop p s)
  pub small : Small u
  pub ends : p ≡ at + 9 + length (decimal u)

space_by : (s : List ℕ) (u q : ℕ) (t : Bool) → starts (bytes " ") (drop q s) ≡ t → (v p : ℕ) → cond t (read u (q + 1)) None ≡ read v p
    → (u ≡ v) × (q + 1 ≡ p) × (drop q s ≡ bytes " " ++ drop p s)
space_by s u q false h v p e = no_number v p e
space_by s u q true h v p e =
    let x : u ≡ v = (same_read e).0 in
    let y : q + 1 ≡ p = (same_read e).1 in
    (x, y, word_sound s q (bytes " ") h ∙ ap (λ (k : ℕ). bytes " " ++ drop k s) y)

number_by : (s : List ℕ) (at : ℕ) → drop at s ≡ bytes "(update" ++ drop (at + 7) s → (m : Read ℕ) → spaced_of s (at + 7) ≡ m
    → (u p : ℕ) → space_after s m ≡ read u p → Opened s at u p
unfolding space_after
number_by s at w None h u p e = no_number u p e
number_by s at w (Some (v, q)) h u p e =
    let x = space_by s v q (starts (bytes " ") (drop q s)) refl u p e in
    let r = spaced_sound s (at + 7) v q h in
    let t : drop at s ≡ update_to v (drop p s) =
    w ∙ ap (λ (l : List ℕ). bytes "(update" ++ l) (r.0 ∙ ap (λ (l : List ℕ). 32 ∷ (decimal v ++ l)) x.2) in
    let long : length (decimal v) ≡ length (decimal u) = ap (λ (k : ℕ). length (decimal k)) x.0 in
    record { text = rw x.0 at t; small = subst Small x.0 r.1; ends = omega (arith, r.2, x.1, long) }

word_by : (s : List ℕ) (at : ℕ) (t : Bool) → starts (bytes "(update") (drop at s) ≡ t
    → (u p : ℕ) → cond t (space_after s (spaced_of s (at + 7))) None ≡ read u p → Opened s at u p
word_by s at false h u p e = no_number u p e
word_by s at true h u p e = number_by s at (word_sound s at (bytes "(update") h) (spaced_of s (at + 7)) refl u p e

pub opened_sound : (s : List ℕ) (at u p : ℕ) → opened_of s at ≡ read u p → Opened s at u p
unfolding opened_of
opened_sound s at u p e = word_by s at (starts (bytes "(update") (drop at s)) refl u p e

opened_found : (s : List ℕ) (at u : ℕ) (l : List ℕ) → Small u → drop at s ≡ update_to u l
    → (opened_of s at ≡ read u (at + 9 + length (decimal u))) × (drop (at + 9 + length (decimal u)) s ≡ l)
unfolding opened_of space_after
opened_found s at u l small e =
    let n = bytes " " ++ (decimal u ++ (bytes " " ++ l)) in
    let f = spaced_found s (at + 7) u (bytes " " ++ l) small (advance s (bytes "(update") n at e) refl in
    let q = at + 7 + 1 + length (decimal u) in
    let past : q + 1 ≡ at + 9 + length (decimal u) = omega arith in (
      rw (word_back s at (bytes "(update") n e, f.0, word_back s q (bytes " ") l f.1) (ap (read u) past),
      ap (λ (k : ℕ). drop k s) (sym past) ∙ advance s (bytes " ") l q f.1,
    )

-- 2. the form inside
abbrev Inner : List ℕ → ℕ → ℕ → Wrapped → ℕ → Type 0
Inner s u p w e = (u ≡ update_of w) × Stood inner_form s p w e

inner_as : (s : List ℕ) (u p : ℕ) (v w : Wrapped) (d e : ℕ) → read v d ≡ read w e → Inner s u p v d → Inner s u p w e
inner_as s u p v w d e q x =
    let vs : v ≡ w = (same_read q).0 in
    let ds : d ≡ e = (same_read q).1 in
    rw (vs, ds) at x

inner_sound : (s : List ℕ) (u p : ℕ) (r : Read RingStep) → read_by ring_shapes s p ≡ r → (x : Read Start) → start_at s p ≡ x
    → (w : Wrapped) (e : ℕ) → inner_of u r x ≡ read w e → Inner s u p w e
unfolding inner_of
inner_sound s u p (Some (f, d)) h x k w e q =
    let z = ring_reader.stood s p f d h in
    inner_as s u p (step u f) w d e q (refl, record { text = z.text; inside = z.inside; small = z.small })
inner_sound s u p None h (Some (start.bare n, d)) k w e q =
    let z = start_reader.stood s p (start.bare n) d k in
    inner_as s u p (bare u n) w d e q (refl, record { text = z.text; inside = z.inside; small = z.small })
inner_sound s u p None h (Some (start.lists n active black, d)) k w e q =
    let z = start_reader.stood s p (start.lists n active black) d k in
    inner_as s u p (lists u n active black) w d e q (refl, record { text = z.text; inside = z.inside; small = z.small })
inner_sound s u p None h (Some (start.tree n root, d)) k w e q = no_read q
inner_sound s u p None h None k w e q = no_read q

-- where a ring's start stands, no step does
pub ring_alone : (s : List ℕ) (p : ℕ) (l : List ℕ) → drop p s ≡ bytes "(ring" ++ l → read_by ring_shapes s p ≡ None
ring_alone s p l e = read_none ring_shapes (bytes "(ring") refl s p l e

inner_found : (s : List ℕ) (p : ℕ) (w : Wrapped) (l : List ℕ) → SmallForm (inner_form w) → drop p s ≡ written (inner_form w) ++ l
    → inner_of (update_of w) (read_by ring_shapes s p) (start_at s p) ≡ read w (p + length (written (inner_form w)))
unfolding inner_of
inner_found s p (step u f) l small e = rw (ring_reader.found s p f l small e)
inner_found s p (bare u n) l small e = rw (ring_alone s p _ e, start_reader.found s p (start.bare n) l small e)
inner_found s p (lists u n active black) l small e =
    rw (ring_alone s p _ e, start_reader.found s p (start.lists n active black) l small e)

-- 3. the whole form
pub record Closed (s : List ℕ) (r : Read Wrapped) (w : Wrapped) (e : ℕ) : Type 0 where
  pub end : ℕ
  pub is : r ≡ read w end
  pub past : end + 1 ≡ e
  pub ends : starts (bytes ")") (drop end s) ≡ true

closed_by : (s : List ℕ) (v : Wrapped) (d : ℕ) (t : Bool) → starts (bytes ")") (drop d s) ≡ t
    → (w : Wrapped) (e : ℕ) → cond t (read v (d + 1)) None ≡ read w e → Closed s (read v d) w e
closed_by s v d false h w e q = no_read q
closed_by s v d true h w e q =
    let vs : v ≡ w = (same_read q).0 in
    let ds : d + 1 ≡ e = (same_read q).1 in
    record { end = d; is = ap (λ (x : Wrapped). read x d) vs; past = ds; ends = h }

closed_sound : (s : List ℕ) (r : Read Wrapped) (w : Wrapped) (e : ℕ) → closed_read s r ≡ read w e → Closed s r w e
unfolding closed_read
closed_sound s (Some (v, d)) w e q = closed_by s v d (starts (bytes ")") (drop d s)) refl w e q
closed_sound s None w e q = no_read q

whole : (s : List ℕ) (at u p : ℕ) → Opened s at u p → (w : Wrapped) (d e : ℕ) → Inner s u p w d → d + 1 ≡ e
    → starts (bytes ")") (drop d s) ≡ true → Stood wrapped_form s at w e
whole s at u p o w d e (is, z) past ends =
    let f = written (inner_form w) in
    let c : drop d s ≡ bytes ")" ++ drop e s = word_sound s d (bytes ")") ends ∙ ap (λ (k : ℕ). bytes ")" ++ drop k s) past in
    let t : drop p s ≡ (f ++ bytes ")") ++ drop e s =
    z.text ∙ (ap (λ (l : List ℕ). f ++ l) c ∙ sym (append_assoc f (bytes ")") (drop e s))) in
    let x : drop at s ≡ update_to u ((f ++ bytes ")") ++ drop e s) = o.text ∙ ap (update_to u) t in
    let y : drop at s ≡ update_to (update_of w) ((f ++ bytes ")") ++ drop e s) = rw is at x in
    let n = length (bytes ")") in
    let m : e ≤ length s = omega (arith, past, word_in s d (bytes ")") (omega arith) ends) in
    record {
      text = y ∙ ap (λ (l : List ℕ). bytes "(update " ++ l) (sym (append_assoc (decimal (update_of w)) (bytes " " ++ (f ++ bytes ")")) (drop e s)));
      inside = m;
      small = (subst Small is o.small, z.small);
    }

inside_sound : (s : List ℕ) (at : ℕ) (m : Read ℕ) → opened_of s at ≡ m → (w : Wrapped) (e : ℕ) → inside_at s m ≡ read w e → Stood wrapped_form s at w e
unfolding inside_at
inside_sound s at None h w e q = no_read q
inside_sound s at (Some (u, p)) h w e q =
    let c = closed_sound s (inner_of u (read_by ring_shapes s p) (start_at s p)) w e q in
    let i = inner_sound s u p (read_by ring_shapes s p) refl (start_at s p) refl w c.end c.is in
    whole s at u p (opened_sound s at u p h) w c.end e i c.past c.ends

update_stood : (s : List ℕ) (at : ℕ) (w : Wrapped) (e : ℕ) → update_at s at ≡ read w e → Stood wrapped_form s at w e
unfolding update_at
update_stood s at w e q = inside_sound s at (opened_of s at) refl w e q

update_found : (s : List ℕ) (at : ℕ) (w : Wrapped) (l : List ℕ) → SmallForm (wrapped_form w) → drop at s ≡ written (wrapped_form w) ++ l
    → update_at s at ≡ read w (at + length (written (wrapped_form w)))
unfolding update_at inside_at closed_read
update_found s at w l small e =
    let u = update_of w in
    let f = written (inner_form w) in
    let t : drop at s ≡ update_to u ((f ++ bytes ")") ++ l) =
    e ∙ ap (λ (x : List ℕ). bytes "(update " ++ x) (append_assoc (decimal u) (bytes " " ++ (f ++ bytes ")")) l) in
    let o = opened_found s at u ((f ++ bytes ")") ++ l) small.0 t in
    let p = at + 9 + length (decimal u) in
    let r : drop p s ≡ f ++ (bytes ")" ++ l) = o.1 ∙ append_assoc f (bytes ")") l in
    let i = inner_found s p w (bytes ")" ++ l) small.1 r in
    let c : starts (bytes ")") (drop (p + length f) s) ≡ true = word_back s (p + length f) (bytes ")") l (advance s f (bytes ")" ++ l) p r) in
    let last : p + length f + 1 ≡ at + length (written (wrapped_form w)) = simp length-append (omega arith) in
    rw (o.0, i, c) (ap (read w) last)

pub wrapped_reader : Reader wrapped_form update_at
wrapped_reader = record { stood = update_stood; found = update_found }
