-- What the code holds of a wrapped line is what is read of it. Assumes nothing.
use Rattle.std.specs.Prelude.{Option, Some, None}
use mathlib.Core.Path.{◌≡◌, refl, sym, ap, ◌∙◌, subst}
use mathlib.Core.Bool.{Bool, cond, false, true}
use mathlib.Core.List.{List}
use Prim.Native.Nat.{ℕ, ◌+◌, ◌≤◌, ◌<◌}
use native.Mathlib.Omega.{arith}
use lib.ListN.{length, drop}
use Rattle.decimal.specs.Bytes.{bytes}
use Rattle.decimal.specs.Word.{starts}
use Rattle.decimal.proofs.Decimal.{decimal_five}
use Rattle.forms.specs.declared.RingStep.{RingStep}
use Rattle.forms.specs.Form.{line_bytes}
use Rattle.forms.specs.Read.{Read, read, read_by, ring_shapes, ends_line, lined}
use Rattle.forms.proofs.Reading.{no_read, ends_short}
use Rattle.forms.proofs.Steps.{ring_short}
use Rattle.first_line.specs.declared.RingStart.{RingStart}
use Rattle.first_line.specs.Start.{Start, seen_of}
use Rattle.first_line.specs.Start as start
use Rattle.first_line.specs.Read.{start_at}
use Rattle.first_line.specs.Meaning.{Flags}
use Rattle.first_line.proofs.Opens.{start_reader}
use Rattle.first_line.proofs.Flags.{one_flags, lists_flags}
use Rattle.update_forms.specs.Wrapped.{Wrapped, step, bare, lists}
use Rattle.update_forms.specs.Read.{opened_of, inner_of, closed_read, inside_at, update_at, wrapped_at, step_in, update_line_of, start_in, wrapped_seen}
use Rattle.update_forms.specs.Exact.{UpdateRead}
use Rattle.update_forms.proofs.Opens.{Opened, opened_sound, ring_alone}
use Rattle.update_forms.proofs.Exact.{wrapped_exact, wrapped_inside}

-- 1. what is held of a form that was read inside, up to the end of the line
module _ {B : Type 0} (g : Read Wrapped → Option B) (none : g None ≡ None) (s : List ℕ) (at : ℕ) (w : Wrapped) (e : ℕ) where
  last_held : (t : Bool) → g (cond t (read w (e + 1 + 1)) None) ≡ cond t (g (read w (e + 1 + 1))) None
  last_held true = refl
  last_held false = none

  wrap_by : (t : Bool) → g (lined s at (cond t (read w (e + 1)) None)) ≡ cond t (cond (ends_line s at (e + 1)) (g (read w (e + 1 + 1))) None) None
  unfolding lined
  wrap_by true = last_held (ends_line s at (e + 1))
  wrap_by false = none

  wrap_held : g (lined s at (closed_read s (read w e)))
      ≡ cond (starts (bytes ")") (drop e s)) (cond (ends_line s at (e + 1)) (g (read w (e + 1 + 1))) None) None
  unfolding closed_read
  wrap_held = wrap_by (starts (bytes ")") (drop e s))

  none_by : g (read w (e + 1 + 1)) ≡ None → (t u : Bool) → cond t (cond u (g (read w (e + 1 + 1))) None) None ≡ None
  none_by h true true = h
  none_by h true false = refl
  none_by h false u = refl

  wrap_none : g (read w (e + 1 + 1)) ≡ None → g (lined s at (closed_read s (read w e))) ≡ None
  wrap_none h = wrap_held ∙ none_by h (starts (bytes ")") (drop e s)) (ends_line s at (e + 1))

-- 2. a step
no_step : (s : List ℕ) (at u : ℕ) (x : Read Start) → update_line_of (lined s at (closed_read s (inner_of u None x))) ≡ None
unfolding inner_of closed_read lined
no_step s at u (Some (start.bare n, e)) = wrap_none update_line_of refl s at (bare u n) e refl
no_step s at u (Some (start.lists n active black, e)) = wrap_none update_line_of refl s at (lists u n active black) e refl
no_step s at u (Some (start.tree n root, e)) = refl
no_step s at u None = refl

step_by : (s : List ℕ) (at u p : ℕ) → Opened s at u p → (r : Read RingStep) → read_by ring_shapes s p ≡ r → (x : Read Start)
    → update_line_of (lined s at (closed_read s (inner_of u r x))) ≡ step_in s u r
unfolding inner_of step_in
step_by s at u p o None h x = no_step s at u x
step_by s at u p o (Some (f, e)) h x =
    let few : e + 1 < at + line_bytes = omega (arith, ring_short s p f e h, o.ends, decimal_five u o.small) in
    wrap_held update_line_of refl s at (step u f) e
    ∙ ap (λ (t : Bool). cond (starts (bytes ")") (drop e s)) (cond t (Some (u, f, e + 1 + 1)) None) None) (ends_short s at (e + 1) few)

pub step_held : (s : List ℕ) (at u p : ℕ) → opened_of s at ≡ read u p
    → step_in s u (read_by ring_shapes s p) ≡ update_line_of (wrapped_at s at)
unfolding wrapped_at update_at inside_at
step_held s at u p h = rw h (sym (step_by s at u p (opened_sound s at u p h) (read_by ring_shapes s p) refl (start_at s p)))

pub no_step_held : (s : List ℕ) (at : ℕ) → opened_of s at ≡ None → None ≡ update_line_of (wrapped_at s at)
unfolding wrapped_at update_at inside_at lined
no_step_held s at h = rw h

or_else : {A : Type 0} → A → Option A → A
or_else a (Some b) = b
or_else a None = a

line_back : (x : Read Wrapped) (u : ℕ) (f : RingStep) (e : ℕ) → update_line_of x ≡ Some (u, f, e) → x ≡ read (step u f) e
unfolding or_else
line_back (Some (step v g, d)) u f e h =
    let p = ap (or_else (v, g, d)) h in
    ap (λ (r : ℕ × RingStep × ℕ). read (step r.0 r.1) r.2) p
line_back (Some (bare v n, d)) u f e h = absurd (let z : ◌≡◌ {A = ℕ} 0 1 = cc in let y : ⊥ = omega arith in y)
line_back (Some (lists v n active black, d)) u f e h = absurd (let z : ◌≡◌ {A = ℕ} 0 1 = cc in let y : ⊥ = omega arith in y)
line_back None u f e h = absurd (let z : ◌≡◌ {A = ℕ} 0 1 = cc in let y : ⊥ = omega arith in y)

update_exact : (s : List ℕ) (at : ℕ) → UpdateRead s at (update_line_of (wrapped_at s at))
update_exact s at u f e =
    let x = wrapped_exact s at (step u f) e in
    (λ h. x.0 (line_back (wrapped_at s at) u f e h), λ h. ap update_line_of (x.1 h))

-- the contract of `update_step`, from its equation
pub update_told : (s : List ℕ) (at : ℕ) (r : Option (ℕ × RingStep × ℕ)) → r ≡ update_line_of (wrapped_at s at)
    → (r ≡ update_line_of (wrapped_at s at)) × UpdateRead s at r
update_told s at r h = (h, subst (UpdateRead s at) (sym h) (update_exact s at))

-- a step that was read lies inside
pub update_inside : (s : List ℕ) (at u : ℕ) (f : RingStep) (e : ℕ) → update_line_of (wrapped_at s at) ≡ Some (u, f, e) → (at < e) × (e ≤ length s)
update_inside s at u f e h = wrapped_inside s at (step u f) e (line_back (wrapped_at s at) u f e h)

-- 3. a start
start_by : (s : List ℕ) (at u p : ℕ) (r : Read RingStep) → read_by ring_shapes s p ≡ r → (x : Read Start) → start_at s p ≡ x
    → wrapped_seen (lined s at (closed_read s (inner_of u r x))) ≡ start_in s at u (seen_of x)
unfolding inner_of start_in closed_read lined
start_by s at u p (Some (f, e)) h (Some (start.bare n, d)) k =
    no_read (sym (ring_alone s p _ (start_reader.stood s p (start.bare n) d k).text) ∙ h)
start_by s at u p (Some (f, e)) h (Some (start.lists n active black, d)) k =
    no_read (sym (ring_alone s p _ (start_reader.stood s p (start.lists n active black) d k).text) ∙ h)
start_by s at u p (Some (f, e)) h (Some (start.tree n root, d)) k = wrap_none wrapped_seen refl s at (step u f) e refl
start_by s at u p (Some (f, e)) h None k = wrap_none wrapped_seen refl s at (step u f) e refl
start_by s at u p None h (Some (start.bare n, d)) k = wrap_held wrapped_seen refl s at (bare u n) d
start_by s at u p None h (Some (start.lists n active black, d)) k = wrap_held wrapped_seen refl s at (lists u n active black) d
start_by s at u p None h (Some (start.tree n root, d)) k = refl
start_by s at u p None h None k = refl

pub start_held : (s : List ℕ) (at u p : ℕ) → opened_of s at ≡ read u p → start_in s at u (seen_of (start_at s p)) ≡ wrapped_seen (wrapped_at s at)
unfolding wrapped_at update_at inside_at
start_held s at u p h = rw h (sym (start_by s at u p (read_by ring_shapes s p) refl (start_at s p) refl))

pub no_start_held : (s : List ℕ) (at : ℕ) → opened_of s at ≡ None → None ≡ wrapped_seen (wrapped_at s at)
unfolding wrapped_at update_at inside_at lined
no_start_held s at h = rw h

-- a start that was read lies inside
pub start_inside : (s : List ℕ) (at u : ℕ) (r : RingStart) (e : ℕ) → wrapped_seen (wrapped_at s at) ≡ Some (u, r, e) → (at < e) × (e ≤ length s)
unfolding or_else
start_inside s at u r e h = go (wrapped_at s at) refl h
  where
    go : (x : Read Wrapped) → wrapped_at s at ≡ x → wrapped_seen x ≡ Some (u, r, e) → (at < e) × (e ≤ length s)
    go None p q = absurd (let z : ◌≡◌ {A = ℕ} 0 1 = cc in let y : ⊥ = omega arith in y)
    go (Some (step v f, d)) p q = absurd (let z : ◌≡◌ {A = ℕ} 0 1 = cc in let y : ⊥ = omega arith in y)
    go (Some (bare v n, d)) p q =
        let x = wrapped_inside s at (bare v n) d p in
        let is : d ≡ e = ap (λ (o : Option (ℕ × RingStart × ℕ)). (or_else (u, r, e) o).2) q in
        (omega (arith, x.0), omega (arith, x.1))
    go (Some (lists v n active black, d)) p q =
        let x = wrapped_inside s at (lists v n active black) d p in
        let is : d ≡ e = ap (λ (o : Option (ℕ × RingStart × ℕ)). (or_else (u, r, e) o).2) q in
        (omega (arith, x.0), omega (arith, x.1))

-- the start flags that a wrapped line gives
abbrev pub WrappedFlags : Option (ℕ × RingStart × ℕ) → Type 0
WrappedFlags (Some (u, r, e)) = Flags r.flags
WrappedFlags None = Unit {0}

pub wrapped_flags : (s : List ℕ) (at : ℕ) → WrappedFlags (wrapped_seen (wrapped_at s at))
wrapped_flags s at = go (wrapped_at s at) refl
  where
    go : (r : Read Wrapped) → wrapped_at s at ≡ r → WrappedFlags (wrapped_seen r)
    go None h = tt
    go (Some (step u f, e)) h = tt
    go (Some (bare u n, e)) h = one_flags
    go (Some (lists u n active black, e)) h = lists_flags n active black ((wrapped_exact s at (lists u n active black) e).0 h).0.1.0.1
