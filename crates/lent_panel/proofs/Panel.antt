-- The equations of the panel's contracts, by what the code found. Assumes nothing.
use Prim.Native.Nat.{suc, zero, ℕ}
use borrow.Author.Tests.{leb-true}
use mathlib.Core.Bool.{◌&&◌, true}
use mathlib.Core.List.{List}
use mathlib.Core.Logic.{inl, inr}
use mathlib.Core.Path.{◌∙◌, ◌≡◌, ap, refl, sym}
use native.Mathlib.Omega.{arith}
use Rattle.flag_bytes.proofs.Laws.{flags_back, narrow_same, truths_back}
use Rattle.flag_bytes.specs.Flags.{are_flags, bytes_of}
use Rattle.flag_bytes.specs.Narrow.{kind_byte}
use Rattle.laws.proofs.Tests.{both, both_true}
use Rattle.lent.proofs.Ring.{ring_back, ring_held}
use Rattle.lent.specs.Ring.{truths_test}
use Rattle.lent_panel.specs.Panel.{AskedTo, LentPanel, ask_verdict, is_record, lent_panel_of, panel_in, panel_truths, record_of}
use Rattle.panel_rules.proofs.Theorems.{answer_is, panel_answered, panel_unread, start_answered}
use Rattle.panel_rules.specs.Answers.{Answer}
use Rattle.panel_rules.specs.Asks.{Ask, Start, after, answer_on, step_ask, verdict_on}
use Rattle.panel_rules.specs.State.{Panel, nodes, record_number}
use Rattle.panel_rules.specs.declared.record.Record.{Record}
use Rattle.panel_rules.specs.declared.record.Record.TheVariants.{Empty, New, Old}
use Rattle.panel_runs.proofs.Trace.{n_after}
use Rattle.refusal.specs.Table.{code_of, settle}
use Rattle.refusal.specs.declared.Refusal.{Refusal}
use Rattle.refusal.specs.Table.{Verdict}
use Rattle.refusal.specs.Table.{Accepted, Refused}

-- ---- the fields of a panel

record_held : (w : Record) → (is_record (record_number w) ≡ true) × (record_of (record_number w) ≡ w)
record_held Empty = (refl, refl)
record_held Old = (refl, refl)
record_held New = (refl, refl)

record_back : (k : ℕ) → is_record k ≡ true → record_number (record_of k) ≡ k
record_back zero e = refl
record_back (suc zero) e = refl
record_back (suc (suc zero)) e = refl
record_back (suc (suc (suc k))) e = absurd (omega (arith, leb-true (suc (suc (suc k))) 2 e))

-- the fields that a panel is put into hold truths as bytes, and the very panel
pub panel_held : (p : Panel) → (panel_truths (lent_panel_of p) ≡ true) × (panel_in (lent_panel_of p) ≡ p)
unfolding panel_truths
panel_held p =
    let ring = ring_held p.ring in
    let firmware = truths_back p.firmware in
    let map = truths_back p.map in
    let recorded = record_held p.recorded in (
      both_true ring.0 (both_true firmware.0 (both_true map.0 recorded.0)),
      λ x. record { ring = ring.1 x; firmware = firmware.1 x; map = map.1 x; recorded = recorded.1 x },
    )

-- each part of fields that hold truths as bytes
pub record Truths (l : LentPanel) : Type 0 where
  pub ring : truths_test l.ring ≡ true
  pub firmware : are_flags l.firmware ≡ true
  pub map : are_flags l.map ≡ true
  pub recorded : is_record l.recorded ≡ true

pub truths_of : (l : LentPanel) → panel_truths l ≡ true → Truths l
unfolding panel_truths
truths_of l f =
    let a = both (truths_test l.ring) (are_flags l.firmware && (are_flags l.map && is_record l.recorded)) f in
    let b = both (are_flags l.firmware) (are_flags l.map && is_record l.recorded) a.1 in
    let c = both (are_flags l.map) (is_record l.recorded) b.1 in
    record { ring = a.0; firmware = b.0; map = c.0; recorded = c.1 }

-- flags are what their truths give back, and a record is what it says
pub panel_back : (l : LentPanel) → panel_truths l ≡ true → lent_panel_of (panel_in l) ≡ l
panel_back l f =
    let t = truths_of l f in
    λ x. record {
      ring = ring_back l.ring t.ring x;
      firmware = flags_back l.firmware t.firmware x;
      map = flags_back l.map t.map x;
      recorded = record_back l.recorded t.recorded x;
    }

-- ---- what requests leave

-- no request changes the number of nodes
pub nodes_kept : (p : Panel) (a : Ask) → nodes (answer_on p a).state ≡ nodes p
nodes_kept p a = go (verdict_on p a) refl
  where
    go : (v : Verdict) → verdict_on p a ≡ v → nodes (answer_on p a).state ≡ nodes p
    go Accepted e = ap nodes (panel_answered.next p a e) ∙ n_after p a e
    go (Refused x) e = ap nodes (panel_answered.same p a x e)

-- ---- a start or a step

-- a kind that does not fit a byte is unknown, as 0 is
pub panel_kind_same : (p : Panel) (b kind i j : ℕ) → b ≡ kind_byte kind → answer_on p (step_ask b i j) ≡ answer_on p (step_ask kind i j)
panel_kind_same p b kind i j e =
    ap (λ (k : ℕ). answer_on p (step_ask k i j)) e
    ∙ narrow_same (λ (k : ℕ). answer_on p (step_ask k i j)) 255 0 kind
    (λ k h. panel_unread.other_kinds p 0 k (inl refl) (inr (omega arith)) i i j j)

pub verdict_told : (p : Panel) (a : Ask) → (answer_on p a).verdict ≡ verdict_on p a
verdict_told p a = ap (λ (x : Answer). x.verdict) (answer_is p a)

by_ask :
    (l : LentPanel) (a : Ask) (number : ℕ) (after : LentPanel) (w : Verdict) → ask_verdict l a ≡ w → number ≡ code_of w
    → after ≡ settle w (lent_panel_of (answer_on (panel_in l) a).state) l → AskedTo l a number after
by_ask l a number after w e t f =
    record {
      told = t ∙ sym (ap code_of e);
      fields = f ∙ sym (ap (λ (v : Verdict). settle v (lent_panel_of (answer_on (panel_in l) a).state) l) e);
    }

module _ (l : LentPanel) (a : Ask) (p : Panel) (x : Answer) (e : p ≡ panel_in l) (q : x ≡ answer_on p a) (f : panel_truths l ≡ true) where
  pub answered : x ≡ answer_on (panel_in l) a
  answered = q ∙ ap (λ (y : Panel). answer_on y a) e

  judged : ask_verdict l a ≡ x.verdict
  judged = rw f (sym (ap (λ (y : Answer). y.verdict) answered ∙ verdict_told (panel_in l) a))

  pub ask_refused : {number : ℕ} {r : Refusal} → x.verdict ≡ Refused r → number ≡ code_of x.verdict → AskedTo l a number l
  ask_refused {number} {r} v t = by_ask l a number l (Refused r) (judged ∙ v) (t ∙ ap code_of v) refl

  pub accepted : (after : LentPanel) → x.verdict ≡ Accepted → after ≡ lent_panel_of x.state → AskedTo l a 0 after
  accepted after v h = by_ask l a 0 after Accepted (judged ∙ v) refl (h ∙ ap (λ (y : Answer). lent_panel_of y.state) answered)

  -- the number of nodes that lies there is the next panel's
  pub nodes_there : l.ring.n ≡ nodes x.state
  nodes_there = sym (ap (λ (y : Answer). nodes y.state) answered ∙ nodes_kept (panel_in l) a)

-- ---- a start, which leaves both columns of marks

pub marks_left :
    (l : LentPanel) (n : ℕ) (flags : List ℕ) → panel_truths l ≡ true
    → (bytes_of (answer_on (panel_in l) (Start n flags)).state.firmware ≡ l.firmware)
    × (bytes_of (answer_on (panel_in l) (Start n flags)).state.map ≡ l.map)
marks_left l n flags f =
    let t = truths_of l f in (
      ap bytes_of (start_answered.firmware (panel_in l) n flags) ∙ flags_back l.firmware t.firmware,
      ap bytes_of (start_answered.map (panel_in l) n flags) ∙ flags_back l.map t.map,
    )
