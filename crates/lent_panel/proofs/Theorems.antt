-- What the contracts of the panel's exported functions add up to. Assumes nothing.
use Prim.Native.Nat.{◌+◌, suc, zero, ℕ}
use borrow.Author.Tests.{lt-leb}
use lib.ListN.{get_or}
use mathlib.Core.Bool.{Bool, ◌&&◌, and-false, cond, false, true}
use mathlib.Core.List.{List, [], ◌∷◌}
use mathlib.Core.Path.{◌∙◌, ◌≡◌, ap, refl, sym}
use native.Mathlib.Omega.{arith}
use Rattle.flag_bytes.proofs.Laws.{no_flag, no_flags}
use Rattle.flag_bytes.specs.Flags.{are_flags, byte_of, bytes_of, is_flag}
use Rattle.laws.proofs.Tests.{both}
use Rattle.lent.specs.Ring.{Lent, truths_test}
use Rattle.lent.specs.Theorems.{NoFlag, in_active, in_black, in_closed}
use Rattle.lent_panel.proofs.Panel.{marks_left, nodes_kept, panel_back, panel_held, verdict_told}
use Rattle.lent_panel.specs.Calls.{fields_after}
use Rattle.lent_panel.specs.Panel.{LentPanel, ask_fields, ask_number, ask_verdict, is_record, lent_panel_of, panel_in, panel_sound_number, panel_truths}
use Rattle.lent_panel.specs.Theorems.{NoPanelFlag, PanelBytesJudged, PanelCalls, PanelCallsAnswer, PanelFieldsHold, PanelRefusalsKeep, PanelSoundLeft, WholePanelCalls, in_firmware, in_map, in_record, in_ring}
use Rattle.panel_rules.proofs.Numbers.{closed_4}
use Rattle.panel_rules.proofs.Theorems.{answer_is, panel_answered, panel_kept, panel_tested}
use Rattle.panel_rules.specs.Answers.{Answer, enter_of}
use Rattle.panel_rules.specs.Asks.{Ask, Start, Step, answer_on, panel, verdict_on}
use Rattle.panel_rules.specs.Soundness.{Sound, sound_test}
use Rattle.panel_rules.specs.State.{Panel, record_number, word_of}
use Rattle.panel_rules.specs.declared.record.Record.{Record}
use Rattle.panel_runs.proofs.WholeRun.{whole_runs}
use Rattle.panel_runs.specs.WholeRun.{Point}
use Rattle.refusal.proofs.Table.{code_accepted, not_both}
use Rattle.refusal.specs.Table.{settle, code_of}
use Rattle.refusal.specs.declared.Refusal.TheVariants.{Unsound}
use Rattle.refusal.specs.Table.{Verdict}
use Rattle.refusal.specs.Table.{Accepted, Refused}
use Rattle.ring_runs.specs.Counts.{kind}
use Rattle.runs.specs.Runs.{next, run_of}

pub panel_fields_hold : PanelFieldsHold
panel_fields_hold = record { panel = panel_held; panel_back = panel_back }

-- ---- a refusal keeps

kept : {A : Type 0} (v : Verdict) (next same : A) → (v ≡ Accepted → ⊥) → settle v next same ≡ same
kept Accepted next same h = absurd (h refl)
kept (Refused e) next same h = refl

-- what is accepted had its bytes judged
judged : (b : Bool) (v : Verdict) → cond b v (Refused Unsound) ≡ Accepted → (b ≡ true) × (v ≡ Accepted)
judged true v p = (refl, p)
judged false v p = absurd (not_both p refl)

-- what the next panel has as the lent fields have it is left, whatever the answer
left_as : {A : Type 0} (f : LentPanel → A) (l : LentPanel) (a : Ask)
    → (panel_truths l ≡ true → f (lent_panel_of (answer_on (panel_in l) a).state) ≡ f l) → f (ask_fields l a) ≡ f l
left_as f l a h = go (ask_verdict l a) refl
  where
    go : (v : Verdict) → ask_verdict l a ≡ v → f (settle v (lent_panel_of (answer_on (panel_in l) a).state) l) ≡ f l
    go Accepted e = h (judged (panel_truths l) (verdict_on (panel_in l) a) e).0
    go (Refused r) e = refl

nodes_left : (l : LentPanel) (a : Ask) → (ask_fields l a).ring.n ≡ l.ring.n
nodes_left l a = left_as (λ (m : LentPanel). m.ring.n) l a (λ _. nodes_kept (panel_in l) a)

pub panel_refusals_keep : PanelRefusalsKeep
panel_refusals_keep =
    record {
      enter = λ {nodes} {number} {flags} s h. s.fields ∙ kept (enter_of nodes flags).verdict _ _ (λ p. h (s.told ∙ ap code_of p));
      ask = λ {l} {after} {a} s h. s.fields ∙ kept (ask_verdict l a) _ _ (λ p. h (s.told ∙ ap code_of p));
      nodes = λ {l} {after} {a} s. ap (λ (m : LentPanel). m.ring.n) s.fields ∙ nodes_left l a;
      start_marks = λ {l} {after} {n} {number} {flags} s. (
        ap (λ (m : LentPanel). m.firmware) s.fields
            ∙ left_as (λ (m : LentPanel). m.firmware) l (Start n flags) (λ f. (marks_left l n flags f).0),
        ap (λ (m : LentPanel). m.map) s.fields
            ∙ left_as (λ (m : LentPanel). m.map) l (Start n flags) (λ f. (marks_left l n flags f).1),
      );
    }

-- ---- a byte above 1, a record above 2

left_false : {a : Bool} (b : Bool) → a ≡ false → (a && b) ≡ false
left_false b e = rw e

right_false : (a : Bool) {b : Bool} → b ≡ false → (a && b) ≡ false
right_false a e = rw e (and-false a)

ring_fails : {l : Lent} → NoFlag l → truths_test l ≡ false
unfolding truths_test
ring_fails {l} (in_active k h) = left_false (is_flag l.black && is_flag l.closed) (no_flags l.active k h)
ring_fails {l} (in_black h) = right_false (are_flags l.active) (left_false (is_flag l.closed) (no_flag l.black h))
ring_fails {l} (in_closed h) = right_false (are_flags l.active) (right_false (is_flag l.black) (no_flag l.closed h))

panel_fails : {l : LentPanel} → NoPanelFlag l → panel_truths l ≡ false
unfolding panel_truths
panel_fails {l} n = go n
  where
    go : NoPanelFlag l → (truths_test l.ring && (are_flags l.firmware && (are_flags l.map && is_record l.recorded))) ≡ false
    go (in_ring r) = left_false (are_flags l.firmware && (are_flags l.map && is_record l.recorded)) (ring_fails r)
    go (in_firmware k h) =
        right_false (truths_test l.ring) (left_false (are_flags l.map && is_record l.recorded) (no_flags l.firmware k h))
    go (in_map k h) =
        right_false (truths_test l.ring)
        (right_false (are_flags l.firmware) (left_false (is_record l.recorded) (no_flags l.map k h)))
    go (in_record h) =
        right_false (truths_test l.ring) (right_false (are_flags l.firmware) (right_false (are_flags l.map) (lt-leb l.recorded 2 h)))

pub panel_bytes_judged : PanelBytesJudged
panel_bytes_judged = record { ask = λ n s. rw (panel_fails n) at s.told; sound = λ n. rw (panel_fails n) }

-- ---- what accepted calls leave

settled : {A : Type 0} (v : Verdict) (next same : A) → v ≡ Accepted → settle v next same ≡ next
settled v next same p = rw p

sound_held : (p : Panel) → panel_sound_number (lent_panel_of p) ≡ byte_of (sound_test p)
sound_held p = rw (panel_held p).0 (ap (λ (q : Panel). byte_of (sound_test q)) (panel_held p).1)

panel_sound : (p : Panel) → Sound p → panel_sound_number (lent_panel_of p) ≡ 1
panel_sound p s = sound_held p ∙ ap byte_of (panel_tested.tested p s)

pub panel_sound_left : PanelSoundLeft
panel_sound_left =
    record {
      enter = λ {nodes} {flags} s.
          let v = code_accepted (enter_of nodes flags).verdict (sym s.told) in
          ap panel_sound_number (s.fields ∙ settled (enter_of nodes flags).verdict _ _ v) ∙ panel_sound _ (panel_kept.enter nodes flags v);
      ask = λ {l} {after} {a} s.
          let v = code_accepted (ask_verdict l a) (sym s.told) in
          ap panel_sound_number (s.fields ∙ settled (ask_verdict l a) _ _ v)
          ∙ panel_sound _ (panel_kept.accepted (panel_in l) a (judged (panel_truths l) _ v).1);
    }

-- ---- each call is the operation by value

-- of the fields that a panel is put into
module _ (p : Panel) (a : Ask) where
  number_of : ask_number (lent_panel_of p) a ≡ code_of (answer_on p a).verdict
  number_of =
      rw (panel_held p).0
      (ap (λ (q : Panel). code_of (verdict_on q a)) (panel_held p).1 ∙ sym (ap code_of (verdict_told p a)))

  fields_of : ask_fields (lent_panel_of p) a ≡ lent_panel_of (answer_on p a).state
  fields_of =
      rw (panel_held p).0
      (ap (λ (q : Panel). settle (verdict_on q a) (lent_panel_of (answer_on q a).state) (lent_panel_of p)) (panel_held p).1
      ∙ go (verdict_on p a) refl)
    where
      go : (v : Verdict) → verdict_on p a ≡ v → settle v (lent_panel_of (answer_on p a).state) (lent_panel_of p) ≡ lent_panel_of (answer_on p a).state
      go Accepted e = refl
      go (Refused r) e = sym (ap lent_panel_of (panel_answered.same p a r e))

pub panel_calls_answer : PanelCallsAnswer
panel_calls_answer =
    record {
      enter = λ s. (s.told, s.fields);
      ask = λ p {a} s. (s.told ∙ number_of p a, s.fields ∙ fields_of p a);
      sound = sound_held;
    }

-- ---- lists of calls

one_true : (b : Bool) → byte_of b ≡ 1 → b ≡ true
one_true true e = refl
one_true false e = absurd (omega arith)

-- of the fields that a panel is put into
calls_run : (p : Panel) (ls : List Ask) → fields_after (lent_panel_of p) ls ≡ lent_panel_of (run_of panel p ls)
unfolding fields_after run_of
calls_run p [] = refl
calls_run p (a ∷ ls) =
    ap (λ (l : LentPanel). fields_after l ls) (fields_of p a ∙ ap (λ (x : Answer). lent_panel_of x.state) (answer_is p a))
    ∙ calls_run (next panel p a) ls

nodes_after : (l : LentPanel) (ls : List Ask) → (fields_after l ls).ring.n ≡ l.ring.n
unfolding fields_after
nodes_after l [] = refl
nodes_after l (a ∷ ls) = nodes_after (ask_fields l a) ls ∙ nodes_left l a

-- a mark's byte and the record of its word
word_byte : (l : List Bool) (b : ℕ) (w : Record) → word_of (get_or l b false) ≡ w → record_number w ≡ get_or (bytes_of l) b 0 + 1
unfolding bytes_of
word_byte [] b w e = ap record_number (sym e)
word_byte (true ∷ l) zero w e = ap record_number (sym e)
word_byte (false ∷ l) zero w e = ap record_number (sym e)
word_byte (x ∷ l) (suc b) w e = word_byte l b w e

-- the bytes of fields in which a panel lies
record Found (l : LentPanel) (p : Panel) : Type 0 where
  recorded : l.recorded ≡ record_number p.recorded
  firmware : (b : ℕ) → get_or l.firmware b 0 ≡ get_or (bytes_of p.firmware) b 0
  map : (b : ℕ) → get_or l.map b 0 ≡ get_or (bytes_of p.map) b 0

found_in : (l : LentPanel) (p : Panel) → l ≡ lent_panel_of p → Found l p
found_in l p e =
    record {
      recorded = ap (λ (m : LentPanel). m.recorded) e;
      firmware = λ b. ap (λ (m : LentPanel). get_or m.firmware b 0) e;
      map = λ b. ap (λ (m : LentPanel). get_or m.map b 0) e;
    }

panel_calls : (l : LentPanel) → panel_sound_number l ≡ 1 → (ls : List Ask) → PanelCalls l ls
panel_calls l k ls =
    let ok = both (panel_truths l) (sound_test (panel_in l)) (one_true _ k) in
    let here = run_of panel (panel_in l) ls in
    let point : Point (panel_in l) ls = whole_runs.point (panel_in l) (panel_tested.holds (panel_in l) ok.1) ls in
    let fields : fields_after l ls ≡ lent_panel_of here = ap (λ (m : LentPanel). fields_after m ls) (sym (panel_back l ok.0)) ∙ calls_run (panel_in l) ls in
    let told : (a : Ask) → ask_number (fields_after l ls) a ≡ code_of (verdict_on here a) =
    λ a. ap (λ (m : LentPanel). ask_number m a) fields ∙ number_of here a ∙ ap code_of (verdict_told here a) in
    let found = found_in (fields_after l ls) here fields in
    record {
      fields = fields;
      told = told;
      sound = ap panel_sound_number fields ∙ panel_sound here point.sound;
      nodes = nodes_after l ls;
      point = point;
      close = λ x e t. point.close x e (code_accepted (verdict_on here (Step x)) (sym (told (Step x)) ∙ t));
      released =
          λ r b h.
          let w = point.released r in (
            found.recorded ∙ word_byte here.firmware b here.recorded (w.firmware b h) ∙ sym (ap (λ (k : ℕ). k + 1) (found.firmware b)),
            found.recorded ∙ word_byte here.map b here.recorded (w.map b h) ∙ sym (ap (λ (k : ℕ). k + 1) (found.map b)),
          );
      last = λ r x. told (Step x) ∙ closed_4 here point.sound (point.closed ∙ r) (kind x) x.i x.j;
    }

pub whole_panel_calls : WholePanelCalls
whole_panel_calls =
    record {
      calls = panel_calls;
      entered = λ {nodes} {flags} s.
          let v = code_accepted (enter_of nodes flags).verdict (sym s.told) in (
            panel_sound_left.enter s,
            ap panel_in (s.fields ∙ settled (enter_of nodes flags).verdict _ _ v) ∙ (panel_held (enter_of nodes flags).state).1,
          );
    }
