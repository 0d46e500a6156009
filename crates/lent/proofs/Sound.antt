-- The fields that a state is put into, and that accepted calls leave sound ones. Assumes nothing.
use Prim.Native.Nat.{◌≤◌, ℕ}
use borrow.Author.Tests.{ltb-false, not-false}
use mathlib.Core.Bool.{Bool, cond, false, true}
use mathlib.Core.Path.{◌∙◌, ◌≡◌, ap, refl, sym}
use native.Mathlib.Omega.{arith}
use Rattle.flag_bytes.proofs.Laws.{truth_back, truths_back}
use Rattle.laws.proofs.Tests.{both_true}
use Rattle.refusal.proofs.Table.{code_accepted, none_holds, not_both, number_range}
use Rattle.refusal.specs.Table.{NoneHolds, also, first_of, none, settle}
use Rattle.refusal.specs.declared.Refusal.TheVariants.{Unsound}
use Rattle.refusal.specs.Table.{Verdict}
use Rattle.refusal.specs.Table.{Accepted, Refused}
use Rattle.ring_rules.proofs.Theorems.{driver_counts}
use Rattle.ring_rules.specs.Driver.{drive_by, drive_of, drive_table, move_limit, reason_number, reason_verdict}
use Rattle.ring_rules.specs.Driver.{Reason}
use Rattle.ring_rules.specs.Driver.{Conclusive, Spent, Stopped, Waiting}
use Rattle.table_rules.specs.Answers.{verdict_on}
use Rattle.ring_rules.proofs.Theorems as ring
use Rattle.ring_rules.specs.Answers as ring_answers
use Rattle.ring_rules.specs.Rules as ring_rules
use Rattle.ring_rules.specs.Soundness as RingSound
use Rattle.ring_rules.specs.Start as ring_start
use Rattle.ring_rules.specs.State as ring_state
use Rattle.tree_rules.proofs.Theorems as tree
use Rattle.tree_rules.specs.Answers as tree_answers
use Rattle.tree_rules.specs.Rules as tree_rules
use Rattle.tree_rules.specs.Soundness as TreeSound
use Rattle.tree_rules.specs.Start as tree_start
use Rattle.tree_rules.specs.State as tree_state
use Rattle.lent.proofs.Ring.{ring_back, ring_held}
use Rattle.lent.proofs.Table.{put_back, put_table, put_there}
use Rattle.lent.proofs.TableCalls.{left_sound, none_told, table_judged}
use Rattle.lent.proofs.Tree.{tree_back}
use Rattle.lent.specs.Ring.{drive_reason, truths_test, lent_of, sound_number, state_of, step_verdict}
use Rattle.lent.specs.Table.{ask_verdict, fields_at, put_fields, table_in, table_sound_number, table_truths}
use Rattle.lent.specs.Theorems.{FieldsHold, SoundLeft}
use Rattle.lent.specs.Tree.{lent_tree_of, tree_truths_test, tree_of, tree_sound_number, tree_step_verdict}

-- ---- the fields of a state

pub fields_hold : FieldsHold
unfolding truths_test tree_truths_test
fields_hold =
    record {
      ring = ring_held;
      ring_back = ring_back;
      tree = λ t.
          let active = truths_back t.active in let closed = truth_back t.closed in (
            both_true active.0 closed.0,
            rw (active.1, closed.1),
          );
      tree_back = tree_back;
      table = λ m e u h l. (put_there m u l e h, put_table m u l e h);
      table_back = λ m u f. ap (put_fields m u) (ring_back (fields_at m u) f) ∙ put_back m u;
    }

-- ---- what accepted calls leave

ring_sound : (r : ring_state.State) → RingSound.Sound r → sound_number (lent_of r) ≡ 1
ring_sound r s = rw ((fields_hold.ring r).0, (fields_hold.ring r).1, (ring.sound_tested).tested r s)

tree_sound : (t : tree_state.State) → TreeSound.Sound t → tree_sound_number (lent_tree_of t) ≡ 1
tree_sound t s = rw ((fields_hold.tree t).0, (fields_hold.tree t).1, (tree.sound_tested).tested t s)

settled : {A : Type 0} (v : Verdict) (next same : A) → v ≡ Accepted → settle v next same ≡ next
settled v next same p = rw p

-- what is accepted had its bytes judged
judged : (b : Bool) (v : Verdict) → cond b v (Refused Unsound) ≡ Accepted → v ≡ Accepted
judged true v p = p
judged false v p = absurd (not_both p refl)

went_on : (w : Reason) → 100 ≤ reason_number w → reason_verdict w ≡ Accepted
went_on Conclusive h = refl
went_on Waiting h = refl
went_on Spent h = refl
went_on (Stopped e) h = absurd (omega (arith, (number_range e).1))

drive_judged : (b : Bool) (w : Reason) → reason_verdict (cond b w (Stopped Unsound)) ≡ Accepted → reason_verdict w ≡ Accepted
drive_judged true w p = p
drive_judged false w p = absurd (not_both p refl)

drive_sound : (r : ring_state.State) (m : ℕ) → reason_verdict (drive_of r m).reason ≡ Accepted → RingSound.Sound (drive_of r m).state
unfolding drive_of
drive_sound r m p = go (none_holds (drive_table r m) (accepted (first_of (drive_table r m)) p))
  where
    accepted : (v : Verdict) → reason_verdict (drive_by v m r).reason ≡ Accepted → v ≡ Accepted
    accepted Accepted q = refl
    accepted (Refused e) q = absurd (not_both q refl)

    go : NoneHolds (drive_table r m) → RingSound.Sound (drive_of r m).state
    go (also s (also c (also l none))) =
        (driver_counts.drives r m
        record { sound = (ring.sound_tested).holds r (not-false (RingSound.sound_test r) s); running = c }
        (ltb-false move_limit m l)).sound.sound

pub sound_left : SoundLeft
unfolding ring_answers.answer_of tree_answers.answer_of ring_start.start_of tree_start.start_of
sound_left =
    record {
      start = λ {nodes} {flags} s.
          let v = code_accepted (ring_start.start_verdict nodes flags) (sym s.told) in
          ap sound_number (s.fields ∙ settled (ring_start.start_verdict nodes flags) _ _ v) ∙ ring_sound _ ((ring.sound_kept).start nodes flags v).sound;
      step = λ {l} {after} {kind} {i} {j} s.
          let v = code_accepted (step_verdict l kind i j) (sym s.told) in
          ap sound_number (s.fields ∙ settled (step_verdict l kind i j) _ _ v)
          ∙ ring_sound _ ((ring.sound_kept).step (state_of l) (ring_rules.kind_of kind) i j (judged (truths_test l) _ v));
      drive = λ {l} {after} {limit} s h.
          let v = went_on (drive_reason l limit) (rw (← s.told) h) in
          ap sound_number (s.fields ∙ settled (reason_verdict (drive_reason l limit)) _ _ v)
          ∙ ring_sound _ (drive_sound (state_of l) limit (drive_judged (truths_test l) _ v));
      tree_start_ask = λ {nodes} {at} s.
          let v = code_accepted (tree_start.start_verdict nodes at) (sym s.told) in
          ap tree_sound_number (s.fields ∙ settled (tree_start.start_verdict nodes at) _ _ v) ∙ tree_sound _ ((tree.sound_kept).start nodes at v).sound;
      tree_step = λ {l} {after} {kind} {i} {j} s.
          let v = code_accepted (tree_step_verdict l kind i j) (sym s.told) in
          ap tree_sound_number (s.fields ∙ settled (tree_step_verdict l kind i j) _ _ v)
          ∙ tree_sound _ ((tree.sound_kept).step (tree_of l) (tree_rules.kind_of kind) i j (judged (tree_truths_test l) _ v));
      table = λ {m} {after} {a} e s.
          let v = table_judged (table_truths m) (verdict_on (table_in m) a) (code_accepted (ask_verdict m a) (sym s.told)) in
          ap table_sound_number s.fields ∙ left_sound m e v.0 a v.1;
      table_none = none_told;
    }
