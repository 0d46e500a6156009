-- Each call is the operation by value, of the state that is lent. Assumes nothing.
use Prim.Native.Nat.{ℕ}
use borrow.Author.Tests.{ltb-false, not-false}
use mathlib.Core.Path.{◌∙◌, ◌≡◌, ap, refl, subst, sym}
use Rattle.refusal.proofs.Table.{none_holds}
use Rattle.refusal.specs.Table.{NoneHolds, also, first_of, none, settle}
use Rattle.refusal.specs.declared.Refusal.{Refusal}
use Rattle.refusal.specs.Table.{Verdict}
use Rattle.refusal.specs.Table.{Accepted, Refused}
use Rattle.ring_rules.proofs.Theorems.{driver_counts}
use Rattle.ring_rules.specs.Driver.{drive_of, drive_table, move_limit, reason_verdict}
use Rattle.ring_rules.specs.Theorems.{Ended, concluded, spends, waits}
use Rattle.table_rules.specs.Answers.{answer_on}
use Rattle.tree_text.specs.Write.{buffer_of, write_verdict, written_of}
use Rattle.lent.proofs.Sound.{fields_hold}
use Rattle.lent.proofs.TableCalls.{left_by}
use Rattle.lent.proofs.Tree.{number_told}
use Rattle.lent.specs.Ring.{lent_of}
use Rattle.lent.specs.Table.{Eight, table_in, table_truths}
use Rattle.lent.specs.Theorems.{CallsAnswer}
use Rattle.lent.specs.Tree.{lent_tree_of}
use Rattle.ring_rules.proofs.Theorems as ring
use Rattle.ring_rules.specs.Answers as ring_answers
use Rattle.ring_rules.specs.Rules as ring_rules
use Rattle.ring_rules.specs.Soundness as ring_sound
use Rattle.ring_rules.specs.State as ring_state
use Rattle.tree_rules.proofs.Theorems as tree
use Rattle.tree_rules.specs.Answers as tree_answers
use Rattle.tree_rules.specs.Rules as tree_rules

-- where a refusal leaves the state, what is left is the fields of the answer's state
left : {A B : Type 0} (f : A → B) (v : Verdict) (s r : A) → ((e : Refusal) → v ≡ Refused e → s ≡ r) → settle v (f s) (f r) ≡ f s
left f Accepted s r h = refl
left f (Refused e) s r h = sym (ap f (h e refl))

module _ (r : ring_state.State) (m : ℕ) where
  abbrev DriveLeft : Type 0
  DriveLeft = settle (reason_verdict (drive_of r m).reason) (lent_of (drive_of r m).state) (lent_of r) ≡ lent_of (drive_of r m).state

  ended : Ended (drive_of r m) m → DriveLeft
  ended (concluded p _ _) = rw p
  ended (waits p _ _ _ _) = rw p
  ended (spends p _ _ _ _) = rw p

  open_drive : NoneHolds (drive_table r m) → DriveLeft
  open_drive (also s (also c (also l none))) =
      ended (driver_counts.drives r m
      record { sound = (ring.sound_tested).holds r (not-false (ring_sound.sound_test r) s); running = c }
      (ltb-false move_limit m l)).end

  drive_left : DriveLeft
  drive_left = go (first_of (drive_table r m)) refl
    where
      go : (v : Verdict) → first_of (drive_table r m) ≡ v → DriveLeft
      go Accepted p = open_drive (none_holds (drive_table r m) p)
      go (Refused e) p = rw (driver_counts.refused r m e p)

pub calls_answer : CallsAnswer
unfolding ring_answers.answer_of tree_answers.answer_of written_of buffer_of answer_on
calls_answer =
    record {
      start = λ s. (s.told, s.fields);
      step = λ r {kind} {i} {j} s. (
        rw ((fields_hold.ring r).0, (fields_hold.ring r).1) at s.told,
        (rw ((fields_hold.ring r).0, (fields_hold.ring r).1) at s.fields)
            ∙ left lent_of (ring_answers.verdict_of r (ring_rules.kind_of kind) i j) _ r
            (λ e p. (ring.step_answered).same r (ring_rules.kind_of kind) i j e p),
      );
      sound = λ r. rw ((fields_hold.ring r).0, (fields_hold.ring r).1);
      drive = λ r {limit} s. (
        rw ((fields_hold.ring r).0, (fields_hold.ring r).1) at s.told,
        (rw ((fields_hold.ring r).0, (fields_hold.ring r).1) at s.fields) ∙ drive_left r limit,
        rw ((fields_hold.ring r).0, (fields_hold.ring r).1) at s.made,
      );
      tree_start_ask = λ s. (s.told, s.fields);
      tree_step = λ t {kind} {i} {j} s. (
        rw ((fields_hold.tree t).0, (fields_hold.tree t).1) at s.told,
        (rw ((fields_hold.tree t).0, (fields_hold.tree t).1) at s.fields)
            ∙ left lent_tree_of (tree_answers.verdict_of t (tree_rules.kind_of kind) i j) _ t
            (λ e p. (tree.step_answered).same t (tree_rules.kind_of kind) i j e p),
      );
      tree_sound = λ t. rw ((fields_hold.tree t).0, (fields_hold.tree t).1);
      write = λ t {buf} w. (
        (rw ((fields_hold.tree t).0, (fields_hold.tree t).1) at w.told) ∙ sym (number_told (write_verdict t buf) _),
        rw ((fields_hold.tree t).0, (fields_hold.tree t).1) at w.bytes,
        rw ((fields_hold.tree t).0, (fields_hold.tree t).1) at w.long,
      );
      read = λ r. (r.told, r.engagers, r.outermost);
      table = λ m e f {a} s.
          let l = left_by m e f a in (
            rw f at s.told,
            ap table_in s.fields ∙ l.table,
            ap table_truths s.fields ∙ l.truths,
            subst Eight (sym s.fields) l.eight,
          );
      table_sound = λ m f. rw f;
    }
