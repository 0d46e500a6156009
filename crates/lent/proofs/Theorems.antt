-- What the contracts add up to. Assumes nothing.
use Prim.Native.Nat.{◌<◌}
use borrow.Author.Tests.{ne_eqb}
use mathlib.Core.Bool.{Bool, ◌&&◌, and-false, false}
use mathlib.Core.Path.{◌∙◌, ◌≡◌, ap, refl}
use native.Mathlib.Omega.{arith}
use Rattle.flag_bytes.proofs.Laws.{no_flag, no_flags}
use Rattle.flag_bytes.specs.Flags.{are_flags, is_flag}
use Rattle.refusal.proofs.Table.{not_both}
use Rattle.refusal.specs.Table.{code_of, settle}
use Rattle.refusal.specs.Table.{Verdict}
use Rattle.refusal.specs.Table.{Accepted, Refused}
use Rattle.ring_rules.specs.Driver.{reason_number, reason_verdict}
use Rattle.ring_rules.specs.Driver.{Reason}
use Rattle.ring_rules.specs.Driver.{Conclusive, Spent, Stopped, Waiting}
use Rattle.tree_text.specs.Read.{read_of}
use Rattle.ring_rules.specs.Start as ring
use Rattle.tree_rules.specs.Start as tree
use Rattle.lent.proofs.TableCalls.{answered_others, table_flags_fail}
use Rattle.lent.specs.Ring.{Lent, drive_reason, drive_verdict, truths_test, step_verdict}
use Rattle.lent.specs.Table.{LentTable, ask_verdict, fields_at, table_truths}
use Rattle.lent.specs.Tree.{LentTree, tree_truths_test, tree_step_verdict, write_verdict}
use Rattle.lent.specs.Theorems.{BytesJudged, NoFlag, NoTableFlag, NoTreeFlag, RefusalsKeep, in_active, in_black, in_closed}

-- ---- a refusal keeps

kept : {A : Type 0} (v : Verdict) (next same : A) → (v ≡ Accepted → ⊥) → settle v next same ≡ same
kept Accepted next same h = absurd (h refl)
kept (Refused e) next same h = refl

not_stopped : (w : Reason) → reason_number w < 100 → reason_verdict w ≡ Accepted → ⊥
not_stopped Conclusive h p = omega arith
not_stopped Waiting h p = omega arith
not_stopped Spent h p = omega arith
not_stopped (Stopped e) h p = not_both p refl

pub refusals_keep : RefusalsKeep
refusals_keep =
    record {
      start = λ {nodes} {number} {flags} s h. s.fields ∙ kept (ring.start_of nodes flags).verdict _ _ (λ p. h (s.told ∙ ap code_of p));
      step = λ {l} {after} {kind} {i} {j} s h. s.fields ∙ kept (step_verdict l kind i j) _ _ (λ p. h (s.told ∙ ap code_of p));
      drive = λ {l} {after} {limit} s h.
          let v = not_stopped (drive_reason l limit) (rw (← s.told) h) in (
            s.made ∙ kept (drive_verdict l limit) _ _ v,
            s.fields ∙ kept (drive_verdict l limit) _ _ v,
          );
      tree_start_ask = λ {nodes} {at} s h. s.fields ∙ kept (tree.start_of nodes at).verdict _ _ (λ p. h (s.told ∙ ap code_of p));
      tree_step = λ {l} {after} {kind} {i} {j} s h. s.fields ∙ kept (tree_step_verdict l kind i j) _ _ (λ p. h (s.told ∙ ap code_of p));
      write = λ {l} {buf} w h.
          let v : write_verdict l buf ≡ Accepted → ⊥ = λ p. h (w.told ∙ ap code_of p) in (
            w.long ∙ kept (write_verdict l buf) _ _ v,
            w.bytes ∙ kept (write_verdict l buf) _ _ v,
          );
      read = λ {n} {number} {root} {root'} {s} r h.
          let v : (read_of n s).verdict ≡ Accepted → ⊥ = λ p. h (r.told ∙ ap code_of p) in (
            r.engagers ∙ kept (read_of n s).verdict _ _ v,
            r.outermost ∙ kept (read_of n s).verdict _ _ v,
          );
      table = λ {m} {after} {a} s h. s.fields ∙ kept (ask_verdict m a) _ _ (λ p. h (s.told ∙ ap code_of p));
      table_others = λ {m} {after} {a} s v ne. ap (λ (l : LentTable). fields_at l v) s.fields ∙ answered_others m a v ne;
    }

-- ---- a byte above 1

flags_fail : {l : Lent} → NoFlag l → truths_test l ≡ false
unfolding truths_test
flags_fail {l} (in_active k h) = rw (no_flags l.active k h)
flags_fail {l} (in_black h) =
    ap (λ (b : Bool). are_flags l.active && (b && is_flag l.closed)) (no_flag l.black h) ∙ and-false (are_flags l.active)
flags_fail {l} (in_closed h) =
    ap (λ (b : Bool). are_flags l.active && (is_flag l.black && b)) (no_flag l.closed h)
    ∙ (ap (λ (b : Bool). are_flags l.active && b) (and-false (is_flag l.black)) ∙ and-false (are_flags l.active))

tree_flags_fail : {l : LentTree} → NoTreeFlag l → tree_truths_test l ≡ false
unfolding tree_truths_test
tree_flags_fail {l} (in_active k h) = rw (no_flags l.active k h)
tree_flags_fail {l} (in_closed h) = ap (λ (b : Bool). are_flags l.active && b) (no_flag l.closed h) ∙ and-false (are_flags l.active)

started_fail : {m : LentTable} → NoTableFlag m → table_truths m ≡ false
started_fail {m} f =
    let k = f.started in
    table_flags_fail m f.update f.inside (rw (ne_eqb (fields_at m f.update).n 0 (λ z. omega arith), flags_fail f.byte))

pub bytes_judged : BytesJudged
bytes_judged =
    record {
      step = λ n s. rw (flags_fail n) at s.told;
      sound = λ n. rw (flags_fail n);
      drive = λ n s. rw (flags_fail n) at s.told;
      tree_step = λ n s. rw (tree_flags_fail n) at s.told;
      tree_sound = λ n. rw (tree_flags_fail n);
      write = λ n w. rw (tree_flags_fail n) at w.told;
      table = λ n s. rw (started_fail n) at s.told;
      table_sound = λ n. rw (started_fail n);
    }
