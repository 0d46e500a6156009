-- What a request leaves of a table that is lent. Assumes nothing.
use Prim.Native.Nat.{◌<◌, ℕ}
use borrow.Author.Tests.{eq-eqb, ne_eqb}
use lib.Dec.{eqb}
use mathlib.Core.Bool.{Bool, ◌||◌, cond, false, true}
use mathlib.Core.Path.{◌∙◌, ◌≡◌, ap, refl, subst, sym}
use native.Mathlib.Decide.{ℕ_discrete}
use native.Mathlib.Omega.{arith}
use Rattle.laws.proofs.Places.{all_at, all_from}
use Rattle.laws.proofs.Tests.{false_true}
use Rattle.laws.specs.Places.{all_to}
use Rattle.refusal.proofs.Table.{not_both}
use Rattle.refusal.specs.Table.{settle}
use Rattle.refusal.specs.declared.Refusal.TheVariants.{Unsound}
use Rattle.refusal.specs.Table.{Verdict}
use Rattle.refusal.specs.Table.{Accepted, Refused}
use Rattle.ring_rules.specs.State.{State}
use Rattle.table_rules.proofs.Keeps.{after_sound, taken}
use Rattle.table_rules.proofs.Slots.{never_started, started_inside}
use Rattle.table_rules.proofs.Soundness.{true_table}
use Rattle.table_rules.specs.Answers.{Ask, after, names, next_table, slot_after, verdict_on}
use Rattle.table_rules.specs.Soundness.{SoundTable}
use Rattle.table_rules.specs.Table.{NotStarted, Slot, Started, put, slot_at, slot_of}
use Rattle.lent.proofs.Ring.{ring_held}
use Rattle.lent.proofs.Table.{in_at, in_places, put_eight, put_others, put_table, put_there}
use Rattle.lent.specs.Ring.{lent_of}
use Rattle.lent.specs.Table.{Eight, LentTable, ask_fields, ask_verdict, fields_at, place_truths, put_fields, put_slot, table_in, table_sound_number, table_truths}

-- ---- the other seven

pub answered_others : (m : LentTable) (a : Ask) (v : ℕ) → (v ≡ names a → ⊥) → fields_at (ask_fields m a) v ≡ fields_at m v
answered_others m a v ne = go (ask_verdict m a) (slot_after (slot_at (table_in m) (names a)) a)
  where
    go : (w : Verdict) (s : Slot) → fields_at (settle w (put_slot m (names a) s) m) v ≡ fields_at m v
    go Accepted NotStarted = refl
    go Accepted (Started r) = put_others m (names a) (lent_of r) v ne
    go (Refused e) s = refl

-- ---- truths

either : (a : Bool) {b : Bool} → b ≡ true → (a || b) ≡ true
either true e = refl
either false e = e

-- each byte that stands for a truth is a flag where a ring is put, and elsewhere as before
put_truths : (m : LentTable) → Eight m → (u : ℕ) → u < 8 → (r : State) → table_truths m ≡ true → table_truths (put_fields m u (lent_of r)) ≡ true
unfolding table_truths
put_truths m e u h r f = all_from 8 (λ v. place_truths (fields_at (put_fields m u (lent_of r)) v)) (λ v k. go v k (ℕ_discrete v u))
  where
    go : (v : ℕ) → v < 8 → Dec (v ≡ u) → place_truths (fields_at (put_fields m u (lent_of r)) v) ≡ true
    go v k (yes p) =
        ap (λ (w : ℕ). place_truths (fields_at (put_fields m u (lent_of r)) w)) p ∙ ap place_truths (put_there m u (lent_of r) e h)
        ∙ either (eqb r.n 0) (ring_held r).0
    go v k (no p) = ap place_truths (put_others m u (lent_of r) v p) ∙ all_at 8 (λ w. place_truths (fields_at m w)) f v k

pub table_flags_fail : (m : LentTable) (u : ℕ) → u < 8 → place_truths (fields_at m u) ≡ false → table_truths m ≡ false
unfolding table_truths
table_flags_fail m u h p = go (table_truths m) refl
  where
    go : (b : Bool) → table_truths m ≡ b → b ≡ false
    go true e = absurd (false_true (sym p ∙ all_at 8 (λ w. place_truths (fields_at m w)) e u h))
    go false e = refl

-- ---- the table that lies there then

-- columns of eight, their truths flags, in which the next table lies
pub record Left (m : LentTable) (a : Ask) (after : LentTable) : Type 0 where
  pub eight : Eight after
  pub truths : table_truths after ≡ true
  pub table : table_in after ≡ next_table (table_in m) a

module _ (m : LentTable) (e : Eight m) (f : table_truths m ≡ true) (a : Ask) where
  left_accepted : verdict_on (table_in m) a ≡ Accepted → Left m a (put_slot m (names a) (slot_after (slot_at (table_in m) (names a)) a))
  left_accepted p =
      let w = taken (table_in m) a p in
      let r = w.state in
      let h = w.changed.inside in
      let some : slot_of r ≡ Started r = rw (ne_eqb r.n 0 (λ z. (let k = w.changed.new.some_node in omega arith))) in
      let there : table_in (put_fields m (names a) (lent_of r)) ≡ after (table_in m) a = put_table m (names a) (lent_of r) e h
      ∙ ap (λ (x : State). put (table_in m) (names a) (slot_of x)) (ring_held r).1
      ∙ ap (put (table_in m) (names a)) (some ∙ sym w.becomes) in
      subst (λ (s : Slot). Left m a (put_slot m (names a) s)) (sym w.becomes)
      record {
        eight = put_eight m (names a) (lent_of r) e;
        truths = put_truths m e (names a) h r f;
        table = there ∙ sym (ap (λ (v : Verdict). settle v (after (table_in m) a) (table_in m)) p);
      }

  pub left_by : Left m a (ask_fields m a)
  left_by =
      let q : verdict_on (table_in m) a ≡ ask_verdict m a = rw f in
      subst (λ (v : Verdict). Left m a (settle v (put_slot m (names a) (slot_after (slot_at (table_in m) (names a)) a)) m)) q
      (go (verdict_on (table_in m) a) refl)
    where
      go : (v : Verdict) → verdict_on (table_in m) a ≡ v → Left m a (settle v (put_slot m (names a) (slot_after (slot_at (table_in m) (names a)) a)) m)
      go Accepted p = left_accepted p
      go (Refused x) p = record { eight = e; truths = f; table = sym (ap (λ (v : Verdict). settle v (after (table_in m) a) (table_in m)) p) }

  -- accepted: a sound one
  pub left_sound : verdict_on (table_in m) a ≡ Accepted → table_sound_number (ask_fields m a) ≡ 1
  left_sound p =
      let l = left_by in
      let next : next_table (table_in m) a ≡ after (table_in m) a = ap (λ (v : Verdict). settle v (after (table_in m) a) (table_in m)) p in
      rw (l.truths, l.table ∙ next, true_table (after (table_in m) a) (after_sound (table_in m) a p))

-- what is accepted had its bytes judged
pub table_judged : (b : Bool) (v : Verdict) → cond b v (Refused Unsound) ≡ Accepted → (b ≡ true) × (v ≡ Accepted)
table_judged true v p = (refl, p)
table_judged false v p = absurd (not_both p refl)

-- ---- nothing is started

module _ (m : LentTable) (z : (u : ℕ) → u < 8 → (fields_at m u).n ≡ 0) where
  none_at : (u : ℕ) → u < 8 → slot_at (table_in m) u ≡ NotStarted
  none_at u h = in_at m u h ∙ rw (eq-eqb _ _ (z u h))

  none_started : (u : ℕ) (r : State) → slot_at (table_in m) u ≡ Started r → ⊥
  none_started u r p = never_started (sym (none_at u (started_inside (table_in m) u r (in_places m) p)) ∙ p)

  none_sound : SoundTable (table_in m)
  none_sound =
      record {
        places = in_places m;
        each = λ u r p. absurd (none_started u r p);
        one_n = λ u v r s p p'. absurd (none_started u r p);
      }

  pub none_told : table_sound_number m ≡ 1
  unfolding table_truths
  none_told = rw (truths, true_table (table_in m) none_sound)
    where
      first : (u : ℕ) → u < 8 → place_truths (fields_at m u) ≡ true
      first u h = rw (eq-eqb _ _ (z u h))

      truths : all_to 8 (λ v. place_truths (fields_at m v)) ≡ true
      truths = all_from 8 (λ v. place_truths (fields_at m v)) first
