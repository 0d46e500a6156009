-- Calls on a table, one by one and in lists. Assumes nothing.
use Prim.Native.Nat.{◌<◌, ℕ}
use borrow.Author.Tests.{eqb-false}
use lib.Dec.{eqb}
use mathlib.Core.Bool.{Bool, ◌||◌, cond, false, true}
use mathlib.Core.List.{List, [], ◌∷◌, map}
use mathlib.Core.Path.{◌∙◌, ◌≡◌, ap, ap₂, refl, sym}
use native.Mathlib.Decide.{ℕ_discrete}
use native.Mathlib.Omega.{arith}
use Rattle.laws.proofs.Places.{all_at}
use Rattle.lent.proofs.Calls.{calls_answer}
use Rattle.lent.proofs.Sound.{fields_hold}
use Rattle.lent.proofs.Table.{in_at, in_places}
use Rattle.lent.proofs.Theorems.{refusals_keep}
use Rattle.lent.specs.Ring.{lent_of, state_of, truths_test}
use Rattle.lent.specs.Table.{Eight, LentTable, ask_fields, ask_number, fields_at, place_truths, table_in, table_truths}
use Rattle.refusal.proofs.Table.{number_range}
use Rattle.refusal.specs.Table.{code_of, number_of, settle}
use Rattle.refusal.specs.Table.{Verdict}
use Rattle.refusal.specs.Table.{Accepted, Refused}
use Rattle.ring_rules.specs.State.{State}
use Rattle.runs.specs.Runs.{run_of}
use Rattle.table_rules.proofs.Keeps.{after_own, taken}
use Rattle.table_rules.proofs.Slots.{never_started, put_other, same_state, started_inside}
use Rattle.table_rules.specs.Answers.{Ask, after, answer_on, names, next_table, verdict_on}
use Rattle.table_rules.specs.Runs.{answers_of, naming, table}
use Rattle.table_rules.specs.Table.{NotStarted, Slot, Started, Table, slot_at}
use Rattle.table_rules.specs.Theorems.{Alike}
use Rattle.lent_runs.specs.Table.{columns_after, numbers_to}

-- columns of eight, their truths flags, in which the table that the run comes to lies
pub record Comes (m : LentTable) (ls : List Ask) : Type 0 where
  pub eight : Eight (columns_after m ls)
  pub truths : table_truths (columns_after m ls) ≡ true
  pub table_there : table_in (columns_after m ls) ≡ run_of table (table_in m) ls

pub comes : (m : LentTable) → Eight m → table_truths m ≡ true → (ls : List Ask) → Comes m ls
unfolding columns_after run_of answer_on
comes m e f [] = record { eight = e; truths = f; table_there = refl }
comes m e f (a ∷ ls) =
    let w = calls_answer.table m e f {a = a} {number = ask_number m a} {after = ask_fields m a} (record { told = refl; fields = refl }) in
    let r = comes (ask_fields m a) w.3 w.2 ls in
    record { eight = r.eight; truths = r.truths; table_there = r.table_there ∙ ap (λ (t : Table). run_of table t ls) w.1 }

-- the place of an update that no request names
pub unnamed : (u : ℕ) (m : LentTable) (ls : List Ask) → naming u ls ≡ [] → fields_at (columns_after m ls) u ≡ fields_at m u
unfolding columns_after
unnamed u m [] e = refl
unnamed u m (a ∷ ls) e = go (eqb (names a) u) refl e (unnamed u (ask_fields m a) ls)
  where
    go :
        (b : Bool) → eqb (names a) u ≡ b → cond b (a ∷ naming u ls) (naming u ls) ≡ []
        → (naming u ls ≡ [] → fields_at (columns_after (ask_fields m a) ls) u ≡ fields_at (ask_fields m a) u)
        → fields_at (columns_after (ask_fields m a) ls) u ≡ fields_at m u
    go true p q ih = absurd (never q)
      where
        never : {x : Ask} {l : List Ask} → x ∷ l ≡ [] → ⊥
        never z = let k : ◌≡◌ {A = ℕ} 0 1 = cc in omega arith
    go false p q ih =
        ih q
        ∙ refusals_keep.table_others {m = m} {after = ask_fields m a} {a = a} {number = ask_number m a} (record { told = refl; fields = refl }) u
        (λ z. eqb-false (names a) u p (sym z))

-- ---- two tables

-- the numbers are those of the table's answers
pub numbers_told :
    (u : ℕ) (ls : List Ask) (m : LentTable) → Eight m → table_truths m ≡ true → numbers_to u m ls ≡ map code_of (answers_of u (table_in m) ls)
unfolding numbers_to answers_of answer_on
numbers_told u [] m e f = refl
numbers_told u (a ∷ ls) m e f =
    let w = calls_answer.table m e f {a = a} {number = ask_number m a} {after = ask_fields m a} (record { told = refl; fields = refl }) in
    go (eqb (names a) u) w.0 (numbers_told u ls (ask_fields m a) w.3 w.2 ∙ ap (λ (t : Table). map code_of (answers_of u t ls)) w.1)
  where
    go :
        (b : Bool) → ask_number m a ≡ code_of (verdict_on (table_in m) a)
        → numbers_to u (ask_fields m a) ls ≡ map code_of (answers_of u (next_table (table_in m) a) ls)
        → cond b (ask_number m a ∷ numbers_to u (ask_fields m a) ls) (numbers_to u (ask_fields m a) ls)
        ≡ map code_of (cond b (verdict_on (table_in m) a ∷ answers_of u (next_table (table_in m) a) ls) (answers_of u (next_table (table_in m) a) ls))
    go true k ih = ap₂ (λ (n : ℕ) (l : List ℕ). n ∷ l) k ih
    go false k ih = ih

-- the bytes of a started update are its ring's
started_fields : (m : LentTable) → table_truths m ≡ true → (u : ℕ) → u < 8 → (s : State) → slot_at (table_in m) u ≡ Started s → fields_at m u ≡ lent_of s
unfolding table_truths
started_fields m f u h s at = go (eqb (fields_at m u).n 0) refl (all_at 8 (λ v. place_truths (fields_at m v)) f u h) (sym (in_at m u h) ∙ at)
  where
    go :
        (b : Bool) → eqb (fields_at m u).n 0 ≡ b → (b || truths_test (fields_at m u)) ≡ true
        → cond b NotStarted (Started (state_of (fields_at m u))) ≡ Started s → fields_at m u ≡ lent_of s
    go true e t q = absurd (never_started q)
    go false e t q = sym (fields_hold.ring_back (fields_at m u) t) ∙ ap lent_of (same_state q)

-- a started update stays so
stays : (t : Table) (a : Ask) (u : ℕ) (r : State) → slot_at t u ≡ Started r → slot_at (next_table t a) u ≡ NotStarted → ⊥
stays t a u r at e = go (ℕ_discrete u (names a)) (verdict_on t a) refl e
  where
    go : Dec (u ≡ names a) → (v : Verdict) → verdict_on t a ≡ v → slot_at (settle v (after t a) t) u ≡ NotStarted → ⊥
    go (yes p) Accepted q z =
        never_started (sym (ap (slot_at (after t a)) (sym p) ∙ z) ∙ after_own t a q ∙ (taken t a q).becomes)
    go (no p) Accepted q z = never_started (sym z ∙ put_other t (names a) u _ p ∙ at)
    go d (Refused f) q z = never_started (sym z ∙ at)

not_yet : (ls : List Ask) (t : Table) (u : ℕ) → slot_at (run_of table t ls) u ≡ NotStarted → slot_at t u ≡ NotStarted
unfolding run_of
not_yet [] t u e = e
not_yet (a ∷ ls) t u e = go (slot_at t u) refl (not_yet ls (next_table t a) u e)
  where
    go : (s : Slot) → slot_at t u ≡ s → slot_at (next_table t a) u ≡ NotStarted → slot_at t u ≡ NotStarted
    go NotStarted at z = at
    go (Started r) at z = absurd (stays t a u r at z)

-- the bytes of an update that is not started are as they were
kept_fields :
    (u : ℕ) (ls : List Ask) (m : LentTable) → Eight m → table_truths m ≡ true → slot_at (run_of table (table_in m) ls) u ≡ NotStarted
    → fields_at (columns_after m ls) u ≡ fields_at m u
unfolding columns_after run_of answer_on
kept_fields u [] m e f z = refl
kept_fields u (a ∷ ls) m e f z =
    let w = calls_answer.table m e f {a = a} {number = ask_number m a} {after = ask_fields m a} (record { told = refl; fields = refl }) in
    let z' : slot_at (run_of table (table_in (ask_fields m a)) ls) u ≡ NotStarted = ap (λ (t : Table). slot_at (run_of table t ls) u) w.1 ∙ z in
    kept_fields u ls (ask_fields m a) w.3 w.2 z'
    ∙ go (ℕ_discrete u (names a)) (verdict_on (table_in m) a) refl w.0 (not_yet ls (next_table (table_in m) a) u z)
  where
    go :
        Dec (u ≡ names a) → (v : Verdict) → verdict_on (table_in m) a ≡ v → ask_number m a ≡ code_of (verdict_on (table_in m) a)
        → slot_at (next_table (table_in m) a) u ≡ NotStarted → fields_at (ask_fields m a) u ≡ fields_at m u
    go (no p) v q k n =
        refusals_keep.table_others {m = m} {after = ask_fields m a} {a = a} {number = ask_number m a} (record { told = refl; fields = refl }) u p
    go (yes p) Accepted q k n =
        absurd
        (never_started
        (sym (ap (slot_at (after (table_in m) a)) (sym p) ∙ sym (ap (λ (v : Verdict). slot_at (settle v (after (table_in m) a) (table_in m)) u) q) ∙ n)
        ∙ after_own (table_in m) a q ∙ (taken (table_in m) a q).becomes))
    go (yes p) (Refused x) q k n =
        ap (λ (l : LentTable). fields_at l u)
        (refusals_keep.table {m = m} {after = ask_fields m a} {a = a} {number = ask_number m a} (record { told = refl; fields = refl })
        (λ o. let z : number_of x ≡ 0 = sym (ap code_of q) ∙ sym k ∙ o in let p = number_range x in omega arith))

-- where it stands after calls
module _ (m : LentTable) (e : Eight m) (f : table_truths m ≡ true) (u : ℕ) (ls : List Ask) where
  c : Comes m ls
  c = comes m e f ls

  pub fields_then : (r : State) → slot_at (run_of table (table_in m) ls) u ≡ Started r → fields_at (columns_after m ls) u ≡ lent_of r
  fields_then r at =
      let here : slot_at (table_in (columns_after m ls)) u ≡ Started r = ap (λ (t : Table). slot_at t u) c.table_there ∙ at in
      started_fields (columns_after m ls) c.truths u (started_inside (table_in (columns_after m ls)) u r (in_places (columns_after m ls)) here) r here

module _
    (m m' : LentTable) (e : Eight m) (e' : Eight m') (f : table_truths m ≡ true) (f' : table_truths m' ≡ true) (u : ℕ) (ls ls' : List Ask)
    (w : Alike (table_in m) (table_in m') u ls ls') where
  pub same_numbers : numbers_to u m ls ≡ numbers_to u m' ls'
  same_numbers = numbers_told u ls m e f ∙ ap (map code_of) w.answers ∙ sym (numbers_told u ls' m' e' f')

  there : slot_at (table_in (columns_after m ls)) u ≡ slot_at (run_of table (table_in m) ls) u
  there = ap (λ (t : Table). slot_at t u) (comes m e f ls).table_there

  pub same_fields :
      (r : State) → slot_at (table_in (columns_after m ls)) u ≡ Started r
      → (fields_at (columns_after m ls) u ≡ lent_of r) × (fields_at (columns_after m' ls') u ≡ lent_of r)
  same_fields r at = let z = sym there ∙ at in (fields_then m e f u ls r z, fields_then m' e' f' u ls' r (sym w.slot ∙ z))

  pub left_fields :
      slot_at (table_in (columns_after m ls)) u ≡ NotStarted
      → (fields_at (columns_after m ls) u ≡ fields_at m u) × (fields_at (columns_after m' ls') u ≡ fields_at m' u)
  left_fields at = let z = sym there ∙ at in (kept_fields u ls m e f z, kept_fields u ls' m' e' f' (sym w.slot ∙ z))
