-- What the contracts of the exported functions add up to, of every number that they can answer.
use Rattle.std.specs.Prelude.{◌<◌, ◌≤◌, ℕ, get_or, true, List, ◌≡◌}
use Rattle.std.proofs.Math.ListN as ListN
use Rattle.flag_bytes.specs.Flags.{byte_of}
use Rattle.refusal.specs.Table.{code_of, settle}
use Rattle.ring_rules.specs.Driver.{drive_of, reason_number, reason_verdict}
use Rattle.table_rules.specs.Answers.{Ask, answer_on, names}
use Rattle.table_rules.specs.Soundness.{sound_table_test}
use Rattle.table_rules.specs.Table.{put, slot_of}
use Rattle.tree_text.specs.Read.{read_of}
use Rattle.tree_text.specs.Write.{buffer_of, state_text, write_verdict, written_number, written_of}
use Rattle.lent.specs.Ring.{DrivenTo, Lent, StartedTo, SteppedTo, truths_test, lent_of, sound_number, state_of}
use Rattle.lent.specs.Table.{AnsweredTo, Eight, LentTable, fields_at, put_fields, table_in, table_sound_number, table_truths}
use Rattle.lent.specs.Tree.{LentTree, ReadAs, TreeStartedTo, TreeSteppedTo, WrittenAs, lent_tree_of, tree_truths_test, tree_of, tree_sound_number}
use Rattle.ring_rules.specs.Answers as ring_answers
use Rattle.ring_rules.specs.Soundness as ring_sound
use Rattle.ring_rules.specs.Start as ring_start
use Rattle.ring_rules.specs.State as ring
use Rattle.tree_rules.specs.Answers as tree_answers
use Rattle.tree_rules.specs.Soundness as TreeSound
use Rattle.tree_rules.specs.Start as tree_start
use Rattle.tree_rules.specs.State as tree

-- "A refusal gives its number and the state handed in; no byte of a lent buffer differs": where the number is not 0, of the driver below 100,
-- every lent field is as it was
pub record RefusalsKeep : Type 0 where
  pub start :
      {nodes number : ℕ} {flags : List ℕ} {before after : Lent} → StartedTo nodes flags number before after → (number ≡ 0 → ⊥)
      → after ≡ before
  pub step :
      {l after : Lent} {kind i j number : ℕ} → SteppedTo l kind i j number after → (number ≡ 0 → ⊥) → after ≡ l
  pub drive :
      {l after : Lent} {limit number moves moves' : ℕ} → DrivenTo l limit number moves moves' after → number < 100
      → (moves' ≡ moves) × (after ≡ l)
  pub tree_start_ask :
      {nodes at number : ℕ} {before after : LentTree} → TreeStartedTo nodes at number before after → (number ≡ 0 → ⊥) → after ≡ before
  pub tree_step :
      {l after : LentTree} {kind i j number : ℕ} → TreeSteppedTo l kind i j number after → (number ≡ 0 → ⊥) → after ≡ l
  pub write :
      {l : LentTree} {buf buf' : List ℕ} {number length length' : ℕ} → WrittenAs l buf number length length' buf' → (number ≡ 0 → ⊥)
      → (length' ≡ length) × (buf' ≡ buf)
  pub read :
      {n number root root' : ℕ} {s engager engager' : List ℕ} → ReadAs n s number engager root engager' root' → (number ≡ 0 → ⊥)
      → (engager' ≡ engager) × (root' ≡ root)
  pub table : {m after : LentTable} {a : Ask} {number : ℕ} → AnsweredTo m a number after → (number ≡ 0 → ⊥) → after ≡ m
  -- whatever it is answered, a request leaves the places of the other seven updates, started or not
  pub table_others :
      {m after : LentTable} {a : Ask} {number : ℕ} → AnsweredTo m a number after → (v : ℕ) → (v ≡ names a → ⊥)
      → fields_at after v ≡ fields_at m v

-- a byte above 1 where a truth is lent, at whatever place
pub data NoFlag (l : Lent) : Type 0 where
  in_active : (k : ℕ) → 1 < get_or l.active k 0 → NoFlag l
  in_black : 1 < l.black → NoFlag l
  in_closed : 1 < l.closed → NoFlag l

pub data NoTreeFlag (l : LentTree) : Type 0 where
  in_active : (k : ℕ) → 1 < get_or l.active k 0 → NoTreeFlag l
  in_closed : 1 < l.closed → NoTreeFlag l

-- the same at a started update of a table
pub record NoTableFlag (m : LentTable) : Type 0 where
  pub update : ℕ
  pub inside : update < 8
  pub started : 0 < (fields_at m update).n
  pub byte : NoFlag (fields_at m update)

-- "any state handed in, 3, not sound": such a byte is answered 3, and told as not sound
pub record BytesJudged : Type 0 where
  pub step : {l after : Lent} {kind i j number : ℕ} → NoFlag l → SteppedTo l kind i j number after → number ≡ 3
  pub sound : {l : Lent} → NoFlag l → sound_number l ≡ 0
  pub drive : {l after : Lent} {limit number moves moves' : ℕ} → NoFlag l → DrivenTo l limit number moves moves' after → number ≡ 3
  pub tree_step : {l after : LentTree} {kind i j number : ℕ} → NoTreeFlag l → TreeSteppedTo l kind i j number after → number ≡ 3
  pub tree_sound : {l : LentTree} → NoTreeFlag l → tree_sound_number l ≡ 0
  pub write :
      {l : LentTree} {buf buf' : List ℕ} {number length length' : ℕ} → NoTreeFlag l → WrittenAs l buf number length length' buf'
      → number ≡ 3
  pub table : {m after : LentTable} {a : Ask} {number : ℕ} → NoTableFlag m → AnsweredTo m a number after → number ≡ 3
  pub table_sound : {m : LentTable} → NoTableFlag m → table_sound_number m ≡ 0

-- the fields that a state is put into hold truths as bytes, and the very state; where each byte that stands for a truth is 0 or 1, the fields are
-- those of the state that lies there
pub record FieldsHold : Type 0 where
  pub ring : (r : ring.State) → (truths_test (lent_of r) ≡ true) × (state_of (lent_of r) ≡ r)
  pub ring_back : (l : Lent) → truths_test l ≡ true → lent_of (state_of l) ≡ l
  pub tree : (t : tree.State) → (tree_truths_test (lent_tree_of t) ≡ true) × (tree_of (lent_tree_of t) ≡ t)
  pub tree_back : (l : LentTree) → tree_truths_test l ≡ true → lent_tree_of (tree_of l) ≡ l
  -- fields put at an update lie there, and the table that lies in the columns is the same but for that update
  pub table :
      (m : LentTable) → Eight m → (u : ℕ) → u < 8 → (l : Lent)
      → (fields_at (put_fields m u l) u ≡ l) × (table_in (put_fields m u l) ≡ put (table_in m) u (slot_of (state_of l)))
  pub table_back : (m : LentTable) (u : ℕ) → truths_test (fields_at m u) ≡ true → put_fields m u (lent_of (state_of (fields_at m u))) ≡ m

-- "Every start and accepted step gives a sound state": its fields are told as sound; so are those that a driver which was not refused leaves
pub record SoundLeft : Type 0 where
  pub start : {nodes : ℕ} {flags : List ℕ} {before after : Lent} → StartedTo nodes flags 0 before after → sound_number after ≡ 1
  pub step : {l after : Lent} {kind i j : ℕ} → SteppedTo l kind i j 0 after → sound_number after ≡ 1
  pub drive :
      {l after : Lent} {limit number moves moves' : ℕ} → DrivenTo l limit number moves moves' after → 100 ≤ number
      → sound_number after ≡ 1
  pub tree_start_ask : {nodes at : ℕ} {before after : LentTree} → TreeStartedTo nodes at 0 before after → tree_sound_number after ≡ 1
  pub tree_step : {l after : LentTree} {kind i j : ℕ} → TreeSteppedTo l kind i j 0 after → tree_sound_number after ≡ 1
  pub table : {m after : LentTable} {a : Ask} → Eight m → AnsweredTo m a 0 after → table_sound_number after ≡ 1
  -- columns in which no update is started are sound, whatever else they hold
  pub table_none : (m : LentTable) → ((u : ℕ) → u < 8 → (fields_at m u).n ≡ 0) → table_sound_number m ≡ 1

-- each call is the operation by value, of the state that is lent and of the very numbers that are handed in, whatever their size
pub record CallsAnswer : Type 0 where
  pub start :
      {nodes number : ℕ} {flags : List ℕ} {before after : Lent} → StartedTo nodes flags number before after
      → (number ≡ code_of (ring_start.start_of nodes flags).verdict)
      × (after ≡ settle (ring_start.start_of nodes flags).verdict (lent_of (ring_start.start_of nodes flags).state) before)
  pub step :
      (r : ring.State) {kind i j number : ℕ} {after : Lent} → SteppedTo (lent_of r) kind i j number after
      → (number ≡ code_of (ring_answers.step_of r kind i j).verdict) × (after ≡ lent_of (ring_answers.step_of r kind i j).state)
  pub sound : (r : ring.State) → sound_number (lent_of r) ≡ byte_of (ring_sound.sound_test r)
  pub drive :
      (r : ring.State) {limit number moves moves' : ℕ} {after : Lent} → DrivenTo (lent_of r) limit number moves moves' after
      → (number ≡ reason_number (drive_of r limit).reason) × (after ≡ lent_of (drive_of r limit).state)
      × (moves' ≡ settle (reason_verdict (drive_of r limit).reason) (drive_of r limit).moves moves)
  pub tree_start_ask :
      {nodes at number : ℕ} {before after : LentTree} → TreeStartedTo nodes at number before after
      → (number ≡ code_of (tree_start.start_of nodes at).verdict)
      × (after ≡ settle (tree_start.start_of nodes at).verdict (lent_tree_of (tree_start.start_of nodes at).state) before)
  pub tree_step :
      (t : tree.State) {kind i j number : ℕ} {after : LentTree} → TreeSteppedTo (lent_tree_of t) kind i j number after
      → (number ≡ code_of (tree_answers.step_of t kind i j).verdict) × (after ≡ lent_tree_of (tree_answers.step_of t kind i j).state)
  pub tree_sound : (t : tree.State) → tree_sound_number (lent_tree_of t) ≡ byte_of (TreeSound.sound_test t)
  pub write :
      (t : tree.State) {buf buf' : List ℕ} {number length length' : ℕ} → WrittenAs (lent_tree_of t) buf number length length' buf'
      → (number ≡ written_number (written_of t buf)) × (buf' ≡ buffer_of t buf)
      × (length' ≡ settle (write_verdict t buf) (ListN.length (state_text t)) length)
  pub read :
      {n number root root' : ℕ} {s engager engager' : List ℕ} → ReadAs n s number engager root engager' root'
      → (number ≡ code_of (read_of n s).verdict) × (engager' ≡ settle (read_of n s).verdict (read_of n s).engager engager)
      × (root' ≡ settle (read_of n s).verdict (read_of n s).root root)
  -- of a table that lies in columns of eight, and lies in such columns again
  pub table :
      (m : LentTable) → Eight m → table_truths m ≡ true → {a : Ask} {number : ℕ} {after : LentTable} → AnsweredTo m a number after
      → (number ≡ code_of (answer_on (table_in m) a).verdict) × (table_in after ≡ (answer_on (table_in m) a).table)
      × (table_truths after ≡ true) × Eight after
  pub table_sound : (m : LentTable) → table_truths m ≡ true → table_sound_number m ≡ byte_of (sound_table_test (table_in m))
