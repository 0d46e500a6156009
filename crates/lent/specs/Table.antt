-- Q-1: a table of eight updates that is lent field by field, a column of eight places for each field of a ring, truths as bytes as in Ring.antt.
-- An update of no nodes is not started: no answer depends on the rest of its place.
use Rattle.std.specs.Prelude.{ℕ, eqb, pos, ℤ, get_or, length, set, Bool, ◌&&◌, ◌||◌, cond, List, [], ◌∷◌, ◌≡◌}
use Rattle.flag_bytes.specs.Flags.{byte_of}
use Rattle.laws.specs.Places.{all_to}
use Rattle.refusal.specs.Table.{code_of, settle}
use Rattle.refusal.specs.declared.Refusal.TheVariants.{Unsound}
use Rattle.refusal.specs.Table.{Verdict}
use Rattle.refusal.specs.Table.{Refused}
use Rattle.table_rules.specs.Answers.{Ask, names, slot_after, verdict_on}
use Rattle.table_rules.specs.Soundness.{sound_table_test}
use Rattle.table_rules.specs.Table.{NotStarted, Slot, Started, Table, slot_at, slot_of}
use Rattle.lent.specs.Ring.{Lent, lent, lent_of, state_of, truths_test}

pub record LentTable : Type 0 where
  pub n : List ℕ
  pub pos : List ℕ
  pub q : List ℤ
  pub black : List ℕ
  pub closed : List ℕ
  pub active : List (List ℕ)
  pub color : List (List ℕ)
  pub sent : List (List ℕ)
  pub received : List (List ℕ)
  pub pending : List (List ℕ)

abbrev pub lent_table :
    List ℕ → List ℕ → List ℤ → List ℕ → List ℕ → List (List ℕ) → List (List ℕ) → List (List ℕ) → List (List ℕ) → List (List ℕ) → LentTable
lent_table n at q black closed active color sent received pending =
    record {
      n = n;
      pos = at;
      q = q;
      black = black;
      closed = closed;
      active = active;
      color = color;
      sent = sent;
      received = received;
      pending = pending;
    }

-- every column has eight places, as those of other languages have
pub record Eight (m : LentTable) : Type 0 where
  pub n : length m.n ≡ 8
  pub pos : length m.pos ≡ 8
  pub q : length m.q ≡ 8
  pub black : length m.black ≡ 8
  pub closed : length m.closed ≡ 8
  pub active : length m.active ≡ 8
  pub color : length m.color ≡ 8
  pub sent : length m.sent ≡ 8
  pub received : length m.received ≡ 8
  pub pending : length m.pending ≡ 8

-- the fields of update u, and other fields put there: no other update's place is touched
abbrev pub fields_at : LentTable → ℕ → Lent
fields_at m u =
    lent (get_or m.n u 0) (get_or m.active u []) (get_or m.color u []) (get_or m.sent u []) (get_or m.received u []) (get_or m.pending u [])
    (get_or m.pos u 0) (get_or m.q u (pos 0)) (get_or m.black u 0) (get_or m.closed u 0)

abbrev pub put_fields : LentTable → ℕ → Lent → LentTable
put_fields m u l =
    lent_table (set m.n u l.n) (set m.pos u l.pos) (set m.q u l.q) (set m.black u l.black) (set m.closed u l.closed)
    (set m.active u l.active) (set m.color u l.color) (set m.sent u l.sent) (set m.received u l.received)
    (set m.pending u l.pending)

-- each byte that stands for a truth of a started update is 0 or 1
abbrev pub place_truths : Lent → Bool
place_truths l = eqb l.n 0 || truths_test l

unfoldable pub table_truths : LentTable → Bool
table_truths m = all_to 8 (λ u. place_truths (fields_at m u))

-- the table that lies there
abbrev pub slot_in : LentTable → ℕ → Slot
slot_in m u = slot_of (state_of (fields_at m u))

unfoldable pub table_in : LentTable → Table
table_in m =
    record { slots = slot_in m 0 ∷ slot_in m 1 ∷ slot_in m 2 ∷ slot_in m 3 ∷ slot_in m 4 ∷ slot_in m 5 ∷ slot_in m 6 ∷ slot_in m 7 ∷ [] }

-- ---- soundness: 1 where the table is sound, else 0

abbrev pub table_sound_number : LentTable → ℕ
table_sound_number m = byte_of (table_truths m && sound_table_test (table_in m))

-- ---- a start or a step: the number of its answer, and the columns afterwards

abbrev pub ask_verdict : LentTable → Ask → Verdict
ask_verdict m a = cond (table_truths m) (verdict_on (table_in m) a) (Refused Unsound)

abbrev pub ask_number : LentTable → Ask → ℕ
ask_number m a = code_of (ask_verdict m a)

abbrev pub put_slot : LentTable → ℕ → Slot → LentTable
put_slot m u NotStarted = m
put_slot m u (Started r) = put_fields m u (lent_of r)

-- what an accepted request makes of its update is put at its place; where it is refused, those that were lent
abbrev pub ask_fields : LentTable → Ask → LentTable
ask_fields m a = settle (ask_verdict m a) (put_slot m (names a) (slot_after (slot_at (table_in m) (names a)) a)) m

pub record AnsweredTo (m : LentTable) (a : Ask) (number : ℕ) (after : LentTable) : Type 0 where
  pub told : number ≡ ask_number m a
  pub fields : after ≡ ask_fields m a
