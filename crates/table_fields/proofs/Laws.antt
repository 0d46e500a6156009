-- The eight rings that are gathered one by one. Assumes nothing.
use Prim.Native.Nat.{◌+◌, ◌<◌, ◌≤◌, ℕ}
use borrow.Author.Tests.{eq-eqb, ne_eqb}
use lib.Dec.{eqb}
use lib.ListN.{get_or, length, length-map, length-set, set}
use lib.Seq.{get_or-set_other, get_or-set_same}
use mathlib.Core.Bool.{Bool, ◌||◌, cond, false, true}
use mathlib.Core.List.{List, map}
use mathlib.Core.Logic.{◌⊎◌, inl, inr}
use mathlib.Core.Path.{◌∙◌, ◌≡◌, ap, refl, sym}
use native.Mathlib.Decide.{ℕ_discrete}
use native.Mathlib.Omega.{arith}
use Rattle.std.specs.Prelude.{Result, Ok, Err}
use Rattle.std.proofs.lemmas.List.{get_or-replicate, map-set}
use Rattle.laws.proofs.Places.{all_at, all_from}
use Rattle.laws.proofs.Tests.{false_true, split}
use Rattle.laws.specs.Places.{all_to}
use Rattle.lent.proofs.Table.{in_all, table_accepted, table_inside, table_refused}
use Rattle.lent.specs.Ring.{Lent, lent_of, state_of, truths_test}
use Rattle.lent.specs.Table.{AnsweredTo, LentTable, fields_at, put_fields, place_truths, slot_in, table_in, table_truths}
use Rattle.refusal.specs.Answers.{Answer}
use Rattle.refusal.specs.Table.{Accepted, Refused, code_of, number_of}
use Rattle.refusal.specs.declared.Refusal.{Refusal}
use Rattle.refusal.specs.declared.Refusal.TheVariants.{Unsound}
use Rattle.ring_rules.specs.State.{State}
use Rattle.table.proofs.Laws.{slot_at_place}
use Rattle.table.specs.View.{Answered, seen, table, table_by}
use Rattle.table.specs.declared.state.Table as code
use Rattle.table_rules.specs.Answers.{Ask, answer_on, names}
use Rattle.ring_fields.specs.Fields.{ring_in}
use Rattle.table_rules.specs.Table.{NotStarted, Slot, Table, empty_table, slot_at, slot_of}

-- ---- one place

pub read_ring : (f : Lent) (r : State) → Ok r ≡ ring_in f → (truths_test f ≡ true) × (r ≡ state_of f)
read_ring f r e = go (truths_test f) refl e
  where
    get : Result State Refusal → State
    get (Ok s) = s
    get (Err x) = r

    is_ok : Result State Refusal → Bool
    is_ok (Ok s) = true
    is_ok (Err x) = false

    go : (b : Bool) → truths_test f ≡ b → Ok r ≡ cond b (Ok (state_of f)) (Err Unsound) → (truths_test f ≡ true) × (r ≡ state_of f)
    go true p q = (p, ap get q)
    go false p q = absurd (false_true (sym (ap is_ok q)))

pub read_none : (f : Lent) (x : Refusal) → Err x ≡ ring_in f → (truths_test f ≡ false) × (x ≡ Unsound)
read_none f x e = go (truths_test f) refl e
  where
    get : Result State Refusal → Refusal
    get (Ok s) = x
    get (Err y) = y

    is_ok : Result State Refusal → Bool
    is_ok (Ok s) = true
    is_ok (Err y) = false

    go : (b : Bool) → truths_test f ≡ b → Err x ≡ cond b (Ok (state_of f)) (Err Unsound) → (truths_test f ≡ false) × (x ≡ Unsound)
    go false p q = (p, ap get q)
    go true p q = absurd (false_true (ap is_ok q))

-- ---- the places below u are read, and nothing is started in the others

pub record Going (m : LentTable) (l : List State) (u : ℕ) : Type 0 where
  pub places : length l ≡ 8
  pub read : (v : ℕ) → v < u → slot_at (table_by l) v ≡ slot_in m v
  pub truths : (v : ℕ) → v < u → place_truths (fields_at m v) ≡ true
  pub rest : (v : ℕ) → u ≤ v → v < 8 → slot_at (table_by l) v ≡ NotStarted

module _ (m : LentTable) (l : List State) where
  pub going_first : length l ≡ 8 → table_by l ≡ empty_table → Going m l 0
  going_first n e =
      record {
        places = n;
        read = λ v h. absurd (omega arith);
        truths = λ v h. absurd (omega arith);
        rest = λ v h k. ap (λ (t : Table). slot_at t v) e ∙ get_or-replicate 8 v NotStarted NotStarted k;
      }

  module _ (u : ℕ) (g : Going m l u) (h : u < 8) where
    -- one that is not started
    pub going_past : get_or m.n u 0 ≡ 0 → Going m l (u + 1)
    going_past z =
        record {
          places = g.places;
          read = λ v k. read v k (ℕ_discrete v u);
          truths = λ v k. truths v k (ℕ_discrete v u);
          rest = λ v k i. g.rest v (omega arith) i;
        }
      where
        read : (v : ℕ) → v < u + 1 → Dec (v ≡ u) → slot_at (table_by l) v ≡ slot_in m v
        read v k (yes p) = g.rest v (omega arith) (omega arith) ∙ sym (ap (slot_in m) p ∙ rw (eq-eqb (get_or m.n u 0) 0 z))
        read v k (no p) = g.read v (omega arith)

        truths : (v : ℕ) → v < u + 1 → Dec (v ≡ u) → place_truths (fields_at m v) ≡ true
        truths v k (yes p) = ap (λ (w : ℕ). place_truths (fields_at m w)) p ∙ rw (eq-eqb (get_or m.n u 0) 0 z)
        truths v k (no p) = g.truths v (omega arith)

    -- one that is
    pub going_next : (get_or m.n u 0 ≡ 0 → ⊥) → (r : State) → Ok r ≡ ring_in (fields_at m u) → Going m (set l u r) (u + 1)
    going_next ne r e =
        record {
          places = length-set l u r ∙ g.places;
          read = λ v k. put v ∙ read v k (ℕ_discrete v u);
          truths = λ v k. truths v k (ℕ_discrete v u);
          rest = λ v k i. put v ∙ get_or-set_other (map slot_of l) u v (slot_of r) NotStarted (λ p. omega arith) ∙ g.rest v (omega arith) i;
        }
      where
        put : (v : ℕ) → slot_at (table_by (set l u r)) v ≡ get_or (set (map slot_of l) u (slot_of r)) v NotStarted
        put v = ap (λ (s : List Slot). get_or s v NotStarted) (map-set slot_of l u r)

        read : (v : ℕ) → v < u + 1 → Dec (v ≡ u) → get_or (set (map slot_of l) u (slot_of r)) v NotStarted ≡ slot_in m v
        read v k (yes p) =
            ap (λ (x : ℕ). get_or (set (map slot_of l) u (slot_of r)) x NotStarted) p
            ∙ get_or-set_same (map slot_of l) u (slot_of r) NotStarted (omega (arith, length-map l slot_of, g.places))
            ∙ ap slot_of (read_ring (fields_at m u) r e).1 ∙ ap (slot_in m) (sym p)
        read v k (no p) = get_or-set_other (map slot_of l) u v (slot_of r) NotStarted p ∙ g.read v (omega arith)

        truths : (v : ℕ) → v < u + 1 → Dec (v ≡ u) → place_truths (fields_at m v) ≡ true
        truths v k (yes p) =
            ap (λ (w : ℕ). place_truths (fields_at m w)) p
            ∙ ap (λ (b : Bool). eqb (get_or m.n u 0) 0 || b) (read_ring (fields_at m u) r e).0 ∙ rw (ne_eqb (get_or m.n u 0) 0 ne)
        truths v k (no p) = g.truths v (omega arith)

  pub going_last : (u : ℕ) → u ≡ 8 → Going m l u → (table_truths m ≡ true) × (table_by l ≡ table_in m)
  unfolding table_truths
  going_last u e g = (
    all_from 8 _ (λ v h. g.truths v (omega arith)),
    in_all m (table_by l) (length-map l slot_of ∙ g.places) (λ v h. g.read v (omega arith)),
  )

-- a started place whose truths are no flags
pub place_fails : (m : LentTable) (u : ℕ) → u < 8 → (get_or m.n u 0 ≡ 0 → ⊥) → truths_test (fields_at m u) ≡ false → table_truths m ≡ false
unfolding table_truths
place_fails m u h ne f = go (split (all_to 8 (λ v. place_truths (fields_at m v))))
  where
    fails : place_truths (fields_at m u) ≡ false
    fails = ap (λ (b : Bool). eqb (get_or m.n u 0) 0 || b) f ∙ rw (ne_eqb (get_or m.n u 0) 0 ne)

    go : (all_to 8 (λ v. place_truths (fields_at m v)) ≡ true) ⊎ (all_to 8 (λ v. place_truths (fields_at m v)) ≡ false) → all_to 8 (λ v. place_truths (fields_at m v)) ≡ false
    go (inr e) = e
    go (inl e) = absurd (false_true (sym fails ∙ all_at 8 (λ v. place_truths (fields_at m v)) e u h))

-- ---- an answer, by what the table of the code answers

pub found_by :
    (m : LentTable) (a : Ask) (t : code.Table) (s : Answer code.Table) → (table_truths m ≡ true) × (table t ≡ table_in m) → Answered t a s
    → seen s ≡ answer_on (table_in m) a
found_by m a t s l w = w.told ∙ ap (λ (k : Table). answer_on k a) l.1

module _ (m : LentTable) (a : Ask) (s : Answer code.Table) (f : table_truths m ≡ true) (p : seen s ≡ answer_on (table_in m) a) where
  pub put_inside : s.verdict ≡ Accepted → names a < 8
  put_inside v = table_inside m a (seen s) p f v

  pub put_refused : (e : Refusal) → s.verdict ≡ Refused e → AnsweredTo m a (number_of e) m
  put_refused e v = table_refused m a (seen s) p f v (ap code_of (sym v))

  -- the ring that stands at the update then is put there
  pub put_accepted :
      s.verdict ≡ Accepted → length s.state.rings ≡ 8 → (d : State) (l : Lent) (after : LentTable) → l ≡ lent_of (get_or s.state.rings (names a) d)
      → after ≡ put_fields m (names a) l → AnsweredTo m a 0 after
  put_accepted v n d l after e h =
      let inside = put_inside v in
      table_accepted m a (seen s) p f v (get_or s.state.rings (names a) d) (sym (slot_at_place s.state.rings (names a) d (omega (arith, inside, n))))
      (h ∙ ap (put_fields m (names a)) e)
