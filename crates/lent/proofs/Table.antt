-- The equations of the table's contracts, by what the code found. Assumes nothing.
use Prim.Native.Nat.{◌<◌, suc, zero, ℕ}
use lib.Dec.{eqb}
use lib.IntN.{pos}
use lib.ListN.{length, length-set}
use lib.Seq.{ext_get_or, get_or-set_other, get_or-set_same, set-get_or}
use mathlib.Core.Bool.{Bool, cond, false, true}
use mathlib.Core.List.{List, []}
use mathlib.Core.Logic.{inr}
use mathlib.Core.Path.{◌∙◌, ◌≡◌, ap, ap₂, refl, sym}
use native.Mathlib.Decide.{ℕ_discrete}
use native.Mathlib.Omega.{arith}
use Rattle.flag_bytes.proofs.Laws.{narrow_same}
use Rattle.flag_bytes.specs.Narrow.{kind_byte}
use Rattle.refusal.proofs.Table.{other_kind}
use Rattle.refusal.specs.Table.{code_of, first_of, settle}
use Rattle.refusal.specs.declared.Refusal.{Refusal}
use Rattle.refusal.specs.declared.Refusal.TheVariants.{Unsound}
use Rattle.refusal.specs.Table.{Verdict}
use Rattle.refusal.specs.Table.{Accepted, Refused}
use Rattle.ring_rules.specs.Rules.{Announce, Idle, Kind, Pass, Probe, Send, Take, Unknown, effect, kind_of}
use Rattle.ring_rules.specs.State.{State}
use Rattle.table_rules.proofs.Keeps.{next_own, taken}
use Rattle.table_rules.proofs.Slots.{never_started, same_state}
use Rattle.table_rules.specs.Answers.{Ask, TableAnswer, answer_on, names, slot_after, step_ask, update_rows, verdict_on}
use Rattle.table_rules.specs.Table.{NotStarted, Slot, Started, Table, put, slot_at, slot_of}
use Rattle.lent.specs.Ring.{Lent, lent_of, state_of}
use Rattle.lent.specs.Table.{AnsweredTo, Eight, LentTable, ask_verdict, fields_at, put_fields, put_slot, slot_in, table_in, table_truths}

-- ---- the eight places

pub in_at : (m : LentTable) (u : ℕ) → u < 8 → slot_at (table_in m) u ≡ slot_in m u
unfolding table_in
in_at m zero h = refl
in_at m (suc zero) h = refl
in_at m (suc (suc zero)) h = refl
in_at m (suc (suc (suc zero))) h = refl
in_at m (suc (suc (suc (suc zero)))) h = refl
in_at m (suc (suc (suc (suc (suc zero))))) h = refl
in_at m (suc (suc (suc (suc (suc (suc zero)))))) h = refl
in_at m (suc (suc (suc (suc (suc (suc (suc zero))))))) h = refl
in_at m (suc (suc (suc (suc (suc (suc (suc (suc u)))))))) h = absurd (omega arith)

pub in_places : (m : LentTable) → length (table_in m).slots ≡ 8
unfolding table_in
in_places m = refl

-- a list of eight slots that are those of the places
pub in_all : (m : LentTable) (t : Table) → length t.slots ≡ 8 → ((u : ℕ) → u < 8 → slot_at t u ≡ slot_in m u) → t ≡ table_in m
in_all m t l h =
    ap {B = Table} (λ (s : List Slot). record { slots = s })
    (ext_get_or NotStarted t.slots (table_in m).slots (l ∙ sym (in_places m)) (λ u k. h u (omega arith) ∙ sym (in_at m u (omega arith))))

module _ (m : LentTable) (u : ℕ) (l : Lent) where
  pub put_others : (v : ℕ) → (v ≡ u → ⊥) → fields_at (put_fields m u l) v ≡ fields_at m v
  put_others v ne =
      rw (
        get_or-set_other m.n u v l.n 0 ne,
        get_or-set_other m.active u v l.active [] ne,
        get_or-set_other m.color u v l.color [] ne,
        get_or-set_other m.sent u v l.sent [] ne,
        get_or-set_other m.received u v l.received [] ne,
        get_or-set_other m.pending u v l.pending [] ne,
        get_or-set_other m.pos u v l.pos 0 ne,
        get_or-set_other m.q u v l.q (pos 0) ne,
        get_or-set_other m.black u v l.black 0 ne,
        get_or-set_other m.closed u v l.closed 0 ne,
      )

  module _ (e : Eight m) where
    pub put_eight : Eight (put_fields m u l)
    put_eight =
        record {
          n = length-set m.n u l.n ∙ e.n;
          pos = length-set m.pos u l.pos ∙ e.pos;
          q = length-set m.q u l.q ∙ e.q;
          black = length-set m.black u l.black ∙ e.black;
          closed = length-set m.closed u l.closed ∙ e.closed;
          active = length-set m.active u l.active ∙ e.active;
          color = length-set m.color u l.color ∙ e.color;
          sent = length-set m.sent u l.sent ∙ e.sent;
          received = length-set m.received u l.received ∙ e.received;
          pending = length-set m.pending u l.pending ∙ e.pending;
        }

    module _ (h : u < 8) where
      pub put_there : fields_at (put_fields m u l) u ≡ l
      put_there =
          rw (
            get_or-set_same m.n u l.n 0 (omega (arith, e.n)),
            get_or-set_same m.active u l.active [] (omega (arith, e.active)),
            get_or-set_same m.color u l.color [] (omega (arith, e.color)),
            get_or-set_same m.sent u l.sent [] (omega (arith, e.sent)),
            get_or-set_same m.received u l.received [] (omega (arith, e.received)),
            get_or-set_same m.pending u l.pending [] (omega (arith, e.pending)),
            get_or-set_same m.pos u l.pos 0 (omega (arith, e.pos)),
            get_or-set_same m.q u l.q (pos 0) (omega (arith, e.q)),
            get_or-set_same m.black u l.black 0 (omega (arith, e.black)),
            get_or-set_same m.closed u l.closed 0 (omega (arith, e.closed)),
          )

      -- the table that lies there then
      pub put_table : table_in (put_fields m u l) ≡ put (table_in m) u (slot_of (state_of l))
      put_table = sym (in_all (put_fields m u l) (put (table_in m) u (slot_of (state_of l))) (length-set (table_in m).slots u _ ∙ in_places m) place)
        where
          place : (v : ℕ) → v < 8 → slot_at (put (table_in m) u (slot_of (state_of l))) v ≡ slot_in (put_fields m u l) v
          place v k = go (ℕ_discrete v u)
            where
              go : Dec (v ≡ u) → slot_at (put (table_in m) u (slot_of (state_of l))) v ≡ slot_in (put_fields m u l) v
              go (yes p) =
                  ap (slot_at (put (table_in m) u (slot_of (state_of l)))) p
                  ∙ get_or-set_same (table_in m).slots u (slot_of (state_of l)) NotStarted (omega (arith, in_places m))
                  ∙ sym (ap (slot_in (put_fields m u l)) p ∙ ap (λ (f : Lent). slot_of (state_of f)) put_there)
              go (no p) =
                  get_or-set_other (table_in m).slots u v (slot_of (state_of l)) NotStarted p ∙ in_at m v k
                  ∙ sym (ap (λ (f : Lent). slot_of (state_of f)) (put_others v p))

-- the fields of a place put there again
pub put_back : (m : LentTable) (u : ℕ) → put_fields m u (fields_at m u) ≡ m
put_back m u =
    rw (
      set-get_or m.n u 0,
      set-get_or m.active u [],
      set-get_or m.color u [],
      set-get_or m.sent u [],
      set-get_or m.received u [],
      set-get_or m.pending u [],
      set-get_or m.pos u 0,
      set-get_or m.q u (pos 0),
      set-get_or m.black u 0,
      set-get_or m.closed u 0,
    )

-- ---- an answer

slot_started : (r s : State) (b : Bool) → cond b NotStarted (Started r) ≡ Started s → r ≡ s
slot_started r s true e = absurd (never_started e)
slot_started r s false e = same_state e

-- an accepted request names one of the eight
pub named_inside : (t : Table) (a : Ask) → verdict_on t a ≡ Accepted → names a < 8
named_inside t a e = (taken t a e).changed.inside

by_answer :
    (m : LentTable) (a : Ask) (number : ℕ) (after : LentTable) (w : Verdict) → ask_verdict m a ≡ w → number ≡ code_of w
    → after ≡ settle w (put_slot m (names a) (slot_after (slot_at (table_in m) (names a)) a)) m → AnsweredTo m a number after
by_answer m a number after w e t f =
    record {
      told = t ∙ sym (ap code_of e);
      fields = f ∙ sym (ap (λ (v : Verdict). settle v (put_slot m (names a) (slot_after (slot_at (table_in m) (names a)) a)) m) e);
    }

pub table_unflagged : {m : LentTable} {a : Ask} {number : ℕ} → table_truths m ≡ false → number ≡ 3 → AnsweredTo m a number m
table_unflagged {m} {a} {number} f t = by_answer m a number m (Refused Unsound) (rw f) t refl

module _ (m : LentTable) (a : Ask) (s : TableAnswer) (p : s ≡ answer_on (table_in m) a) (f : table_truths m ≡ true) where
  pub table_refused : {number : ℕ} {e : Refusal} → s.verdict ≡ Refused e → number ≡ code_of s.verdict → AnsweredTo m a number m
  unfolding answer_on
  table_refused {number} {e} v t =
      by_answer m a number m (Refused e)
      (rw f (ap (λ (x : TableAnswer). x.verdict) (sym p) ∙ v))
      (t ∙ ap code_of v)
      refl

  module _ (v : s.verdict ≡ Accepted) where
    accepted : verdict_on (table_in m) a ≡ Accepted
    unfolding answer_on
    accepted = ap (λ (x : TableAnswer). x.verdict) (sym p) ∙ v

    pub table_inside : names a < 8
    table_inside = named_inside (table_in m) a accepted

    -- the state that the code hands back at the update is put there
    pub table_accepted :
        {after : LentTable} (r : State) → slot_of r ≡ slot_at s.table (names a) → after ≡ put_fields m (names a) (lent_of r) → AnsweredTo m a 0 after
    unfolding answer_on
    table_accepted {after} r e h =
        let w = taken (table_in m) a accepted in
        let own : slot_at s.table (names a) ≡ slot_after (slot_at (table_in m) (names a)) a = ap (λ (x : TableAnswer). slot_at x.table (names a)) p
        ∙ next_own (table_in m) a
        ∙ ap (λ (x : Verdict). settle x (slot_after (slot_at (table_in m) (names a)) a) (slot_at (table_in m) (names a))) accepted in
        let same : r ≡ w.state = slot_started r w.state (eqb r.n 0) (e ∙ own ∙ w.becomes) in
        by_answer m a 0 after Accepted (rw f accepted) refl
        (h ∙ ap (λ (x : State). put_fields m (names a) (lent_of x)) same ∙ sym (ap (put_slot m (names a)) w.becomes))

-- ---- a kind that does not fit a byte is unknown, as 0 is

kinds_alike : (t : Table) (u k k' i j : ℕ) → kind_of k ≡ kind_of k' → answer_on t (step_ask u k i j) ≡ answer_on t (step_ask u k' i j)
unfolding answer_on verdict_on
kinds_alike t u k k' i j e =
    ap₂ {C = TableAnswer} (λ (v : Verdict) (s : Slot). record { verdict = v; table = settle v (put t u s) t })
    (ap (λ (x : Kind). first_of (update_rows t u x i j)) e)
    (go (slot_at t u))
  where
    go : (s : Slot) → slot_after s (step_ask u k i j) ≡ slot_after s (step_ask u k' i j)
    go NotStarted = refl
    go (Started r) = ap (λ (x : Kind). Started (effect r x i j)) e

pub table_kind_same : (t : Table) (u b kind i j : ℕ) → b ≡ kind_byte kind → answer_on t (step_ask u b i j) ≡ answer_on t (step_ask u kind i j)
table_kind_same t u b kind i j e =
    ap (λ (k : ℕ). answer_on t (step_ask u k i j)) e
    ∙ narrow_same (λ (k : ℕ). answer_on t (step_ask u k i j)) 255 0 kind
    (λ k h. kinds_alike t u 0 k i j (sym (other_kind Send Take Idle Probe Pass Announce Unknown k (inr (omega arith)))))
