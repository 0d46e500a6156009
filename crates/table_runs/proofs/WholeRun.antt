-- Demand 3 for each update of a table, from the ring's. Assumes nothing.
use Prim.Native.Nat.{◌+◌, ◌≤◌, ℕ}
use lib.Dec.{eqb}
use lib.ListN.{length}
use mathlib.Core.Bool.{Bool, ◌||◌, cond, false, true}
use mathlib.Core.List.{List, [], ◌++◌, ◌∷◌, append_assoc, append-nil}
use mathlib.Core.Logic.{◌⊎◌, inl, inr}
use mathlib.Core.Path.{◌∙◌, ◌≡◌, ap, refl, subst, sym}
use Rattle.laws.proofs.Tests.{false_true, neither}
use Rattle.refusal.specs.Table.{settle}
use Rattle.refusal.specs.Table.{Verdict}
use Rattle.refusal.specs.Table.{Accepted, Refused}
use Rattle.ring_rules.proofs.Theorems.{start_answered}
use Rattle.ring_rules.specs.Soundness.{Open}
use Rattle.ring_rules.specs.Start.{first_state, start_verdict}
use Rattle.ring_rules.specs.State.{State, pending_at, received_at}
use Rattle.ring_runs.proofs.Trace.{closed_none, may}
use Rattle.ring_runs.proofs.WholeRun.{whole_runs}
use Rattle.ring_runs.specs.Counts.{AllMoves, QuietBy, Unannounced, announced_in, ring, sends_to, takes_by}
use Rattle.ring_runs.specs.WholeRun.{Counted as CountedRing, Point as PointRing}
use Rattle.runs.proofs.Runs.{Run, accepted_append, kept, run_of_lem, stop, took}
use Rattle.runs.specs.Runs.{Request, accepted_of, run_of}
use Rattle.table_rules.proofs.Theorems.{run_sound}
use Rattle.table_rules.specs.Answers.{Ask, Start, Step, answer_on, next_table, verdict_on}
use Rattle.table_rules.specs.Runs.{table}
use Rattle.table_rules.specs.Soundness.{SoundTable}
use Rattle.table_rules.specs.Table.{Slot, Started, Table, slot_at}
use Rattle.table_runs.proofs.Updates.{Follows, one_of_two, ring_accepts, settle_history, start_begins, start_first, table_accepts, told_of}
use Rattle.table_runs.specs.Counts.{History, QuietIn, active_in, begun, heard_of, history_in, history_next, history_of, started_of, starts_in, steps_in, taken_of, transit_in}
use Rattle.table_runs.specs.WholeRun.{Countdown, Counted, FromStart, Point, WholeTable}

-- ---- histories

-- with no start of u among the accepted requests
pub history_on :
    (u : ℕ) (acc : List Ask) (h : History) → starts_in u acc ≡ false → history_in u h acc ≡ record { first = h.first; taken = h.taken ++ steps_in u acc }
history_on u [] h e = ap (λ (l : List Request). record { first = h.first; taken = l }) (sym (append-nil h.taken))
history_on u (Start v n flags ∷ acc) h e =
    let p = neither (eqb v u) (starts_in u acc) e in
    rw p.0 (history_on u acc h p.1)
history_on u (Step v x ∷ acc) h e = go (eqb v u) (λ (k : History). history_on u acc k e)
  where
    go :
        (b : Bool) → ((k : History) → history_in u k acc ≡ record { first = k.first; taken = k.taken ++ steps_in u acc })
        → history_in u (cond b (record { first = h.first; taken = h.taken ++ (x ∷ []) }) h) acc
        ≡ record { first = h.first; taken = h.taken ++ cond b (x ∷ steps_in u acc) (steps_in u acc) }
    go true ih = ih _ ∙ ap (λ (l : List Request). record { first = h.first; taken = l }) (append_assoc h.taken (x ∷ []) (steps_in u acc))
    go false ih = ih h

pub history_append : (u : ℕ) (acc more : List Ask) (h : History) → history_in u h (acc ++ more) ≡ history_in u (history_in u h acc) more
history_append u [] more h = refl
history_append u (a ∷ acc) more h = history_append u acc more (history_next u h a)

module _ (t : Table) (u : ℕ) (ls : List Ask) where
  pub history_here : started_of u t ls ≡ false → history_of u t ls ≡ record { first = slot_at t u; taken = taken_of u t ls }
  history_here e = history_on u (accepted_of table t ls) (begun (slot_at t u)) e

  history_further :
      (bs : List Ask) → started_of u (run_of table t ls) bs ≡ false
      → history_of u t (ls ++ bs) ≡ record { first = (history_of u t ls).first; taken = (history_of u t ls).taken ++ taken_of u (run_of table t ls) bs }
  history_further bs e =
      ap (history_in u (begun (slot_at t u))) (accepted_append table t ls bs)
      ∙ history_append u (accepted_of table t ls) (accepted_of table (run_of table t ls) bs) (begun (slot_at t u))
      ∙ history_on u (accepted_of table (run_of table t ls) bs) (history_of u t ls) e

-- ---- a point

quiet_by : (r : State) (xs acc : List Request) → acc ≡ accepted_of ring r xs → QuietIn r acc → QuietBy r xs
quiet_by r xs acc e q =
    let w = subst (QuietIn r) e q in record { passive = w.passive; empty = w.empty }

by_quiet : (r : State) (xs acc : List Request) → acc ≡ accepted_of ring r xs → QuietBy r xs → QuietIn r acc
by_quiet r xs acc e q = subst (QuietIn r) (sym e) (record { passive = q.passive; empty = q.empty })

-- further requests with no start of u, from a table where s stands at u: u's accepted steps are those of a run of the ring
pub further :
    (t : Table) → SoundTable t → (u : ℕ) (s : State) → slot_at t u ≡ Started s → (bs : List Ask) → started_of u t bs ≡ false
    → (slot_at (run_of table t bs) u ≡ Started (run_of ring s (heard_of u t bs).steps)) × (taken_of u t bs ≡ accepted_of ring s (heard_of u t bs).steps)
further t ok u s at bs h =
    let e = history_here t u bs h in
    let f = (told_of u t ok bs).some s (ap (λ (k : History). k.first) e ∙ at) in
    (f.stands, ap (λ (k : History). k.taken) (sym e) ∙ f.accepted)

module _ (t : Table) (ok : SoundTable t) (u : ℕ) (ls : List Ask) (r : State) (began : (history_of u t ls).first ≡ Started r) where
  abbrev here : Table
  here = run_of table t ls

  abbrev xs : List Request
  xs = (heard_of u t ls).steps

  abbrev acc : List Request
  acc = (history_of u t ls).taken

  abbrev s : State
  s = run_of ring r xs

  follows : Follows (slot_at here u) (history_of u t ls) (heard_of u t ls) r
  follows = (told_of u t ok ls).some r began

  same : acc ≡ accepted_of ring r xs
  same = follows.accepted

  sound_here : SoundTable here
  sound_here = run_sound t ok ls

  counted :
      (K : ℕ) → ((ys : List Request) → Unannounced s ys → CountedRing s K ys) → (bs : List Ask) → started_of u here bs ≡ false
      → announced_in (taken_of u here bs) ≡ false → Counted here u K bs
  counted K f bs h n =
      let v = further here sound_here u s follows.stands bs h in
      let c = f (heard_of u here bs).steps (sym (ap announced_in v.1) ∙ n) in
      let after_bs = run_sound here sound_here bs in
      record {
        moves_alone = subst AllMoves (sym v.1) c.moves_alone;
        at_most = subst (λ (l : List Request). length l ≤ K) (sym v.1) c.at_most;
        exactly =
            λ x e. (
              λ a. ap length v.1 ∙ (c.exactly x e).0 (ring_accepts (run_of table here bs) after_bs u _ v.0 x a),
              λ l. table_accepts (run_of table here bs) after_bs u _ v.0 x ((c.exactly x e).1 (sym (ap length v.1) ∙ l)),
            );
        then = one_of_two (run_of table here bs) after_bs u _ v.0 c.then;
      }

  module _ (running : r.closed ≡ false) where
    p : PointRing r xs
    p = whole_runs.point r (record { sound = follows.sound; running = running }) xs

    still :
        QuietIn r acc → (bs : List Ask) → started_of u here bs ≡ false → announced_in (history_of u t (ls ++ bs)).taken ≡ false
        → QuietIn r (history_of u t (ls ++ bs)).taken
    still q bs h n =
        let ys = (heard_of u here bs).steps in
        let v = further here sound_here u s follows.stands bs h in
        let e : (history_of u t (ls ++ bs)).taken ≡ accepted_of ring r (xs ++ ys) = ap (λ (k : History). k.taken) (history_further t u ls bs h) ∙
        (λ y. same y ++ v.1 y) ∙ sym (accepted_append ring r xs ys) in
        by_quiet r (xs ++ ys) _ e (p.still (quiet_by r xs acc same q) ys (sym (ap announced_in e) ∙ n))

    countdown : QuietIn r acc → announced_in acc ≡ false → Countdown here u r.n
    countdown q n =
        let c = p.countdown (quiet_by r xs acc same q) (sym (ap announced_in same) ∙ n) in
        record { K = c.K; bound = c.bound; counted = counted c.K c.counted }

    point : Point t u ls r
    point =
        record {
          s = s;
          stands = follows.stands;
          follows = record { state = refl; answers = follows.answers; accepted = same };
          activity = λ b. p.activity b ∙ ap (λ (l : List Request). active_in r l b) (sym same);
          transit = λ b. p.transit b ∙ ap (λ (l : List Request). transit_in r l b) (sym same);
          enough = λ b. subst (λ (l : List Request). takes_by l b ≤ pending_at r b + sends_to l b) (sym same) (p.enough b);
          received = λ b. p.received b ∙ ap (λ (l : List Request). received_at r b + takes_by l b) (sym same);
          quiet = λ x e a. by_quiet r xs acc same (p.quiet x e (ring_accepts here sound_here u s follows.stands x a));
          last =
              λ e bs h.
              (further here sound_here u s follows.stands bs h).1 ∙ p.last (sym (ap announced_in same) ∙ e) (heard_of u here bs).steps;
          still = still;
          countdown = countdown;
        }

-- ---- an update that is started in the run

pub record Latest (first : Slot) : Type 0 where
  pub n : ℕ
  pub flags : List ℕ
  pub accepted : start_verdict n flags ≡ Accepted
  pub stands : first ≡ Started (first_state n flags)

-- of the requests from t on, with a history h so far: the latest accepted start of u is what the history begins with
latest_in :
    (u : ℕ) (ls : List Ask) (t : Table) (h : History) → Latest h.first ⊎ (started_of u t ls ≡ true) → Latest (history_in u h (accepted_of table t ls)).first
unfolding accepted_of
latest_in u [] t h (inl p) = p
latest_in u [] t h (inr e) = absurd (false_true e)
latest_in u (a ∷ ls) t h d =
    rw (settle_history u h a (accepted_of table (next_table t a) ls) (verdict_on t a))
    (latest_in u ls (next_table t a) (settle (verdict_on t a) (history_next u h a) h) (go a (verdict_on t a) refl (accepted_of table (next_table t a) ls) d))
  where
    go :
        (b : Ask) (v : Verdict) → verdict_on t b ≡ v → (rest : List Ask) → Latest h.first ⊎ (starts_in u (settle v (b ∷ rest) rest) ≡ true)
        → Latest (settle v (history_next u h b) h).first ⊎ (starts_in u rest ≡ true)
    go b (Refused e) q rest d = d
    go (Start z n flags) Accepted q rest d = named (eqb z u) d
      where
        named :
            (c : Bool) → Latest h.first ⊎ ((c || starts_in u rest) ≡ true)
            → Latest (cond c (begun (Started (first_state n flags))) h).first ⊎ (starts_in u rest ≡ true)
        named true d = inl (record { n = n; flags = flags; accepted = start_begins t z n flags q; stands = refl })
        named false d = d
    go (Step z x) Accepted q rest d = named (eqb z u)
      where
        named : (c : Bool) → Latest (cond c (record { first = h.first; taken = h.taken ++ (x ∷ []) }) h).first ⊎ (starts_in u rest ≡ true)
        named true = d
        named false = d

pub latest : (u : ℕ) (t : Table) (ls : List Ask) → started_of u t ls ≡ true → Latest (history_of u t ls).first
latest u t ls e = latest_in u ls t (begun (slot_at t u)) (inr e)

module _ (t : Table) (ok : SoundTable t) (u : ℕ) (ls : List Ask) (e : started_of u t ls ≡ true) where
  w : Latest (history_of u t ls).first
  w = latest u t ls e

  abbrev first : State
  first = first_state w.n w.flags

  fresh : Open first
  fresh = start_first w.n w.flags w.accepted

  counts :
      (b : ℕ) → (received_at (run_of ring first (heard_of u t ls).steps) b ≡ takes_by (accepted_of ring first (heard_of u t ls).steps) b)
      × (pending_at (run_of ring first (heard_of u t ls).steps) b + received_at (run_of ring first (heard_of u t ls).steps) b
      ≡ sends_to (accepted_of ring first (heard_of u t ls).steps) b)
  counts b =
      subst
      (λ (r : State). (received_at (run_of ring r (heard_of u t ls).steps) b ≡ takes_by (accepted_of ring r (heard_of u t ls).steps) b)
      × (pending_at (run_of ring r (heard_of u t ls).steps) b + received_at (run_of ring r (heard_of u t ls).steps) b
      ≡ sends_to (accepted_of ring r (heard_of u t ls).steps) b))
      (start_answered.first w.n w.flags w.accepted)
      (whole_runs.from_start w.n w.flags w.accepted (heard_of u t ls).steps b)

  from_start : FromStart t u ls
  unfolding point
  from_start =
      record {
        r = first;
        began = w.stands;
        fresh = fresh;
        point = point t ok u ls first w.stands fresh.running;
        received = λ b. (counts b).0 ∙ ap (λ (l : List Request). takes_by l b) (sym (same t ok u ls first w.stands));
        pending = λ b. (counts b).1 ∙ ap (λ (l : List Request). sends_to l b) (sym (same t ok u ls first w.stands));
      }

-- a closed ring stays as it is
closed_same : {r s : State} {xs acc : List Request} → Run ring r xs s acc → r.closed ≡ true → s ≡ r
closed_same stop e = refl
closed_same (took {s = r} {x = x} a c) e = absurd (false_true (sym (may r x a).running ∙ e))
closed_same (kept c) e = closed_same c e

pub whole_table : WholeTable
unfolding answer_on
whole_table =
    record {
      point = point;
      from_start = from_start;
      closed =
          λ t ok u r at c ls h.
          let w = further t ok u r at ls h in
          let run = run_of_lem ring r (heard_of u t ls).steps in
          (w.0 ∙ ap Started (closed_same run c), w.1 ∙ closed_none run c);
      not_started =
          λ t ok u at ls h.
          let e = history_here t u ls h in
          let n = (told_of u t ok ls).none (ap (λ (k : History). k.first) e ∙ at) in
          (n.0, ap (λ (k : History). k.taken) (sym e) ∙ n.1);
      answers = λ t a. refl;
    }
