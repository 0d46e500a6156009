-- One request to a table, and what it says of update u. Assumes nothing.
use Prim.Native.Nat.{ℕ}
use borrow.Author.Tests.{eqb-false, eqb-true}
use lib.Dec.{eqb}
use mathlib.Core.Bool.{Bool, ◌&&◌, cond, false, true}
use mathlib.Core.List.{List, [], ◌++◌, ◌∷◌, append-nil}
use mathlib.Core.Path.{◌∙◌, ◌≡◌, ap, ap₂, refl, subst, sym}
use Rattle.refusal.proofs.Table.{accepts, none_holds}
use Rattle.refusal.specs.Table.{NoneHolds, also, first_of, is_accepted, settle}
use Rattle.refusal.specs.declared.Refusal.TheVariants.{UnknownUpdate}
use Rattle.refusal.specs.Table.{Verdict}
use Rattle.refusal.specs.Table.{Accepted, Refused}
use Rattle.ring_rules.proofs.Start.{first_open, fits}
use Rattle.ring_rules.specs.Soundness.{Open, Sound}
use Rattle.ring_rules.specs.Start.{first_state, start_table, start_verdict}
use Rattle.ring_rules.specs.State.{State}
use Rattle.ring_runs.specs.Counts.{ring}
use Rattle.ring_runs.specs.WholeRun.{announcement as announcement_ring, OneOfTwo as OneOfTwoRing, token_moves as token_moves_ring}
use Rattle.runs.proofs.Runs.{accepted_append, run_append}
use Rattle.runs.specs.Runs.{Accepts, Request, accepted_of, next, run_of}
use Rattle.table_rules.proofs.Keeps.{after_own, next_other, next_own, next_sound}
use Rattle.table_rules.proofs.Limit.{ring_verdict}
use Rattle.table_rules.proofs.Slots.{never_started, put_other, same_state}
use Rattle.table_rules.proofs.Soundness.{true_table}
use Rattle.table_rules.specs.Answers.{Ask, Start, Step, after, next_table, rows_of, slot_after, verdict_on}
use Rattle.table_rules.specs.Runs.{table}
use Rattle.table_rules.specs.Soundness.{SoundTable}
use Rattle.table_rules.specs.Table.{NotStarted, Slot, Started, Table, slot_at}
use Rattle.table_runs.specs.Counts.{AcceptsOn, Heard, History, begun, heard_from, heard_next, heard_of, history_in, history_next, history_of, nothing, ring_answers}
use Rattle.table_runs.specs.WholeRun.{OneOfTwo, announcement, token_moves}

-- ---- a step of a started update

settle_same : {A : Type 0} (v : Verdict) (a : A) → settle v a a ≡ a
settle_same Accepted a = refl
settle_same (Refused e) a = refl

settle_started : (v : Verdict) (r s : State) → settle v (Started r) (Started s) ≡ Started (settle v r s)
settle_started Accepted r s = refl
settle_started (Refused e) r s = refl

module _ (t : Table) (ok : SoundTable t) (u : ℕ) (r : State) (at : slot_at t u ≡ Started r) where
  pub ring_accepts : (x : Request) → AcceptsOn t u x → Accepts ring r x
  ring_accepts x a = sym (ring_verdict t ok u r at x) ∙ a

  pub table_accepts : (x : Request) → Accepts ring r x → AcceptsOn t u x
  table_accepts x a = ring_verdict t ok u r at x ∙ a

  pub one_of_two : OneOfTwoRing r → OneOfTwo t u
  one_of_two (token_moves_ring x a f) = token_moves x (table_accepts x a) (λ y b. f y (ring_accepts y b))
  one_of_two (announcement_ring f g) = announcement (λ x e. table_accepts x (f x e)) (λ y b. g y (ring_accepts y b))

  -- what stands there after it
  pub ring_next : (x : Request) → slot_at (next_table t (Step u x)) u ≡ Started (settle (verdict_on t (Step u x)) (ring.effect r x) r)
  ring_next x =
      next_own t (Step u x) ∙ ap (λ (s : Slot). settle (verdict_on t (Step u x)) (slot_after s (Step u x)) s) at
      ∙ settle_started (verdict_on t (Step u x)) (ring.effect r x) r

-- ---- a step of an update that is not started, and a start

pub unknown_step : (t : Table) → SoundTable t → (u : ℕ) (x : Request) → slot_at t u ≡ NotStarted → verdict_on t (Step u x) ≡ Refused UnknownUpdate
unfolding verdict_on
unknown_step t ok u x at = rw (true_table t ok, at)

pub start_begins : (t : Table) (u n : ℕ) (flags : List ℕ) → verdict_on t (Start u n flags) ≡ Accepted → start_verdict n flags ≡ Accepted
unfolding verdict_on start_verdict
start_begins t u n flags e = go (none_holds (rows_of t (Start u n flags)) e)
  where
    go : NoneHolds (rows_of t (Start u n flags)) → first_of (start_table n flags) ≡ Accepted
    go (also s (also v (also o rest))) = accepts (start_table n flags) rest

pub start_first : (n : ℕ) (flags : List ℕ) → start_verdict n flags ≡ Accepted → Open (first_state n flags)
start_first n flags e = first_open n flags (fits n flags e)

pub start_stands :
    (t : Table) (u n : ℕ) (flags : List ℕ) → verdict_on t (Start u n flags) ≡ Accepted → slot_at (after t (Start u n flags)) u ≡ Started (first_state n flags)
start_stands t u n flags e = after_own t (Start u n flags) e

-- ---- what stands at an update, its history and what was heard of it

pub record Follows (s : Slot) (h : History) (w : Heard) (r : State) : Type 0 where
  pub sound : Sound r
  pub stands : s ≡ Started (run_of ring r w.steps)
  pub answers : w.answers ≡ ring_answers r w.steps
  pub accepted : h.taken ≡ accepted_of ring r w.steps

pub record Told (s : Slot) (h : History) (w : Heard) : Type 0 where
  pub none : h.first ≡ NotStarted → (s ≡ NotStarted) × (h.taken ≡ [])
  pub some : (r : State) → h.first ≡ Started r → Follows s h w r

answers_append : (r : State) (xs : List Request) (x : Request) → ring_answers r (xs ++ (x ∷ [])) ≡ ring_answers r xs ++ (ring.verdict (run_of ring r xs) x ∷ [])
unfolding ring_answers run_of
answers_append r [] x = refl
answers_append r (y ∷ xs) x = ap (λ (l : List Verdict). ring.verdict r y ∷ l) (answers_append (next ring r y) xs x)

-- one request more that the ring judges
heard_more :
    (r : State) (xs : List Request) (x : Request) (v : Verdict) → v ≡ ring.verdict (run_of ring r xs) x
    → (run_of ring r (xs ++ (x ∷ [])) ≡ settle v (ring.effect (run_of ring r xs) x) (run_of ring r xs))
    × (accepted_of ring r (xs ++ (x ∷ [])) ≡ settle v (accepted_of ring r xs ++ (x ∷ [])) (accepted_of ring r xs))
unfolding run_of accepted_of
heard_more r xs x v e = (
  run_append ring r xs (x ∷ []) ∙ ap (λ (w : Verdict). settle w (ring.effect (run_of ring r xs) x) (run_of ring r xs)) (sym e),
  accepted_append ring r xs (x ∷ []) ∙ ap (λ (w : Verdict). accepted_of ring r xs ++ settle w (x ∷ []) []) (sym e) ∙ go v,
)
  where
    go : (w : Verdict) → accepted_of ring r xs ++ settle w (x ∷ []) [] ≡ settle w (accepted_of ring r xs ++ (x ∷ [])) (accepted_of ring r xs)
    go Accepted = refl
    go (Refused f) = append-nil (accepted_of ring r xs)

-- a history with one step more, and what is heard with one more
abbrev taking : History → Request → History
taking h x = record { first = h.first; taken = h.taken ++ (x ∷ []) }

settle-taking : (v : Verdict) (h : History) (x : Request) → settle v (taking h x) h ≡ record { first = h.first; taken = settle v (h.taken ++ (x ∷ [])) h.taken }
settle-taking Accepted h x = refl
settle-taking (Refused e) h x = refl

abbrev pub hearing : Heard → Request → Verdict → Heard
hearing w x v = record { steps = w.steps ++ (x ∷ []); answers = w.answers ++ (v ∷ []) }

module _ (t : Table) (ok : SoundTable t) (u : ℕ) (h : History) (w : Heard) (p : Told (slot_at t u) h w) (x : Request) where
  abbrev v : Verdict
  v = verdict_on t (Step u x)

  -- a step of u, which is started
  judged : (r : State) → h.first ≡ Started r → Told (slot_at (next_table t (Step u x)) u) (settle v (taking h x) h) (hearing w x v)
  judged r e =
      let f = p.some r e in
      let b = ring_verdict t ok u _ f.stands x in
      let m = heard_more r w.steps x v b in
      rw (settle-taking v h x)
      (record {
        none = λ z. absurd (never_started (sym z ∙ e));
        some =
            λ r' e'.
            subst (Follows (slot_at (next_table t (Step u x)) u) (record { first = h.first; taken = settle v (h.taken ++ (x ∷ [])) h.taken }) (hearing w x v))
            (same_state (sym e ∙ e'))
            (record {
              sound = f.sound;
              stands = ring_next t ok u _ f.stands x ∙ ap Started (sym m.0);
              answers = ap₂ (λ (l : List Verdict) (a : Verdict). l ++ (a ∷ [])) f.answers b ∙ sym (answers_append r w.steps x);
              accepted = ap (λ (l : List Request). settle v (l ++ (x ∷ [])) l) f.accepted ∙ sym m.1;
            });
      })

  own_step : Told (slot_at (next_table t (Step u x)) u) (settle v (taking h x) h) (hearing w x v)
  own_step = go h.first refl
    where
      go : (s : Slot) → h.first ≡ s → Told (slot_at (next_table t (Step u x)) u) (settle v (taking h x) h) (hearing w x v)
      go NotStarted e =
          let z = p.none e in
          rw (unknown_step t ok u x z.0) (record { none = λ _. z; some = λ r f. absurd (never_started (sym e ∙ f)) })
      go (Started r) e = judged r e

-- a start of u that is accepted
own_start : (n : ℕ) (flags : List ℕ) → start_verdict n flags ≡ Accepted → Told (Started (first_state n flags)) (begun (Started (first_state n flags))) nothing
unfolding run_of accepted_of ring_answers
own_start n flags b =
    record {
      none = λ e. absurd (never_started (sym e));
      some =
          λ r e.
          subst (Follows (Started (first_state n flags)) (begun (Started (first_state n flags))) nothing) (same_state e)
          (record { sound = (start_first n flags b).sound; stands = refl; answers = refl; accepted = refl });
    }

module _ (t : Table) (ok : SoundTable t) (u : ℕ) (h : History) (w : Heard) (p : Told (slot_at t u) h w) where
  -- one request, of any update
  pub told_next : (a : Ask) → Told (slot_at (next_table t a) u) (settle (verdict_on t a) (history_next u h a) h) (heard_next u w a (verdict_on t a))
  told_next (Start z n flags) = go (eqb z u) refl (verdict_on t (Start z n flags)) refl
    where
      go :
          (b : Bool) → eqb z u ≡ b → (c : Verdict) → verdict_on t (Start z n flags) ≡ c
          → Told (slot_at (settle c (after t (Start z n flags)) t) u) (settle c (cond b (begun (Started (first_state n flags))) h) h) (cond (b && is_accepted c) nothing w)
      go true e Accepted q =
          subst (λ (s : Slot). Told s (begun (Started (first_state n flags))) nothing)
          (sym (ap (slot_at (after t (Start z n flags))) (sym (eqb-true z u e)) ∙ start_stands t z n flags q))
          (own_start n flags (start_begins t z n flags q))
      go false e Accepted q = subst (λ (s : Slot). Told s h w) (sym (put_other t z u _ (λ f. eqb-false z u e (sym f)))) p
      go true e (Refused f) q = p
      go false e (Refused f) q = p
  told_next (Step z x) = go (eqb z u) refl
    where
      go :
          (b : Bool) → eqb z u ≡ b
          → Told (slot_at (next_table t (Step z x)) u) (settle (verdict_on t (Step z x)) (cond b (taking h x) h) h)
          (cond b (hearing w x (verdict_on t (Step z x))) w)
      go true e =
          let f = eqb-true z u e in
          subst
          (λ (y : ℕ). Told (slot_at (next_table t (Step y x)) u) (settle (verdict_on t (Step y x)) (taking h x) h) (hearing w x (verdict_on t (Step y x))))
          (sym f)
          (own_step t ok u h w p x)
      go false e =
          subst (λ (s : Slot). Told s (settle (verdict_on t (Step z x)) h h) w) (sym (next_other t (Step z x) u (λ f. eqb-false z u e (sym f))))
          (rw (settle_same (verdict_on t (Step z x)) h) p)

pub settle_history : (u : ℕ) (h : History) (a : Ask) (acc : List Ask) (v : Verdict) → history_in u h (settle v (a ∷ acc) acc) ≡ history_in u (settle v (history_next u h a) h) acc
settle_history u h a acc Accepted = refl
settle_history u h a acc (Refused e) = refl

-- a list of requests
pub told_run :
    (u : ℕ) (ls : List Ask) (t : Table) → SoundTable t → (h : History) (w : Heard) → Told (slot_at t u) h w
    → Told (slot_at (run_of table t ls) u) (history_in u h (accepted_of table t ls)) (heard_from u w t ls)
unfolding run_of accepted_of heard_from
told_run u [] t ok h w p = p
told_run u (a ∷ ls) t ok h w p =
    rw (settle_history u h a (accepted_of table (next_table t a) ls) (verdict_on t a))
    (told_run u ls (next_table t a) (next_sound t a ok) _ _ (told_next t ok u h w p a))

pub told_of : (u : ℕ) (t : Table) → SoundTable t → (ls : List Ask) → Told (slot_at (run_of table t ls) u) (history_of u t ls) (heard_of u t ls)
unfolding run_of accepted_of ring_answers
told_of u t ok ls =
    told_run u ls t ok (begun (slot_at t u)) nothing
    (record { none = λ e. (e, refl); some = λ r e. record { sound = ok.each u r e; stands = e; answers = refl; accepted = refl } })
