-- What an update has heard: every step that names it since its latest start, and the table's answers. Assumes nothing.
use Prim.Native.Nat.{ℕ}
use borrow.Author.Tests.{eq-eqb}
use lib.Dec.{eqb}
use mathlib.Core.Bool.{Bool, ◌&&◌, and-false, cond, false, true}
use mathlib.Core.List.{List, [], ◌++◌, ◌∷◌, append_assoc, append-nil}
use mathlib.Core.Path.{◌∙◌, ◌≡◌, ap, ap₂, refl, sym}
use Rattle.laws.proofs.Tests.{neither}
use Rattle.refusal.specs.Table.{is_accepted, settle}
use Rattle.refusal.specs.Table.{Verdict}
use Rattle.refusal.specs.Table.{Accepted, Refused}
use Rattle.ring_rules.specs.Start.{first_state}
use Rattle.ring_rules.specs.State.{State}
use Rattle.ring_runs.specs.Counts.{ring}
use Rattle.runs.proofs.Runs.{run_append}
use Rattle.runs.specs.Runs.{Request, accepted_of, run_of}
use Rattle.table_rules.proofs.Keeps.{next_sound}
use Rattle.table_rules.proofs.Theorems.{run_sound}
use Rattle.table_rules.proofs.Slots.{same_state}
use Rattle.table_rules.specs.Answers.{Ask, Start, Step, after, answer_on, next_table, verdict_on}
use Rattle.table_rules.specs.Runs.{table}
use Rattle.table_rules.specs.Soundness.{SoundTable}
use Rattle.table_rules.specs.Table.{Started, Table, slot_at}
use Rattle.table_runs.proofs.Updates.{Follows, hearing, start_stands, told_of}
use Rattle.table_runs.proofs.WholeRun.{history_here}
use Rattle.table_runs.specs.Counts.{Heard, History, heard_by, heard_from, heard_next, heard_of, history_of, nothing, ring_answers, started_of, starts_in, step_answers, steps_in}
use Rattle.table_runs.specs.WholeRun.{FollowsRing, StepsAreRun}

pub heard_append : (u : ℕ) (ls bs : List Ask) (t : Table) (w : Heard) → heard_from u w t (ls ++ bs) ≡ heard_from u (heard_from u w t ls) (run_of table t ls) bs
unfolding heard_from run_of
heard_append u [] bs t w = refl
heard_append u (a ∷ ls) bs t w = heard_append u ls bs (next_table t a) (heard_next u w a (verdict_on t a))

-- a step that is accepted is no start
no_start : (u z : ℕ) (x : Request) (acc : List Ask) (v : Verdict) → starts_in u (settle v (Step z x ∷ acc) acc) ≡ starts_in u acc
no_start u z x acc Accepted = refl
no_start u z x acc (Refused e) = refl

-- so much heard, and then every step of u in bs
abbrev heard_and : Heard → ℕ → Table → List Ask → Heard
heard_and w u t bs = record { steps = w.steps ++ steps_in u bs; answers = w.answers ++ step_answers u t bs }

-- with no start of u accepted
pub heard_all : (u : ℕ) (bs : List Ask) (t : Table) (w : Heard) → started_of u t bs ≡ false → heard_from u w t bs ≡ heard_and w u t bs
unfolding heard_from accepted_of step_answers
heard_all u [] t w e =
    ap₂ (λ (l : List Request) (m : List Verdict). record { steps = l; answers = m }) (sym (append-nil w.steps)) (sym (append-nil w.answers))
heard_all u (Start z n flags ∷ bs) t w e =
    go (verdict_on t (Start z n flags)) (λ (m : Table) (f : started_of u m bs ≡ false). heard_all u bs m w f) e
  where
    go :
        (v : Verdict) → ((m : Table) → started_of u m bs ≡ false → heard_from u w m bs ≡ heard_and w u m bs)
        → starts_in u
        (settle v (Start z n flags ∷ accepted_of table (settle v (after t (Start z n flags)) t) bs) (accepted_of table (settle v (after t (Start z n flags)) t) bs))
        ≡ false
        → heard_from u (cond (eqb z u && is_accepted v) nothing w) (settle v (after t (Start z n flags)) t) bs
        ≡ heard_and w u (settle v (after t (Start z n flags)) t) bs
    go Accepted ih f =
        let p = neither (eqb z u) (starts_in u (accepted_of table (after t (Start z n flags)) bs)) f in
        rw p.0 (ih (after t (Start z n flags)) p.1)
    go (Refused y) ih f = rw (and-false (eqb z u)) (ih t f)
heard_all u (Step z x ∷ bs) t w e =
    go (eqb z u)
    (λ (h : Heard). heard_all u bs t' h (sym (no_start u z x (accepted_of table t' bs) (verdict_on t (Step z x))) ∙ e))
  where
    t' : Table
    t' = next_table t (Step z x)

    v : Verdict
    v = verdict_on t (Step z x)

    go :
        (b : Bool) → ((h : Heard) → heard_from u h t' bs ≡ heard_and h u t' bs)
        → heard_from u (cond b (hearing w x v) w) t' bs
        ≡ record {
          steps = w.steps ++ cond b (x ∷ steps_in u bs) (steps_in u bs);
          answers = w.answers ++ cond b (v ∷ step_answers u t' bs) (step_answers u t' bs);
        }
    go true ih =
        ih (hearing w x v)
        ∙ ap₂ (λ (l : List Request) (m : List Verdict). record { steps = l; answers = m }) (append_assoc w.steps (x ∷ []) (steps_in u bs))
        (append_assoc w.answers (v ∷ []) (step_answers u t' bs))
    go false ih = ih w

heard_fresh :
    (t : Table) (u n : ℕ) (flags : List ℕ) (ls bs : List Ask) → verdict_on (run_of table t ls) (Start u n flags) ≡ Accepted
    → started_of u (next_table (run_of table t ls) (Start u n flags)) bs ≡ false
    → heard_of u t (ls ++ (Start u n flags ∷ bs)) ≡ heard_by u (next_table (run_of table t ls) (Start u n flags)) bs
unfolding heard_from
heard_fresh t u n flags ls bs a e =
    heard_append u ls (Start u n flags ∷ bs) t nothing
    ∙ ap₂ (λ (b : Bool) (c : Bool). heard_from u (cond (b && c) nothing (heard_of u t ls)) (next_table (run_of table t ls) (Start u n flags)) bs)
    (eq-eqb u u refl) (ap is_accepted a)
    ∙ heard_all u bs (next_table (run_of table t ls) (Start u n flags)) nothing e

steps_follow :
    (t : Table) → SoundTable t → (u : ℕ) (ls : List Ask) (r s : State) → (history_of u t ls).first ≡ Started r
    → slot_at (run_of table t ls) u ≡ Started s → FollowsRing t u ls r s
steps_follow t ok u ls r s e at =
    let f = (told_of u t ok ls).some r e in
    record { state = same_state (sym at ∙ f.stands); answers = f.answers; accepted = f.accepted }

-- a start, and the requests after it
module _
    (t : Table) (ok : SoundTable t) (u n : ℕ) (flags : List ℕ) (ls bs : List Ask) (a : verdict_on (run_of table t ls) (Start u n flags) ≡ Accepted)
    (e : started_of u (next_table (run_of table t ls) (Start u n flags)) bs ≡ false) where
  abbrev here : Table
  here = run_of table t ls

  abbrev begun_at : Table
  begun_at = next_table here (Start u n flags)

  stands : slot_at begun_at u ≡ Started (first_state n flags)
  stands = ap (λ (v : Verdict). slot_at (settle v (after here (Start u n flags)) here) u) a ∙ start_stands here u n flags a

  whole : heard_of u begun_at bs ≡ heard_by u begun_at bs
  whole = heard_all u bs begun_at nothing e

  runs : Follows (slot_at (run_of table begun_at bs) u) (history_of u begun_at bs) (heard_of u begun_at bs) (first_state n flags)
  runs =
      (told_of u begun_at (next_sound here (Start u n flags) (run_sound t ok ls)) bs).some (first_state n flags)
      (ap (λ (h : History). h.first) (history_here begun_at u bs e) ∙ stands)

  slot_after : slot_at (run_of table t (ls ++ (Start u n flags ∷ bs))) u ≡ Started (run_of ring (first_state n flags) (steps_in u bs))
  unfolding run_of
  slot_after =
      ap (λ (m : Table). slot_at m u) (run_append table t ls (Start u n flags ∷ bs))
      ∙ runs.stands
      ∙ ap (λ (w : Heard). Started (run_of ring (first_state n flags) w.steps)) whole

  answers_after : step_answers u begun_at bs ≡ ring_answers (first_state n flags) (steps_in u bs)
  answers_after = sym (ap (λ (w : Heard). w.answers) whole) ∙ runs.answers ∙ ap (λ (w : Heard). ring_answers (first_state n flags) w.steps) whole

pub steps_are_run : StepsAreRun
unfolding answer_on
steps_are_run =
    record {
      run = λ t ok u n flags ls bs a e. (slot_after t ok u n flags ls bs a e, answers_after t ok u n flags ls bs a e);
      from_first = λ t u ls e. heard_all u ls t nothing e;
      from_start = heard_fresh;
      follows = steps_follow;
    }
