-- A line of a table's run. Assumes nothing.
use Prim.Native.Nat.{◌+◌, ◌<◌, ◌≤◌, ℕ}
use lib.ListN.{drop, get_or, length, length-set, set}
use lib.Seq.{get_or-set_other, get_or-set_same, set_out}
use mathlib.Core.Bool.{◌&&◌, cond}
use mathlib.Core.List.{List}
use mathlib.Core.Path.{◌∙◌, ◌≡◌, ap, refl, subst, subst⁻¹, sym}
use native.Mathlib.Decide.{dec_lt, ℕ_discrete}
use native.Mathlib.Omega.{arith}
use Rattle.std.specs.Prelude.{Option, Some, None, Result, Ok}
use Rattle.first_line.specs.Meaning.{Flags}
use Rattle.first_line.specs.declared.RingStart.{RingStart}
use Rattle.forms.specs.Form.{line}
use Rattle.forms.specs.Read.{Read}
use Rattle.forms.specs.declared.RingStep.{RingStep}
use Rattle.log_rules.proofs.First.{update_is_judged}
use Rattle.log_rules.proofs.InPlace.{table_ended, table_in_place}
use Rattle.log_rules.specs.Answers.{Told, add_at, answer_text, is_move, line_told, on_table, ring_request, table_told, update_ask, update_start_told, update_step_told}
use Rattle.log_rules.specs.Pieces.{Moves, OneLine}
use Rattle.refusal.specs.Answers.{handed, verdict_from}
use Rattle.refusal.specs.Table.{Accepted, Refused, Verdict, is_accepted, settle}
use Rattle.refusal.specs.declared.Refusal.{Refusal}
use Rattle.refusal.specs.declared.Refusal.TheVariants.{NotAForm}
use Rattle.ring_rules.specs.declared.request.Request.{Request}
use Rattle.runs.specs.Runs.{Request as Numbered}
use Rattle.table.specs.Request.{ask_of}
use Rattle.table.specs.View.{seen, table}
use Rattle.table.specs.declared.state.Table as code
use Rattle.table_rules.proofs.Keeps.{next_sound}
use Rattle.table_rules.specs.Answers.{Ask, Step, TableAnswer, after, answer_on, next_table, verdict_on}
use Rattle.table_rules.specs.Soundness.{SoundTable}
use Rattle.table_rules.specs.Table.{Table}
use Rattle.update_forms.specs.Read.{update_line_of, wrapped_at, wrapped_seen}
use Rattle.update_forms.specs.Wrapped.{Wrapped, bare, lists, step}
use Rattle.log_lines.proofs.Rings.{handed_parts, one_at_most}
use Rattle.log_lines.specs.Requests.{Asks, moves_token}
use Rattle.log_lines.specs.Stages.{LineAnswered, SoundStage}
use Rattle.log_lines.specs.Starts.{Judged, NoStep, StartTold}

-- ---- the moves

pub added_out : (ms : List ℕ) (u d : ℕ) → length ms ≡ 8 → 8 ≤ u → ms ≡ add_at ms u d
added_out ms u d n h = sym (set_out ms u (get_or ms u 0 + d) (omega arith))

module _ (ms : List ℕ) (k u x : ℕ) (m : Moves ms k) (h : x ≤ k + 1) where
  few_here : Dec (u < 8) → get_or (set ms u x) u 0 ≤ k + 1
  few_here (yes p) = omega (arith, get_or-set_same ms u x 0 (omega (arith, m.places)))
  few_here (no p) = omega (arith, ap (λ (l : List ℕ). get_or l u 0) (set_out ms u x (omega (arith, m.places))), m.few u)

  few_at : (v : ℕ) → Dec (v ≡ u) → get_or (set ms u x) v 0 ≤ k + 1
  few_at v (yes e) = subst⁻¹ (λ (i : ℕ). get_or (set ms u x) i 0 ≤ k + 1) e (few_here (dec_lt u 8))
  few_at v (no e) = omega (arith, get_or-set_other ms u v x 0 e, m.few v)

  stored_few : Moves (set ms u x) (k + 1)
  stored_few = record { places = length-set ms u x ∙ m.places; few = λ v. few_at v (ℕ_discrete v u) }

pub added_few : (ms : List ℕ) (k u d : ℕ) → Moves ms k → d ≤ 1 → Moves (add_at ms u d) (k + 1)
added_few ms k u d m h = stored_few ms k u (get_or ms u 0 + d) m (omega (arith, m.few u))

pub later_few : (ms : List ℕ) (k : ℕ) → Moves ms k → Moves ms (k + 1)
later_few ms k m = record { places = m.places; few = λ v. omega (arith, m.few v) }

pub cleared_few : (ms : List ℕ) (k u : ℕ) (v : Verdict) → Moves ms k → Moves (settle v (set ms u 0) ms) (k + 1)
cleared_few ms k u Accepted m = stored_few ms k u 0 m (omega arith)
cleared_few ms k u (Refused e) m = later_few ms k m

pub later_table : (t : Table) (ms : List ℕ) (k : ℕ) → SoundStage (on_table t ms) k → SoundStage (on_table t ms) (k + 1)
later_table t ms k s = (s.0, later_few ms k s.1)

-- ---- what is read of a line

-- a step, or a start, as it is told; and where it ends
abbrev step_as : Table → List ℕ → ℕ → Option (ℕ × RingStep × ℕ) → Told
step_as t ms k (Some (u, f, e)) = update_step_told t ms k u f
step_as t ms k None = record { stage = on_table t ms; text = answer_text k (Refused NotAForm) }

abbrev pub start_as : Table → List ℕ → ℕ → Option (ℕ × RingStart × ℕ) → Told
start_as t ms k (Some (u, f, e)) = update_start_told t ms k u f
start_as t ms k None = record { stage = on_table t ms; text = answer_text k (Refused NotAForm) }

abbrev StepEnds : List ℕ → ℕ → Option (ℕ × RingStep × ℕ) → Type 0
StepEnds p at (Some (u, f, e)) = OneLine (line (drop at p)) × (e ≡ at + length (line (drop at p)))
StepEnds p at None = Unit {0}

abbrev StartEnds : List ℕ → ℕ → Option (ℕ × RingStart × ℕ) → Type 0
StartEnds p at (Some (u, f, e)) = OneLine (line (drop at p)) × (e ≡ at + length (line (drop at p)))
StartEnds p at None = Unit {0}

step_ends : (p : List ℕ) (at : ℕ) → StepEnds p at (update_line_of (wrapped_at p at))
step_ends p at = go (wrapped_at p at) refl
  where
    go : (r : Read Wrapped) → wrapped_at p at ≡ r → StepEnds p at (update_line_of r)
    go (Some (step u f, e)) h = table_ended p at (step u f) e h
    go (Some (bare u n, e)) h = tt
    go (Some (lists u n active black, e)) h = tt
    go None h = tt

start_ends : (p : List ℕ) (at : ℕ) → StartEnds p at (wrapped_seen (wrapped_at p at))
start_ends p at = go (wrapped_at p at) refl
  where
    go : (r : Read Wrapped) → wrapped_at p at ≡ r → StartEnds p at (wrapped_seen r)
    go (Some (step u f, e)) h = tt
    go (Some (bare u n, e)) h = table_ended p at (bare u n) e h
    go (Some (lists u n active black, e)) h = table_ended p at (lists u n active black) e h
    go None h = tt

step_read : (t : Table) (ms : List ℕ) (k u e : ℕ) (f : RingStep) (s : Read Wrapped) → Some (u, f, e) ≡ update_line_of s → update_step_told t ms k u f ≡ table_told t ms k s
step_read t ms k u e f (Some (step v g, d)) q = ap (step_as t ms k) q
step_read t ms k u e f (Some (bare v n, d)) q = absurd (let z : ⊥ = cc in z)
step_read t ms k u e f (Some (lists v n active black, d)) q = absurd (let z : ⊥ = cc in z)
step_read t ms k u e f None q = absurd (let z : ⊥ = cc in z)

pub start_read : (t : Table) (ms : List ℕ) (k : ℕ) (s : Read Wrapped) → None ≡ update_line_of s → start_as t ms k (wrapped_seen s) ≡ table_told t ms k s
start_read t ms k (Some (step v g, d)) q = absurd (let z : ⊥ = cc in z)
start_read t ms k (Some (bare v n, d)) q = refl
start_read t ms k (Some (lists v n active black, d)) q = refl
start_read t ms k None q = refl

-- ---- the answers

told_parts : (t t' : code.Table) (a : Result (Unit {0}) Refusal) (x : Ask) → seen (handed a t') ≡ answer_on (table t) x
    → record { verdict = verdict_from a; table = table t' } ≡ answer_on (table t) x
told_parts t t' a x h = ap seen (sym (handed_parts a t')) ∙ h

answer_verdict : (t : Table) (x : Ask) → (answer_on t x).verdict ≡ verdict_on t x
unfolding answer_on
answer_verdict t x = refl

answer_table : (t : Table) (x : Ask) → (answer_on t x).table ≡ next_table t x
unfolding answer_on
answer_table t x = refl

answer_sound : (t : Table) (x : Ask) → SoundTable t → SoundTable (answer_on t x).table
answer_sound t x s = subst⁻¹ SoundTable (answer_table t x) (next_sound t x s)

module _ (t t' : code.Table) (ms : List ℕ) (lines : ℕ) (p : List ℕ) (at e u : ℕ) (a : Result (Unit {0}) Refusal) where
  pub update_stepped : (f : RingStep) (x : Request) (n : ℕ) → SoundStage (on_table (table t) ms) lines → Asks f x
      → Some (u, f, e) ≡ update_line_of (wrapped_at p at) → seen (handed a t') ≡ answer_on (table t) (ask_of u x)
      → n ≡ cond (moves_token x && is_accepted (verdict_from a)) 1 0
      → LineAnswered (on_table (table t) ms) (on_table (table t') (add_at ms u n)) (lines + 1) p at (record { number = lines + 1; answer = a; next = e })
  update_stepped f x n s asks is same count =
      let k = lines + 1 in
      let en : OneLine (line (drop at p)) × (e ≡ at + length (line (drop at p))) = subst (StepEnds p at) (sym is) (step_ends p at) in
      let q : ◌≡◌ {A = TableAnswer} (record { verdict = verdict_from a; table = table t' }) (answer_on (table t) (Step u (ring_request f))) =
      told_parts t t' a (ask_of u x) same ∙ ap (λ (y : Numbered). answer_on (table t) (Step u y)) asks.numbers in
      let h : update_step_told (table t) ms k u f ≡ line_told (on_table (table t) ms) k (line (drop at p)) =
      step_read (table t) ms k u e f (wrapped_at p at) is ∙ table_in_place (table t) ms k p at in
      let c : n ≡ cond (is_move f && is_accepted (verdict_from a)) 1 0 = count ∙ ap (λ (b : _). cond (b && is_accepted (verdict_from a)) 1 0) asks.token in
      record {
        whole = en.0;
        past = en.1;
        stage =
            ap (λ (d : ℕ). on_table (table t') (add_at ms u d)) c
            ∙ ap (λ (z : TableAnswer). on_table z.table (add_at ms u (cond (is_move f && is_accepted z.verdict) 1 0))) q
            ∙ ap (λ (z : Told). z.stage) h;
        text = ap (λ (z : TableAnswer). answer_text k z.verdict) q ∙ ap (λ (z : Told). z.text) h;
        number = omega arith;
        sound = (
          subst (λ (z : TableAnswer). SoundTable z.table) (sym q) (answer_sound (table t) (Step u (ring_request f)) s.0),
          added_few ms lines u n s.1 (omega (arith, c, one_at_most (is_move f && is_accepted (verdict_from a)))),
        );
      }

  pub update_started : (f : RingStart) → SoundStage (on_table (table t) ms) lines → NoStep p at
      → Some (u, f, e) ≡ wrapped_seen (wrapped_at p at) → StartTold (table t) (table t') u f a
      → LineAnswered (on_table (table t) ms) (on_table (table t') (settle (verdict_from a) (set ms u 0) ms)) (lines + 1) p at (record { number = lines + 1; answer = a; next = e })
  update_started f s no_step is told =
      let k = lines + 1 in
      let en : OneLine (line (drop at p)) × (e ≡ at + length (line (drop at p))) = subst (StartEnds p at) (sym is) (start_ends p at) in
      let h : update_start_told (table t) ms k u f ≡ line_told (on_table (table t) ms) k (line (drop at p)) =
      ap (start_as (table t) ms k) is ∙ start_read (table t) ms k (wrapped_at p at) no_step ∙ table_in_place (table t) ms k p at in
      record {
        whole = en.0;
        past = en.1;
        stage =
            ap (λ (x : Table). on_table x (settle (verdict_from a) (set ms u 0) ms)) told.table
            ∙ ap (λ (w : Verdict). on_table (settle w (after (table t) (update_ask u f)) (table t)) (settle w (set ms u 0) ms)) told.verdict
            ∙ ap (λ (z : Told). z.stage) h;
        text = ap (answer_text k) told.verdict ∙ ap (λ (z : Told). z.text) h;
        number = omega arith;
        sound = (told.sound s.0, cleared_few ms lines u (verdict_from a) s.1);
      }

-- a start of an update is judged by the log's rows as by the table's
pub start_told : (t t' : code.Table) (u : ℕ) (f : RingStart) (a : Result (Unit {0}) Refusal) → SoundTable (table t) → Flags f.flags → Judged f (Ok tt)
    → seen (handed a t') ≡ answer_on (table t) (update_ask u f) → StartTold (table t) (table t') u f a
start_told t t' u f a s g j h =
    let q = told_parts t t' a (update_ask u f) h in
    let v : verdict_from a ≡ verdict_on (table t) (update_ask u f) = ap (λ (z : TableAnswer). z.verdict) q ∙ answer_verdict (table t) (update_ask u f) in
    record {
      verdict = v ∙ update_is_judged f g j.2 (table t) s u j.3;
      table =
          ap (λ (z : TableAnswer). z.table) q ∙ answer_table (table t) (update_ask u f)
          ∙ ap (λ (w : Verdict). settle w (after (table t) (update_ask u f)) (table t)) (sym v);
      sound = λ x. subst (λ (z : TableAnswer). SoundTable z.table) (sym q) (answer_sound (table t) (update_ask u f) x);
    }
