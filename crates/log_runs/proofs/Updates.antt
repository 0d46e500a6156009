-- The lines of updates: what they ask for, what is answered and what they lead to; they are requests to the table. Assumes nothing.
use Rattle.std.specs.Prelude.{Some, None}
use Prim.Native.Nat.{◌+◌, ◌<◌, ℕ}
use borrow.Author.Tests.{eqb-false, eqb-true}
use lib.Dec.{eqb}
use lib.ListN.{get_or, length, length-set, set}
use lib.Seq.{get_or-set_other, get_or-set_same, set-get_or}
use mathlib.Core.Bool.{Bool, ◌&&◌, cond, false, true}
use mathlib.Core.List.{List, [], ◌++◌, ◌∷◌, map}
use mathlib.Core.Logic.{◌⊎◌, inl, inr}
use mathlib.Core.Path.{◌∙◌, ◌≡◌, ap, refl, subst, sym}
use native.Mathlib.Nat.{add-zero}
use native.Mathlib.Omega.{arith}
use Rattle.first_line.proofs.Meaning.{nodes_mean, rings_mean}
use Rattle.first_line.specs.Meaning.{Means, every_node}
use Rattle.first_line.specs.Start.{ring_first}
use Rattle.forms.specs.Form.{Says}
use Rattle.forms.specs.Read.{Read}
use Rattle.forms.specs.declared.RingStep.{RingStep}
use Rattle.laws.proofs.Tests.{false_true}
use Rattle.log_rules.proofs.Theorems.{lines_say, says_first, says_itself}
use Rattle.log_rules.specs.Answers.{Stage, Told, add_at, answer_text, is_move, line_told, on_table, ring_request, update_ask, update_start_told}
use Rattle.log_rules.specs.Pieces.{OneLine}
use Rattle.refusal.specs.Table.{is_accepted, settle}
use Rattle.refusal.specs.Table.{Verdict}
use Rattle.refusal.specs.Table.{Accepted, Refused}
use Rattle.ring_rules.specs.Start.{first_state}
use Rattle.ring_runs.specs.Counts.{kind}
use Rattle.runs.specs.Runs.{Request, accepted_of, next, run_of}
use Rattle.table_rules.proofs.Theorems.{table_kept}
use Rattle.table_rules.specs.Answers.{Start, Step, after, answer_on, next_table, verdict_on}
use Rattle.table_rules.specs.Runs.{table}
use Rattle.table_rules.specs.Soundness.{SoundTable}
use Rattle.table_rules.specs.Table.{Started, Table}
use Rattle.table_runs.specs.Counts.{History, begun, history_in, history_next}
use Rattle.update_forms.proofs.Exact.{wrapped_exact, wrapped_other}
use Rattle.update_forms.specs.Read.{wrapped_at}
use Rattle.update_forms.specs.Wrapped.{Wrapped, wrapped_form}
use Rattle.log_runs.proofs.First.{table_rows, update_after, update_passed, update_rows, wrapped_once}
use Rattle.log_runs.proofs.Runs.{Answers, Reads}
use Rattle.log_runs.proofs.Detectors.{move_is, no_move}
use Rattle.log_runs.specs.First.{flags_to, known_by, update_verdict}
use Rattle.log_runs.specs.Says.{Ask, Each, cut, line, move_by, moves_in, no_line, other, requests_in, says, stage_after}
use Rattle.log_runs.specs.Updates.{UpdateAsk, UpdateAsks, ask_of, moved, moves_after, start, step, table_ask, to_table, updates, verdict_of}
use Rattle.table_rules.specs.Answers as asks
use Rattle.update_forms.specs.Wrapped as wrapped

pub wrapped_read : (l : List ℕ) → OneLine l → ((w : Wrapped) × Says l (wrapped_form w)) ⊎ ((w : Wrapped) → Says l (wrapped_form w) → ⊥)
wrapped_read l o = go (wrapped_at l 0) refl
  where
    go : (x : Read Wrapped) → wrapped_at l 0 ≡ x → ((w : Wrapped) × Says l (wrapped_form w)) ⊎ ((w : Wrapped) → Says l (wrapped_form w) → ⊥)
    go (Some (w, e)) p = inl (w, says_itself (wrapped_form w) l o ((wrapped_exact l 0 w e).0 p).0)
    go None p = inr (λ w s. (wrapped_other l 0).0 p w (says_first (wrapped_form w) l s))

abbrev pub update_reads : Reads Wrapped UpdateAsk
update_reads = record { form = wrapped_form; asked = ask_of; once = wrapped_once; told = wrapped_read }

-- ---- one line

-- a line that asks for a is answered with the verdict on it, and the moves go on from there
pub record LineTold (t : Table) (ms : List ℕ) (k : ℕ) (l : List ℕ) (a : UpdateAsk) : Type 0 where
  pub text : (line_told (on_table t ms) k l).text ≡ answer_text k (verdict_of t a)
  pub there : (line_told (on_table t ms) k l).stage ≡ on_table (next updates t a) (settle (verdict_of t a) (moved ms a) ms)

step_moves : (ms : List ℕ) (u : ℕ) (f : RingStep) (v : Verdict)
    → add_at ms u (cond (is_move f && is_accepted v) 1 0) ≡ settle v (add_at ms u (move_by (kind (ring_request f)))) ms
step_moves ms u f Accepted = ap (add_at ms u) (move_is f)
step_moves ms u f (Refused e) =
    ap (add_at ms u) (no_move (is_move f)) ∙ (ap (set ms u) (add-zero (get_or ms u 0)) ∙ set-get_or ms u 0)

settle_same : {A : Type 0} (v : Verdict) {x y : A} (z : A) → (v ≡ Accepted → x ≡ y) → settle v x z ≡ settle v y z
settle_same Accepted z e = e refl
settle_same (Refused r) z e = refl

start_told :
    (t : Table) (ms : List ℕ) (k u n top : ℕ) (flags a b : List ℕ) → Means n a b (ring_first n flags top) → {l : List ℕ}
    → line_told (on_table t ms) k l ≡ update_start_told t ms k u (ring_first n flags top) → LineTold t ms k l (start u n a b)
start_told t ms k u n top flags a b m p =
    let f = ring_first n flags top in
    let rows = update_rows t u n top flags a b m in
    record {
      text = ap (λ (x : Told). x.text) p ∙ ap (answer_text k) rows;
      there =
          ap (λ (x : Told). x.stage) p
          ∙ (ap (λ (v : Verdict). on_table (settle v (after t (update_ask u f)) t) (settle v (set ms u 0) ms)) rows
          ∙ ap (λ (x : Table). on_table x (settle (update_verdict t u n a b) (set ms u 0) ms))
          (settle_same (update_verdict t u n a b) t (update_after t u n top flags a b m)));
    }

pub line_told_lem : (t : Table) (ms : List ℕ) (k : ℕ) (l : List ℕ) (w : Wrapped) → Says l (wrapped_form w) → LineTold t ms k l (ask_of w)
unfolding answer_on
line_told_lem t ms k l (wrapped.step u f) s =
    let e = lines_say.update_line t ms k l (wrapped.step u f) s in
    let v = verdict_on t (Step u (ring_request f)) in
    record {
      text = ap (λ (x : Told). x.text) e;
      there = ap (λ (x : Told). x.stage) e ∙ ap (on_table (next_table t (Step u (ring_request f)))) (step_moves ms u f v);
    }
line_told_lem t ms k l (wrapped.bare u n) s =
    start_told t ms k u n _ _ (every_node n) [] (rings_mean.neither n) (lines_say.update_line t ms k l (wrapped.bare u n) s)
line_told_lem t ms k l (wrapped.lists u n a b) s =
    start_told t ms k u n _ _ a b (nodes_mean n (rings_mean.both n a b s.1.0.1.1 s.1.0.1.2))
    (lines_say.update_line t ms k l (wrapped.lists u n a b) s)

pub update_answers : (t : Table) (ms : List ℕ) (k : ℕ) (l : List ℕ) (a : Ask UpdateAsk) → UpdateAsks l a → Answers updates on_table t ms k l a
update_answers t ms k l a (says w s) = let e = line_told_lem t ms k l w s in record { text = e.text; moves' = _; there = e.there }
update_answers t ms k l a (other o h) =
    let e = lines_say.update_other t ms k l o h in
    record { text = ap (λ (x : Told). x.text) e; moves' = ms; there = ap (λ (x : Told). x.stage) e }
update_answers t ms k l a (cut u) =
    let e = lines_say.unended (on_table t ms) k l u in
    record { text = ap (λ (x : Told). x.text) e; moves' = ms; there = ap (λ (x : Told). x.stage) e }

-- ---- all of them

moves_on :
    (ms : List ℕ) (a : UpdateAsk) (acc : List UpdateAsk) (v : Verdict)
    → moves_after (settle v (moved ms a) ms) acc ≡ moves_after ms (settle v (a ∷ acc) acc)
unfolding moves_after
moves_on ms a acc Accepted = refl
moves_on ms a acc (Refused e) = refl

pub update_each :
    (t : Table) (ms : List ℕ) (k : ℕ) {ls : List (List ℕ)} {qs : List (Ask UpdateAsk)} → Each UpdateAsks ls qs
    → stage_after (on_table t ms) k ls ≡ on_table (run_of updates t (requests_in qs)) (moves_after ms (accepted_of updates t (requests_in qs)))
unfolding stage_after run_of accepted_of moves_after
update_each t ms k no_line = refl
update_each t ms k (line {l} {ls} {qs = qs} (says w s) c) =
    let a = ask_of w in
    let v = verdict_of t a in
    ap (λ (y : Stage). stage_after y (k + 1) ls) (line_told_lem t ms k l w s).there
    ∙ (update_each (next updates t a) (settle v (moved ms a) ms) (k + 1) c
    ∙ ap (on_table (run_of updates (next updates t a) (requests_in qs))) (moves_on ms a (accepted_of updates (next updates t a) (requests_in qs)) v))
update_each t ms k (line {l} {ls} (other o h) c) =
    ap (λ (y : Told). stage_after y.stage (k + 1) ls) (lines_say.update_other t ms k l o h) ∙ update_each t ms (k + 1) c
update_each t ms k (line {l} {ls} (cut u) c) =
    ap (λ (y : Told). stage_after y.stage (k + 1) ls) (lines_say.unended (on_table t ms) k l u) ∙ update_each t ms (k + 1) c

-- ---- as requests to the table

abbrev Same : Table → List UpdateAsk → List asks.Ask → Type 0
Same t xs rs = (run_of updates t xs ≡ run_of table t rs) × (accepted_of table t rs ≡ map table_ask (accepted_of updates t xs))

-- a request to the table that is judged so
same_next :
    (t : Table) (a : UpdateAsk) (xs : List UpdateAsk) (rs : List asks.Ask) → verdict_on t (table_ask a) ≡ verdict_of t a → Same (next updates t a) xs rs
    → Same t (a ∷ xs) (table_ask a ∷ rs)
unfolding run_of accepted_of
same_next t a xs rs e w =
    let b = table_ask a in
    let v = verdict_of t a in
    let t' = next updates t a in (
      w.0 ∙ ap (λ (u : Verdict). run_of table (settle u (after t b) t) rs) (sym e),
      ap (λ (u : Verdict). settle u (b ∷ accepted_of table (settle u (after t b) t) rs) (accepted_of table (settle u (after t b) t) rs)) e
          ∙ (ap (λ (acc : List asks.Ask). settle v (b ∷ acc) acc) w.1 ∙ go v (accepted_of updates t' xs)),
    )
  where
    go : (v : Verdict) (acc : List UpdateAsk) → settle v (table_ask a ∷ map table_ask acc) (map table_ask acc) ≡ map table_ask (settle v (a ∷ acc) acc)
    go Accepted acc = refl
    go (Refused r) acc = refl

-- one that is no request, and refused
same_none :
    (t : Table) (a : UpdateAsk) (xs : List UpdateAsk) (rs : List asks.Ask) (v : Verdict) → verdict_of t a ≡ v → (v ≡ Accepted → ⊥) → Same t xs rs
    → Same t (a ∷ xs) rs
unfolding run_of accepted_of
same_none t a xs rs Accepted e bad w = absurd (bad refl)
same_none t a xs rs (Refused r) e bad w = rw e w

pub update_requests : (t : Table) → SoundTable t → (xs : List UpdateAsk) → Same t xs (to_table xs)
unfolding run_of accepted_of answer_on
update_requests t ok [] = (refl, refl)
update_requests t ok (step u x ∷ xs) =
    same_next t (step u x) xs (to_table xs) refl (update_requests (next_table t (Step u x)) (table_kept.any t (Step u x) ok) xs)
update_requests t ok (start u n a b ∷ xs) = go (known_by n a b) refl (update_requests t ok xs) (λ t' ok'. update_requests t' ok' xs)
  where
    go :
        (k : Bool) → known_by n a b ≡ k → Same t xs (to_table xs) → ((t' : Table) → SoundTable t' → Same t' xs (to_table xs))
        → Same t (start u n a b ∷ xs) (cond k (Start u n (flags_to a b n) ∷ to_table xs) (to_table xs))
    go true e same rest =
        let v = table_rows t ok u n a b e in
        same_next t (start u n a b) xs (to_table xs) v
        (rest (next updates t (start u n a b))
        (subst (λ (v : Verdict). SoundTable (settle v (after t (Start u n (flags_to a b n))) t)) v (table_kept.any t (Start u n (flags_to a b n)) ok)))
    go false e same rest =
        same_none t (start u n a b) xs (to_table xs) (update_verdict t u n a b) refl
        (λ v. false_true (sym e ∙ (update_passed t u n a b v).1)) same

-- ---- the token moves of each update are those of its history

pub moves_length : (ms : List ℕ) (acc : List UpdateAsk) → length (moves_after ms acc) ≡ length ms
unfolding moves_after
moves_length ms [] = refl
moves_length ms (step u x ∷ acc) = moves_length (add_at ms u (move_by (kind x))) acc ∙ length-set ms u _
moves_length ms (start u n a b ∷ acc) = moves_length (set ms u 0) acc ∙ length-set ms u 0

moves_one : (xs : List Request) (x : Request) → moves_in (xs ++ (x ∷ [])) ≡ moves_in xs + move_by (kind x)
unfolding moves_in
moves_one [] x = omega arith
moves_one (y ∷ xs) x = omega (arith, moves_one xs x)

moved_history :
    (u : ℕ) → u < 8 → (h : History) (a : UpdateAsk) (ms : List ℕ) → length ms ≡ 8 → get_or ms u 0 ≡ moves_in h.taken
    → get_or (moved ms a) u 0 ≡ moves_in (history_next u h (table_ask a)).taken
unfolding moves_in
moved_history u less h (step w x) ms e m = go (eqb w u) refl
  where
    go : (b : Bool) → eqb w u ≡ b
        → get_or (add_at ms w (move_by (kind x))) u 0 ≡ moves_in (cond b (record { first = h.first; taken = h.taken ++ (x ∷ []) }) h).taken
    go true p =
        let q = eqb-true w u p in
        ap (λ (k : ℕ). get_or (add_at ms k (move_by (kind x))) u 0) q
        ∙ (get_or-set_same ms u (get_or ms u 0 + move_by (kind x)) 0 (omega (arith, e))
        ∙ (ap (λ (k : ℕ). k + move_by (kind x)) m ∙ sym (moves_one h.taken x)))
    go false p = get_or-set_other ms w u _ 0 (λ q. eqb-false w u p (sym q)) ∙ m
moved_history u less h (start w n a b) ms e m = go (eqb w u) refl
  where
    go : (t : Bool) → eqb w u ≡ t → get_or (set ms w 0) u 0 ≡ moves_in (cond t (begun (Started (first_state n (flags_to a b n)))) h).taken
    go true p = ap (λ (k : ℕ). get_or (set ms k 0) u 0) (eqb-true w u p) ∙ get_or-set_same ms u 0 0 (omega (arith, e))
    go false p = get_or-set_other ms w u 0 0 (λ q. eqb-false w u p (sym q)) ∙ m

pub moves_history :
    (u : ℕ) → u < 8 → (h : History) (acc : List UpdateAsk) (ms : List ℕ) → length ms ≡ 8 → get_or ms u 0 ≡ moves_in h.taken
    → get_or (moves_after ms acc) u 0 ≡ moves_in (history_in u h (map table_ask acc)).taken
unfolding moves_after
moves_history u less h [] ms e m = m
moves_history u less h (a ∷ acc) ms e m =
    moves_history u less (history_next u h (table_ask a)) acc (moved ms a) (moves_length ms (a ∷ []) ∙ e) (moved_history u less h a ms e m)
