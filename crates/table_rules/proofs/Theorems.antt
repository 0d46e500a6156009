-- The statements of specs/Theorems.antt, proved. Assumes nothing.
use Prim.Native.Nat.{◌<◌, ℕ}
use mathlib.Core.List.{List, [], ◌∷◌}
use mathlib.Core.Path.{◌∙◌, ◌≡◌, ap, refl, subst, sym}
use native.Mathlib.Omega.{arith}
use Rattle.refusal.proofs.Table.{accepts, first_row, none_holds}
use Rattle.refusal.specs.Table.{code_of, settle}
use Rattle.refusal.specs.Table.{Verdict}
use Rattle.refusal.specs.Table.{Accepted, Refused}
use Rattle.ring_rules.proofs.Start.{first_open, fits}
use Rattle.ring_rules.specs.Start.{first_state}
use Rattle.runs.specs.Runs.{accepted_of, run_of}
use Rattle.table_rules.proofs.Alone.{alone, not_disturbed, started_undisturbed}
use Rattle.table_rules.proofs.Keeps.{after_sends, after_sound, next_fixed, next_other, next_sound}
use Rattle.table_rules.proofs.Limit.{limit_decides, limit_only, ring_step}
use Rattle.table_rules.proofs.Numbers.{node_count, none_fixed, past, start_accepted, start_fixed, start_flags, unknown_start, unknown_step, unsound_three}
use Rattle.table_rules.proofs.Soundness.{empty_fixed, empty_sound, fixed-n, table_true, true_table}
use Rattle.table_rules.specs.Answers.{Ask, Start, Step, after, answer_on, next_table, rows_of, verdict_on}
use Rattle.table_rules.specs.Runs.{first_nodes, table}
use Rattle.table_rules.specs.Soundness.{SoundTable}
use Rattle.table_rules.specs.Table.{Table, empty_table, fixed, sends_of, slot_at}
use Rattle.table_rules.specs.Theorems.{Isolation, LimitOfEach, NonInterference, SendsChange, StepIsRings, TableAnswered, TableKept, TableNumbers, TableTested}

pub table_tested : TableTested
table_tested = record { holds = table_true; tested = true_table }

pub table_answered : TableAnswered
unfolding verdict_on answer_on
table_answered =
    record {
      accepted = λ t a. (none_holds (rows_of t a), accepts (rows_of t a));
      next = λ t a e. ap (λ (v : Verdict). settle v (after t a) t) e;
      refused = λ t a. first_row (rows_of t a);
      same = λ t a x e. ap (λ (v : Verdict). settle v (after t a) t) e;
    }

pub run_sound : (t : Table) → SoundTable t → (ls : List Ask) → SoundTable (run_of table t ls)
unfolding run_of
run_sound t ok [] = ok
run_sound t ok (a ∷ ls) = run_sound (next_table t a) (next_sound t a ok) ls

pub run_fixed : (t : Table) → 0 < fixed t → (ls : List Ask) → fixed (run_of table t ls) ≡ fixed t
unfolding run_of
run_fixed t h [] = refl
run_fixed t h (a ∷ ls) = let e = next_fixed t a h in run_fixed (next_table t a) (omega arith) ls ∙ e

-- where no number of nodes is fixed, the first accepted request is a start
pub run_first : (t : Table) → SoundTable t → fixed t ≡ 0 → (ls : List Ask) → fixed (run_of table t ls) ≡ first_nodes (accepted_of table t ls)
unfolding run_of accepted_of first_state
run_first t ok z [] = z
run_first t ok z (a ∷ ls) = go a (verdict_on t a) refl (run_first t ok z ls)
  where
    go :
        (b : Ask) (v : Verdict) → verdict_on t b ≡ v → fixed (run_of table t ls) ≡ first_nodes (accepted_of table t ls)
        → fixed (run_of table (settle v (after t b) t) ls)
        ≡ first_nodes (settle v (b ∷ accepted_of table (settle v (after t b) t) ls) (accepted_of table (settle v (after t b) t) ls))
    go b (Refused e) q ih = ih
    go (Start u n flags) Accepted q ih =
        let f = start_fixed t u n flags q in
        let s = (start_accepted t ok u n flags).0 q in
        run_fixed (after t (Start u n flags)) (omega (arith, (first_open n flags (fits n flags s.2)).sound.some_node)) ls ∙ f
    go (Step u x) Accepted q ih =
        let k = (unknown_step t ok u x).1 (none_fixed t ok z u) in
        absurd (omega (arith, ap code_of q))

pub table_kept : TableKept
unfolding answer_on
table_kept =
    record {
      accepted = λ t a e. subst SoundTable (sym (ap (λ (v : Verdict). settle v (after t a) t) e)) (after_sound t a e);
      any = next_sound;
      run = run_sound;
      fixed_run = λ t ok h ls. run_fixed t h ls;
      fixed_first = run_first empty_table empty_sound empty_fixed;
    }

pub step_is_rings : StepIsRings
step_is_rings = record { answer = ring_step }

pub limit_of_each : LimitOfEach
limit_of_each = record { only = limit_only; decides = limit_decides }

-- the table after an accepted request
pub accepted_table : (t : Table) (a : Ask) → verdict_on t a ≡ Accepted → (answer_on t a).table ≡ after t a
accepted_table = table_answered.next

pub table_numbers : TableNumbers
table_numbers =
    record {
      unknown_start = unknown_start;
      unknown_step = unknown_step;
      past = past;
      start = start_accepted;
      node_count = node_count;
      start_flags = start_flags;
      unsound = unsound_three;
      fixed_by_started = fixed-n;
      fixed_by_start = λ t u n flags e. ap fixed (accepted_table t (Start u n flags) e) ∙ start_fixed t u n flags e;
      none_fixed = none_fixed;
    }

abbrev sends_at : ℕ → Table → ℕ
sends_at v t = sends_of (slot_at t v)

pub sends_change : SendsChange
unfolding answer_on
sends_change =
    record {
      step = λ t u x e. ap (sends_at u) (accepted_table t (Step u x) e) ∙ after_sends t (Step u x) e;
      start = λ t u n flags e. ap (sends_at u) (accepted_table t (Start u n flags) e) ∙ after_sends t (Start u n flags) e;
      others = λ t a v ne. ap sends_of (next_other t a v ne);
      refused = λ t a x e v. ap (sends_at v) (table_answered.same t a x e);
    }

pub isolation : Isolation
isolation =
    record { alone = λ t ok h u ls. let w = alone u (fixed t) ls t ok refl h in record { slot = w.0; answers = w.1 } }

pub non_interference : NonInterference
non_interference = record { same = not_disturbed; started = started_undisturbed }
