-- An update goes its own way in a table, and two tables that agree on it answer it alike. Assumes nothing.
use Prim.Native.Nat.{◌<◌, ℕ}
use borrow.Author.Tests.{eqb-false, eqb-true, ne_eqb}
use lib.Dec.{eqb}
use mathlib.Core.Bool.{Bool, cond, false, true}
use mathlib.Core.List.{List, [], ◌∷◌}
use mathlib.Core.Path.{◌∙◌, ◌≡◌, ap, ap₂, refl, subst, sym}
use native.Mathlib.Omega.{arith}
use Rattle.refusal.specs.Table.{settle}
use Rattle.refusal.specs.Table.{Verdict}
use Rattle.ring_rules.specs.State.{State}
use Rattle.runs.specs.Runs.{run_of}
use Rattle.table_rules.proofs.Keeps.{next_fixed, next_other, next_own, next_sound}
use Rattle.table_rules.proofs.Soundness.{fixed-n, true_table}
use Rattle.table_rules.specs.Answers.{Ask, Start, Step, names, next_table, slot_after, verdict_on}
use Rattle.table_rules.specs.Runs.{alone_answers, alone_next, alone_run, alone_verdict, answers_of, naming, table}
use Rattle.table_rules.specs.Soundness.{SoundTable}
use Rattle.table_rules.specs.Table.{Slot, Started, Table, fixed, slot_at}
use Rattle.table_rules.specs.Theorems.{Alike}

-- ---- one request

module _ (t : Table) (ok : SoundTable t) (h : 0 < fixed t) where
  pub alone_verdict_lem : (a : Ask) → verdict_on t a ≡ alone_verdict (fixed t) (slot_at t (names a)) a
  unfolding verdict_on
  alone_verdict_lem (Start u n flags) = rw (true_table t ok, ne_eqb (fixed t) 0 (λ z. omega arith))
  alone_verdict_lem (Step u x) = rw (true_table t ok)

-- ---- a run

module _ (u n : ℕ) where
  abbrev Went : Table → List Ask → List Ask → List Verdict → Slot → Type 0
  Went t ls own vs s = (slot_at (run_of table t ls) u ≡ alone_run n s own) × (vs ≡ alone_answers n s own)

  pub alone : (ls : List Ask) (t : Table) → SoundTable t → fixed t ≡ n → 0 < n → Went t ls (naming u ls) (answers_of u t ls) (slot_at t u)
  unfolding run_of answers_of alone_run alone_answers
  alone [] t ok f h = (refl, refl)
  alone (a ∷ ls) t ok f h = go (eqb (names a) u) refl (alone ls (next_table t a) (next_sound t a ok) (next_fixed t a some ∙ f) h)
    where
      some : 0 < fixed t
      some = omega (arith, f)

      On : Slot → Type 0
      On = Went (next_table t a) ls (naming u ls) (answers_of u (next_table t a) ls)

      go :
          (b : Bool) → eqb (names a) u ≡ b → On (slot_at (next_table t a) u)
          → Went (next_table t a) ls (cond b (a ∷ naming u ls) (naming u ls))
          (cond b (verdict_on t a ∷ answers_of u (next_table t a) ls) (answers_of u (next_table t a) ls)) (slot_at t u)
      go false e w = subst On (next_other t a u (λ p. eqb-false (names a) u e (sym p))) w
      go true e w =
          let name = eqb-true (names a) u e in
          let judged : verdict_on t a ≡ alone_verdict n (slot_at t u) a = alone_verdict_lem t ok some a ∙
          ap₂ (λ (m : ℕ) (v : ℕ). alone_verdict m (slot_at t v) a) f name in
          let own = subst (λ (v : ℕ). slot_at (next_table t a) v ≡ settle (verdict_on t a) (slot_after (slot_at t v) a) (slot_at t v)) name (next_own t a) in
          let here : slot_at (next_table t a) u ≡ alone_next n (slot_at t u) a = own ∙
          ap (λ (v : Verdict). settle v (slot_after (slot_at t u) a) (slot_at t u)) judged in
          let w' = subst On here w in
          (w'.0, ap₂ (λ (v : Verdict) (vs : List Verdict). v ∷ vs) judged w'.1)

-- ---- two tables

pub not_disturbed :
    (t t' : Table) → SoundTable t → SoundTable t' → 0 < fixed t → fixed t ≡ fixed t' → (u : ℕ) → slot_at t u ≡ slot_at t' u
    → (ls ls' : List Ask) → naming u ls ≡ naming u ls' → Alike t t' u ls ls'
not_disturbed t t' ok ok' h f u e ls ls' q =
    let w = alone u (fixed t) ls t ok refl h in
    let w' = alone u (fixed t) ls' t' ok' (sym f) h in
    record {
      answers = w.1 ∙ ap₂ (alone_answers (fixed t)) e q ∙ sym w'.1;
      slot = w.0 ∙ ap₂ (alone_run (fixed t)) e q ∙ sym w'.0;
    }

pub started_undisturbed :
    (t t' : Table) → SoundTable t → SoundTable t' → (u : ℕ) (r : State) → slot_at t u ≡ Started r → slot_at t' u ≡ Started r
    → (ls ls' : List Ask) → naming u ls ≡ naming u ls' → Alike t t' u ls ls'
started_undisturbed t t' ok ok' u r at at' ls ls' q =
    let f = fixed-n t ok u r at in
    let h = (ok.each u r at).some_node in
    not_disturbed t t' ok ok' (omega arith) (f ∙ sym (fixed-n t' ok' u r at')) u (at ∙ sym at') ls ls' q
