-- What is written where a log ends. Assumes nothing.
use Prim.Native.Nat.{◌+◌, ◌<◌, ◌≤◌, ℕ}
use borrow.Author.Tests.{eqb-false, eqb-true, le-ltb, leb-false, leb-true, lt-ltb}
use lib.Dec.{eqb}
use lib.ListN.{length}
use mathlib.Core.Bool.{false, true}
use mathlib.Core.List.{List, [], ◌++◌, ◌∷◌, append-nil}
use mathlib.Core.Logic.{◌⊎◌, inl, inr}
use mathlib.Core.Path.{◌∙◌, ◌≡◌, ap, subst⁻¹}
use native.Mathlib.Omega.{arith}
use Rattle.decimal.specs.Text.{put}
use Rattle.log_rules.proofs.Cuts.{rest_cut, rest_done, rest_full}
use Rattle.log_rules.specs.Lines.{line_limit}
use Rattle.log_rules.specs.Output.{rest_of}
use Rattle.log_rules.specs.Pieces.{PartLine, not_told}
use Rattle.log_answers.specs.Wrote.{Wrote}
use Rattle.refusal.specs.Table.{Refused}
use Rattle.refusal.specs.declared.Refusal.TheVariants.{NotAForm}
use Rattle.watch_log.specs.Feed.{LogState, all_answered}
use Rattle.watch_log.specs.Finish.{Finished, cut_text}
use Rattle.log_rules.specs.Answers as rules
use Rattle.decimal.proofs.Cases as cases

-- what the tests say
pub full_then : (k : ℕ) → all_answered k ≡ true → line_limit ≤ k
full_then k e = leb-true line_limit k e

pub full_not : (k : ℕ) → all_answered k ≡ false → k < line_limit
full_not k e = leb-false line_limit k e

pub empty_then : (n : ℕ) → eqb n 0 ≡ true → n ≡ 0
empty_then n e = eqb-true n 0 e

pub empty_not : (n : ℕ) → eqb n 0 ≡ false → n ≡ 0 → ⊥
empty_not n e = eqb-false n 0 e

pub no_cut : (k len : ℕ) → len ≡ 0 → cut_text k len ≡ []
no_cut k len h = rw (le-ltb 0 len (omega arith))

pub full_cut : (k len : ℕ) → line_limit ≤ k → (len ≡ 0 → ⊥) → cut_text k len ≡ []
full_cut k len h n = rw (lt-ltb 0 len (omega arith), le-ltb k line_limit h)

pub some_cut : (k len : ℕ) → k < line_limit → (len ≡ 0 → ⊥) → cut_text k len ≡ rules.answer_text (k + 1) (Refused NotAForm)
some_cut k len h n = rw (lt-ltb 0 len (omega arith), lt-ltb k line_limit h)

pub nothing_cut : (k len : ℕ) {out : List ℕ} → cut_text k len ≡ [] → Wrote out 0 (cut_text k len) 0 out × (0 ≤ rules.answer_bytes)
unfolding put
nothing_cut k len e = ((omega (arith, ap length e), rw e), omega arith)

module _ (k : ℕ) where
  -- a log that is empty, that is full, or that ends within a line
  by_end : (P : List ℕ → List ℕ → Type 0) → P [] [] → ((held : List ℕ) → line_limit ≤ k → P held [])
      → ((held : List ℕ) → PartLine held → k < line_limit → 0 < length held → P held (rules.answer_text (k + 1) (Refused NotAForm)))
      → (held : List ℕ) → PartLine held → P held (cut_text k (length held))
  by_end P unheld filled cut [] part = unheld
  by_end P unheld filled cut (b ∷ s) part = go (cases.split k line_limit)
    where
      go : (k < line_limit) ⊎ (line_limit ≤ k) → P (b ∷ s) (cut_text k (length (b ∷ s)))
      go (inr h) = subst⁻¹ (P (b ∷ s)) (full_cut k (length (b ∷ s)) h (λ e. omega arith)) (filled (b ∷ s) h)
      go (inl h) = subst⁻¹ (P (b ∷ s)) (some_cut k (length (b ∷ s)) h (λ e. omega arith)) (cut (b ∷ s) part h (omega arith))

  -- a run: its last line, and its end line
  pub run_end : (st : rules.Stage) → not_told st (k + 1) ≡ record { stage = st; text = rules.answer_text (k + 1) (Refused NotAForm) }
      → (held : List ℕ) → PartLine held → rest_of st k held [] ≡ cut_text k (length held) ++ rules.end_text st
  run_end st same =
      by_end (λ held text. rest_of st k held [] ≡ text ++ rules.end_text st)
      (rest_done st k)
      (λ held h. rest_full st k h held [])
      (λ held part h s. rest_cut st k part s h ∙ ap (λ (x : rules.Told). x.text ++ rules.end_text x.stage) same)

  -- no first line
  pub fresh_end : (held : List ℕ) → PartLine held → rest_of rules.fresh k held [] ≡ rules.answer_text 1 (Refused NotAForm)
  fresh_end =
      by_end (λ held text. rest_of rules.fresh k held [] ≡ rules.answer_text 1 (Refused NotAForm))
      (rest_done rules.fresh k)
      (λ held h. rest_full rules.fresh k h held [])
      (λ held part h s. rest_cut rules.fresh k part s h ∙ append-nil (rules.answer_text 1 (Refused NotAForm)))

pub finished : (l : LogState) {st : rules.Stage} {t : List ℕ} {r : ℕ} {out out' : List ℕ} → l.stage ≡ st
    → rest_of st l.lines l.held [] ≡ t → Wrote out 0 t r out' → r ≤ length out → Finished l r out out'
finished l {r = r} {out = out} {out' = out'} e p w enough = record {
  wrote = subst⁻¹ (λ (x : List ℕ). Wrote out 0 x r out') (ap (λ (s : rules.Stage). rest_of s l.lines l.held []) e ∙ p) w;
  room = enough;
}
