-- The writer's answer, by its table. Assumes nothing.
use Prim.Native.Nat.{◌+◌, ◌<◌, ◌≤◌, ℕ}
use borrow.Author.Tests.{le-ltb, lt-ltb, ltb-false}
use lib.ListN.{drop, get_or, length, take}
use lib.Seq.{take-append_seam}
use mathlib.Core.Bool.{false, not, true}
use mathlib.Core.List.{List, [], ◌++◌, ◌∷◌}
use mathlib.Core.Logic.{inl, inr}
use mathlib.Core.Path.{◌∙◌, ◌≡◌, ap, refl, subst, sym}
use native.Mathlib.Omega.{arith}
use Rattle.decimal.proofs.Put.{put-length, put_past, put_stands}
use Rattle.decimal.specs.Text.{put}
use Rattle.refusal.proofs.Table.{accepts, first_row, none_holds, numbered}
use Rattle.refusal.specs.Table.{NoneHolds, Numbered, ◌⟶◌, also, code_of, first_of, none}
use Rattle.refusal.specs.declared.Refusal.{Refusal}
use Rattle.refusal.specs.declared.Refusal.TheVariants.{ShortBuffer, Unsound}
use Rattle.refusal.specs.Table.{Verdict}
use Rattle.refusal.specs.Table.{Accepted, Refused}
use Rattle.tree_rules.specs.Soundness.{sound_test}
use Rattle.tree_rules.specs.State.{State}
use Rattle.tree_text.proofs.Steps.{verdict_of}
use Rattle.tree_text.specs.Theorems.{WriteAnswered}
use Rattle.tree_text.specs.Write.{buffer_of, state_text, told, write_table, write_verdict, written_number, written_of}
use Rattle.tree_text.specs.Write.{Length, NotWritten}

module _ (t : State) (b : List ℕ) where
  pub told_yes : write_verdict t b ≡ Accepted → written_of t b ≡ Length (length (state_text t))
  unfolding written_of
  told_yes h = rw h

  pub told_no : (e : Refusal) → write_verdict t b ≡ Refused e → written_of t b ≡ NotWritten e
  unfolding written_of
  told_no e h = rw h

  pub left_yes : write_verdict t b ≡ Accepted → buffer_of t b ≡ put b 0 (state_text t)
  unfolding buffer_of
  left_yes h = rw h

  pub left_no : (e : Refusal) → write_verdict t b ≡ Refused e → buffer_of t b ≡ b
  unfolding buffer_of
  left_no e h = rw h

  number_is : Numbered (write_table t b) (written_number (written_of t b))
  unfolding written_of write_verdict
  number_is = subst (Numbered (write_table t b)) (sym (by (first_of (write_table t b)))) (numbered (write_table t b))
    where
      by : (v : Verdict) → written_number (told v (length (state_text t))) ≡ code_of v
      by Accepted = refl
      by (Refused e) = refl

  -- ---- by the code's tests

  pub unsound : sound_test t ≡ false → write_verdict t b ≡ Refused Unsound
  unfolding write_verdict
  unsound h = rw h

  pub short : sound_test t ≡ true → length b < length (state_text t) → write_verdict t b ≡ Refused ShortBuffer
  unfolding write_verdict
  short h k = λ x. first_of ((not (h x) ⟶ Unsound) ∷ (lt-ltb (length b) (length (state_text t)) k x ⟶ ShortBuffer) ∷ [])

  pub fits : sound_test t ≡ true → length (state_text t) ≤ length b → write_verdict t b ≡ Accepted
  unfolding write_verdict
  fits h k = λ x. first_of ((not (h x) ⟶ Unsound) ∷ (le-ltb (length b) (length (state_text t)) k x ⟶ ShortBuffer) ∷ [])

  -- ---- what an acceptance says

  pub room : write_verdict t b ≡ Accepted → length (state_text t) ≤ length b
  unfolding write_verdict
  room h = by (none_holds (write_table t b) h)
    where
      by : NoneHolds (write_table t b) → length (state_text t) ≤ length b
      by (also p (also q none)) = ltb-false (length b) (length (state_text t)) q

  stands : write_verdict t b ≡ Accepted → take (length (state_text t)) (buffer_of t b) ≡ state_text t
  stands h =
      let x = state_text t in
      let first : put b 0 x ≡ x ++ drop (0 + length x) b = put_stands x b 0 (omega (arith, room h)) in
      ap (take (length x)) (left_yes h ∙ first) ∙ take-append_seam x (drop (0 + length x) b)

  past : (i : ℕ) → length (state_text t) ≤ i → get_or (buffer_of t b) i 0 ≡ get_or b i 0
  past i h =
      elim (verdict_of (write_verdict t b)) [
        | inl p ↦ rw (left_yes p) (put_past (state_text t) b 0 i (omega arith))
        | inr q ↦ rw (left_no q.0 q.1)
      ]

  size : length (buffer_of t b) ≡ length b
  size =
      elim (verdict_of (write_verdict t b)) [
        | inl p ↦ ap length (left_yes p) ∙ put-length (state_text t) b 0
        | inr q ↦ ap length (left_no q.0 q.1)
      ]

pub write_answered : WriteAnswered
unfolding write_verdict
write_answered = record {
  number = number_is;
  accepted = λ t b. (none_holds (write_table t b), accepts (write_table t b));
  length_told = told_yes;
  text_stands = stands;
  past_kept = past;
  size_kept = size;
  refusal_told = λ t b e h. (told_no t b e h, first_row (write_table t b) e h);
  same = left_no;
}
