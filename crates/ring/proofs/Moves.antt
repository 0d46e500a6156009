-- The driver's definition, one turn at a time. Assumes nothing.
use Prim.Native.Nat.{◌+◌, ◌-◌, ◌<◌, ◌≤◌, suc, zero, ℕ}
use borrow.Author.Tests.{eq-eqb, lt-ltb, ltb-false, not-false}
use mathlib.Core.Bool.{false, not, true}
use mathlib.Core.Path.{◌∙◌, ◌≡◌, ap, refl, sym}
use native.Mathlib.Numerals.{add-one}
use native.Mathlib.Omega.{arith}
use Rattle.refusal.proofs.Table.{none_holds}
use Rattle.refusal.specs.Table.{Accepted, NoneHolds, also, first_of, none}
use Rattle.ring_rules.proofs.Driver.{above_zero, at_zero, move_answer}
use Rattle.ring_rules.proofs.Soundness.{sound_true}
use Rattle.ring_rules.proofs.Theorems.{fields_unread}
use Rattle.ring_rules.specs.Answers.{Answer, answer_of}
use Rattle.ring_rules.specs.Driver.{Conclusive, Spent, Waiting, drive_from, drive_table, may_move, move_limit, move_of, stop_at}
use Rattle.ring_rules.specs.Rules.{Kind, Pass, Probe, conclusive, guard, may_pass, may_probe}
use Rattle.ring_rules.specs.Soundness.{Open, sound_test}
use Rattle.ring_rules.specs.State.{State, active_at}

pub ends_conclusive : (k d : ℕ) (s : State) → conclusive s ≡ true → stop_at Conclusive d s ≡ drive_from k d s
unfolding drive_from
ends_conclusive zero d s e = rw e
ends_conclusive (suc k) d s e = rw e

pub ends_waiting : (k d : ℕ) (s : State) → conclusive s ≡ false → may_move s ≡ false → stop_at Waiting d s ≡ drive_from k d s
unfolding drive_from
ends_waiting zero d s e f = rw (e, f)
ends_waiting (suc k) d s e f = rw (e, f)

-- all of m moves are made
pub ends_spent : (m d : ℕ) (s : State) → d ≡ m → conclusive s ≡ false → may_move s ≡ true → stop_at Spent d s ≡ drive_from (m - d) d s
unfolding drive_from
ends_spent m d s h e f = let z : m - d ≡ 0 = omega arith in rw (z, e, f)

-- none is made
pub none_made : (m : ℕ) (s : State) → drive_from (m - 0) 0 s ≡ drive_from m 0 s
none_made m s = let z : m - 0 ≡ m = omega arith in ap (λ (k : ℕ). drive_from k 0 s) z

-- with d of m moves made, one more
pub one_more : (m d : ℕ) (s : State) → d < m → conclusive s ≡ false → may_move s ≡ true → drive_from (m - (d + 1)) (d + 1) (move_of s) ≡ drive_from (m - d) d s
unfolding drive_from
one_more m d s h e f =
    let z : m - d ≡ suc (m - (d + 1)) = omega arith in
    rw (z, e, f, add-one d)

-- ---- the token's position

pub probe_here : (s : State) → s.pos ≡ 0 → may_probe s ≡ may_move s
unfolding may_move
probe_here s z = sym (ap (λ (k : Kind). guard s k s.pos 0) (at_zero s z))

pub pass_here : (s : State) → (s.pos ≡ 0 → ⊥) → not (active_at s s.pos) ≡ may_move s
unfolding may_move may_pass
pass_here s ne =
    sym
    (ap (λ (k : Kind). guard s k s.pos 0) (above_zero s (omega arith))
    ∙ rw (lt-ltb 0 s.pos (omega arith), eq-eqb s.pos s.pos refl))

module _ (s : State) (o : Open s) (e : may_move s ≡ true) where
  pub probe_moves : s.pos ≡ 0 → (answer_of s Probe 0 0).state ≡ move_of s
  probe_moves z =
      ap (λ (a : Answer). a.state)
      (fields_unread.probe s 0 s.pos 0 0 ∙ ap (λ (k : Kind). answer_of s k s.pos 0) (sym (at_zero s z)) ∙ move_answer s o e)

  pub pass_moves : (s.pos ≡ 0 → ⊥) → (answer_of s Pass s.pos 0).state ≡ move_of s
  pass_moves ne =
      ap (λ (a : Answer). a.state)
      (ap (λ (k : Kind). answer_of s k s.pos 0) (sym (above_zero s (omega arith))) ∙ move_answer s o e)

-- a driver that is not refused: the state is open, and the limit is kept
pub may_run : (s : State) (m : ℕ) → first_of (drive_table s m) ≡ Accepted → Open s × (m ≤ move_limit)
may_run s m e = go (none_holds (drive_table s m) e)
  where
    go : NoneHolds (drive_table s m) → Open s × (m ≤ move_limit)
    go (also sound (also running (also most none))) =
        (record { sound = sound_true s (not-false (sound_test s) sound); running = running }, ltb-false move_limit m most)
