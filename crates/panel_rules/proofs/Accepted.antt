-- What is accepted at the station is accepted by the ring, and the other way where the word and the marks allow it. Assumes nothing.
use Prim.Native.Nat.{ℕ}
use borrow.Author.Tests.{not-false}
use mathlib.Core.Bool.{false, not, true}
use mathlib.Core.Path.{◌≡◌, ap}
use Rattle.panel_rules.proofs.Soundness.{sound_true, true_sound}
use Rattle.panel_rules.specs.Answers.{step_table, verdict_of}
use Rattle.panel_rules.specs.Rules.{bad_word, second, unequal}
use Rattle.panel_rules.specs.Soundness.{Sound}
use Rattle.panel_rules.specs.State.{Panel}
use Rattle.refusal.proofs.Table.{accepts, none_holds}
use Rattle.refusal.specs.Table.{NoneHolds, also, none}
use Rattle.refusal.specs.Table.{Accepted}
use Rattle.ring_rules.proofs.Soundness as ring_sound
use Rattle.ring_rules.specs.Answers as ring
use Rattle.ring_rules.specs.Rules.{Kind, guard}

-- the rows that an accepted step has passed
pub record Passed (p : Panel) (k : Kind) (i j : ℕ) : Type 0 where
  pub sound : Sound p
  pub running : p.ring.closed ≡ false
  pub known : ring.unknown k ≡ false
  pub inside : ring.outside p.ring k i (second k j) ≡ false
  pub word : bad_word k j ≡ false
  pub allowed : guard p.ring k i (second k j) ≡ true
  pub equal : unequal p k ≡ false
  pub room : ring.sends_spent p.ring k ≡ false

pub passed : (p : Panel) (k : Kind) (i j : ℕ) → verdict_of p k i j ≡ Accepted → Passed p k i j
unfolding verdict_of
passed p k i j e = go (none_holds (step_table p k i j) e)
  where
    go : NoneHolds (step_table p k i j) → Passed p k i j
    go (also s (also c (also u (also o (also b (also g (also q (also l none)))))))) =
        record {
          sound = sound_true p (not-false _ s);
          running = c;
          known = u;
          inside = o;
          word = b;
          allowed = not-false _ g;
          equal = q;
          room = l;
        }

pub ring_accepts : (p : Panel) (k : Kind) (i j : ℕ) → verdict_of p k i j ≡ Accepted → ring.verdict_of p.ring k i (second k j) ≡ Accepted
unfolding ring.verdict_of
ring_accepts p k i j e =
    let a = passed p k i j e in
    accepts (ring.step_table p.ring k i (second k j))
    (also (ap not (ring_sound.true_sound p.ring a.sound.ring))
    (also a.running
    (also a.known (also a.inside (also (ap not a.allowed) (also a.room none))))))

pub panel_accepts :
    (p : Panel) (k : Kind) (i j : ℕ) → Sound p → bad_word k j ≡ false → unequal p k ≡ false → ring.verdict_of p.ring k i (second k j) ≡ Accepted
    → verdict_of p k i j ≡ Accepted
unfolding ring.verdict_of verdict_of
panel_accepts p k i j s b q e = go (none_holds (ring.step_table p.ring k i (second k j)) e)
  where
    go : NoneHolds (ring.step_table p.ring k i (second k j)) → verdict_of p k i j ≡ Accepted
    go (also r (also c (also u (also o (also g (also l none)))))) =
        accepts (step_table p k i j)
        (also (ap not (true_sound p s)) (also c (also u (also o (also b (also g (also q (also l none))))))))
