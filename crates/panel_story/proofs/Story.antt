-- The story of specs/Story.antt, by computation over the definitions; that six moves are left by the theorem on whole runs. Assumes nothing.
use Prim.Native.Nat.{◌<◌, ℕ}
use borrow.Author.Tests.{eqb-true, not-true}
use lib.Dec.{eqb}
use mathlib.Core.Bool.{Bool, ◌&&◌, not, true}
use mathlib.Core.List.{List, [], ◌++◌, ◌∷◌}
use mathlib.Core.Path.{◌≡◌, refl, subst, sym}
use Rattle.color.specs.Colors.{blackened, is_black, whitened}
use Rattle.laws.proofs.Places.{all_at}
use Rattle.laws.proofs.Tests.{both}
use Rattle.laws.specs.Places.{all_to}
use Rattle.laws.specs.Sums.{sum_to}
use Rattle.panel_rules.specs.Answers.{enter_of, start_verdict, verdict_of}
use Rattle.panel_rules.specs.Asks.{Ask, panel}
use Rattle.panel_rules.specs.Soundness.{marks_test, old_from, places_test, sound_test}
use Rattle.panel_rules.specs.State.{agreed, all_say_word}
use Rattle.panel_runs.specs.Counts.{Leg, QuietBy, QuietOver, active_in, leg_from, transit_in}
use Rattle.panel_story.specs.Story.{SoundByOne, StoryHolds, answers, closed, first, numbers, restored, rounds, steps, updates}
use Rattle.ring_rules.specs.Answers as ring
use Rattle.ring_rules.specs.Rules.{conclusive, may_pass, may_probe}
use Rattle.ring_rules.specs.Soundness as ring_sound
use Rattle.ring_rules.specs.Soundness.{flow_test, gathered_test, passive_above, safra_test, sum_test, unused_test, white_to}
use Rattle.ring_rules.specs.Start as ring_start
use Rattle.ring_runs.specs.Requests.{idle, pass, probe, take}
use Rattle.runs.specs.Runs.{accepted_of, run_of}
use Rattle.signed.specs.Integers.{◌⊖◌, is_positive, is_same, is_zero}

told : numbers first closed ≡ answers
unfolding numbers run_of accepted_of sum_to is_black blackened whitened ◌⊖◌ is_positive is_zero is_same conclusive may_probe may_pass ring_sound.shape_test ring_sound.range_test flow_test sum_test passive_above white_to gathered_test safra_test unused_test ring_sound.closed_test ring_sound.sound_test ring.verdict_of ring_start.active_from ring_start.color_from ring_start.flags_test ring_start.first_state ring_start.start_of ring_start.start_verdict enter_of start_verdict verdict_of marks_test old_from places_test sound_test agreed all_say_word
told = refl

-- the accepted requests of the list up to the quiet point, worked out
abbrev accepted : List Ask
accepted = updates ++ steps (probe ∷ pass 2 ∷ pass 1 ∷ take 2 3 ∷ idle 2 ∷ [])

worked : accepted_of panel first restored ≡ accepted
unfolding run_of accepted_of sum_to is_black blackened whitened ◌⊖◌ is_positive is_zero is_same conclusive may_probe may_pass ring_sound.shape_test ring_sound.range_test flow_test sum_test passive_above white_to gathered_test safra_test unused_test ring_sound.closed_test ring_sound.sound_test ring.verdict_of ring_start.active_from ring_start.color_from ring_start.flags_test ring_start.first_state ring_start.start_of ring_start.start_verdict enter_of start_verdict verdict_of marks_test old_from places_test sound_test agreed all_say_word
worked = refl

-- every node passive and no message in transit, as one test
abbrev quiet_at : Leg → ℕ → Bool
quiet_at l b = not (active_in l b) && eqb (transit_in l b) 0

abbrev leg_by : List Ask → Leg
leg_by acc = leg_from (record { base = first.ring; steps = [] }) acc

tested : all_to 3 (quiet_at (leg_by accepted)) ≡ true
unfolding run_of accepted_of sum_to is_black blackened whitened ◌⊖◌ is_positive is_zero is_same conclusive may_probe may_pass ring_sound.shape_test ring_sound.range_test flow_test sum_test passive_above white_to gathered_test safra_test unused_test ring_sound.closed_test ring_sound.sound_test ring.verdict_of ring_start.active_from ring_start.color_from ring_start.flags_test ring_start.first_state ring_start.start_of ring_start.start_verdict enter_of start_verdict verdict_of marks_test old_from places_test sound_test agreed all_say_word
tested = refl

quiet_over : (l : Leg) → all_to 3 (quiet_at l) ≡ true → QuietOver 3 l
quiet_over l e =
    record {
      passive = λ b h. not-true (active_in l b) (at b h).0;
      empty = λ b h. eqb-true (transit_in l b) 0 (at b h).1;
    }
  where
    at : (b : ℕ) → b < 3 → (not (active_in l b) ≡ true) × (eqb (transit_in l b) 0 ≡ true)
    at b h = both (not (active_in l b)) (eqb (transit_in l b) 0) (all_at 3 (quiet_at l) e b h)

quiet : QuietBy first restored
unfolding enter_of ring_start.start_of ring_start.first_state ring_start.start_verdict ring_start.flags_test
quiet = subst (λ (acc : List Ask). QuietOver 3 (leg_by acc)) (sym worked) (quiet_over (leg_by accepted) tested)

pub story_holds : StoryHolds
unfolding run_of accepted_of sum_to is_black blackened whitened ◌⊖◌ is_positive is_zero is_same conclusive may_probe may_pass ring_sound.shape_test ring_sound.range_test flow_test sum_test passive_above white_to gathered_test safra_test unused_test ring_sound.closed_test ring_sound.sound_test ring.verdict_of ring_start.active_from ring_start.color_from ring_start.flags_test ring_start.first_state ring_start.start_of ring_start.start_verdict enter_of start_verdict verdict_of marks_test old_from places_test sound_test agreed all_say_word
story_holds =
    record {
      entered = refl;
      travelling = refl;
      passive = (refl, refl, refl);
      marks_new = (refl, refl);
      asked = refl;
      quiet = quiet;
      still_open = refl;
      marks_unequal = (refl, refl, refl);
      six = λ c. sym ((c.counted rounds refl).exactly.0 refl);
      tested = refl;
      unequal = refl;
      nothing_written = refl;
      released = refl;
      recorded = refl;
      found = (refl, refl);
      told = told;
    }

pub sound_by_one : SoundByOne
unfolding run_of accepted_of sum_to is_black blackened whitened ◌⊖◌ is_positive is_zero is_same conclusive may_probe may_pass ring_sound.shape_test ring_sound.range_test flow_test sum_test passive_above white_to gathered_test safra_test unused_test ring_sound.closed_test ring_sound.sound_test ring.verdict_of ring_start.active_from ring_start.color_from ring_start.flags_test ring_start.first_state ring_start.start_of ring_start.start_verdict enter_of start_verdict verdict_of marks_test old_from places_test sound_test agreed all_say_word
sound_by_one =
    record {
      open_panel = refl;
      open_marks = (refl, refl);
      unused_firmware = (refl, refl);
      unused_map = (refl, refl);
      open_record = (refl, refl);
      closed_panel = (refl, refl);
      closed_record = (refl, refl);
      closed_marks = (refl, refl);
      closed_new = refl;
    }
