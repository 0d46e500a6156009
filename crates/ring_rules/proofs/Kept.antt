-- A sound ring stays sound, and any other is turned back.
use Rattle.std.proofs.Common.{sym}
use Rattle.refusal.specs.Answers.{Keeps, Turns}
use Rattle.ring_rules.proofs.Answers.{unsound_answer}
use Rattle.ring_rules.proofs.Soundness.{sound_true, true_sound}
use Rattle.ring_rules.proofs.Theorems.{sound_kept}
use Rattle.ring_rules.specs.Soundness.{sound_test}
use Rattle.ring_rules.specs.Request.{answer_to, first_number, kind_of_request, second_number}

pub keeps_sound : Keeps sound_test answer_to
keeps_sound r x s = true_sound _ (sound_kept.any r (kind_of_request x) (first_number x) (second_number x) (sound_true r s))

pub turns_back : Turns sound_test answer_to
turns_back r x s = sym (unsound_answer r (kind_of_request x) (first_number x) (second_number x) s)
