-- A sound tree stays sound, and any other is turned back.
use Rattle.std.proofs.Common.{sym}
use Rattle.refusal.specs.Answers.{Keeps, Turns}
use Rattle.tree_rules.proofs.Answers.{unsound_answer}
use Rattle.tree_rules.proofs.Soundness.{sound_true, true_sound}
use Rattle.tree_rules.proofs.Theorems.{sound_kept}
use Rattle.tree_rules.specs.Soundness.{sound_test}
use Rattle.tree_rules.specs.Request.{answer_to, first_number, kind_of_request, second_number}

pub keeps_sound : Keeps sound_test answer_to
keeps_sound t x s = true_sound _ (sound_kept.any t (kind_of_request x) (first_number x) (second_number x) (sound_true t s))

pub turns_back : Turns sound_test answer_to
turns_back t x s = sym (unsound_answer t (kind_of_request x) (first_number x) (second_number x) s)
