-- What a lent byte says of a truth. Assumes nothing.
use mathlib.Core.Path.{refl}
use Rattle.flag_bytes.proofs.Laws.{flag_back, flags_back, no_flag, no_flags, truth_back, truths_back}
use Rattle.flag_bytes.specs.Theorems.{FlagsJudged}

pub flags_judged : FlagsJudged
flags_judged =
    record { flag = truth_back; one = refl; none = no_flag; none_at = no_flags; back = flag_back; all = truths_back; all_back = flags_back }
