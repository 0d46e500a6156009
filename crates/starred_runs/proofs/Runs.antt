-- The starred runs, by one computation over the definitions. Assumes nothing.
use mathlib.Core.Bool.{true}
use mathlib.Core.Path.{◌≡◌, refl}
use Rattle.color.specs.Colors.{blackened, is_black, whitened}
use Rattle.laws.specs.Sums.{count_to, sum_to}
use Rattle.ring_rules.specs.Driver.{drive_from, drive_of, may_move, move_of}
use Rattle.ring_rules.specs.Rules.{may_pass, may_probe}
use Rattle.ring_rules.specs.Soundness.{flow_test, gathered_test, passive_above, safra_test, sum_test, unused_test, white_to}
use Rattle.ring_rules.specs.Start.{active_from, color_from, flags_test}
use Rattle.runs.specs.Runs.{accepted_of, run_of}
use Rattle.signed.specs.Integers.{◌⊖◌, is_positive, is_same, is_zero}
use Rattle.tree_rules.specs.Rules.{may_leave}
use Rattle.tree_rules.specs.Soundness.{balance_test, chain_test, engager_test, limit_test, pair_test, place_test, rest_test}
use Rattle.tree_rules.specs.State.{children, climb, messages_from}
use Rattle.tree_rules.specs.Termination.{acks_total, engaged_others}
use Rattle.starred_runs.specs.Case.{all_cases_pass, passes}
use Rattle.starred_runs.specs.TableRuns.{runs}
use Rattle.ring_rules.specs.Answers as ring
use Rattle.ring_rules.specs.Rules as ring_rules
use Rattle.ring_rules.specs.Soundness as ring_sound
use Rattle.ring_rules.specs.Start as ring_start
use Rattle.ring_runs.specs.Requests as ring_requests
use Rattle.tree_rules.specs.Answers as tree
use Rattle.tree_rules.specs.Rules as tree_rules
use Rattle.tree_rules.specs.Soundness as tree_sound
use Rattle.tree_rules.specs.Start as tree_start
use Rattle.tree_runs.specs.Requests as tree_requests

pub runs_pass : all_cases_pass runs ≡ true
unfolding runs passes all_cases_pass ring_requests.numbers tree_requests.numbers run_of accepted_of is_black blackened whitened ◌⊖◌ is_positive is_zero is_same sum_to ring_rules.conclusive ring_sound.shape_test ring_sound.range_test flow_test sum_test passive_above white_to gathered_test safra_test unused_test ring_sound.closed_test ring_sound.sound_test may_probe may_pass ring.verdict_of may_move move_of drive_from drive_of active_from color_from flags_test ring_start.first_state ring_start.start_verdict ring_start.start_of count_to messages_from children climb tree_rules.conclusive tree_sound.shape_test tree_sound.range_test engager_test chain_test balance_test rest_test pair_test place_test limit_test tree_sound.closed_test tree_sound.sound_test may_leave tree.verdict_of tree_start.first_state tree_start.start_verdict tree_start.start_of acks_total engaged_others
runs_pass = refl
