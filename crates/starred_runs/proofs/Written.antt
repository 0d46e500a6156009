-- Numbers, colors and texts, by one computation over the definitions. Assumes nothing.
use mathlib.Core.Bool.{true}
use mathlib.Core.Path.{◌≡◌, refl}
use Rattle.color.specs.Colors.{blackened, is_black, whitened}
use Rattle.decimal.specs.Number.{checked, scan_of}
use Rattle.decimal.specs.Text.{decimal, digits}
use Rattle.laws.specs.Sums.{sum_to}
use Rattle.ring_rules.specs.Rules.{may_probe}
use Rattle.ring_rules.specs.Soundness.{flow_test, gathered_test, passive_above, safra_test, sum_test, unused_test, white_to}
use Rattle.ring_rules.specs.Start.{active_from, color_from, flags_test}
use Rattle.signed.specs.Integers.{◌⊖◌, is_positive, is_same, is_zero}
use Rattle.tree_text.specs.Read.{and_then, body_of, closed, entered, list_of, node_by, node_of, read_of}
use Rattle.tree_text.specs.Text.{children_text, node_text}
use Rattle.starred_runs.specs.Case.{all_cases_pass, passes}
use Rattle.starred_runs.specs.TableNumbers.{numbers}
use Rattle.starred_runs.specs.Table.{written}
use Rattle.starred_runs.specs.TableTexts.{texts}
use Rattle.decimal.specs.Number as number
use Rattle.ring_rules.specs.Answers as ring
use Rattle.ring_rules.specs.Rules as ring_rules
use Rattle.ring_rules.specs.Soundness as ring_sound
use Rattle.ring_rules.specs.Start as ring_start
use Rattle.ring_runs.specs.Requests as ring_requests

pub written_pass : all_cases_pass written ≡ true
unfolding written numbers ring_requests.numbers texts passes all_cases_pass is_black blackened whitened ◌⊖◌ is_positive is_zero is_same sum_to ring_rules.conclusive ring_sound.shape_test ring_sound.range_test flow_test sum_test passive_above white_to gathered_test safra_test unused_test ring_sound.closed_test ring_sound.sound_test may_probe ring.verdict_of active_from color_from flags_test ring_start.first_state ring_start.start_verdict ring_start.start_of decimal digits children_text node_text scan_of checked number.number_at and_then entered closed body_of node_by list_of node_of read_of
written_pass = refl
