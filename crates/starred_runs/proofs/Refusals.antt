-- The order of the refusals, node numbers and limits, by one computation over the definitions. Assumes nothing.
use mathlib.Core.Bool.{true}
use mathlib.Core.Path.{◌≡◌, refl}
use Rattle.color.specs.Colors.{blackened, is_black, whitened}
use Rattle.decimal.specs.Number.{checked, kept_of, scan_of}
use Rattle.decimal.specs.Text.{decimal, digits}
use Rattle.decimal.specs.Word.{starts}
use Rattle.first_line.specs.Read.{entries_of, entry_of, first_at, lists_at, ring_after, root_after, start_at, tree_after}
use Rattle.forms.specs.Read.{closed_at, closed_of, ends_line, lined, made_of, one_of, read_by, ring_at, second_of, spaced_of, tree_at, two_of}
use Rattle.laws.specs.Sums.{count_to, sum_to}
use Rattle.log_rules.specs.Answers.{line_told}
use Rattle.log_rules.specs.Lines.{split}
use Rattle.log_rules.specs.Output.{lines_told, rest_of}
use Rattle.ring_rules.specs.Driver.{drive_from, drive_of, may_move, move_of}
use Rattle.ring_rules.specs.Rules.{may_pass, may_probe}
use Rattle.ring_rules.specs.Soundness.{flow_test, gathered_test, passive_above, safra_test, sum_test, unused_test, white_to}
use Rattle.ring_rules.specs.Start.{active_from, color_from, flags_test}
use Rattle.ring_rules.specs.State.{black_nodes, in_transit}
use Rattle.signed.specs.Integers.{◌⊖◌, is_positive, is_same, is_zero}
use Rattle.table_rules.specs.Answers.{verdict_on}
use Rattle.table_rules.specs.Soundness.{sound_table_test}
use Rattle.table_rules.specs.Table.{fixed, nodes_to}
use Rattle.tree_rules.specs.Rules.{may_leave}
use Rattle.tree_rules.specs.Soundness.{balance_test, chain_test, engager_test, limit_test, pair_test, place_test, rest_test}
use Rattle.tree_rules.specs.State.{children, climb, messages_from}
use Rattle.tree_rules.specs.Termination.{acks_total}
use Rattle.tree_text.specs.Text.{children_text, node_text}
use Rattle.tree_text.specs.Write.{write_verdict, written_of}
use Rattle.starred_runs.specs.Case.{all_cases_pass, passes}
use Rattle.starred_runs.specs.TableLimits.{limits}
use Rattle.starred_runs.specs.TableRefusals.{order, outside}
use Rattle.starred_runs.specs.Table.{refusals}
use Rattle.update_forms.specs.Read.{closed_read, inner_of, inside_at, opened_of, space_after, update_at, wrapped_at}
use Rattle.decimal.specs.Number as number
use Rattle.first_line.specs.Read as first
use Rattle.ring_rules.specs.Answers as ring
use Rattle.ring_rules.specs.Rules as ring_rules
use Rattle.ring_rules.specs.Soundness as ring_sound
use Rattle.ring_rules.specs.Start as ring_start
use Rattle.ring_runs.specs.Requests as ring_requests
use Rattle.tree_rules.specs.Answers as tree
use Rattle.tree_rules.specs.Rules as tree_rules
use Rattle.tree_rules.specs.Soundness as tree_sound
use Rattle.tree_rules.specs.Start as tree_start
use Rattle.tree_runs.specs.Requests as tree_requests

pub refusals_pass : all_cases_pass refusals ≡ true
unfolding refusals order outside limits passes all_cases_pass ring_requests.numbers tree_requests.numbers is_black blackened whitened ◌⊖◌ is_positive is_zero is_same sum_to ring_rules.conclusive ring_sound.shape_test ring_sound.range_test flow_test sum_test passive_above white_to gathered_test safra_test unused_test ring_sound.closed_test ring_sound.sound_test may_probe may_pass ring.verdict_of may_move move_of drive_from drive_of active_from color_from flags_test ring_start.first_state ring_start.blank ring_start.start_of ring_start.start_verdict count_to messages_from children climb tree_rules.conclusive tree_sound.shape_test tree_sound.range_test engager_test chain_test balance_test rest_test pair_test place_test limit_test tree_sound.closed_test tree_sound.sound_test may_leave tree.verdict_of tree_start.first_state tree_start.blank tree_start.start_of tree_start.start_verdict decimal digits children_text node_text write_verdict written_of line_told split lines_told rest_of ring.answer_of tree.answer_of in_transit black_nodes acks_total starts scan_of checked number.number_at kept_of spaced_of closed_at closed_of one_of second_of two_of made_of read_by ends_line lined ring_at tree_at entry_of entries_of first.active_read first.black_read lists_at ring_after root_after tree_after start_at first_at opened_of space_after inner_of inside_at closed_read update_at wrapped_at nodes_to fixed sound_table_test verdict_on
refusals_pass = refl
