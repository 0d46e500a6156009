-- The examples, by one computation over the definitions. Assumes nothing.
use mathlib.Core.Path.{refl}
use Rattle.color.specs.Colors.{blackened, is_black, whitened}
use Rattle.decimal.specs.Number.{checked, kept_of, scan_of}
use Rattle.decimal.specs.Text.{decimal, digits}
use Rattle.decimal.specs.Word.{starts}
use Rattle.first_line.specs.Read.{entries_of, entry_of, first_at, lists_at, ring_after, root_after, start_at, tree_after}
use Rattle.forms.specs.Form.{line}
use Rattle.forms.specs.Read.{closed_at, closed_of, ends_line, lined, made_of, one_of, read_by, ring_at, second_of, spaced_of, tree_at, two_of}
use Rattle.laws.specs.Sums.{count_to, sum_to}
use Rattle.ring_rules.specs.Answers.{answer_of, verdict_of}
use Rattle.ring_rules.specs.Rules.{conclusive, may_pass, may_probe}
use Rattle.ring_rules.specs.Soundness.{closed_test, flow_test, gathered_test, passive_above, range_test, safra_test, shape_test, sound_test, sum_test, unused_test, white_to}
use Rattle.ring_rules.specs.Start.{active_from, color_from, first_state}
use Rattle.ring_rules.specs.State.{black_nodes, in_transit}
use Rattle.signed.specs.Integers.{◌⊖◌, is_positive, is_same, is_zero}
use Rattle.table_rules.specs.Answers.{answer_on, verdict_on}
use Rattle.table_rules.specs.Soundness.{sound_table_test}
use Rattle.table_rules.specs.Table.{fixed, nodes_to}
use Rattle.update_forms.specs.Read.{closed_read, inner_of, inside_at, opened_of, space_after, update_at, wrapped_at}
use Rattle.log_rules.specs.Answers.{ends_to, line_told}
use Rattle.log_rules.specs.Examples.{ExamplesHold, expected, outputs}
use Rattle.log_rules.specs.Lines.{split}
use Rattle.log_rules.specs.Output.{lines_told, rest_of}
use Rattle.decimal.specs.Number as number
use Rattle.first_line.specs.Read as read
use Rattle.tree_rules.specs.Answers as tree
use Rattle.tree_rules.specs.Rules.{may_leave}
use Rattle.tree_rules.specs.Rules as tree_rules
use Rattle.tree_rules.specs.Soundness.{balance_test, chain_test, engager_test, limit_test, pair_test, place_test, rest_test}
use Rattle.tree_rules.specs.Soundness as sound
use Rattle.tree_rules.specs.Start as tree_start
use Rattle.tree_rules.specs.State.{children, climb, messages_from}
use Rattle.tree_rules.specs.Termination.{acks_total}
use Rattle.tree_text.specs.Text.{children_text, list_text, node_text}

pub examples_hold : ExamplesHold
unfolding scan_of checked number.number_at kept_of digits decimal starts line spaced_of closed_at closed_of one_of second_of two_of made_of read_by ends_line lined ring_at tree_at entry_of entries_of read.active_read read.black_read lists_at ring_after root_after tree_after start_at first_at space_after opened_of inner_of closed_read inside_at update_at wrapped_at nodes_to fixed sound_table_test verdict_on answer_on ends_to line_told split lines_told rest_of verdict_of answer_of conclusive may_probe may_pass shape_test range_test flow_test sum_test passive_above white_to gathered_test safra_test unused_test closed_test sound_test active_from color_from first_state in_transit black_nodes is_black blackened whitened ◌⊖◌ is_positive is_zero is_same count_to outputs expected tree.verdict_of tree.answer_of may_leave tree_rules.conclusive sound.shape_test sound.range_test engager_test chain_test balance_test rest_test pair_test place_test limit_test sound.closed_test sound.sound_test tree_start.first_state tree_start.start_verdict messages_from children climb acks_total sum_to children_text node_text list_text
examples_hold = refl
