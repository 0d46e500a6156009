-- What other languages are told, by one computation over the definitions. Assumes nothing.
use mathlib.Core.Bool.{true}
use mathlib.Core.Path.{◌≡◌, refl}
use Rattle.color.specs.Colors.{blackened, is_black, whitened}
use Rattle.decimal.specs.Number.{checked, number_at, scan_of}
use Rattle.decimal.specs.Text.{decimal, digits, put}
use Rattle.lent.specs.Ring.{truths_test}
use Rattle.lent.specs.Table.{table_in, table_truths}
use Rattle.lent.specs.Tree.{tree_truths_test}
use Rattle.flag_bytes.specs.Flags.{are_flags, bytes_of, flags_of}
use Rattle.laws.specs.Sums.{count_to, sum_to}
use Rattle.ring_rules.specs.Driver.{drive_from, drive_of, may_move, move_of}
use Rattle.ring_rules.specs.Rules.{may_pass, may_probe}
use Rattle.ring_rules.specs.Soundness.{flow_test, gathered_test, passive_above, safra_test, sum_test, unused_test, white_to}
use Rattle.signed.specs.Integers.{◌⊖◌, is_positive, is_same, is_zero}
use Rattle.table_rules.specs.Answers.{verdict_on}
use Rattle.table_rules.specs.Soundness.{sound_table_test}
use Rattle.table_rules.specs.Table.{fixed, nodes_to}
use Rattle.tree_rules.specs.Soundness.{balance_test, chain_test, engager_test, limit_test, pair_test, place_test, rest_test}
use Rattle.tree_rules.specs.State.{children, climb, messages_from}
use Rattle.tree_text.specs.Read.{and_then, body_of, closed, entered, list_of, node_by, node_of, read_of}
use Rattle.tree_text.specs.Text.{children_text, node_text}
use Rattle.tree_text.specs.Write.{write_verdict}
use Rattle.starred_runs.specs.Case.{all_cases_pass, passes}
use Rattle.starred_runs.specs.Table.{calls, table_calls}
use Rattle.ring_rules.specs.Answers as ring
use Rattle.ring_rules.specs.Rules as ring_rules
use Rattle.ring_rules.specs.Soundness as ring_sound
use Rattle.ring_rules.specs.Start as ring_start
use Rattle.tree_rules.specs.Answers as tree_answers
use Rattle.tree_rules.specs.Rules as tree_rules
use Rattle.tree_rules.specs.Soundness as tree_sound
use Rattle.tree_rules.specs.Start as tree_start
use Rattle.starred_runs.specs.TableLent as lent
use Rattle.starred_runs.specs.TableLentTrees as lent_tree
use Rattle.starred_runs.specs.TableLentUpdates as lent_table

pub calls_pass : all_cases_pass calls ≡ true
unfolding calls lent.starts lent.steps lent.soundness lent.drives lent.flags lent_tree.starts lent_tree.steps lent_tree.soundness lent_tree.not_sound lent_tree.texts passes all_cases_pass truths_test tree_truths_test are_flags bytes_of flags_of put is_black blackened whitened ◌⊖◌ is_positive is_zero is_same sum_to count_to ring_rules.conclusive ring_sound.shape_test ring_sound.range_test flow_test sum_test passive_above white_to gathered_test safra_test unused_test ring_sound.closed_test ring_sound.sound_test may_probe may_pass ring.verdict_of ring.answer_of may_move move_of drive_from drive_of ring_start.active_from ring_start.color_from ring_start.flags_test ring_start.first_state ring_start.blank ring_start.start_verdict ring_start.start_of messages_from children climb tree_rules.conclusive tree_sound.shape_test tree_sound.range_test engager_test chain_test balance_test rest_test pair_test place_test limit_test tree_sound.closed_test tree_sound.sound_test tree_rules.may_leave tree_answers.verdict_of tree_answers.answer_of tree_start.first_state tree_start.blank tree_start.start_verdict tree_start.start_of decimal digits children_text node_text write_verdict scan_of checked number_at and_then entered closed body_of node_by list_of node_of read_of
calls_pass = refl

pub table_calls_pass : all_cases_pass table_calls ≡ true
unfolding table_calls lent_table.starts lent_table.steps lent_table.soundness passes all_cases_pass table_truths table_in truths_test are_flags bytes_of flags_of is_black blackened whitened ◌⊖◌ is_positive is_zero is_same sum_to ring_rules.conclusive ring_sound.shape_test ring_sound.range_test flow_test sum_test passive_above white_to gathered_test safra_test unused_test ring_sound.closed_test ring_sound.sound_test may_probe may_pass ring_start.active_from ring_start.color_from ring_start.flags_test ring_start.first_state nodes_to fixed sound_table_test verdict_on
table_calls_pass = refl
