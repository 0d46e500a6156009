-- Soundness, clause by clause, by one computation over the definitions. Assumes nothing.
use mathlib.Core.Bool.{true}
use mathlib.Core.Path.{◌≡◌, refl}
use Rattle.color.specs.Colors.{blackened, is_black}
use Rattle.decimal.specs.Text.{decimal, digits}
use Rattle.laws.specs.Sums.{count_to, sum_to}
use Rattle.ring_rules.specs.Driver.{drive_from, drive_of, may_move}
use Rattle.ring_rules.specs.Rules.{may_pass, may_probe}
use Rattle.ring_rules.specs.Soundness.{flow_test, gathered_test, passive_above, safra_test, sum_test, unused_test, white_to}
use Rattle.signed.specs.Integers.{◌⊖◌, is_positive, is_same, is_zero}
use Rattle.table_rules.specs.Answers.{verdict_on}
use Rattle.table_rules.specs.Soundness.{sound_table_test}
use Rattle.table_rules.specs.Table.{fixed, nodes_to}
use Rattle.tree_rules.specs.Soundness.{balance_test, chain_test, engager_test, limit_test, pair_test, place_test, rest_test}
use Rattle.tree_rules.specs.State.{children, climb, messages_from}
use Rattle.tree_text.specs.Text.{children_text, node_text}
use Rattle.tree_text.specs.Write.{write_verdict, written_of}
use Rattle.starred_runs.specs.Case.{all_cases_pass, passes}
use Rattle.starred_runs.specs.Table.{rings, trees}
use Rattle.starred_runs.specs.TableUpdates.{updates}
use Rattle.ring_rules.specs.Answers as ring
use Rattle.ring_rules.specs.Rules as ring_rules
use Rattle.ring_rules.specs.Soundness as ring_sound
use Rattle.ring_rules.specs.Start as ring_start
use Rattle.tree_rules.specs.Answers as tree
use Rattle.tree_rules.specs.Rules as tree_rules
use Rattle.tree_rules.specs.Soundness as tree_sound
use Rattle.tree_rules.specs.Start as tree_start
use Rattle.starred_runs.specs.TableRings as rows_of_ring
use Rattle.starred_runs.specs.TableTrees as rows_of_tree

pub rings_pass : all_cases_pass rings ≡ true
unfolding rings rows_of_ring.range rows_of_ring.flow rows_of_ring.sums rows_of_ring.safra rows_of_ring.unused rows_of_ring.announced passes all_cases_pass is_black blackened ◌⊖◌ is_positive is_zero is_same sum_to ring_rules.conclusive ring_sound.shape_test ring_sound.range_test flow_test sum_test passive_above white_to gathered_test safra_test unused_test ring_sound.closed_test ring_sound.sound_test may_probe may_pass ring.verdict_of may_move drive_from drive_of
rings_pass = refl

pub trees_pass : all_cases_pass trees ≡ true
unfolding trees rows_of_tree.chains rows_of_tree.balance rows_of_tree.resting rows_of_tree.limit rows_of_tree.unused rows_of_tree.own rows_of_tree.range rows_of_tree.announced passes all_cases_pass sum_to count_to messages_from children climb tree_rules.conclusive tree_sound.shape_test tree_sound.range_test engager_test chain_test balance_test rest_test pair_test place_test limit_test tree_sound.closed_test tree_sound.sound_test tree.verdict_of tree_start.first_state decimal digits children_text node_text write_verdict written_of
trees_pass = refl

pub updates_pass : all_cases_pass updates ≡ true
unfolding updates passes all_cases_pass is_black blackened ◌⊖◌ is_positive is_zero is_same sum_to ring_rules.conclusive ring_sound.shape_test ring_sound.range_test flow_test sum_test passive_above white_to gathered_test safra_test unused_test ring_sound.closed_test ring_sound.sound_test may_probe ring_start.flags_test nodes_to fixed sound_table_test verdict_on
updates_pass = refl
