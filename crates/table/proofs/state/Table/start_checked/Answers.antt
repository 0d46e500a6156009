use Rattle.std.proofs.Common.{refl, sym, ◌∙◌}
use Rattle.table_rules.proofs.Soundness.{table_true}
use Rattle.table.proofs.Laws.{unsound_by}
use Rattle.table.proofs.state.Table.start_checked.Goals as goal

pub returns-then-not-is_sound : goal.returns-then-not-is_sound
returns-then-not-is_sound c = unsound_by _ _ _ refl (sym c.is_sound.ensures ∙ c.if-not-is_sound.true)

pub start_in_place-requires : goal.start_in_place-requires
start_in_place-requires c = table_true _ (sym c.is_sound.ensures ∙ c.if-not-is_sound.false)
