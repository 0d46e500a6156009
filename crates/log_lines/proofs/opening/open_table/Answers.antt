use Rattle.std.proofs.Common.{ap, subst, sym, ◌∙◌}
use Rattle.log_rules.specs.Answers.{Told, no_moves}
use Rattle.update_forms.specs.Read.{wrapped_at}
use Rattle.log_lines.specs.declared.stage.Stage.TheVariants as stages
use Rattle.log_lines.proofs.Firsts.{flags_wrapped, none_sound, opened_as, opened_first, update_begins}
use Rattle.log_lines.specs.Openings.{Begins}
use Rattle.log_lines.proofs.opening.open_table.Goals as goal

pub start_update-requires : goal.start_update-requires
start_update-requires c = (none_sound _ c.empty-table.ensures, flags_wrapped c.args.line.now 0 (sym c.in-Some.is ∙ c.update_start.ensures))

pub returns : goal.returns
returns c =
    let q = ap opened_as (sym c.in-Some.is ∙ c.update_start.ensures) ∙ opened_first (wrapped_at c.args.line.now 0) in
    subst (λ (x : Told). Begins x (stages.Table (record { table = c.start_update.new.table; moves = no_moves }))) q
    (update_begins c.in-Some.u c.in-Some.start c.empty-table.result c.start_update.new.table c.empty-table.ensures c.in_ok-start_update.ensures
    (c.start_update.ensures.sound (none_sound _ c.empty-table.ensures)))
