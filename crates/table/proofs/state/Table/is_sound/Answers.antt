use Rattle.std.proofs.Common.{ℕ, rules, ap, ◌∙◌}
use Rattle.std.specs.Option.{unwrap_or}
use Rattle.std.specs.Prelude.{Option}
use Rattle.table.proofs.Laws.{all_sound, fixed_number}
use Rattle.table.proofs.state.Table.is_sound.Goals as goal

pub returns : goal.returns
returns c =
    c.are_sound.ensures
    ∙ all_sound c.args.self.now.rings _ (search rules) (c.unwrap_or.ensures ∙ ap (λ (o : Option ℕ). unwrap_or o 0) c.fixed_nodes.ensures ∙ fixed_number _)
