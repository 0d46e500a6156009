use Rattle.std.proofs.Common.{ap, sym, ◌∙◌}
use Rattle.log_rules.proofs.InPlace.{tree_in_place}
use Rattle.log_rules.specs.Answers.{tree_told}
use Rattle.log_lines.proofs.Trees.{tree_answered}
use Rattle.log_lines.proofs.Waiting.{formless_told}
use Rattle.log_lines.proofs.tree_run.tree_line.Goals as goal

pub returns : goal.returns
returns c =
    tree_answered _ _ _ c.args.piece.now _ _ c.in-Some.step _ _ c.requires.0 c.request_of.ensures
    (sym c.in-Some.is ∙ c.tree_step.ensures.0) c.apply_sound.ensures

pub returns-in_default : goal.returns-in_default
returns-in_default c =
    formless_told _ _ c.args.piece.now _ _ c.requires.0
    (ap (tree_told _ _) (sym c.in_default.is ∙ c.tree_step.ensures.0) ∙ tree_in_place _ _ _ _) c.formless.ensures
