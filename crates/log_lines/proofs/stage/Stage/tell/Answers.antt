use Rattle.std.proofs.Common.{ap}
use Rattle.log_lines.proofs.Firsts.{first_line_told}
use Rattle.log_lines.specs.Stages.{stage_of}
use Rattle.log_lines.proofs.stage.Stage.tell.Goals as goal

pub returns-in-Fresh : goal.returns-in-Fresh
returns-in-Fresh c = first_line_told _ _ _ c.args.piece.now _ _ (ap stage_of c.in-Fresh.is) c.first_line.ensures
