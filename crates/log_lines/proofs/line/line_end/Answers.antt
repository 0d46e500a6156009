use Rattle.std.proofs.Common.{arith, ap, sym, ◌∙◌}
use Rattle.std.specs.List.{position}
use Rattle.log_lines.proofs.Ends.{end_none, end_some, found, left, none_found, none_left, ten}
use Rattle.log_lines.proofs.line.line_end.Goals as goal

pub returns-in_err-rest : goal.returns-in_err-rest
returns-in_err-rest c =
    c.from_residual.ensures ∙ end_none _ _ (none_left c.args.piece.now c.args.from (omega (arith, c.in_err-rest.ensures.lookup)))

pub returns-in_err-length : goal.returns-in_err-length
returns-in_err-length c =
    let r = c.in_ok-rest.ensures.lookup.0.2 ∙ left c.args.piece.now c.args.from in
    c.from_residual-in_err-length.ensures ∙ end_none _ _ (none_found _ (ap (position ten) (sym r) ∙ sym c.in_err-length.ensures))

pub returns : goal.returns
returns c =
    let r = c.in_ok-rest.ensures.lookup.0.2 ∙ left c.args.piece.now c.args.from in
    end_some _ _ _ (found _ _ (ap (position ten) (sym r) ∙ sym c.in_ok-length.ensures))
