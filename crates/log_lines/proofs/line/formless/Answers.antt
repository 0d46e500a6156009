use Rattle.std.proofs.Common.{sym, refl}
use Rattle.log_lines.proofs.Ends.{found_line, found_none}
use Rattle.log_lines.proofs.line.formless.Goals as goal

pub returns-in_err-next : goal.returns-in_err-next
returns-in_err-next c = rw c.from_residual.ensures (found_none _ _ (sym c.in_err-next.ensures))

pub returns : goal.returns
returns c =
    let f = found_line _ _ _ (sym c.in_ok-next.ensures) in
    record { number = refl; refused = refl; whole = f.line_ends; past = f.past }
