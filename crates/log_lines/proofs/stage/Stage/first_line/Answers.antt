use Rattle.std.proofs.Common.{arith, refl, subst, sym, List, ℕ}
use Rattle.log_rules.specs.Answers.{fresh, line_told}
use Rattle.log_lines.proofs.Ends.{found_line, found_none}
use Rattle.log_lines.proofs.Firsts.{part_line}
use Rattle.log_lines.specs.Openings.{Begun}
use Rattle.log_lines.specs.Stages.{stage_of}
use Rattle.log_lines.proofs.stage.Stage.first_line.Goals as goal

pub returns-in_err-next : goal.returns-in_err-next
returns-in_err-next c = rw c.from_residual.ensures (refl, found_none _ _ (sym c.in_err-next.ensures))

pub slice_bounds-begin-count : goal.slice_bounds-begin-count
slice_bounds-begin-count c = omega (arith, (found_line _ _ _ (sym c.in_ok-next.ensures)).onward)

pub slice_bounds-begin-end : goal.slice_bounds-begin-end
slice_bounds-begin-end c = let f = found_line _ _ _ (sym c.in_ok-next.ensures) in omega (arith, f.onward, f.inside)

pub returns : goal.returns
returns c =
    let f = found_line _ _ _ (sym c.in_ok-next.ensures) in record {
      whole = f.line_ends;
      past = f.past;
      number = refl;
      begun = subst (λ (l : List ℕ). Begun (line_told fresh 1 l) c.begin-answer.result (stage_of c.begin-answer.new.self)) (part_line _ _ _ f) c.begin-answer.ensures;
    }

pub slice_bounds-begin-start : goal.slice_bounds-begin-start
slice_bounds-begin-start c = let f = found_line _ _ _ (sym c.in_ok-next.ensures) in omega (arith, f.onward, f.inside)
