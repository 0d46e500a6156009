use Rattle.std.proofs.Common.{ap, subst, sym, ◌∙◌}
use Rattle.first_line.proofs.Flags.{FirstFlags}
use Rattle.log_rules.specs.Answers.{Told, first_told}
use Rattle.log_lines.proofs.Firsts.{flags_read, read_told}
use Rattle.log_lines.specs.Openings.{Opens}
use Rattle.log_lines.proofs.opening.open.Goals as goal

pub open_ring-requires : goal.open_ring-requires
open_ring-requires c =
    let s = c.in-Some-Ring-default in
    subst FirstFlags s.field-0-0-is (flags_read c.args.line.now (sym s.is ∙ c.read_first.ensures.0))

pub returns-in-Some-Ring-default : goal.returns-in-Some-Ring-default
returns-in-Some-Ring-default c =
    let s = c.in-Some-Ring-default in
    subst (λ (x : Told). Opens x c.open_ring.result) (sym (ap first_told s.field-0-0-is) ∙ read_told c.args.line.now (sym s.is ∙ c.read_first.ensures.0)) c.open_ring.ensures

pub returns-in-Some-Tree-default : goal.returns-in-Some-Tree-default
returns-in-Some-Tree-default c =
    let s = c.in-Some-Tree-default in
    subst (λ (x : Told). Opens x c.open_tree.result) (sym (ap first_told s.field-0-0-is) ∙ read_told c.args.line.now (sym s.is ∙ c.read_first.ensures.0)) c.open_tree.ensures

pub returns-in-None : goal.returns-in-None
returns-in-None c =
    subst (λ (x : Told). Opens x c.open_table.result) (read_told c.args.line.now (sym c.in-None.is ∙ c.read_first.ensures.0)) c.open_table.ensures
