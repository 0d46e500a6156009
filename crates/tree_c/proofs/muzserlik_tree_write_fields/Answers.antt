use Rattle.std.proofs.Common.{ap, refl, sym, ◌∙◌}
use Rattle.lent.proofs.Tree.{write_flagged}
use Rattle.tree_rules.specs.State.{State}
use Rattle.tree_text.specs.Write.{Length, NotWritten, buffer_of, written_of}
use Rattle.tree_c.proofs.muzserlik_tree_write_fields.Goals as goal

pub returns-in-Ok : goal.returns-in-Ok
returns-in-Ok c =
    write_flagged (Length c.in-Ok.written) (sym c.has_truths.ensures ∙ c.if-not-has_truths.false) (c.in-Ok.ensures.told ∙ ap (λ (t : State). written_of t c.args.buf.now) c.gathered.ensures) refl refl
    (c.in-Ok.ensures.left ∙ ap (λ (t : State). buffer_of t c.args.buf.now) c.gathered.ensures)

pub returns-in-Err : goal.returns-in-Err
returns-in-Err c =
    write_flagged (NotWritten c.in-Err.refusal) (sym c.has_truths.ensures ∙ c.if-not-has_truths.false) (c.in-Err.ensures.told ∙ ap (λ (t : State). written_of t c.args.buf.now) c.gathered.ensures) c.number-in-Err.ensures refl
    (c.in-Err.ensures.left ∙ ap (λ (t : State). buffer_of t c.args.buf.now) c.gathered.ensures)
