use Rattle.std.proofs.Common.{◌≡◌, ◌<◌, ◌+◌, arith, ap, rules, subst, sym, ◌∙◌}
use Rattle.std.specs.Prelude.{Result, Err}
use lib.ListN.{get_or}
use Rattle.lent.specs.Table.{LentTable, fields_at}
use Rattle.refusal.specs.declared.Refusal.{Refusal}
use Rattle.ring_fields.specs.Fields.{ring_in}
use Rattle.table.specs.declared.state.Table.{Table}
use Rattle.table_fields.specs.View.{LiesIn}
use Rattle.table_fields.proofs.Laws.{Going, going_first, going_last, going_next, going_past, place_fails, read_none}
use Rattle.table_fields.proofs.LentTable.table.Goals as goal
use Rattle.table_fields.proofs.LentTable.table.Goals.{then-self-u-ne0+in_ok-table, else-self-u-ne0}

pub loop-u-init : goal.loop-u-init
loop-u-init c = (omega arith, going_first c.args.self.now c.empty-table.result.rings (search rules) c.empty-table.ensures)

pub returns-in_err-table : goal.returns-in_err-table
returns-in_err-table c =
    let m = c.args.self.now in
    let is : c.from_residual.result ≡ Err c.in_err-table.field-0.0 = search rules in
    let h : c.loop-u.u < 8 = omega (arith, c.loop-u-test.true) in
    let f = read_none (fields_at m c.loop-u.u) _ (c.in_err-table.ensures ∙ ap ring_in c.place.ensures) in
    subst (λ (r : Result Table Refusal). LiesIn m r) (sym is)
    (place_fails m c.loop-u.u h (λ z. c.if-self-u-ne0.true (ap (λ (k : LentTable). get_or k.n c.loop-u.u 0) c.self.view_is ∙ z)) f.0, f.1)

pub loop-u-preserved : goal.loop-u-preserved
loop-u-preserved c =
    let m = c.args.self.now in
    let h : c.loop-u.u < 8 = omega (arith, c.loop-u-test.true) in
    let g = c.loop-u.invariant.1 in (
      omega arith,
      elim c.if-self-u-ne0.branch [
        | then-self-u-ne0+in_ok-table w ↦
            subst (λ (t : Table). Going m t.rings (c.loop-u.u + 1)) (sym w.table-is)
            (going_next m c.loop-u.table.rings c.loop-u.u g h
            (λ z. w.if-self-u-ne0.true (ap (λ (k : LentTable). get_or k.n c.loop-u.u 0) c.self.view_is ∙ z)) w.in_ok-table.field-0
            (w.in_ok-table.ensures ∙ ap ring_in w.place.ensures))
        | else-self-u-ne0 w ↦
            subst (λ (t : Table). Going m t.rings (c.loop-u.u + 1)) (sym w.table-is)
            (going_past m c.loop-u.table.rings c.loop-u.u g h
            (ap (λ (k : LentTable). get_or k.n c.loop-u.u 0) (sym c.self.view_is) ∙ w.if-self-u-ne0.false))
      ],
    )

pub returns : goal.returns
returns c = going_last c.args.self.now c.loop-u.table.rings c.loop-u.u (omega arith) c.loop-u.invariant.1
