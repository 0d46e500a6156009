use Rattle.std.proofs.Common.{◌≡◌, ◌<◌, arith, refl, rules, length, subst, sym, ◌∙◌}
use Rattle.std.specs.Prelude.{Err}
use Rattle.lent.proofs.Table.{table_kind_same}
use Rattle.lent.specs.Table.{table_in}
use Rattle.table_rules.specs.Answers.{step_ask}
use Rattle.table_fields.specs.View.{Puts}
use Rattle.table_fields.proofs.Laws.{found_by, put_accepted, put_inside, put_refused}
use Rattle.table_fields.proofs.LentTable.stepped.Goals as goal

pub returns-in_err-step_checked : goal.returns-in_err-step_checked
returns-in_err-step_checked c =
    let a = step_ask c.args.u c.args.kind c.args.i c.args.j in
    let is : c.from_residual-in_err-step_checked.result ≡ Err c.in_err-step_checked.field-0.0 = search rules in
    subst (Puts c.args.self.now a) (sym is)
    (put_refused c.args.self.now a _ c.in_ok-table.ensures.0 (found_by c.args.self.now _ c.in_ok-table.table _ c.in_ok-table.ensures c.in_err-step_checked.ensures ∙ table_kind_same (table_in c.args.self.now) c.args.u _ c.args.kind c.args.i c.args.j c.kind_byte.ensures) _ refl)

pub offset_bounds-table-u : goal.offset_bounds-table-u
offset_bounds-table-u c =
    let a = step_ask c.args.u c.args.kind c.args.i c.args.j in
    let inside : c.args.u < 8 = put_inside c.args.self.now a _ c.in_ok-table.ensures.0 (found_by c.args.self.now _ c.in_ok-table.table _ c.in_ok-table.ensures c.in_ok-step_checked.ensures ∙ table_kind_same (table_in c.args.self.now) c.args.u _ c.args.kind c.args.i c.args.j c.kind_byte.ensures) refl in
    record { fits = omega (arith, inside) }

pub listed : goal.listed
listed c =
    let a = step_ask c.args.u c.args.kind c.args.i c.args.j in
    let inside : c.args.u < 8 = put_inside c.args.self.now a _ c.in_ok-table.ensures.0 (found_by c.args.self.now _ c.in_ok-table.table _ c.in_ok-table.ensures c.in_ok-step_checked.ensures ∙ table_kind_same (table_in c.args.self.now) c.args.u _ c.args.kind c.args.i c.args.j c.kind_byte.ensures) refl in
    let eight : length c.step_checked.new.self.rings ≡ 8 = search rules in
    omega (arith, inside, eight)

pub bounds-table-u : goal.bounds-table-u
bounds-table-u c =
    let a = step_ask c.args.u c.args.kind c.args.i c.args.j in
    put_inside c.args.self.now a _ c.in_ok-table.ensures.0 (found_by c.args.self.now _ c.in_ok-table.table _ c.in_ok-table.ensures c.in_ok-step_checked.ensures ∙ table_kind_same (table_in c.args.self.now) c.args.u _ c.args.kind c.args.i c.args.j c.kind_byte.ensures) refl

pub returns : goal.returns
returns c =
    let a = step_ask c.args.u c.args.kind c.args.i c.args.j in
    let told = found_by c.args.self.now _ c.in_ok-table.table _ c.in_ok-table.ensures c.in_ok-step_checked.ensures ∙ table_kind_same (table_in c.args.self.now) c.args.u _ c.args.kind c.args.i c.args.j c.kind_byte.ensures in (
      put_inside c.args.self.now a _ c.in_ok-table.ensures.0 told refl,
      put_accepted c.args.self.now a _ c.in_ok-table.ensures.0 told refl (search rules) _ _ _ c.from.ensures refl,
    )
