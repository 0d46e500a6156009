use Rattle.std.proofs.Common.{◌≡◌, ◌<◌, arith, refl, rules, length, subst, sym}
use Rattle.std.specs.Prelude.{Err}
use Rattle.table_rules.specs.Answers.{Start}
use Rattle.table_fields.specs.View.{Puts}
use Rattle.table_fields.proofs.Laws.{found_by, put_accepted, put_inside, put_refused}
use Rattle.table_fields.proofs.LentTable.started.Goals as goal

pub returns-in_err-start_checked : goal.returns-in_err-start_checked
returns-in_err-start_checked c =
    let a = Start c.args.u c.args.nodes c.args.flags.now in
    let is : c.from_residual-in_err-start_checked.result ≡ Err c.in_err-start_checked.field-0.0 = search rules in
    subst (Puts c.args.self.now a) (sym is)
    (put_refused c.args.self.now a _ c.in_ok-table.ensures.0 (found_by c.args.self.now a c.in_ok-table.table _ c.in_ok-table.ensures c.in_err-start_checked.ensures) _ refl)

pub offset_bounds-table-u : goal.offset_bounds-table-u
offset_bounds-table-u c =
    let a = Start c.args.u c.args.nodes c.args.flags.now in
    let inside : c.args.u < 8 = put_inside c.args.self.now a _ c.in_ok-table.ensures.0 (found_by c.args.self.now a c.in_ok-table.table _ c.in_ok-table.ensures c.in_ok-start_checked.ensures) refl in
    record { fits = omega (arith, inside) }

pub listed : goal.listed
listed c =
    let a = Start c.args.u c.args.nodes c.args.flags.now in
    let inside : c.args.u < 8 = put_inside c.args.self.now a _ c.in_ok-table.ensures.0 (found_by c.args.self.now a c.in_ok-table.table _ c.in_ok-table.ensures c.in_ok-start_checked.ensures) refl in
    let eight : length c.start_checked.new.self.rings ≡ 8 = search rules in
    omega (arith, inside, eight)

pub bounds-table-u : goal.bounds-table-u
bounds-table-u c =
    let a = Start c.args.u c.args.nodes c.args.flags.now in
    put_inside c.args.self.now a _ c.in_ok-table.ensures.0 (found_by c.args.self.now a c.in_ok-table.table _ c.in_ok-table.ensures c.in_ok-start_checked.ensures) refl

pub returns : goal.returns
returns c =
    let a = Start c.args.u c.args.nodes c.args.flags.now in
    let told = found_by c.args.self.now a c.in_ok-table.table _ c.in_ok-table.ensures c.in_ok-start_checked.ensures in (
      put_inside c.args.self.now a _ c.in_ok-table.ensures.0 told refl,
      put_accepted c.args.self.now a _ c.in_ok-table.ensures.0 told refl (search rules) _ _ _ c.from.ensures refl,
    )
