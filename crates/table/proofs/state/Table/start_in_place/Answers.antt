use Rattle.std.proofs.Common.{arith, sym, ◌∙◌}
use Rattle.table.proofs.Laws.{other_by, past_by, start_by}
use Rattle.table.proofs.state.Table.start_in_place.Goals as goal

pub returns-then-u-ge-UPDATES : goal.returns-then-u-ge-UPDATES
returns-then-u-ge-UPDATES c = past_by c.args.self.now c.requires c.args.u c.args.n c.args.flags.now (omega (arith, c.if-u-ge-UPDATES.true))

pub returns-then-is_other : goal.returns-then-is_other
returns-then-is_other c =
    other_by c.args.self.now c.requires c.args.u c.args.n c.args.flags.now (omega (arith, c.if-u-ge-UPDATES.false))
    (sym c.is_other.ensures ∙ c.if-is_other.true)

pub returns : goal.returns
returns c =
    start_by c.args.self.now c.requires c.args.u c.args.n c.args.flags.now (omega (arith, c.if-u-ge-UPDATES.false))
    (sym c.is_other.ensures ∙ c.if-is_other.false) _ c.put_start.ensures
