use Rattle.std.proofs.Common.{arith}
use Rattle.log_answers.proofs.Slots.{none_ended, next_ended, slot_sound}
use Rattle.log_answers.proofs.table_end.put_table_end.Goals as goal

pub loop-u-init : goal.loop-u-init
loop-u-init c = none_ended _ _ _ _

pub put_slot-end-requires : goal.put_slot-end-requires
put_slot-end-requires c =
    let i = c.loop-u.invariant in (
      omega (arith, c.requires.0, i.wrote.0, i.short, i.same),
      slot_sound c.args.out.now c.args.at c.args.table.now.rings c.args.moves.now c.requires.1 _ (omega arith) _,
    )

pub loop-u-preserved : goal.loop-u-preserved
loop-u-preserved c =
    let w = c.put_slot-end.ensures in
    next_ended _ _ _ _ c.requires.1 c.loop-u.u (omega arith) _ c.loop-u.invariant w.0 w.1
