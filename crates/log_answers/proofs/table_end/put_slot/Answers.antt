use Rattle.std.proofs.Common.{rules, arith, refl}
use Rattle.decimal.specs.Text.{put}
use Rattle.log_answers.proofs.Slots.{slot_none, slot_some}
use Rattle.log_answers.proofs.table_end.put_slot.Goals as goal

pub returns-then-ring-eq0 : goal.returns-then-ring-eq0
unfolding put
returns-then-ring-eq0 c = rw (slot_none c.args.ring.now (search rules)) ((omega arith, refl), omega arith)

pub put_update_end-requires : goal.put_update_end-requires
put_update_end-requires c = (c.requires.0, c.requires.1 _ (slot_some c.args.ring.now (search rules)))

pub returns : goal.returns
returns c = rw (slot_some c.args.ring.now (search rules)) c.put_update_end.ensures
