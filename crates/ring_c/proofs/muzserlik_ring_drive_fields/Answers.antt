use mir.Facts.{to_z-of_z}
use mir.Syntax.{w64}
use mir.Val.{SFits}
use Rattle.std.proofs.Common.{rules, ap}
use Rattle.lent.specs.Ring.{lent}
use Rattle.ring_c.proofs.Driver.{driven_in, kept_in}
use Rattle.ring_c.proofs.muzserlik_ring_drive_fields.Goals as goal

pub returns-in-Ok : goal.returns-in-Ok
returns-in-Ok c =
    let f : SFits w64 c.ring.inside.q = search rules in
    let g : SFits w64 c.args.q.now = search rules in
    rw (to_z-of_z f, c.number.ensures)
    (driven_in _ _ _
    (ap (λ q. lent c.args.n c.args.active.now c.args.color.now c.args.sent.now c.args.received.now c.args.pending.now c.args.pos.now q c.args.black.now c.args.closed) (to_z-of_z g))
    (c.in-Ok.ensures.told c.args.moves.now) c.in-Ok.ensures.kept c.ring.view_is)

pub returns-in-Err : goal.returns-in-Err
returns-in-Err c =
    let g : SFits w64 c.args.q.now = search rules in
    rw c.number-in-Err.ensures
    (kept_in _ _
    (ap (λ q. lent c.args.n c.args.active.now c.args.color.now c.args.sent.now c.args.received.now c.args.pending.now c.args.pos.now q c.args.black.now c.args.closed) (to_z-of_z g))
    (c.in-Err.ensures.told c.args.moves.now) c.in-Err.ensures.same)
