use Rattle.std.proofs.Common.{arith, ap, subst, sym, ◌∙◌}
use Rattle.laws.proofs.Tests.{told_false, told_true}
use Rattle.ring_rules.proofs.Driver.{move_open}
use Rattle.ring_rules.specs.Driver.{drive_from}
use Rattle.ring_rules.specs.Soundness.{Open}
use Rattle.ring.proofs.Moves.{ends_conclusive, ends_spent, ends_waiting, none_made, one_more}
use Rattle.ring.proofs.state.Ring.run.Goals as goal

pub loop-limit-init : goal.loop-limit-init
loop-limit-init c = (c.requires.0, omega arith, none_made _ _)

pub returns-then-is_conclusive : goal.returns-then-is_conclusive
returns-then-is_conclusive c = ends_conclusive _ _ _ (sym c.is_conclusive.ensures ∙ c.if-is_conclusive.true) ∙ c.loop-limit.invariant.2

pub returns-then-not-may_move : goal.returns-then-not-may_move
returns-then-not-may_move c =
    ends_waiting _ _ _ (sym c.is_conclusive.ensures ∙ c.if-is_conclusive.false)
    (told_false c.may_move.ensures c.if-not-may_move.true-raw) ∙ c.loop-limit.invariant.2

pub returns-then-moves-limit : goal.returns-then-moves-limit
returns-then-moves-limit c =
    ends_spent c.args.limit c.loop-limit.moves _ c.if-moves-limit.true
    (sym c.is_conclusive.ensures ∙ c.if-is_conclusive.false) (told_true c.may_move.ensures c.if-not-may_move.false-raw) ∙ c.loop-limit.invariant.2

pub make_move-requires : goal.make_move-requires
make_move-requires c = (c.loop-limit.invariant.0, told_true c.may_move.ensures c.if-not-may_move.false-raw)

pub loop-limit-preserved : goal.loop-limit-preserved
loop-limit-preserved c = (
  subst Open (sym c.make_move.ensures) (move_open _ c.loop-limit.invariant.0 (told_true c.may_move.ensures c.if-not-may_move.false-raw)),
  omega arith,
  ap (drive_from _ _) c.make_move.ensures ∙
      (one_more c.args.limit c.loop-limit.moves _ (omega arith) (sym c.is_conclusive.ensures ∙ c.if-is_conclusive.false)
      (told_true c.may_move.ensures c.if-not-may_move.false-raw) ∙ c.loop-limit.invariant.2),
)
