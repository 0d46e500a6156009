use mathlib.Core.Path.{◌≡◌, sym, ◌∙◌}
use Prim.Native.Nat.{◌<◌}
use lib.ListN.{length, get_or}
use native.Mathlib.Omega.{arith}
use Rattle.decimal.proofs.Cases.{in_text}
use Rattle.forms.proofs.Arguments.{spaced_sound}
use Rattle.first_line.proofs.Nodes.{left_all, left_end, left_wrong, left_low, left_more}
use Rattle.first_line.proofs.entries.Goals as goal

pub loop-flags-init : goal.loop-flags-init
loop-flags-init c = left_all c.args.s.now c.args.bit c.args.named c.args.from

pub returns-in_err-node : goal.returns-in_err-node
returns-in_err-node c =
    c.from_residual.ensures ∙ left_wrong c.loop-flags.invariant (sym c.byte_at.ensures ∙ c.loop-flags-test.true) (sym c.spaced.ensures ∙ c.in_err-node.was)

pub returns-then-node-low : goal.returns-then-node-low
returns-then-node-low c =
    left_low c.loop-flags.invariant (sym c.byte_at.ensures ∙ c.loop-flags-test.true) (sym c.spaced.ensures ∙ c.in_ok-node.was) c.if-node-low.true

pub overflow_add-node : goal.overflow_add-node
overflow_add-node c =
    record { fits = omega (arith, (spaced_sound _ _ _ _ (sym c.spaced.ensures ∙ c.in_ok-node.was)).1) }

pub loop-flags-smaller : goal.loop-flags-smaller
loop-flags-smaller c =
    let inside : c.loop-flags.at < length c.args.s.now = in_text c.args.s.now c.loop-flags.at (omega (arith, c.byte_at.ensures, c.loop-flags-test.true)) in
    omega (arith, (spaced_sound _ _ _ _ (sym c.spaced.ensures ∙ c.in_ok-node.was)).2)

pub loop-flags-preserved : goal.loop-flags-preserved
loop-flags-preserved c =
    let space : get_or c.args.s.now c.loop-flags.at 0 ≡ 32 = sym c.byte_at.ensures ∙ c.loop-flags-test.true in
    let inside : c.loop-flags.at < length c.args.s.now = in_text c.args.s.now c.loop-flags.at (omega arith) in
    let more = left_more c.loop-flags.invariant space inside (sym c.spaced.ensures ∙ c.in_ok-node.was) c.if-node-low.false in
    rw (c.mark.ensures, c.max-top.ensures) more

pub returns : goal.returns
returns c = left_end c.loop-flags.invariant (λ e. c.loop-flags-test.false (c.byte_at.ensures ∙ e))
