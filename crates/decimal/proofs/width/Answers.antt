use mathlib.Core.Path.{◌≡◌, ap, subst}
use Prim.Native.Nat.{ℕ, ◌+◌, ◌*◌, ◌/◌, ◌^◌, ◌≤◌}
use native.Mathlib.Nat.{mul-le-mul_right}
use native.Mathlib.Omega.{arith}
use lib.ListN.{length}
use Rattle.decimal.specs.Text.{decimal}
use Rattle.decimal.proofs.Decimal.{decimal_small, length_large, power_more}
use Rattle.decimal.proofs.width.Goals as goal

pub returns-then-rest-lt10 : goal.returns-then-rest-lt10
returns-then-rest-lt10 c =
    let one : length (decimal c.loop-count.rest) ≡ 1 = ap length (decimal_small c.loop-count.rest c.if-rest-lt10.true) in
    omega (arith, c.loop-count.invariant.0)

pub loop-count-preserved : goal.loop-count-preserved
loop-count-preserved c =
    let l = c.loop-count in
    let tens : l.rest / 10 * 10 ≤ l.rest = omega arith in
    let fewer : l.rest / 10 * 10 * 10 ^ l.count ≤ l.rest * 10 ^ l.count = mul-le-mul_right (10 ^ l.count) tens in
    let turned : l.rest / 10 * 10 ^ (l.count + 1) ≡ l.rest / 10 * 10 * 10 ^ l.count = rw (power_more l.count) (grind arith) in
    (omega (arith, length_large l.rest c.if-rest-lt10.false, l.invariant.0), omega (arith, l.invariant.1))

pub returns : goal.returns
returns c =
    let l = c.loop-count in
    let all : l.count ≡ 20 = omega (arith, l.auto.count-end) in
    let most : l.rest * 10 ^ 20 ≤ c.args.n * 10 = subst (λ (k : ℕ). l.rest * 10 ^ k ≤ c.args.n * 10) all l.invariant.1 in
    let few : length (decimal l.rest) ≡ 1 = ap length (decimal_small l.rest (omega arith)) in
    omega (arith, l.invariant.0)
