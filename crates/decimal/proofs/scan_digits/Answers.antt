use mathlib.Core.Path.{◌≡◌, sym, ap, ◌∙◌}
use Prim.Native.Nat.{ℕ, ◌+◌}
use native.Mathlib.Omega.{arith}
use lib.ListN.{drop}
use Rattle.decimal.specs.Number.{scan_of}
use Rattle.decimal.proofs.Numbers.{scan_end, scan_none, scan_more}
use Rattle.decimal.proofs.scan_digits.Goals as goal

pub returns-then-not-is_digit : goal.returns-then-not-is_digit
returns-then-not-is_digit c =
    sym (scan_none c.args.s.now c.loop-i.i c.loop-i.value c.loop-i-test.true (sym c.is_digit.ensures ∙ c.if-not-is_digit.true))
    ∙ c.loop-i.invariant.2

pub loop-i-preserved : goal.loop-i-preserved
loop-i-preserved c =
    let s = c.args.s.now in
    let i = c.loop-i.i in (
      c.next_value-value.ensures.1,
      omega arith,
      ap (λ (x : ℕ). scan_of (drop (i + 1) s) x (i + 1)) c.next_value-value.ensures.0
          ∙ (sym (scan_more s i c.loop-i.value c.loop-i-test.true (sym c.is_digit.ensures ∙ c.if-not-is_digit.false)) ∙ c.loop-i.invariant.2),
    )

pub returns : goal.returns
returns c =
    let end : c.max.result ≡ c.loop-i.i = omega (arith, c.loop-i.invariant.1, c.loop-i.auto.i) in
    rw end (sym (scan_end c.args.s.now c.loop-i.i c.loop-i.value c.loop-i-test.false) ∙ c.loop-i.invariant.2)
