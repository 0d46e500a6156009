use mathlib.Core.Path.{◌≡◌, refl, sym, ap, ◌∙◌}
use Prim.Native.Nat.{ℕ, suc, ◌+◌, ◌-◌, ◌/◌, ◌%◌}
use native.Mathlib.Omega.{arith}
use lib.ListN.{length-set, set}
use Rattle.decimal.specs.Text.{put, last_digits}
use Rattle.decimal.proofs.Decimal.{put_last, put_none}
use Rattle.decimal.proofs.put_digits.Goals as goal

pub loop-place-preserved : goal.loop-place-preserved
loop-place-preserved c =
    let a = c.args in
    let l = c.loop-place in
    let k = l.place - 1 - a.at in
    let here : a.at + k ≡ l.place - 1 = omega arith in
    let more : suc k ≡ l.place - a.at = omega arith in (
      simp length-set l.invariant.0,
      ap (λ (i : ℕ). put (set l.buf i (48 + l.rest % 10)) a.at (last_digits k (l.rest / 10))) (sym here)
          ∙ (put_last l.buf a.at k l.rest ∙ (ap (λ (k : ℕ). put l.buf a.at (last_digits k l.rest)) more ∙ l.invariant.1)),
    )

pub returns : goal.returns
returns c =
    let a = c.args in
    let l = c.loop-place in
    let z : l.place - a.at ≡ 0 = omega arith in (
      refl,
      sym (put_none l.buf a.at l.rest) ∙ (ap (λ (k : ℕ). put l.buf a.at (last_digits k l.rest)) (sym z) ∙ l.invariant.1),
    )
