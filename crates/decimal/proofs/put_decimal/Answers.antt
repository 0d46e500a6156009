use mathlib.Core.Path.{ap, ◌∙◌}
use Prim.Native.Nat.{ℕ, ◌+◌}
use Rattle.decimal.specs.Text.{put, last_digits}
use Rattle.decimal.proofs.Decimal.{last_all}
use Rattle.decimal.proofs.put_decimal.Goals as goal

pub returns : goal.returns
returns c =
    let a = c.args in
    let w = c.width-count.ensures in
    let p = c.put_digits.ensures in (
      p.0 ∙ ap (λ (x : ℕ). a.at + x) w,
      p.1 ∙ (ap (λ (x : ℕ). put a.buf.now a.at (last_digits x a.n)) w ∙ ap (put a.buf.now a.at) (last_all a.n)),
    )
