use mathlib.Core.List.{◌++◌}
use mathlib.Core.Path.{◌≡◌, refl, ap, ◌∙◌}
use Prim.Native.Nat.{ℕ, ◌+◌, ◌-◌}
use native.Mathlib.Omega.{arith}
use lib.ListN.{length, take, drop}
use lib.Seq.{drop-drop}
use Rattle.decimal.proofs.Put.{put_parts}
use Rattle.decimal.proofs.put_word.Goals as goal

pub returns : goal.returns
returns c =
    let a = c.args in
    let w = a.w.now in
    let b = a.buf.now in
    let few : a.at + (a.at + length w - a.at) ≡ a.at + length w = omega arith in (
      refl,
      rw c.copy_from_slice.ensures.after
          (ap (λ l. take a.at b ++ (w ++ l)) (drop-drop (a.at + length w - a.at) a.at b ∙ ap (λ (n : ℕ). drop n b) few) ∙ put_parts w b a.at c.requires),
    )
