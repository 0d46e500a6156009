use mathlib.Core.List.{List}
use mathlib.Core.Path.{◌≡◌, sym, ap, ◌∙◌}
use native.Mathlib.Omega.{arith}
use Prim.Native.Nat.{ℕ}
use lib.ListN.{take, drop, length-drop}
use Rattle.std.proofs.Math.Seq.{take-length}
use Rattle.std.specs.List.{starts_with}
use Rattle.std.specs.Prelude.{nat_eq}
use Rattle.decimal.proofs.Words.{starts_is, has_none}
use Rattle.decimal.proofs.has.Goals as goal

pub returns-in-Some : goal.returns-in-Some
returns-in-Some c =
    let s = c.args.s.now in
    let left = drop c.args.at s in
    let all : c.in-Some.rest.now ≡ left =
    c.in-Some.ensures.lookup.0.2 ∙ (ap (λ (n : ℕ). take n left) (sym (length-drop c.args.at s)) ∙ take-length left) in
    c.starts_with.ensures.value ∙ (ap (λ (l : List ℕ). starts_with nat_eq l c.args.w.now) all ∙ starts_is c.args.w.now left)

pub returns-in-None : goal.returns-in-None
returns-in-None c = c.is_empty.ensures ∙ has_none c.args.s.now c.args.at c.args.w.now (omega (arith, c.in-None.ensures.lookup.0))
