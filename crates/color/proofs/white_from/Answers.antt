use Rattle.std.proofs.Common.{◌≡◌, ◌+◌, ◌-◌, ◌/◌, ◌%◌, ◌^◌, ◌∙◌, ℕ, List, length, get_or, take, drop, arith, sym, ap, ap₂, length-drop}
use Rattle.std.specs.Prelude.{◌&&◌, eqb, Bool}
use Rattle.std.specs.List.{list_all}
use Rattle.std.proofs.lemmas.List.{take_all, drop-drop, get_or-drop}
use native.Mathlib.Nat.{add-zero}
use Rattle.laws.proofs.Places.{none_from}
use Rattle.color.specs.Between.{white_between}
use Rattle.color.proofs.Bytes.{white_parts}
use Rattle.color.proofs.white_from.Goals as goal

module _ (c : List ℕ) (k : ℕ) (e : length c ≡ 12) where
  from_k : take (12 - k) (drop k c) ≡ drop k c
  from_k = take_all (12 - k) (drop k c) (omega (arith, length-drop k c))

  shared : get_or (take (12 - k) (drop k c)) 0 0 ≡ get_or c k 0
  shared = ap (λ (l : List ℕ). get_or l 0 0) from_k ∙ get_or-drop k c 0 0 ∙ ap (λ (i : ℕ). get_or c i 0) (add-zero k)

  rest : take (length (take (12 - k) (drop k c)) - 1) (drop 1 (take (12 - k) (drop k c))) ≡ drop (k + 1) c
  rest = rw from_k (take_all (length (drop k c) - 1) (drop 1 (drop k c)) (omega (arith, length-drop 1 (drop k c))) ∙ drop-drop 1 k c)

pub returns-in-empty : goal.returns-in-empty
returns-in-empty c =
    let all : 96 ≡ c.args.n = omega arith in
    sym (ap (white_between c.args.color.now c.args.n) all ∙ none_from c.args.n _)

pub returns-then-is_clear : goal.returns-then-is_clear
returns-then-is_clear c =
    let l = c.args.color.now in
    let k = c.args.n / 8 in
    c.are_zero.ensures
    ∙ ap₂ (λ (a b : Bool). a && b)
    (sym c.if-is_clear.true ∙ c.is_clear.ensures.0 ∙ ap (λ (b : ℕ). eqb (b / 2 ^ (c.args.n % 8)) 0) (shared l k c.told-color))
    (ap (list_all (λ b. eqb b 0)) (rest l k c.told-color))
    ∙ white_parts l c.args.n c.fits-color c.told-color (omega arith)

pub returns-else-is_clear : goal.returns-else-is_clear
returns-else-is_clear c =
    let l = c.args.color.now in
    let k = c.args.n / 8 in
    c.if-is_clear.false
    ∙ ap (λ (b : Bool). b && list_all (λ b. eqb b 0) (drop (k + 1) l))
    (sym c.if-is_clear.false ∙ c.is_clear.ensures.0 ∙ ap (λ (b : ℕ). eqb (b / 2 ^ (c.args.n % 8)) 0) (shared l k c.told-color))
    ∙ white_parts l c.args.n c.fits-color c.told-color (omega arith)
