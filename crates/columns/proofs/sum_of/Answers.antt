use Rattle.std.proofs.Common.{◌≤◌, ◌^◌, arith, rules, tests, ℕ}
use Rattle.std.proofs.lemmas.Iterator.{YieldsList-from_map, YieldsList-from_slice}
use Rattle.std.proofs.lemmas.Iterator.Consumers.{sum_by_from_yields_List}
use Rattle.std.proofs.lemmas.List.Elements.{All-from_get_or}
use Rattle.std.proofs.lemmas.List.Sums.{sum_by-le}
use Rattle.columns.proofs.sum_of.Goals as goal

pub returns-clause-small : goal.returns-clause-small
returns-clause-small c =
    let column = c.args.column.now in
    let sums =
    sum_by_from_yields_List (λ x. x) column c.map.result _ c.sum.ensures.ran
    (YieldsList-from_map _ (λ x. x) (YieldsList-from_slice column cc) c.map.ensures.closure (λ x r q k. search (rules, tests))) in
    omega
    (arith, sums, sum_by-le (λ x. x) (2 ^ 32) column (All-from_get_or (λ (x : ℕ). x ≤ 2 ^ 32) column 0 (λ i h. omega (arith, (c.type_inv.column i).fits))))
