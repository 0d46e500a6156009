use Rattle.std.proofs.Common.{arith, rules, tests}
use Rattle.std.proofs.lemmas.Iterator.{YieldsList-from_map, YieldsList-from_range}
use Rattle.std.proofs.lemmas.Iterator.Consumers.{fits_by_from_yields_list, sum_by_from_yields_List}
use Rattle.std.specs.List.{range_with_len}
use Rattle.tree_text.specs.Text.{length_of, share}
use Rattle.tree.proofs.Ranges.{sum_range}
use Rattle.tree_writer.proofs.Shares.{shares_small}
use Rattle.tree_writer.proofs.text_length.Goals as goal

pub sum-shares-requires-clause-fits : goal.sum-shares-requires-clause-fits
sum-shares-requires-clause-fits c =
    let e = c.args.engager.now in
    fits_by_from_yields_list (share e) (range_with_len 0 16) c.map.result _
    (YieldsList-from_map _ (share e) (YieldsList-from_range 0 16 16 c.map.ensures.source (omega arith)) c.map.ensures.closure (λ x r q k. search (rules, tests)))
    (omega (arith, sum_range (share e) 16, shares_small e))

pub returns : goal.returns
unfolding length_of
returns c =
    let e = c.args.engager.now in
    let shares =
    sum_by_from_yields_List (share e) (range_with_len 0 16) c.map.result _ c.sum-shares.ensures.ran
    (YieldsList-from_map _ (share e) (YieldsList-from_range 0 16 16 c.map.ensures.source (omega arith)) c.map.ensures.closure (λ x r q k. search (rules, tests))) in
    omega (arith, shares, sum_range (share e) 16, shares_small e)
