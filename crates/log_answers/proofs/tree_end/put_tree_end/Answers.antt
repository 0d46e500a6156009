use Rattle.std.proofs.Common.{◌++◌, arith, sym, subst}
use Rattle.tree_rules.specs.Soundness.{Sound}
use Rattle.decimal.specs.Bytes.{bytes}
use Rattle.decimal.specs.Text.{decimal}
use Rattle.tree_rules.specs.Termination.{acks_total}
use Rattle.tree_text.specs.Text.{text_of}
use Rattle.log_answers.proofs.Items.{tree_end_short, tree_short}
use Rattle.log_answers.proofs.Texts.{item_wrote, wrote_then}
use Rattle.log_answers.proofs.tree_end.put_tree_end.Goals as goal

pub returns : goal.returns
unfolding acks_total
returns c =
    let t = c.tree.inside in
    let n = c.sum_to-acks.result in
    let acks = bytes ") (acks " ++ (decimal n ++ bytes "))\n") in
    let engaged = text_of t.engager t.root ++ acks in
    let w = item_wrote (bytes "(end (boards ") t.n (bytes ") (engaged " ++ engaged) _ _ c.put_item-end.ensures
    (wrote_then (bytes ") (engaged ") engaged _ _ c.put_word-end.ensures
    (wrote_then (text_of t.engager t.root) acks _ _ c.put_tree-end.ensures
    (item_wrote (bytes ") (acks ") n (bytes "))\n") _ _ c.put_item-end-2.ensures c.put_word.ensures))) in
    let s = subst Sound (sym c.tree.view_is) c.requires.1 in
    rw (← c.tree.view_is, ← c.sum_to-acks.ensures.sums) (w, tree_end_short t.n n (text_of t.engager t.root) (omega (arith, s.nodes)) (omega arith) (tree_short _ s))
