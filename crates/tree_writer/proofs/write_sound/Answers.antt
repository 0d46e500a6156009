use Rattle.std.proofs.Common.{arith, ap, ◌∙◌}
use Rattle.tree_rules.specs.Soundness.{sound_test}
use Rattle.tree_writer.proofs.Shares.{room, short_left, short_told, text_left, text_told}
use Rattle.tree_writer.proofs.write_sound.Goals as goal

pub returns-then-buf-text_length-clause-told : goal.returns-then-buf-text_length-clause-told
returns-then-buf-text_length-clause-told c =
    let sound = ap sound_test c.tree.view_is ∙ c.requires in
    rw (← c.tree.view_is) (short_told _ _ sound (omega (arith, c.text_length.ensures, c.if-buf-text_length.true)))

pub returns-then-buf-text_length-clause-left : goal.returns-then-buf-text_length-clause-left
returns-then-buf-text_length-clause-left c =
    let sound = ap sound_test c.tree.view_is ∙ c.requires in
    rw (← c.tree.view_is) (short_left _ _ sound (omega (arith, c.text_length.ensures, c.if-buf-text_length.true)))

pub put_tree-requires : goal.put_tree-requires
put_tree-requires c =
    let sound = ap sound_test c.tree.view_is ∙ c.requires in
    room _ _ sound (omega (arith, c.text_length.ensures, c.if-buf-text_length.false))

pub returns-clause-told : goal.returns-clause-told
returns-clause-told c =
    let sound = ap sound_test c.tree.view_is ∙ c.requires in
    rw (← c.tree.view_is) (text_told _ _ sound (omega (arith, c.text_length.ensures, c.if-buf-text_length.false)) _ c.put_tree.ensures.0)

pub returns-clause-left : goal.returns-clause-left
returns-clause-left c =
    let sound = ap sound_test c.tree.view_is ∙ c.requires in
    rw (← c.tree.view_is) (text_left _ _ sound (omega (arith, c.text_length.ensures, c.if-buf-text_length.false)) _ c.put_tree.ensures.1)
