use Rattle.std.proofs.Common.{◌<◌, rules, sym, ◌∙◌}
use Rattle.table.specs.Request.{by_number}
use Rattle.table.proofs.Laws.{none_by, numbered, sound_at, step_by}
use Rattle.table.proofs.state.Table.apply_sound.Goals as goal

pub returns-then-not-is_started : goal.returns-then-not-is_started
returns-then-not-is_started c =
    none_by c.args.self.now c.requires c.args.u (by_number c.args.request) (sym c.is_started.ensures.slot ∙ c.if-not-is_started.true)

pub apply_sound-requires : goal.apply_sound-requires
apply_sound-requires c =
    let h : c.args.u < 8 = search rules in
    sound_at c.args.self.now c.requires c.args.u h _ (sym c.is_started.ensures.slot ∙ c.if-not-is_started.false)

pub returns : goal.returns
returns c =
    let h : c.args.u < 8 = search rules in
    step_by c.args.self.now c.requires c.args.u h _ (sym c.is_started.ensures.slot ∙ c.if-not-is_started.false)
    (by_number c.args.request) c.apply_sound.result _ (c.apply_sound.ensures ∙ numbered _ c.args.request)
