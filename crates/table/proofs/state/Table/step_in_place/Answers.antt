use Rattle.std.proofs.Common.{◌<◌, rules, sym, ◌∙◌}
use Rattle.table.proofs.Laws.{none_by, sound_at, step_by}
use Rattle.table.proofs.state.Table.step_in_place.Goals as goal

pub returns-then-not-is_started : goal.returns-then-not-is_started
returns-then-not-is_started c =
    none_by c.args.self.now c.requires c.args.u (record { kind = c.args.kind; i = c.args.i; j = c.args.j }) (sym c.is_started.ensures.slot ∙ c.if-not-is_started.true)

pub step_in_place-requires : goal.step_in_place-requires
step_in_place-requires c =
    let h : c.args.u < 8 = search rules in
    sound_at c.args.self.now c.requires c.args.u h _ (sym c.is_started.ensures.slot ∙ c.if-not-is_started.false)

pub returns : goal.returns
returns c =
    let h : c.args.u < 8 = search rules in
    step_by c.args.self.now c.requires c.args.u h _ (sym c.is_started.ensures.slot ∙ c.if-not-is_started.false)
    (record { kind = c.args.kind; i = c.args.i; j = c.args.j }) c.step_in_place.result _ c.step_in_place.ensures
