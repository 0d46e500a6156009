use mathlib.Core.List.{[]}
use mathlib.Core.Path.{ap, refl, subst}
use native.Mathlib.Omega.{arith}
use Rattle.decimal.specs.Text.{put}
use Rattle.log_lines.specs.Stages.{SoundStage, stage_of}
use Rattle.log_rules.proofs.Cuts.{rest_over}
use Rattle.log_answers.proofs.Texts.{answer_short, wrote_then}
use Rattle.refusal.specs.Table.{Refused}
use Rattle.refusal.specs.declared.Refusal.TheVariants.{NotAForm}
use Rattle.watch_log.proofs.Ends.{finished, fresh_end, run_end}
use Rattle.watch_log.specs.Held.{held_line}
use Rattle.log_lines.specs.declared.stage.Stage.TheVariants as stages
use Rattle.watch_log.proofs.state.Log.finish.Goals as goal

pub put_answer-requires : goal.put_answer-requires
put_answer-requires c = omega (arith, c.requires, answer_short 1 (Refused NotAForm) (omega arith))

pub returns-in-Fresh : goal.returns-in-Fresh
returns-in-Fresh c =
    rw (← c.self.view_is)
    (finished _ (ap stage_of c.in-Fresh.is) (fresh_end _ _ c.self.invariant.part) c.put_answer.ensures
    (omega (arith, c.requires, c.put_answer.ensures.0, answer_short 1 (Refused NotAForm) (omega arith))))

pub put_ring_end-requires : goal.put_ring_end-requires
put_ring_end-requires c =
    (omega (arith, c.requires, c.put_cut-at.ensures.1, c.put_cut-at.auto), (subst (λ s. SoundStage (stage_of s) c.self.inside.lines) c.in-Ring.is c.self.invariant.sound).0)

pub put_tree_end-requires : goal.put_tree_end-requires
put_tree_end-requires c =
    (omega (arith, c.requires, c.put_cut-at-in-Tree.ensures.1, c.put_cut-at-in-Tree.auto), subst (λ s. SoundStage (stage_of s) c.self.inside.lines) c.in-Tree.is c.self.invariant.sound)

pub put_table_end-requires : goal.put_table_end-requires
put_table_end-requires c =
    (omega (arith, c.requires, c.put_cut-at-in-Table.ensures.1, c.put_cut-at-in-Table.auto), (subst (λ s. SoundStage (stage_of s) c.self.inside.lines) c.in-Table.is c.self.invariant.sound).0)

pub returns-in-Ring : goal.returns-in-Ring
returns-in-Ring c =
    let u = c.put_cut-at.ensures in
    let v = c.put_ring_end.ensures in
    rw (← c.self.view_is)
    (finished _ (ap stage_of c.in-Ring.is) (run_end _ (stage_of (stages.Ring c.in-Ring.run')) refl _ c.self.invariant.part) (wrote_then _ _ c.args.out.now 0 (rw (← c.self.view_is) at u.0) v.0)
    (omega (arith, c.requires, u.1, v.0.0, v.1)))

pub returns-in-Tree : goal.returns-in-Tree
returns-in-Tree c =
    let u = c.put_cut-at-in-Tree.ensures in
    let v = c.put_tree_end.ensures in
    rw (← c.self.view_is)
    (finished _ (ap stage_of c.in-Tree.is) (run_end _ (stage_of (stages.Tree c.in-Tree.tree)) refl _ c.self.invariant.part) (wrote_then _ _ c.args.out.now 0 (rw (← c.self.view_is) at u.0) v.0)
    (omega (arith, c.requires, u.1, v.0.0, v.1)))

pub returns-in-Table : goal.returns-in-Table
returns-in-Table c =
    let u = c.put_cut-at-in-Table.ensures in
    let v = c.put_table_end.ensures in
    rw (← c.self.view_is)
    (finished _ (ap stage_of c.in-Table.is) (run_end _ (stage_of (stages.Table c.in-Table.run')) refl _ c.self.invariant.part) (wrote_then _ _ c.args.out.now 0 (rw (← c.self.view_is) at u.0) v.0)
    (omega (arith, c.requires, u.1, v.0.0, v.1)))

pub returns-in-Over : goal.returns-in-Over
unfolding put
returns-in-Over c =
    rw (← c.self.view_is)
    (finished _ (ap stage_of c.in-Over.is) (rest_over c.self.inside.lines (held_line c.self.inside.held) []) (refl, refl) (omega arith))
