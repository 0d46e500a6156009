use Prim.Native.Nat.{◌+◌, ◌<◌, ◌≤◌}
use lib.ListN.{length}
use mathlib.Core.Path.{◌∙◌, subst⁻¹, sym}
use native.Mathlib.Omega.{arith}
use Rattle.log_answers.proofs.Texts.{answer_short}
use Rattle.log_rules.specs.Lines.{line_limit}
use Rattle.refusal.specs.Table.{Refused}
use Rattle.refusal.specs.declared.Refusal.TheVariants.{NotAForm}
use Rattle.watch_log.proofs.Ends.{empty_not, empty_then, full_cut, full_not, full_then, no_cut, nothing_cut, some_cut}
use Rattle.watch_log.specs.Feed.{LogFields}
use Rattle.watch_log.specs.Held.{held_line}
use Rattle.watch_log.proofs.state.Log.put_cut.Goals.{then-is_empty-via-then-is_empty, then-is_empty-via-else-is_empty+then-is_full}
use Rattle.watch_log.proofs.state.Log.put_cut.Goals as goal

pub returns-then-is_empty : goal.returns-then-is_empty
returns-then-is_empty c =
    rw (← c.self.view_is)
    (nothing_cut c.self.inside.lines (length (held_line c.self.inside.held))
    (elim c.then-is_empty.branch [
      | then-is_empty-via-then-is_empty w ↦ no_cut c.self.inside.lines _ (empty_then _ (sym c.is_empty.ensures ∙ w.if-is_empty.true))
      | then-is_empty-via-else-is_empty+then-is_full w ↦
          full_cut c.self.inside.lines _ (subst⁻¹ (λ (l : LogFields). line_limit ≤ l.lines) c.self.view_is (full_then _ (sym w.is_full.ensures ∙ w.if-is_full.true)))
          (empty_not _ (sym c.is_empty.ensures ∙ w.if-is_empty.false))
    ]))

pub put_answer-requires : goal.put_answer-requires
put_answer-requires c =
    let under = subst⁻¹ (λ (l : LogFields). l.lines < line_limit) c.self.view_is (full_not _ (sym c.is_full.ensures ∙ c.if-is_full.false)) in
    omega (arith, c.requires, under, answer_short (c.self.inside.lines + 1) (Refused NotAForm) (omega (arith, under)))

pub returns : goal.returns
returns c =
    let under = subst⁻¹ (λ (l : LogFields). l.lines < line_limit) c.self.view_is (full_not _ (sym c.is_full.ensures ∙ c.if-is_full.false)) in
    let e = some_cut c.self.inside.lines _ under (empty_not _ (sym c.is_empty.ensures ∙ c.if-is_empty.false)) in
    rw (← c.self.view_is) (rw e (
      c.put_answer.ensures,
      omega (arith, c.put_answer.ensures.0, answer_short (c.self.inside.lines + 1) (Refused NotAForm) (omega (arith, under))),
    ))
