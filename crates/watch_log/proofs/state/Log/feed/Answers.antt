use lib.Seq.{length-take-le}
use mathlib.Core.Path.{◌∙◌, subst, sym}
use native.Mathlib.Omega.{arith}
use Rattle.log_lines.proofs.Ends.{found_line, found_none}
use Rattle.watch_log.proofs.Ends.{full_then}
use Rattle.watch_log.proofs.Pieces.{fits_first, fits_last, full_fed, full_rest, part_fed, part_held, room_left, whole_fed}
use Rattle.watch_log.specs.Feed.{Good, LogFields, log_of}
use Rattle.watch_log.proofs.state.Log.feed.Goals as goal

pub returns-then-is_full : goal.returns-then-is_full
returns-then-is_full c = full_fed _ _ _ (full_then _ (sym c.is_full.ensures ∙ c.if-is_full.true)) (subst (λ (l : LogFields). Good (log_of l)) c.self.view_is c.self.invariant)

pub invariant_of-self : goal.invariant_of-self
invariant_of-self c =
    (part_fed _ c.args.piece.now c.args.out.now c.self.invariant (found_none c.args.piece.now 0 (sym c.line_end.ensures ∙ c.in_default.is)) c.extend.ensures).good

pub returns-in_default : goal.returns-in_default
returns-in_default c =
    rw (← c.self.view_is)
    (part_fed _ c.args.piece.now c.args.out.now c.self.invariant (found_none c.args.piece.now 0 (sym c.line_end.ensures ∙ c.in_default.is)) c.extend.ensures)

pub slice_bounds-extend-end : goal.slice_bounds-extend-end
slice_bounds-extend-end c =
    let f = found_line c.args.piece.now 0 _ (sym c.line_end.ensures ∙ c.in-Some.is) in
    sym (length-take-le _ _ f.inside)

pub answer_lines-first-requires : goal.answer_lines-first-requires
answer_lines-first-requires c =
    let f = found_line c.args.piece.now 0 _ (sym c.line_end.ensures ∙ c.in-Some.is) in
    fits_first _ _ f (c.line.ensures ∙ c.extend-2.ensures) c.requires c.self.invariant

pub answer_lines-last-requires : goal.answer_lines-last-requires
answer_lines-last-requires c =
    let f = found_line c.args.piece.now 0 _ (sym c.line_end.ensures ∙ c.in-Some.is) in
    fits_last _ _ f (c.line.ensures ∙ c.extend-2.ensures) c.requires _ c.answer_lines-first.ensures c.answer_lines-first.auto.out

pub invariant_of-self-then-self-lt-LINE_LIMIT : goal.invariant_of-self-then-self-lt-LINE_LIMIT
invariant_of-self-then-self-lt-LINE_LIMIT c =
    let u = c.answer_lines-last.ensures in record {
      sound = u.sound;
      most = u.went.counts;
      part = (part_held _ _ _ u.spent c.if-self-lt-LINE_LIMIT.true c.clear.ensures u.went.inside c.extend-then-self-lt-LINE_LIMIT.ensures).part;
    }

pub invariant_of-self-else-self-lt-LINE_LIMIT : goal.invariant_of-self-else-self-lt-LINE_LIMIT
invariant_of-self-else-self-lt-LINE_LIMIT c =
    let u = c.answer_lines-last.ensures in record {
      sound = u.sound;
      most = u.went.counts;
      part = (full_rest c.answer_lines-last.result.lines 0 c.args.piece.now (omega (arith, c.if-self-lt-LINE_LIMIT.false)) c.clear.ensures).part;
    }

pub returns-then-self-lt-LINE_LIMIT : goal.returns-then-self-lt-LINE_LIMIT
returns-then-self-lt-LINE_LIMIT c =
    let f = found_line c.args.piece.now 0 _ (sym c.line_end.ensures ∙ c.in-Some.is) in
    let is = c.line.ensures ∙ c.extend-2.ensures in
    let fits = fits_last _ _ f is c.requires _ c.answer_lines-first.ensures c.answer_lines-first.auto.out in
    let u = c.answer_lines-last.ensures in
    rw (← c.self.view_is)
    (whole_fed _ _ _ c.args.piece.now c.self.invariant f is c.answer_lines-first.ensures u
    (part_held _ _ _ u.spent c.if-self-lt-LINE_LIMIT.true c.clear.ensures u.went.inside c.extend-then-self-lt-LINE_LIMIT.ensures)
    (omega (arith, room_left _ fits u, c.answer_lines-first.auto.out)))

pub returns-else-self-lt-LINE_LIMIT : goal.returns-else-self-lt-LINE_LIMIT
returns-else-self-lt-LINE_LIMIT c =
    let f = found_line c.args.piece.now 0 _ (sym c.line_end.ensures ∙ c.in-Some.is) in
    let is = c.line.ensures ∙ c.extend-2.ensures in
    let fits = fits_last _ _ f is c.requires _ c.answer_lines-first.ensures c.answer_lines-first.auto.out in
    let u = c.answer_lines-last.ensures in
    rw (← c.self.view_is)
    (whole_fed _ _ _ c.args.piece.now c.self.invariant f is c.answer_lines-first.ensures u
    (full_rest _ _ _ (omega (arith, c.if-self-lt-LINE_LIMIT.false)) c.clear.ensures)
    (omega (arith, room_left _ fits u, c.answer_lines-first.auto.out)))
