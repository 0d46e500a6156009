-- Lines of a piece, one after the other. Assumes nothing.
use Prim.Native.Nat.{◌*◌, ◌+◌, ◌-◌, ◌<◌, ◌≤◌, ℕ}
use lib.ListN.{drop, length, length-append, length-drop, take}
use mathlib.Core.Bool.{false}
use mathlib.Core.List.{List, [], ◌++◌, ◌∷◌}
use mathlib.Core.Path.{◌∙◌, ◌≡◌, ap, refl, subst, sym}
use native.Mathlib.Omega.{arith}
use Rattle.forms.proofs.Lines.{line_rest}
use Rattle.forms.specs.Form.{line}
use Rattle.forms.specs.Read.{Read, ring_at, tree_at}
use Rattle.forms.specs.declared.RingStep.{RingStep}
use Rattle.forms.specs.declared.TreeStep.{TreeStep}
use Rattle.log_rules.proofs.Ends.{ended_long}
use Rattle.log_rules.proofs.InPlace.{went_line, went_none, went_then}
use Rattle.log_rules.specs.Answers.{Stage, answer_bytes, answer_text, fresh, line_told, on_ring, on_table, on_tree, over, ring_told, table_told, tree_told}
use Rattle.log_rules.specs.Lines.{line_limit, split}
use Rattle.log_rules.specs.Output.{lines_told, rest_of}
use Rattle.log_rules.specs.Pieces.{Went, cut, has_line}
use Rattle.log_answers.proofs.Texts.{answer_short}
use Rattle.log_answers.specs.Wrote.{Wrote}
use Rattle.refusal.specs.Answers.{verdict_from}
use Rattle.std.specs.Prelude.{None, Some}
use Rattle.update_forms.specs.Read.{wrapped_at}
use Rattle.update_forms.specs.Wrapped.{Wrapped, bare, lists, step}
use Rattle.log_lines.proofs.Ends.{none_left}
use Rattle.log_lines.specs.Stages.{Fits, LineAnswered, LinesAnswered, LinesWent, SameRun, Waits, begins, no_run, past_the_end, ring_run, table_run, tree_run}
use Rattle.log_lines.specs.Stages as waits
use Rattle.log_lines.specs.declared.answers.Answered.{Answered}
use Rattle.log_lines.specs.declared.line.Line.{Line}

-- a line leaves a run of the kind that it is
told_same : (s : Stage) (k : ℕ) (l : List ℕ) → SameRun s (line_told s k l).stage
unfolding line_told
told_same fresh k l = begins
told_same (on_ring r m) k l = go (ring_at l 0)
  where
    go : (x : Read RingStep) → SameRun (on_ring r m) (ring_told r m k x).stage
    go (Some (f, e)) = ring_run
    go None = ring_run
told_same (on_tree t) k l = go (tree_at l 0)
  where
    go : (x : Read TreeStep) → SameRun (on_tree t) (tree_told t k x).stage
    go (Some (f, e)) = tree_run
    go None = tree_run
told_same (on_table t ms) k l = go (wrapped_at l 0)
  where
    go : (x : Read Wrapped) → SameRun (on_table t ms) (table_told t ms k x).stage
    go (Some (step u f, e)) = table_run
    go (Some (bare u n, e)) = table_run
    go (Some (lists u n active black, e)) = table_run
    go None = table_run
told_same over k l = no_run

same_itself : (s : Stage) → SameRun s s
same_itself fresh = begins
same_itself (on_ring r m) = ring_run
same_itself (on_tree t) = tree_run
same_itself (on_table t ms) = table_run
same_itself over = no_run

same_then : {s t u : Stage} → SameRun s t → SameRun t u → SameRun s u
same_then begins q = begins
same_then ring_run ring_run = ring_run
same_then tree_run tree_run = tree_run
same_then table_run table_run = table_run
same_then no_run no_run = no_run

-- a whole line lies within its piece
pub within : (p : List ℕ) (at : ℕ) → length (line (drop at p)) ≤ length p - at
within p at = omega (
  arith,
  ap length (line_rest (drop at p)),
  length-append (line (drop at p)) (drop (length (line (drop at p))) (drop at p)),
  length-drop at p,
)

-- there is room for its answer
pub answer_room : {s s' : Stage} {k : ℕ} {p : List ℕ} (out : List ℕ) {at : ℕ} (at' : ℕ) {l : Line} → LineAnswered s s' k p at l → k ≤ line_limit
    → at' + (length p - at) * answer_bytes ≤ length out → at' + length (answer_text l.number (verdict_from l.answer)) ≤ length out
answer_room {p = p} out {at} at' {l} h lim room =
    omega (arith, answer_short l.number (verdict_from l.answer) (omega (arith, h.number)), ended_long h.whole, within p at)

-- a line that is answered
pub turn : (s s' : Stage) (a : Answered) (p out out' : List ℕ) (l : Line) (at' : ℕ) → a.next ≤ length p → a.lines < line_limit
    → LineAnswered s s' (a.lines + 1) p a.next l → Wrote out a.at (answer_text l.number (verdict_from l.answer)) at' out'
    → LinesWent s s' a (record { lines = a.lines + 1; next = l.next; at = at' }) p out out'
turn s s' a p out out' l at' inside under h w =
    let x = line_told s (a.lines + 1) (line (drop a.next p)) in
    let v : Wrote out a.at x.text at' out' = subst (λ (t : List ℕ). Wrote out a.at t at' out') h.text w in
    let short : length x.text ≤ answer_bytes =
    subst (λ (t : List ℕ). length t ≤ answer_bytes) h.text (answer_short l.number (verdict_from l.answer) (omega (arith, h.number))) in
    record {
      went = subst (λ (z : Stage). Went s z a.lines (a.lines + 1) a.next l.next a.at at' p out out') (sym h.stage)
          (went_line s a.lines a.next l.next a.at at' p out out' h.whole h.past inside under x refl short v.0 v.1);
      same = subst (SameRun s) (sym h.stage) (told_same s (a.lines + 1) (line (drop a.next p)));
      sound = h.sound;
    }

-- none, and some and then more
pub turns_none : (s : Stage) (a : Answered) (p out : List ℕ) → Fits s a.lines p a.next out a.at → LinesWent s s a a p out out
turns_none s a p out f = record { went = went_none s a.lines a.next a.at p out f.inside f.most; same = same_itself s; sound = f.sound }

pub turns_then : {s t u : Stage} {a b c : Answered} {p x y z : List ℕ} → LinesWent s t a b p x y → LinesWent t u b c p y z → LinesWent s u a c p x z
turns_then f g = record { went = went_then f.went g.went; same = same_then f.same g.same; sound = g.sound }

pub turns_stay : {s t u : Stage} {a b : Answered} {p x y z : List ℕ} → LinesWent s t a b p x y → u ≡ t → z ≡ y → LinesWent s u a b p x z
turns_stay f e h = rw (e, h) f

-- what is left fits as before
pub turns_fit : {s t : Stage} {a b : Answered} {p x y : List ℕ} → Fits s a.lines p a.next x a.at → LinesWent s t a b p x y → length y ≡ length x
    → Fits t b.lines p b.next y b.at
turns_fit f g n = record {
  sound = g.sound;
  most = g.went.counts;
  inside = g.went.inside;
  room = omega (arith, f.room, f.inside, g.went.ends, g.went.room, g.went.inside);
}

-- once the log is over, nothing more is written
over_silent : (k : ℕ) (ls : List (List ℕ)) → lines_told over k ls ≡ []
unfolding lines_told line_told
over_silent k [] = refl
over_silent k (l ∷ ls) = over_silent (k + 1) ls

over_rest : (k : ℕ) (held s : List ℕ) → rest_of over k held s ≡ []
unfolding rest_of
over_rest k held s = over_silent (k + 1) (take (line_limit - k) (split held s))

module _ {s s' : Stage} {a b : Answered} {p x y : List ℕ} (f : LinesWent s s' a b p x y) where
  over_skipped : s' ≡ over → LinesAnswered s s' a.lines p a.next x a.at (record { lines = b.lines; next = length p; at = b.at }) y
  over_skipped e = record {
    went = record {
      written = f.went.written;
      left = λ rest.
          f.went.left rest
          ∙ ap (λ (l : List ℕ). f.went.written ++ l)
          (rw e (over_rest b.lines [] (drop b.next p ++ rest) ∙ sym (over_rest b.lines [] (drop (length p) p ++ rest))));
      wrote = f.went.wrote;
      ends = f.went.ends;
      room = omega (arith, f.went.room, f.went.inside);
      inside = omega arith;
      counts = f.went.counts;
    };
    same = f.same;
    sound = f.sound;
    spent = cut (none_left p (length p) (omega arith));
  }

  cut_short : has_line (drop b.next p) ≡ false → LinesAnswered s s' a.lines p a.next x a.at b y
  cut_short h = record { went = f.went; same = f.same; sound = f.sound; spent = cut h }

-- no line is left that is whole
pub at_the_end : {s : Stage} (s' : Stage) {a b : Answered} {p x y : List ℕ} → LinesWent s s' a b p x y → Waits s' p b.next
    → LinesAnswered s s' a.lines p a.next x a.at (past_the_end s' b p) y
at_the_end fresh f (waits.cut h) = cut_short f h
at_the_end fresh f (waits.ended e) = absurd (let z : ⊥ = cc in z)
at_the_end (on_ring r m) f (waits.cut h) = cut_short f h
at_the_end (on_ring r m) f (waits.ended e) = absurd (let z : ⊥ = cc in z)
at_the_end (on_tree t) f (waits.cut h) = cut_short f h
at_the_end (on_tree t) f (waits.ended e) = absurd (let z : ⊥ = cc in z)
at_the_end (on_table t ms) f (waits.cut h) = cut_short f h
at_the_end (on_table t ms) f (waits.ended e) = absurd (let z : ⊥ = cc in z)
at_the_end over f w = over_skipped f refl
