-- What a piece comes to. Assumes nothing.
use Prim.Native.Nat.{◌*◌, ◌+◌, ◌-◌, ◌<◌, ◌≤◌, ℕ}
use lib.ListN.{drop, length, length-append, length-drop, take}
use mathlib.Core.Bool.{false}
use mathlib.Core.List.{List, [], ◌++◌, append_assoc}
use mathlib.Core.Path.{◌∙◌, ◌≡◌, ap, refl, subst, sym}
use native.Mathlib.Nat.{zero-add}
use native.Mathlib.Omega.{arith}
use Rattle.decimal.proofs.Put.{put_then}
use Rattle.decimal.specs.Text.{put}
use Rattle.forms.proofs.Lines.{line_rest}
use Rattle.forms.specs.Form.{line, line_bytes}
use Rattle.log_lines.proofs.Ends.{Found}
use Rattle.log_lines.specs.Stages.{Fits, LinesAnswered}
use Rattle.log_lines.specs.declared.answers.Answered.{Answered}
use Rattle.log_rules.proofs.Cuts.{rest_full, rest_held, rest_more}
use Rattle.log_rules.proofs.Ends.{ended_left, no_line}
use Rattle.log_rules.specs.Lines.{line_limit}
use Rattle.log_rules.specs.Output.{rest_of}
use Rattle.log_rules.specs.Pieces.{NoMore, OneLine, PartLine, Went, cut, empty, full, has_line}
use Rattle.watch_log.proofs.Kept.{Parts, Whole, itself, kept_length, kept_part, kept_whole, part_rest, whole_rest}
use Rattle.watch_log.specs.Feed.{FedFrom, Good, LogState}
use Rattle.watch_log.specs.Held.{kept}
use Rattle.log_rules.specs.Answers as rules
use lib.Seq as seq

-- all lines are answered
pub full_fed : (l : LogState) (piece out : List ℕ) → line_limit ≤ l.lines → Good l → FedFrom l.stage l.lines l.held piece l 0 0 out out
unfolding put
full_fed l piece out h g = record {
  written = [];
  left = λ rest. rest_full l.stage l.lines h l.held (piece ++ rest) ∙ sym (rest_full l.stage l.lines h l.held rest);
  wrote = (refl, refl);
  room = omega arith;
  good = g;
}

-- no line ends in the piece: it is held
pub part_fed : (l : LogState) (piece out : List ℕ) {held' : List ℕ} → Good l → has_line piece ≡ false → held' ≡ kept l.held piece
    → FedFrom l.stage l.lines l.held piece (record { stage = l.stage; lines = l.lines; held = held' }) 0 0 out out
unfolding put
part_fed l piece out g partial is =
    let u = no_line piece partial in
    let p = subst (λ (x : List ℕ). Parts x (l.held ++ piece)) (sym is) (kept_part u (itself g.part)) in
    record {
      written = [];
      left = λ rest. rest_more l.stage l.lines u l.held rest ∙ part_rest p l.stage l.lines rest;
      wrote = (refl, refl);
      room = omega arith;
      good = record { sound = g.sound; most = g.most; part = p.held_part };
    }

-- what is left of a piece is held
pub record HeldRest (lines next : ℕ) (piece held : List ℕ) : Type 0 where
  pub part : PartLine held
  pub left : (s : rules.Stage) (rest : List ℕ) → rest_of s lines [] (drop next piece ++ rest) ≡ rest_of s lines held rest

pub full_rest : (lines next : ℕ) (piece : List ℕ) {held : List ℕ} → line_limit ≤ lines → held ≡ [] → HeldRest lines next piece held
full_rest lines next piece h is = subst (HeldRest lines next piece) (sym is) (record {
  part = empty;
  left = λ s rest. rest_full s lines h [] (drop next piece ++ rest) ∙ sym (rest_full s lines h [] rest);
})

cut_of : {lines next : ℕ} {piece : List ℕ} → NoMore lines next piece → lines < line_limit → has_line (drop next piece) ≡ false
cut_of (full h) under = absurd (let z : ⊥ = omega arith in z)
cut_of (cut h) under = h

pub part_held : (lines next : ℕ) (piece : List ℕ) {none held : List ℕ} → NoMore lines next piece → lines < line_limit → none ≡ []
    → next ≤ length piece → held ≡ kept none (take (length piece - next) (drop next piece)) → HeldRest lines next piece held
part_held lines next piece spent under nothing inside is =
    let all = seq.take_all (length piece - next) (drop next piece) (omega (arith, length-drop next piece)) in
    let u = no_line (drop next piece) (cut_of spent under) in
    let p = kept_part u (itself empty) in
    subst (HeldRest lines next piece) (sym (is ∙ (ap (λ (x : List ℕ). kept x (take (length piece - next) (drop next piece))) nothing ∙ ap (kept []) all))) (record {
      part = p.held_part;
      left = λ s rest. rest_more s lines u [] rest ∙ part_rest p s lines rest;
    })

-- a whole line as a piece by itself
pub went_whole : {s s' : rules.Stage} {k k' n at at' : ℕ} {l out out' : List ℕ} (w : Went s s' k k' 0 n at at' l out out') → NoMore k' n l → OneLine l
    → (rest : List ℕ) → rest_of s k [] (l ++ rest) ≡ w.written ++ rest_of s' k' [] rest
went_whole {s' = s'} {k' = k'} {n = n} {l = l} w (full h) en rest =
    w.left rest ∙ ap (λ (x : List ℕ). w.written ++ x) (rest_full s' k' h [] (drop n l ++ rest) ∙ sym (rest_full s' k' h [] rest))
went_whole {s' = s'} {k' = k'} {n = n} {l = l} w (cut h) en rest =
    w.left rest ∙ ap (λ (x : List ℕ). w.written ++ rest_of s' k' [] (x ++ rest)) (ended_left en n h)

-- the first line of a piece
pub first_line : (piece : List ℕ) (e : ℕ) → e ≡ 0 + length (line (drop 0 piece)) → take e piece ≡ line piece
first_line piece e is =
    let n : e ≡ length (line piece) = is ∙ zero-add (length (line piece)) in
    rw n (ap (take (length (line piece))) (line_rest piece) ∙ seq.take-append_seam (line piece) (drop (length (line piece)) piece))

-- there is room for the answer to the line that is held, and then for those to the lines that follow
module _ (l : LogState) (piece : List ℕ) {h₁ : List ℕ} {e : ℕ} (found : Found piece 0 e) (is : h₁ ≡ kept l.held (take e piece)) where
  short : length h₁ ≤ line_bytes + 1
  short =
      let n : length h₁ ≡ length (kept l.held (line piece)) = ap length (is ∙ ap (kept l.held) (first_line piece e found.past)) in
      omega (arith, n, kept_length l.held found.line_ends)

  pub fits_first : {out : List ℕ} → (length piece + line_bytes) * rules.answer_bytes ≤ length out → Good l → Fits l.stage l.lines h₁ 0 out 0
  fits_first room g = record {
    sound = g.sound;
    most = g.most;
    inside = omega arith;
    room = omega (arith, room, short, found.onward, found.inside);
  }

  pub fits_last : {s₁ : rules.Stage} {out out₁ : List ℕ} → (length piece + line_bytes) * rules.answer_bytes ≤ length out → (a : Answered) → LinesAnswered l.stage s₁ l.lines h₁ 0 out 0 a out₁ → length out₁ ≡ length out
      → Fits s₁ a.lines piece e out₁ a.at
  fits_last room a first size = record {
    sound = first.sound;
    most = first.went.counts;
    inside = found.inside;
    room = omega (arith, room, short, size, found.onward, found.inside, first.went.ends, first.went.room, first.went.inside);
  }

pub room_left : {s₁ s₂ : rules.Stage} {k at e : ℕ} {piece out₁ out₂ : List ℕ} (b : Answered) → Fits s₁ k piece e out₁ at → LinesAnswered s₁ s₂ k piece e out₁ at b out₂
    → b.at ≤ length out₁
room_left b fits last = omega (arith, fits.room, fits.inside, last.went.ends, last.went.room, last.went.inside)

-- a line ends in the piece: with what is held of it it is answered by itself, and then those that follow
pub whole_fed :
    (l : LogState) {s₁ s₂ : rules.Stage} (a b : Answered) (piece : List ℕ) {h₁ h₂ out out₁ out₂ : List ℕ} {e : ℕ} → Good l → Found piece 0 e
    → h₁ ≡ kept l.held (take e piece) → LinesAnswered l.stage s₁ l.lines h₁ 0 out 0 a out₁ → LinesAnswered s₁ s₂ a.lines piece e out₁ a.at b out₂
    → HeldRest b.lines b.next piece h₂ → b.at ≤ length out
    → FedFrom l.stage l.lines l.held piece (record { stage = s₂; lines = b.lines; held = h₂ }) b.at 0 out out₂
whole_fed l {s₁} {s₂} a b piece {h₁} {h₂} {out} {out₁} {out₂} {e} g found is first last h room =
    let w = line piece in
    let same = first_line piece e found.past in
    let W = subst (λ (x : List ℕ). Whole x (l.held ++ w)) (sym (is ∙ ap (kept l.held) same)) (kept_whole found.line_ends (itself g.part)) in
    let halves : piece ≡ w ++ drop e piece = line_rest piece ∙ ap (λ (i : ℕ). w ++ drop i piece) (sym (found.past ∙ zero-add (length w))) in
    record {
      written = first.went.written ++ last.went.written;
      left = λ rest.
          ap (λ (x : List ℕ). rest_of l.stage l.lines l.held (x ++ rest)) halves
          ∙ (ap (rest_of l.stage l.lines l.held) (append_assoc w (drop e piece) rest)
          ∙ (rest_held l.stage l.lines g.part (w ++ (drop e piece ++ rest))
          ∙ (ap (rest_of l.stage l.lines []) (sym (append_assoc l.held w (drop e piece ++ rest)))
          ∙ (whole_rest W l.stage l.lines (drop e piece ++ rest)
          ∙ (went_whole first.went first.spent W.held_ended (drop e piece ++ rest)
          ∙ (ap (λ (x : List ℕ). first.went.written ++ x)
          (last.went.left rest ∙ ap (λ (x : List ℕ). last.went.written ++ x) (h.left s₂ rest))
          ∙ sym (append_assoc first.went.written last.went.written _)))))));
      wrote = (
        omega (arith, first.went.ends, last.went.ends, length-append first.went.written last.went.written),
        last.went.wrote ∙ put_then first.went.written last.went.written out 0 first.went.ends first.went.wrote,
      );
      room = room;
      good = record { sound = last.sound; most = last.went.counts; part = h.part };
    }
