-- What the turns of the program come to. Assumes nothing.
use Prim.Native.Nat.{◌+◌, ◌<◌, ℕ}
use lib.ListN.{length, length-append, length-take, take}
use borrow.Author.Tests.{eqb-false, eqb-true}
use lib.Dec.{eqb}
use mathlib.Core.Bool.{◌||◌, false, true}
use mathlib.Core.List.{List, [], ◌++◌, ◌∷◌, append_assoc, append-nil}
use mathlib.Core.Logic.{◌⊎◌, inl, inr}
use mathlib.Core.Path.{◌∙◌, ◌≡◌, ap, refl, subst, subst⁻¹, sym}
use native.Mathlib.Omega.{arith}
use Rattle.laws.proofs.Tests.{false_true, neither, one_of}
use Rattle.log_lines.specs.Stages.{SoundStage}
use Rattle.log_rules.specs.Answers.{fresh}
use Rattle.log_rules.specs.Lines.{joined}
use Rattle.log_rules.specs.Output.{output_of, rest_of}
use Rattle.log_rules.specs.Pieces.{PartLine, empty}
use Rattle.std.proofs.KnownBytes.{Appends-kept, Appends-trans, Consumes-kept, Consumes-trans}
use Rattle.std.specs.Io.KnownBytes.{Appends, Consumes, IsAtEnd, Keeps, ReadConsumes}
use Rattle.std.specs.Prelude.{Err, IfSome, IsErr, MatchResult, None, Ok, OnErr, OnOk, Option, Result, Some}
use Rattle.std.specs.declared.io.Error.{Error}
use Rattle.watch_log.proofs.Theorems.{front, settled}
use Rattle.watch_log.specs.Feed.{Good, LogState, decided, decided_by}
use Rattle.watch_log.specs.Finish.{Finished}
use Rattle.watch.proofs.Known.{begins, begun, whole}
use Rattle.watch.specs.Run.{AllRead, Going, IsOver, ProgramFailed, ProgramRan, Pumped, PumpFailed, Turns, another, at_end, none, stopped, turn_limit, turns_ran_out}
use Rattle.watch.specs.Turn.{Stopped, Turned, Unwritten, no_read, no_write}
use Rattle.log_rules.specs.Answers as rules

-- what is told of a result
pub ok_then : {A E P Q : Type 0} (r : Result A E) → OnOk r P → (P → Q) → OnOk r Q
ok_then (Ok x) p f = f p
ok_then (Err e) p f = tt

pub either : {A E P Q P' Q' : Type 0} (r : Result A E) → OnOk r P → OnErr r Q → (P → P') → (Q → Q') → MatchResult r (λ x. P') (λ e. Q')
either (Ok x) p q f g = f p
either (Err e) p q f g = g q

joined_more : (ps : List (List ℕ)) (p : List ℕ) → joined (ps ++ (p ∷ [])) ≡ joined ps ++ p
joined_more [] p = append-nil p
joined_more (q ∷ ps) p = ap (λ (x : List ℕ). q ++ x) (joined_more ps p) ∙ sym (append_assoc q (joined ps) p)

all_read_more : (ps : List (List ℕ)) (p : List ℕ) → AllRead ps → 0 < length p → AllRead (ps ++ (p ∷ []))
all_read_more [] p all some = (some, tt)
all_read_more (q ∷ ps) p all some = (all.0, all_read_more ps p all.1 some)

last_read : (ps : List (List ℕ)) (p : List ℕ) → AllRead (ps ++ (p ∷ [])) → 0 < length p
last_read [] p all = all.0
last_read (q ∷ ps) p all = last_read ps p all.1

turns_good : {ps : List (List ℕ)} {texts : List ℕ} {l : LogState} → Turns ps texts l → Good l
turns_good (none {l} e) = record {
  sound = subst⁻¹ (λ (s : rules.Stage). SoundStage s l.lines) e.0 tt;
  most = omega (arith, e.1);
  part = subst⁻¹ PartLine e.2 empty;
}
turns_good (another count turns all more short f) = f.good

-- what the turns wrote is the output, as far as they read
turns_output : {ps : List (List ℕ)} {texts : List ℕ} {l : LogState} → Turns ps texts l → (rest : List ℕ)
    → output_of (joined ps ++ rest) ≡ texts ++ rest_of l.stage l.lines l.held rest
turns_output (none {l} e) rest =
    sym (ap (λ (s : rules.Stage). rest_of s l.lines l.held rest) e.0
    ∙ (ap (λ (k : ℕ). rest_of fresh k l.held rest) e.1 ∙ ap (λ (h : List ℕ). rest_of fresh 0 h rest) e.2))
turns_output (another {l} {l'} {p} {out} {out'} {texts} {ps} count turns all more short f) rest =
    ap (λ (x : List ℕ). output_of (x ++ rest)) (joined_more ps p)
    ∙ (ap output_of (append_assoc (joined ps) p rest)
    ∙ (turns_output turns (p ++ rest)
    ∙ (ap (λ (x : List ℕ). texts ++ x) (f.left rest)
    ∙ (sym (append_assoc texts f.written (rest_of l'.stage l'.lines l'.held rest))
    ∙ ap (λ (x : List ℕ). (texts ++ x) ++ rest_of l'.stage l'.lines l'.held rest) (sym (front out f.written out' count f.wrote f.room))))))

-- a read that failed read nothing
none_read : (before after : Option (List ℕ)) (r : Result ℕ Error) (buffer : List ℕ) → IsErr r → ReadConsumes before after r buffer → Keeps before after
none_read before after (Ok x) buffer is read = absurd (false_true is)
none_read before after (Err e) buffer is read = read

-- is the log over?
over_of : (after : Option (List ℕ)) (l : LogState) (got : ℕ) → (got ≡ 0 → IsAtEnd after) → (eqb got 0 || decided l) ≡ true → IsOver after l
over_of after l got end e = go (one_of (eqb got 0) (decided l) e)
  where
    go : (eqb got 0 ≡ true) ⊎ (decided l ≡ true) → IsOver after l
    go (inl h) = inl (end (eqb-true got 0 h))
    go (inr h) = inr h

-- nothing is read
start_open : (l : LogState) → (l.stage ≡ fresh) × (l.lines ≡ 0) × (l.held ≡ []) → decided l ≡ false
start_open l e =
    subst⁻¹ (λ (s : rules.Stage). decided_by s l.lines (length l.held) ≡ false) e.0
    (subst⁻¹ (λ (k : ℕ). decided_by fresh k (length l.held) ≡ false) e.1
    (subst⁻¹ (λ (h : List ℕ). decided_by fresh 0 (length h) ≡ false) e.2 refl))

pub start_going : (before old : Option (List ℕ)) (l : LogState) → (l.stage ≡ fresh) × (l.lines ≡ 0) × (l.held ≡ [])
    → Consumes before before [] → Appends old old [] → Going 0 before before old old l
start_going before old l e read wrote = record {
  pieces = [];
  texts = [];
  made = refl;
  turns = none e;
  read = read;
  wrote = wrote;
  all = tt;
  more = start_open l e;
}

module _ {n : ℕ} {before after old new : Option (List ℕ)} {l : LogState} (g : Going n before after old new l) where
  -- the turns ran out
  pub ran_out : n ≡ turn_limit → PumpFailed before after old new
  ran_out most = record {
    pieces = g.pieces;
    texts = g.texts;
    log = l;
    turns = g.turns;
    read = g.read;
    count = length g.texts;
    no_end = whole old new g.texts g.wrote;
    why = turns_ran_out most g;
  }

  one_more : (p : List ℕ) → length (g.pieces ++ (p ∷ [])) ≡ n + 1
  one_more p = omega (arith, g.made, length-append g.pieces (p ∷ []))

  now_read : (after' : Option (List ℕ)) (p : List ℕ) → Consumes after after' p → Consumes before after' (joined (g.pieces ++ (p ∷ [])))
  now_read after' p read =
      subst (Consumes before after') (sym (joined_more g.pieces p)) (Consumes-trans before after after' (joined g.pieces) p g.read read)

  module _ {after' new' : Option (List ℕ)} {l' : LogState} where
    -- a turn more, after which something is still to be read
    module _ {got : ℕ} {buffer : List ℕ} (t : Turned after after' new new' l l' got buffer) where
      turns : Turns (g.pieces ++ (take got buffer ∷ [])) (g.texts ++ take t.count t.out') l'
      turns = another t.count g.turns g.all g.more (omega (arith, t.size, length-take got buffer)) t.fed

      wrote : Appends old new' (g.texts ++ take t.count t.out')
      wrote = Appends-trans old new new' g.texts (take t.count t.out') g.wrote t.wrote

      pub goes_on : (eqb got 0 || decided l') ≡ false → Going (n + 1) before after' old new' l'
      goes_on e = record {
        pieces = g.pieces ++ (take got buffer ∷ []);
        texts = g.texts ++ take t.count t.out';
        made = one_more (take got buffer);
        turns = turns;
        read = now_read after' (take got buffer) t.read;
        wrote = wrote;
        all = all_read_more g.pieces (take got buffer) g.all (omega (arith, eqb-false got 0 (neither (eqb got 0) (decided l') e).0, t.size, length-take got buffer));
        more = (neither (eqb got 0) (decided l') e).1;
      }

      -- and the last one
      pub pumped : n < turn_limit → (eqb got 0 || decided l') ≡ true → Pumped before after' old new' l'
      pumped under e = record {
        pieces = g.pieces ++ (take got buffer ∷ []);
        texts = g.texts ++ take t.count t.out';
        turns = turns;
        read = now_read after' (take got buffer) t.read;
        wrote = wrote;
        most = omega (arith, one_more (take got buffer));
        over = over_of after' l' got t.end e;
        ends_so = λ all. go all (one_of (eqb got 0) (decided l') e);
      }
        where
          go : AllRead (g.pieces ++ (take got buffer ∷ [])) → (eqb got 0 ≡ true) ⊎ (decided l' ≡ true) → decided l' ≡ true
          go all (inl h) = absurd (omega (arith, last_read g.pieces (take got buffer) all, eqb-true got 0 h, length-take got buffer))
          go all (inr h) = h

    -- a turn in which a read or a write failed
    pub stops : n < turn_limit → Stopped after after' new new' l l' → PumpFailed before after' old new'
    stops under (no_read r buffer is read same) = record {
      pieces = g.pieces;
      texts = g.texts;
      log = l;
      turns = g.turns;
      read = Consumes-kept before after after' (joined g.pieces) g.read (none_read after after' r buffer is read);
      count = length g.texts;
      no_end = whole old new' g.texts (Appends-kept old new new' g.texts g.wrote same);
      why = stopped {l' = l'} under g (no_read r buffer is read same);
    }
    stops under (no_write got count buffer out out' size read fed unwritten) = record {
      pieces = g.pieces ++ (take got buffer ∷ []);
      texts = g.texts ++ take count out';
      log = l';
      turns = another count g.turns g.all g.more (omega (arith, size, length-take got buffer)) fed;
      read = now_read after' (take got buffer) read;
      count = length g.texts + (begins unwritten).count;
      no_end = begun old new new' g.texts (take count out') (begins unwritten).count g.wrote (begins unwritten).wrote;
      why = stopped under g (no_write got count buffer out out' size read fed unwritten);
    }

-- the log has ended, or it is decided
module _ {before after old new : Option (List ℕ)} {l : LogState} (g : Pumped before after old new l) {r : ℕ} {out out' : List ℕ} (end : Finished l r out out') where
  abbrev left : List ℕ → List ℕ
  left rest = rest_of l.stage l.lines l.held rest

  ends : take r out' ≡ left []
  ends = front out (left []) out' r end.wrote end.room

  all : g.texts ++ left [] ≡ output_of (joined g.pieces)
  all = sym (turns_output g.turns []) ∙ ap output_of (append-nil (joined g.pieces))

  pub ran : {new' : Option (List ℕ)} → Appends new new' (take r out') → ProgramRan before after old new'
  ran {new'} wrote = record {
    pieces = g.pieces;
    texts = g.texts;
    log = l;
    turns = g.turns;
    read = g.read;
    most = g.most;
    over = g.over;
    ends_so = g.ends_so;
    output =
        subst (Appends old new') all
        (Appends-trans old new new' g.texts (left []) g.wrote (subst (Appends new new') ends wrote));
    whatever_follows = λ e rest.
        turns_output g.turns rest ∙ (ap (λ (x : List ℕ). g.texts ++ x) (settled.same l rest (turns_good g.turns) e) ∙ all);
  }

  pub end_cut : {new' : Option (List ℕ)} → Unwritten new new' (take r out') → ProgramFailed before after old new'
  end_cut {new'} unwritten =
      let why : Unwritten new new' (left []) = subst (Unwritten new new') ends unwritten in
      let part = begins why in
      at_end new l g part.count part.wrote (Appends-trans old new new' g.texts (take part.count (left [])) g.wrote part.wrote) why

-- the whole output is written, where the log is known
pub whole_output : (before after old new : Option (List ℕ)) → ProgramRan before after old new
    → IfSome before (λ log. Appends old new (output_of log))
whole_output None after old new r = tt
whole_output (Some xs) None old new r = absurd r.read
whole_output (Some xs) (Some ys) old new r = subst (λ (x : List ℕ). Appends old new (output_of x)) (sym r.read) (go r.over)
  where
    go : (ys ≡ []) ⊎ (decided r.log ≡ true) → Appends old new (output_of (joined r.pieces ++ ys))
    go (inl e) = subst⁻¹ (λ (y : List ℕ). Appends old new (output_of (joined r.pieces ++ y))) e
        (subst⁻¹ (λ (x : List ℕ). Appends old new (output_of x)) (append-nil (joined r.pieces)) r.output)
    go (inr e) = subst⁻¹ (Appends old new) (r.whatever_follows e ys) r.output
