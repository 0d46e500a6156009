-- What is held of a line stands for it. Assumes nothing.
use Prim.Native.Nat.{◌+◌, ◌<◌, ◌≤◌, min, suc, zero, ℕ}
use lib.ListN.{drop, drop_of_length-le, get_or, length, length-append, length-take, set, take}
use lib.Seq.{take-take, take_all}
use mathlib.Core.List.{List, [], ◌++◌, ◌∷◌, append_assoc, append-nil}
use mathlib.Core.Logic.{◌⊎◌, inl, inr}
use mathlib.Core.Path.{◌∙◌, ◌≡◌, ap, refl, subst, sym}
use native.Mathlib.Omega.{arith}
use Rattle.std.proofs.lemmas.List.{take_more_set}
use Rattle.forms.specs.Form.{line_bytes}
use Rattle.log_rules.proofs.Cuts.{long_told, rest_full, rest_line, rest_long}
use Rattle.log_rules.proofs.Ends.{ended_append, ended_itself, unended_append}
use Rattle.log_rules.specs.Lines.{line_limit}
use Rattle.log_rules.specs.Output.{rest_of}
use Rattle.log_rules.specs.Pieces.{OneLine, PartLine, another, empty, newline, preceded, long_bytes, not_told}
use Rattle.watch_log.specs.Feed.{Resumed}
use Rattle.watch_log.specs.Held.{keep, kept}
use Rattle.decimal.proofs.Cases as cases
use Rattle.log_rules.specs.Answers as rules

-- a byte is stored behind those that are held
take_min : (n m : ℕ) (l : List ℕ) → take (min n m) l ≡ take m (take n l)
take_min n m l = go (cases.split n m)
  where
    go : (n < m) ⊎ (m ≤ n) → take (min n m) l ≡ take m (take n l)
    go (inl lt) = ap (λ (i : ℕ). take i l) (let e : min n m ≡ n = omega arith in e) ∙ sym (take_all m (take n l) (omega (arith, length-take n l)))
    go (inr le) = ap (λ (i : ℕ). take i l) (let e : min n m ≡ m = omega arith in e) ∙ sym (take-take m n l le)

pub stored : (bytes : List ℕ) (len p b : ℕ) → p ≡ min len line_bytes → p < length bytes → take (p + 1) (set bytes p b) ≡ keep (take len bytes) b
stored bytes len p b is inside =
    take_more_set bytes p b inside ∙ ap (λ (x : List ℕ). x ++ b ∷ []) (ap (λ (n : ℕ). take n bytes) is ∙ take_min len line_bytes bytes)

pub kept_next : (held s : List ℕ) (i : ℕ) → i < length s → kept held (drop i s) ≡ kept (keep held (get_or s i 0)) (drop (i + 1) s)
unfolding kept
kept_next held s i h = ap (kept held) (cases.rest s i h)

pub take_part : (n : ℕ) {l : List ℕ} → PartLine l → PartLine (take n l)
take_part zero u = empty
take_part (suc n) empty = empty
take_part (suc n) (another ne u) = another ne (take_part n u)

-- what is held stands for the line: it is the line, or both are too long
pub record StandsFor (held line : List ℕ) : Type 0 where
  pub small : length line ≤ line_bytes → held ≡ line
  pub long : line_bytes < length line → line_bytes < length held

keep_stands : (held line : List ℕ) (b : ℕ) → StandsFor held line → StandsFor (keep held b) (line ++ b ∷ [])
keep_stands held line b s = record {
  small = λ h.
      let few : length line ≤ line_bytes = omega (arith, length-append line (b ∷ [])) in
      let e = s.small few in
      ap (λ (x : List ℕ). x ++ b ∷ []) (take_all line_bytes held (omega (arith, ap length e)) ∙ e);
  long = λ h. go (cases.split (length line) long_bytes) h;
}
  where
    go : (length line < long_bytes) ⊎ (long_bytes ≤ length line) → line_bytes < length (line ++ b ∷ []) → line_bytes < length (keep held b)
    go (inl lt) h =
        let e = s.small (omega arith) in
        omega (
          arith,
          ap length e,
          length-append line (b ∷ []),
          length-append (take line_bytes held) (b ∷ []),
          length-take line_bytes held,
        )
    go (inr le) h =
        let n = s.long (omega arith) in
        omega (arith, length-append (take line_bytes held) (b ∷ []), length-take line_bytes held)

-- parts of a line, and whole ones
pub record Parts (held line : List ℕ) : Type 0 where
  pub held_part : PartLine held
  pub line_part : PartLine line
  pub stands : StandsFor held line

pub record Whole (held line : List ℕ) : Type 0 where
  pub held_ended : OneLine held
  pub line_ended : OneLine line
  pub stands : StandsFor held line

pub itself : {held : List ℕ} → PartLine held → Parts held held
itself u = record { held_part = u; line_part = u; stands = record { small = λ h. refl; long = λ h. h } }

one_more : {held line : List ℕ} {b : ℕ} → (b ≡ 10 → ⊥) → Parts held line → Parts (keep held b) (line ++ b ∷ [])
one_more {held} {line} {b} ne p = record {
  held_part = unended_append (take_part line_bytes p.held_part) (another ne empty);
  line_part = unended_append p.line_part (another ne empty);
  stands = keep_stands held line b p.stands;
}

pub kept_part : {w : List ℕ} → PartLine w → {held line : List ℕ} → Parts held line → Parts (kept held w) (line ++ w)
unfolding kept
kept_part empty {held} {line} p = subst (Parts held) (sym (append-nil line)) p
kept_part (another {b} {l} ne u) {held} {line} p =
    subst (Parts (kept (keep held b) l)) (append_assoc line (b ∷ []) l) (kept_part u (one_more ne p))

pub kept_whole : {w : List ℕ} → OneLine w → {held line : List ℕ} → Parts held line → Whole (kept held w) (line ++ w)
unfolding kept
kept_whole newline {held} {line} p = record {
  held_ended = ended_append (take_part line_bytes p.held_part) newline;
  line_ended = ended_append p.line_part newline;
  stands = keep_stands held line 10 p.stands;
}
kept_whole (preceded {b} {l} ne e) {held} {line} p =
    subst (Whole (kept (keep held b) l)) (append_assoc line (b ∷ []) l) (kept_whole e (one_more ne p))

-- so it may be exchanged for the line
pub part_rest : {held line : List ℕ} → Parts held line → (st : rules.Stage) (k : ℕ) (rest : List ℕ) → rest_of st k line rest ≡ rest_of st k held rest
part_rest {held} {line} p st k rest = go (cases.split (length line) long_bytes)
  where
    go : (length line < long_bytes) ⊎ (long_bytes ≤ length line) → rest_of st k line rest ≡ rest_of st k held rest
    go (inl lt) = ap (λ (x : List ℕ). rest_of st k x rest) (sym (p.stands.small (omega arith)))
    go (inr le) = rest_long st k p.line_part p.held_part (omega arith) (p.stands.long (omega arith)) rest

-- a log that goes on
pub goes_on : (st : rules.Stage) (k : ℕ) {held held' : List ℕ} → PartLine held → held' ≡ kept [] held
    → Resumed st k held (record { stage = st; lines = k; held = held' })
goes_on st k {held} u is =
    let p = subst (λ (x : List ℕ). Parts x held) (sym is) (kept_part u (itself empty)) in
    record { stage = refl; lines = refl; held = is; short = p.stands.small; left = part_rest p st k }

-- a line by itself; and one that is too long
pub told_line : (s : rules.Stage) (k : ℕ) {l : List ℕ} → k < line_limit → OneLine l → {x : rules.Told} → rules.line_told s (k + 1) l ≡ x
    → (rest : List ℕ) → rest_of s k [] (l ++ rest) ≡ x.text ++ rest_of x.stage (k + 1) [] rest
told_line s k h en is rest =
    rest_line s k en [] rest h ∙ ap (λ (t : rules.Told). t.text ++ rest_of t.stage (k + 1) [] rest) is

pub told_long : (s : rules.Stage) (k : ℕ) {l : List ℕ} → k < line_limit → OneLine l → line_bytes < length l
    → (rest : List ℕ) → rest_of s k [] (l ++ rest) ≡ (not_told s (k + 1)).text ++ rest_of (not_told s (k + 1)).stage (k + 1) [] rest
told_long s k {l} h en long rest = told_line s k h en (long_told s (k + 1) l (ended_itself en) long) rest

pub whole_rest : {held line : List ℕ} → Whole held line → (st : rules.Stage) (k : ℕ) (rest : List ℕ) → rest_of st k [] (line ++ rest) ≡ rest_of st k [] (held ++ rest)
whole_rest {held} {line} p st k rest = go (cases.split (length line) long_bytes) (cases.split k line_limit)
  where
    go : (length line < long_bytes) ⊎ (long_bytes ≤ length line) → (k < line_limit) ⊎ (line_limit ≤ k)
        → rest_of st k [] (line ++ rest) ≡ rest_of st k [] (held ++ rest)
    go (inl lt) h = ap (λ (x : List ℕ). rest_of st k [] (x ++ rest)) (sym (p.stands.small (omega arith)))
    go (inr le) (inl h) =
        told_long st k h p.line_ended (omega arith) rest ∙ sym (told_long st k h p.held_ended (p.stands.long (omega arith)) rest)
    go (inr le) (inr h) = rest_full st k h [] (line ++ rest) ∙ sym (rest_full st k h [] (held ++ rest))

pub kept_all : (held s : List ℕ) (i : ℕ) → length s ≤ i → kept held (drop i s) ≡ held
unfolding kept
kept_all held s i h = ap (kept held) (drop_of_length-le s h)

-- what is held of a line is short
pub kept_length : (held : List ℕ) {w : List ℕ} → OneLine w → length (kept held w) ≤ long_bytes
unfolding kept
kept_length held newline = omega (arith, length-append (take line_bytes held) (10 ∷ []), length-take line_bytes held)
kept_length held (preceded {b} {l} ne e) = kept_length (keep held b) e
