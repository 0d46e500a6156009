-- The whole program: one turn after the other, and then the end of the log.
use Rattle.std.specs.Prelude.{◌<◌, ◌≤◌, ⊤, ℕ, length, take, ◌⊎◌, Option, false, true, List, [], ◌++◌, ◌∷◌, ◌≡◌}
use Rattle.std.specs.Io.KnownBytes.{Appends, Consumes, IsAtEnd}
use Rattle.log_rules.specs.Answers.{fresh}
use Rattle.log_rules.specs.Lines.{joined}
use Rattle.log_rules.specs.Output.{output_of, rest_of}
use Rattle.watch_log.specs.Feed.{FedFrom, LogState, decided}
use Rattle.watch.specs.Turn.{Stopped, Unwritten, piece_bytes}

-- the most turns
abbrev pub turn_limit : ℕ
turn_limit = 18446744073709551615

-- every piece has a byte: each turn has read something
abbrev pub AllRead : List (List ℕ) → Type 0
AllRead [] = ⊤
AllRead (p ∷ ps) = (0 < length p) × AllRead ps

-- The turns of the program: the pieces that it has read, their answers, joined, and the log that they come to. A piece is read only where
-- each turn before has read something and the log is not decided: a turn that reads nothing is the last.
pub data Turns : List (List ℕ) → List ℕ → LogState → Type 0 where
  none : {l : LogState} → (l.stage ≡ fresh) × (l.lines ≡ 0) × (l.held ≡ []) → Turns [] [] l
  another : {l l' : LogState} {p out out' texts : List ℕ} {ps : List (List ℕ)} (count : ℕ) → Turns ps texts l → AllRead ps
      → decided l ≡ false → length p ≤ piece_bytes → FedFrom l.stage l.lines l.held p l' count 0 out out'
      → Turns (ps ++ (p ∷ [])) (texts ++ take count out') l'

-- n turns, each of which has read something, after which the log is not decided (`before` .. `new` as in Turn.antt): their answers are written
pub record Going (n : ℕ) (before after old new : Option (List ℕ)) (l : LogState) : Type 0 where
  pub pieces : List (List ℕ)
  pub texts : List ℕ
  pub made : length pieces ≡ n
  pub turns : Turns pieces texts l
  pub read : Consumes before after (joined pieces)
  pub wrote : Appends old new texts
  pub all : AllRead pieces
  pub more : decided l ≡ false

-- Why the turns failed: all that may be made are made, and there is more to read; or a read or a write failed in the one after them.
pub data Failed (before after old new : Option (List ℕ)) : Type 0 where
  turns_ran_out : {n : ℕ} {l : LogState} → n ≡ turn_limit → Going n before after old new l → Failed before after old new
  stopped : {n : ℕ} {mid mid_new : Option (List ℕ)} {l l' : LogState} → n < turn_limit → Going n before mid old mid_new l
      → Stopped mid after mid_new new l l' → Failed before after old new

-- the log has ended, or it is decided
abbrev pub IsOver : Option (List ℕ) → LogState → Type 0
IsOver after l = IsAtEnd after ⊎ (decided l ≡ true)

-- All turns (`before` .. `new` as in Turn.antt), where nothing failed: the reader gave the pieces, the log was fed them, and their answers are
-- written. That is so of a reader and a writer whose bytes are not known, too. No more turns are made where the last read nothing, or
-- where the log is decided.
pub record Pumped (before after old new : Option (List ℕ)) (log : LogState) : Type 0 where
  pub pieces : List (List ℕ)
  pub texts : List ℕ
  pub turns : Turns pieces texts log
  pub read : Consumes before after (joined pieces)
  pub wrote : Appends old new texts
  pub most : length pieces ≤ turn_limit
  pub over : IsOver after log
  pub ends_so : AllRead pieces → decided log ≡ true

-- and where a read or a write failed, or turn_limit turns are made: a beginning of the answers of the pieces is written, and nothing else
pub record PumpFailed (before after old new : Option (List ℕ)) : Type 0 where
  pub pieces : List (List ℕ)
  pub texts : List ℕ
  pub log : LogState
  pub turns : Turns pieces texts log
  pub read : Consumes before after (joined pieces)
  pub count : ℕ
  pub no_end : Appends old new (take count texts)
  pub why : Failed before after old new

-- The program where nothing failed: the reader gave the pieces, and the output of the pieces was written. Where the log is decided, that is the
-- output of everything that begins with them.
pub record ProgramRan (before after old new : Option (List ℕ)) : Type 0 where
  pub pieces : List (List ℕ)
  pub texts : List ℕ
  pub log : LogState
  pub turns : Turns pieces texts log
  pub read : Consumes before after (joined pieces)
  pub most : length pieces ≤ turn_limit
  pub over : IsOver after log
  pub ends_so : AllRead pieces → decided log ≡ true
  pub output : Appends old new (output_of (joined pieces))
  pub whatever_follows : decided log ≡ true → (rest : List ℕ) → output_of (joined pieces ++ rest) ≡ output_of (joined pieces)

-- And where something failed: in a turn, so that no end line is written; or at the end, in the last write, where all turns are made and their
-- answers written (the writer held `mid` then), and a beginning of what is written at the end, but not all of it.
pub data ProgramFailed (before after old new : Option (List ℕ)) : Type 0 where
  in_turn : PumpFailed before after old new → ProgramFailed before after old new
  at_end : (mid : Option (List ℕ)) (log : LogState) (all : Pumped before after old mid log) (n : ℕ)
      → Appends mid new (take n (rest_of log.stage log.lines log.held []))
      → Appends old new (all.texts ++ take n (rest_of log.stage log.lines log.held []))
      → Unwritten mid new (rest_of log.stage log.lines log.held []) → ProgramFailed before after old new
