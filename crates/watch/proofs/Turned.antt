-- What a turn comes to. Assumes nothing.
use Prim.Native.Nat.{◌<◌, ℕ}
use lib.ListN.{length, take}
use mathlib.Core.List.{List}
use mathlib.Core.Path.{◌≡◌}
use native.Mathlib.Omega.{arith}
use Rattle.std.proofs.KnownBytes.{Keeps-refl}
use Rattle.std.specs.Io.KnownBytes.{Appends, Consumes, IsAtEnd, ReadConsumes}
use Rattle.laws.proofs.Tests.{false_true}
use Rattle.std.specs.Prelude.{Err, IsErr, MatchResult, Ok, Option, Result}
use Rattle.std.specs.declared.io.Error.{Error}
use Rattle.watch_log.specs.Feed.{FedFrom, LogState}
use Rattle.watch.specs.Turn.{Stopped, Turned, Unwritten, no_read, no_write, piece_bytes}

-- what is told of a result that is an error
pub failed_so : {A E Q : Type 0} (P : A → Type 0) (r : Result A E) → IsErr r → Q → MatchResult r P (λ e. Q)
failed_so P (Ok x) is q = absurd (false_true is)
failed_so P (Err e) is q = q

pub turned : {before after old new : Option (List ℕ)} {l l' : LogState} {got count : ℕ} {buffer out out' : List ℕ} → length buffer ≡ piece_bytes
    → Consumes before after (take got buffer) × (got ≡ 0 → 0 < length buffer → IsAtEnd after)
    → FedFrom l.stage l.lines l.held (take got buffer) l' count 0 out out' → Appends old new (take count out')
    → Turned before after old new l l' got buffer
turned size read fed wrote = record {
  out = _;
  out' = _;
  count = _;
  size = size;
  read = read.0;
  end = λ e. read.1 e (omega (arith, size));
  fed = fed;
  wrote = wrote;
}

pub unread : {before after old : Option (List ℕ)} {l : LogState} (r : Result ℕ Error) (buffer : List ℕ) → IsErr r → ReadConsumes before after r buffer
    → Stopped before after old old l l
unread {old = old} r buffer is read = no_read r buffer is read (Keeps-refl old)

pub unwritten : {before after old new : Option (List ℕ)} {l l' : LogState} {got count : ℕ} (buffer : List ℕ) {out out' : List ℕ}
    → FedFrom l.stage l.lines l.held (take got buffer) l' count 0 out out' → Unwritten old new (take count out')
    → Consumes before after (take got buffer) × (got ≡ 0 → 0 < length buffer → IsAtEnd after) → length buffer ≡ piece_bytes
    → Stopped before after old new l l'
unwritten buffer fed why read size = no_write _ _ buffer _ _ size read.0 fed why
