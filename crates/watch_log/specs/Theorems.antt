-- Where a log is decided, nothing more has to be read of it; and its output does not depend on how it is cut into pieces.
use Rattle.std.specs.Prelude.{◌+◌, ◌≤◌, ℕ, false, length, take, true, List, [], ◌++◌, ◌∷◌, ◌≡◌}
use Rattle.forms.specs.Form.{line_bytes}
use Rattle.log_rules.specs.Lines.{joined, line_limit}
use Rattle.log_rules.specs.Output.{output_of, rest_of}
use Rattle.watch_log.specs.Feed.{FedFrom, Good, LogState, decided}
use Rattle.watch_log.specs.Finish.{Finished}
use Rattle.log_rules.specs.Answers as rules

pub record Settled : Type 0 where
  -- whatever follows, what is still to be written is what would be if the log ended here
  pub same :
      (l : LogState) (rest : List ℕ) → Good l → decided l ≡ true
      → rest_of l.stage l.lines l.held rest ≡ rest_of l.stage l.lines l.held []
  -- at the end of a line it is decided as soon as that is so: else there is a text that changes what is written
  pub not_yet :
      (l : LogState) → l.held ≡ [] → decided l ≡ false
      → (rest : List ℕ)
      × (rest_of l.stage l.lines l.held rest ≡ rest_of l.stage l.lines l.held [] → ⊥)
  -- within the first line it is decided as soon as 700 bytes are held, none of them byte 10
  pub long_first : (l : LogState) → l.stage ≡ rules.fresh → line_bytes ≤ length l.held → decided l ≡ true
  -- and so it is within line 1,000,000
  pub long_last : (l : LogState) → line_limit ≤ l.lines + 1 → line_bytes ≤ length l.held → decided l ≡ true
  -- "After a bad or missing first line the program prints only that refusal": nothing more
  pub nothing : (l : LogState) (rest : List ℕ) → l.stage ≡ rules.over → rest_of l.stage l.lines l.held rest ≡ []

-- the log l is fed the pieces one after the other: it comes to l', and what is written, piece by piece, is `texts`
pub data Feeds : LogState → List (List ℕ) → List ℕ → LogState → Type 0 where
  no_piece : {l : LogState} → Feeds l [] [] l
  piece : {l l₁ l' : LogState} {p out out₁ texts : List ℕ} {ps : List (List ℕ)} (count : ℕ)
      → FedFrom l.stage l.lines l.held p l₁ count 0 out out₁ → Feeds l₁ ps texts l'
      → Feeds l (p ∷ ps) (take count out₁ ++ texts) l'

-- For every list of pieces, what `feed` writes of them, one after the other, and then `finish`, is the output of the pieces joined.
pub record CutsDoNotMatter : Type 0 where
  pub output :
      (l l' : LogState) (texts out out' : List ℕ) (ps : List (List ℕ)) (r : ℕ)
      → (l.stage ≡ rules.fresh) × (l.lines ≡ 0) × (l.held ≡ []) → Feeds l ps texts l' → Finished l' r out out'
      → texts ++ take r out' ≡ output_of (joined ps)
  -- where the log that they come to is decided, it is the output of every log that begins with them
  pub whatever_follows :
      (l l' : LogState) (texts out out' : List ℕ) (ps : List (List ℕ)) (r : ℕ)
      → (l.stage ≡ rules.fresh) × (l.lines ≡ 0) × (l.held ≡ []) → Feeds l ps texts l' → Finished l' r out out'
      → Good l' → decided l' ≡ true → (rest : List ℕ) → texts ++ take r out' ≡ output_of (joined ps ++ rest)
