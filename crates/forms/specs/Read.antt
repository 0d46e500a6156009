-- The recognisers of steps, as the code goes. What they answer is `Exact`. Assumes nothing.
use Rattle.std.specs.Prelude.{Bool, ◌&&◌, cond, Option, Some, None, List, [], ◌∷◌, ℕ, zero, suc, ◌+◌, length, get_or, drop, ltb, eqb}
use Rattle.decimal.specs.Bytes.{bytes}
use Rattle.decimal.specs.Word.{starts}
use Rattle.decimal.specs.Number.{short_of}
use Rattle.forms.specs.Form.{line_bytes}
use Rattle.forms.specs.declared.RingStep.{RingStep}
use Rattle.forms.specs.declared.RingStep.TheVariants as ring
use Rattle.forms.specs.declared.TreeStep.{TreeStep}
use Rattle.forms.specs.declared.TreeStep.TheVariants as tree
pub use Rattle.decimal.specs.Number.{Read, read}

-- the numbers after a word, 0 for those that it has not, and the index past the form. Where the second may be missing, it is told as one more
abbrev pub Args : Type 0
Args = Option (ℕ × ℕ × ℕ)

abbrev pub found : ℕ → ℕ → ℕ → Args
found i j e = Some (i, j, e)

-- a space and a number of one to five digits
unfoldable pub spaced_of : List ℕ → ℕ → Read ℕ
spaced_of s at = cond (eqb (get_or s at 0) 32) (short_of s (at + 1)) None

-- the end of the form: the index past it
unfoldable pub closed_at : List ℕ → ℕ → Option ℕ
closed_at s at = cond (starts (bytes ")") (drop at s)) (Some (at + 1)) None

abbrev pub numbers : ℕ → ℕ → Option ℕ → Args
numbers i j (Some e) = found i j e
numbers i j None = None

-- the same, after the numbers i and j
unfoldable pub closed_of : List ℕ → ℕ → ℕ → ℕ → Args
closed_of s at i j = numbers i j (closed_at s at)

unfoldable pub one_of : List ℕ → Read ℕ → Args
one_of s (Some (i, p)) = closed_of s p i 0
one_of s None = None

unfoldable pub second_of : List ℕ → ℕ → Read ℕ → Args
second_of s i (Some (j, p)) = closed_of s p i j
second_of s i None = None

unfoldable pub two_of : List ℕ → Read ℕ → Args
two_of s (Some (i, p)) = second_of s i (spaced_of s p)
two_of s None = None

-- one number, or else two: the second is told as one more than it says, and as 0 where it is missing
abbrev pub raised : Args → Args
raised (Some (i, j, e)) = found i (suc j) e
raised None = None

abbrev pub either_of : Args → Args → Args
either_of (Some (i, j, e)) b = found i j e
either_of None b = raised b

-- how many numbers follow a word
pub data Arity : Type 0 where
  none : Arity
  one : Arity
  two : Arity
  one_or_two : Arity

-- so many numbers, and the end of the form
abbrev pub args_of : Arity → List ℕ → ℕ → Args
args_of none s at = closed_of s at 0 0
args_of one s at = one_of s (spaced_of s at)
args_of two s at = two_of s (spaced_of s at)
args_of one_or_two s at = either_of (one_of s (spaced_of s at)) (two_of s (spaced_of s at))

unfoldable pub made_of : {A : Type 0} → (ℕ → ℕ → A) → Args → Read A
made_of made (Some (i, j, e)) = read (made i j) e
made_of made None = None

-- a kind of step: its word, its numbers, and the step that they make
pub record StepShape (A : Type 0) : Type 0 where
  pub word : List ℕ
  pub count : Arity
  pub made : ℕ → ℕ → A

abbrev pub shape : {A : Type 0} → List ℕ → Arity → (ℕ → ℕ → A) → StepShape A
shape w c f = record { word = w; count = c; made = f }

-- the first kind whose word stands there decides
unfoldable pub read_by : {A : Type 0} → List (StepShape A) → List ℕ → ℕ → Read A
read_by [] s at = None
read_by (h ∷ hs) s at =
    cond (starts h.word (drop at s)) (made_of h.made (args_of h.count s (at + length h.word))) (read_by hs s at)

-- a take of the ring: j is one more than the number that is written, and 0 where none is
abbrev pub ring_take : ℕ → ℕ → RingStep
ring_take i zero = ring.TakeOne i
ring_take i (suc n) = ring.Take i n

abbrev pub ring_shapes : List (StepShape RingStep)
ring_shapes =
    shape (bytes "(send") two (λ i j. ring.Send i j)
    ∷ shape (bytes "(take") one_or_two ring_take
    ∷ shape (bytes "(idle") one (λ i j. ring.Idle i)
    ∷ shape (bytes "(probe") none (λ i j. ring.Probe)
    ∷ shape (bytes "(pass") one (λ i j. ring.Pass i)
    ∷ shape (bytes "(announce") none (λ i j. ring.Announce)
    ∷ []

abbrev pub tree_shapes : List (StepShape TreeStep)
tree_shapes =
    shape (bytes "(send") two (λ i j. tree.Send i j)
    ∷ shape (bytes "(take") two (λ i j. tree.Take i j)
    ∷ shape (bytes "(idle") one (λ i j. tree.Idle i)
    ∷ shape (bytes "(ack") one (λ i j. tree.Ack i)
    ∷ shape (bytes "(leave") one (λ i j. tree.Leave i)
    ∷ shape (bytes "(announce") none (λ i j. tree.Announce)
    ∷ []

-- the line that begins at `at` ends at index e: its byte 10 stands there, and it has at most `line_bytes` with it
unfoldable pub ends_line : List ℕ → ℕ → ℕ → Bool
ends_line s at e = starts (bytes "\n") (drop e s) && ltb e (at + line_bytes)

-- the form that was read at `at`, if it is a line, and the index past that line
unfoldable pub lined : {A : Type 0} → List ℕ → ℕ → Read A → Read A
lined s at (Some (f, e)) = cond (ends_line s at e) (read f (e + 1)) None
lined s at None = None

-- the form that was read, if its byte 10 follows, and the index past that
unfoldable pub ended : {A : Type 0} → List ℕ → Read A → Read A
ended s (Some (f, e)) = cond (starts (bytes "\n") (drop e s)) (read f (e + 1)) None
ended s None = None

-- the answer to the line of s at `at`
unfoldable pub ring_at : List ℕ → ℕ → Read RingStep
ring_at s at = lined s at (read_by ring_shapes s at)

unfoldable pub tree_at : List ℕ → ℕ → Read TreeStep
tree_at s at = lined s at (read_by tree_shapes s at)

-- how the code tells the numbers after a word: those that the word has, and the index past the form
abbrev pub of_one : Read ℕ → Args
of_one (Some (i, e)) = found i 0 e
of_one None = None

abbrev pub of_either : Option (ℕ × Option ℕ × ℕ) → Args
of_either (Some (i, None, e)) = found i 0 e
of_either (Some (i, Some j, e)) = found i (suc j) e
of_either None = None
