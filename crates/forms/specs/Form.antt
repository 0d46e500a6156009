-- The forms of a log, and the line of each. Assumes nothing.
use Rattle.std.specs.Prelude.{◌≡◌, cond, List, [], ◌∷◌, ◌++◌, ℕ, ◌+◌, ◌≤◌, length, drop, eqb}
use Rattle.decimal.specs.Bytes.{bytes}
use Rattle.decimal.specs.Number.{number_limit}
use Rattle.decimal.specs.Text.{decimal}
use Rattle.forms.specs.declared.RingStep.{RingStep}
use Rattle.forms.specs.declared.RingStep.TheVariants as ring
use Rattle.forms.specs.declared.TreeStep.{TreeStep}
use Rattle.forms.specs.declared.TreeStep.TheVariants as tree

-- "First line: `(ring 2 (active) (black 1))`, `(ring 2)` or `(tree 3 (root 0))`. A ring line has both lists or neither": the first three.
-- "Then ring steps .. or tree steps": `take_one i` is the ring's, `(take i)`. `take_with i k` is `(take i k)`: on the ring i takes k messages, on the
-- tree one from k. In the log of a ring `(take 2)` means one message.
-- A step or a start of an update is wrapped, `(update 2 (send 0 3))`, `(update 2 (ring 4))`: `update` is a form inside the number of its update.
pub data Form : Type 0 where
  bare_ring : (n : ℕ) → Form
  ring_with : (n : ℕ) (active black : List ℕ) → Form
  tree_of : (n root : ℕ) → Form
  send : (i j : ℕ) → Form
  take_one : (i : ℕ) → Form
  take_with : (i k : ℕ) → Form
  idle : (i : ℕ) → Form
  probe : Form
  pass : (i : ℕ) → Form
  ack : (i : ℕ) → Form
  leave : (i : ℕ) → Form
  announce : Form
  update : (u : ℕ) → Form → Form

-- "one space between items": numbers, each after one space
abbrev pub spaced_numbers : List ℕ → List ℕ
spaced_numbers [] = []
spaced_numbers (k ∷ ks) = bytes " " ++ (decimal k ++ spaced_numbers ks)

-- a form, as it is written
abbrev pub written : Form → List ℕ
written (bare_ring n) = bytes "(ring " ++ (decimal n ++ bytes ")")
written (ring_with n active black) =
    bytes "(ring " ++ (decimal n ++ (bytes " (active" ++ (spaced_numbers active ++ (bytes ") (black" ++ (spaced_numbers black ++ bytes "))")))))
written (tree_of n root) = bytes "(tree " ++ (decimal n ++ (bytes " (root " ++ (decimal root ++ bytes "))")))
written (send i j) = bytes "(send " ++ (decimal i ++ (bytes " " ++ (decimal j ++ bytes ")")))
written (take_one i) = bytes "(take " ++ (decimal i ++ bytes ")")
written (take_with i k) = bytes "(take " ++ (decimal i ++ (bytes " " ++ (decimal k ++ bytes ")")))
written (idle i) = bytes "(idle " ++ (decimal i ++ bytes ")")
written probe = bytes "(probe)"
written (pass i) = bytes "(pass " ++ (decimal i ++ bytes ")")
written (ack i) = bytes "(ack " ++ (decimal i ++ bytes ")")
written (leave i) = bytes "(leave " ++ (decimal i ++ bytes ")")
written announce = bytes "(announce)"
written (update u f) = bytes "(update " ++ (decimal u ++ (bytes " " ++ (written f ++ bytes ")")))

-- "One form a line, ending in byte 10": a form's line, with its byte 10
abbrev pub form_text : Form → List ℕ
form_text f = written f ++ bytes "\n"

-- "numbers are decimal, one to five digits"
abbrev pub Small : ℕ → Type 0
Small k = k ≤ number_limit

-- "lists ascend without repeats": each of `low` or more, and more than the one before it
abbrev pub Ascending : ℕ → List ℕ → Type 0
Ascending low [] = Unit {0}
Ascending low (k ∷ ks) = (low ≤ k) × Small k × Ascending (k + 1) ks

abbrev pub SmallForm : Form → Type 0
SmallForm (bare_ring n) = Small n
SmallForm (ring_with n active black) = Small n × Ascending 0 active × Ascending 0 black
SmallForm (tree_of n root) = Small n × Small root
SmallForm (send i j) = Small i × Small j
SmallForm (take_one i) = Small i
SmallForm (take_with i k) = Small i × Small k
SmallForm (idle i) = Small i
SmallForm probe = Unit {0}
SmallForm (pass i) = Small i
SmallForm (ack i) = Small i
SmallForm (leave i) = Small i
SmallForm announce = Unit {0}
SmallForm (update u f) = Small u × SmallForm f

-- "at most 700 bytes with it" (byte 10)
abbrev pub line_bytes : ℕ
line_bytes = 700

abbrev pub Valid : Form → Type 0
Valid f = SmallForm f × (length (form_text f) ≤ line_bytes)

-- the line l says the form f
abbrev pub Says : List ℕ → Form → Type 0
Says l f = (l ≡ form_text f) × Valid f

-- the first line of a text: up to its first byte 10 and with it, or the whole text where it has none
unfoldable pub line : List ℕ → List ℕ
line [] = []
line (b ∷ l) = b ∷ cond (eqb b 10) [] (line l)

-- the line of s that begins at `at` says f, and e is just past it
abbrev pub SaysAt : List ℕ → ℕ → Form → ℕ → Type 0
SaysAt s at f e = Says (line (drop at s)) f × (e ≡ at + length (form_text f))

-- the forms of the ring's steps, and of the tree's: "words of the other watch .. are 10"
abbrev pub ring_form : RingStep → Form
ring_form (ring.Send i j) = send i j
ring_form (ring.TakeOne i) = take_one i
ring_form (ring.Take i n) = take_with i n
ring_form (ring.Idle i) = idle i
ring_form ring.Probe = probe
ring_form (ring.Pass i) = pass i
ring_form ring.Announce = announce

abbrev pub tree_form : TreeStep → Form
tree_form (tree.Send i j) = send i j
tree_form (tree.Take i k) = take_with i k
tree_form (tree.Idle i) = idle i
tree_form (tree.Ack i) = ack i
tree_form (tree.Leave i) = leave i
tree_form tree.Announce = announce
