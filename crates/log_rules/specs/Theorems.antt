-- What is proved of the output of a log; the proofs are in proofs/Theorems.antt. With these laws a reader has to believe the printer of the
-- forms (crate forms, Form.antt) and not their recognisers.
use Rattle.std.specs.Prelude.{◌+◌, ◌<◌, ◌≤◌, min, ℕ, eqb, get_or, length, cond, List, [], ◌++◌, ◌∷◌, ◌≢◌, ◌≡◌}
use Rattle.first_line.specs.Start.{Start, seen, start_form}
use Rattle.forms.specs.Form.{Form, Says, line_bytes, ring_form, take_one, take_with, tree_form, update}
use Rattle.forms.specs.Read.{read}
use Rattle.forms.specs.declared.RingStep.{RingStep}
use Rattle.forms.specs.declared.TreeStep.{TreeStep}
use Rattle.log_rules.specs.Answers.{Stage, Told, answer_text, first_told, fresh, line_told, on_ring, on_table, on_tree, over, ring_step_told, table_told, tree_step_told, update_first}
use Rattle.log_rules.specs.Lines.{lines_of, split}
use Rattle.log_rules.specs.Output.{lines_told, output_of}
use Rattle.log_rules.specs.Pieces.{OneLine, PartLine, not_told}
use Rattle.ring_rules.specs.Answers.{answer_of}
use Rattle.ring_rules.specs.Rules.{Take}
use Rattle.table_rules.specs.Answers.{answer_on, step_ask}
use Rattle.table_rules.specs.Table.{Table}
use Rattle.update_forms.specs.Wrapped.{Wrapped, wrapped_form}
use Rattle.ring_rules.specs.State as ring
use Rattle.tree_rules.specs.State as tree

-- node i of a ring, or of an update, takes n messages, asked for in line k: the rule's answer, and no token move
abbrev pub take_told : ring.State → ℕ → ℕ → ℕ → ℕ → Told
take_told r m k i n =
    let a = answer_of r Take i n in
    record { stage = on_ring a.state m; text = answer_text k a.verdict }

abbrev pub update_take_told : Table → List ℕ → ℕ → ℕ → ℕ → ℕ → Told
update_take_told t ms k u i n =
    let a = answer_on t (step_ask u 2 i n) in
    record { stage = on_table a.table ms; text = answer_text k a.verdict }

-- What a line of a log is answered: one that says a form is carried out as what it says; every other line is refused with 10, and changes
-- nothing.
pub record LinesSay : Type 0 where
  pub first : (k : ℕ) (l : List ℕ) (f : Start) → Says l (start_form f) → line_told fresh k l ≡ first_told (seen f)
  pub first_update : (k : ℕ) (l : List ℕ) (w : Wrapped) → Says l (wrapped_form w) → line_told fresh k l ≡ update_first (read w 0)
  pub first_other :
      (k : ℕ) (l : List ℕ) → OneLine l → ((f : Start) → Says l (start_form f) → ⊥) → ((w : Wrapped) → Says l (wrapped_form w) → ⊥)
      → line_told fresh k l ≡ not_told fresh k
  pub ring_step :
      (r : ring.State) (m k : ℕ) (l : List ℕ) (f : RingStep) → Says l (ring_form f) → line_told (on_ring r m) k l ≡ ring_step_told r m k f
  pub ring_other :
      (r : ring.State) (m k : ℕ) (l : List ℕ) → OneLine l → ((f : RingStep) → Says l (ring_form f) → ⊥)
      → line_told (on_ring r m) k l ≡ not_told (on_ring r m) k
  pub tree_step :
      (t : tree.State) (k : ℕ) (l : List ℕ) (f : TreeStep) → Says l (tree_form f) → line_told (on_tree t) k l ≡ tree_step_told t k f
  pub tree_other :
      (t : tree.State) (k : ℕ) (l : List ℕ) → OneLine l → ((f : TreeStep) → Says l (tree_form f) → ⊥)
      → line_told (on_tree t) k l ≡ not_told (on_tree t) k
  pub update_line :
      (t : Table) (ms : List ℕ) (k : ℕ) (l : List ℕ) (w : Wrapped) → Says l (wrapped_form w)
      → line_told (on_table t ms) k l ≡ table_told t ms k (read w 0)
  pub update_other :
      (t : Table) (ms : List ℕ) (k : ℕ) (l : List ℕ) → OneLine l → ((w : Wrapped) → Says l (wrapped_form w) → ⊥)
      → line_told (on_table t ms) k l ≡ not_told (on_table t ms) k
  -- if the first line is a wrapped start, every line is wrapped, and otherwise none is: a line of the other sort is 10
  pub ring_wrapped :
      (r : ring.State) (m k : ℕ) (l : List ℕ) (u : ℕ) (f : Form) → Says l (update u f) → line_told (on_ring r m) k l ≡ not_told (on_ring r m) k
  pub tree_wrapped : (t : tree.State) (k : ℕ) (l : List ℕ) (u : ℕ) (f : Form) → Says l (update u f) → line_told (on_tree t) k l ≡ not_told (on_tree t) k
  pub update_bare :
      (t : Table) (ms : List ℕ) (k : ℕ) (l : List ℕ) (f : Form) → ((u : ℕ) (g : Form) → f ≢ update u g) → Says l f
      → line_told (on_table t ms) k l ≡ not_told (on_table t ms) k
  -- `(take 2 5)` takes five messages and `(take 2)` one, on a ring and inside an update
  pub take_many : (r : ring.State) (m k : ℕ) (l : List ℕ) (i n : ℕ) → Says l (take_with i n) → line_told (on_ring r m) k l ≡ take_told r m k i n
  pub take_one_told : (r : ring.State) (m k : ℕ) (l : List ℕ) (i : ℕ) → Says l (take_one i) → line_told (on_ring r m) k l ≡ take_told r m k i 1
  pub update_take_many :
      (t : Table) (ms : List ℕ) (k : ℕ) (l : List ℕ) (u i n : ℕ) → Says l (update u (take_with i n))
      → line_told (on_table t ms) k l ≡ update_take_told t ms k u i n
  pub update_take_one :
      (t : Table) (ms : List ℕ) (k : ℕ) (l : List ℕ) (u i : ℕ) → Says l (update u (take_one i)) → line_told (on_table t ms) k l ≡ update_take_told t ms k u i 1
  -- "A line that is too long or lacks its byte 10 is one line, refused with 10."
  pub too_long : (s : Stage) (k : ℕ) (l : List ℕ) → OneLine l → line_bytes < length l → line_told s k l ≡ not_told s k
  pub unended : (s : Stage) (k : ℕ) (l : List ℕ) → PartLine l → line_told s k l ≡ not_told s k
  -- "After a bad or missing first line the program prints only that refusal."
  pub after : (k : ℕ) (l : List ℕ) → line_told over k l ≡ record { stage = over; text = [] }

-- the lines of a text: it is cut after each byte 10, and what is left is a line too
pub data LinesOf : List ℕ → List (List ℕ) → Type 0 where
  no_line : LinesOf [] []
  last : {l : List ℕ} → PartLine l → 0 < length l → LinesOf l (l ∷ [])
  another : {l s : List ℕ} {ls : List (List ℕ)} → OneLine l → LinesOf s ls → LinesOf (l ++ s) (l ∷ ls)

pub record LinesCut : Type 0 where
  pub lines : (s : List ℕ) → LinesOf s (split [] s)

-- the bytes 10 of a text
unfoldable pub line_ends : List ℕ → ℕ
line_ends [] = 0
line_ends (b ∷ s) = cond (eqb b 10) 1 0 + line_ends s

-- "at most 1,000,000 lines; further lines are not read"
pub record LinesRead : Type 0 where
  -- the output is that of the lines that are read
  pub output : (s : List ℕ) → output_of s ≡ lines_told fresh 1 (lines_of s)
  -- line k + 1 is the text's up to line 1,000,000; from k = 1,000,000 on there is none, and a line has at least one byte
  pub read : (s : List ℕ) (k : ℕ) → k < 1000000 → get_or (lines_of s) k [] ≡ get_or (split [] s) k []
  pub unread : (s : List ℕ) (k : ℕ) → 1000000 ≤ k → get_or (lines_of s) k [] ≡ []
  pub some_byte : {s l : List ℕ} {ls : List (List ℕ)} → LinesOf s (l ∷ ls) → 0 < length l
  -- they are as many as the text has, and at most 1,000,000
  pub many : (s : List ℕ) → length (lines_of s) ≡ min 1000000 (length (split [] s))
  -- what follows the end of line 1,000,000 changes nothing
  pub after : (s : List ℕ) → 1000000 ≤ line_ends s → (more : List ℕ) → output_of (s ++ more) ≡ output_of s
