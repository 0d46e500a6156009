-- What is proved of the text. Each proof stands in proofs/ under the lower-case name: `ReadBack` is `read_back`.
use Rattle.std.specs.Prelude.{◌+◌, ◌<◌, ◌≤◌, ℕ, get_or, length, take, List, ◌↔◌, ◌≢◌, ◌⊎◌, ◌≡◌}
use Rattle.decimal.specs.Exact.{Stands}
use Rattle.refusal.specs.Table.{FirstIs, NoneHolds, Numbered, Row}
use Rattle.refusal.specs.declared.Refusal.{Refusal}
use Rattle.refusal.specs.declared.Refusal.TheVariants.{NodeCount, NotAForm, UnknownNode}
use Rattle.refusal.specs.Table.{Accepted, Refused}
use Rattle.tree_rules.specs.Soundness.{Sound}
use Rattle.tree_rules.specs.State.{State, climb}
use Rattle.tree_text.specs.Read.{fresh, node_of, nothing, read_of, refused}
use Rattle.tree_text.specs.Text.{length_of, longest, opening, text_of}
use Rattle.tree_text.specs.Write.{buffer_of, state_text, write_table, write_verdict, written_number, written_of}
use Rattle.tree_text.specs.Read.{Found}
use Rattle.tree_text.specs.Read.{Reading}
use Rattle.tree_text.specs.Write.{Length, NotWritten}

-- a tree of n nodes: every engaged node's chain of engagers reaches the root
pub record EngagementTree (n : ℕ) (e : List ℕ) (root : ℕ) : Type 0 where
  pub places : length e ≡ 16
  pub nodes : n ≤ 16
  pub root_in : root < n
  pub root_own : get_or e root 16 ≡ root
  pub engagers : (i : ℕ) → i < n → (get_or e i 16 < n) ⊎ (get_or e i 16 ≡ 16)
  pub unused : (i : ℕ) → n ≤ i → i < 16 → get_or e i 16 ≡ 16
  pub chains : (i : ℕ) → i < n → get_or e i 16 ≢ 16 → (m : ℕ) × (climb e m i ≡ root)

abbrev pub given : List ℕ → ℕ → Found
given e root = record { verdict = Accepted; engager = e; root = root }

-- Reading what was written gives the engagers and the root back.
pub record ReadBack : Type 0 where
  pub tree : (n : ℕ) (e : List ℕ) (root : ℕ) → EngagementTree n e root → read_of n (text_of e root) ≡ given e root
  pub state : (t : State) → Sound t → read_of t.n (state_text t) ≡ given t.engager t.root

-- The reader accepts the texts of trees and nothing else: what it accepts is the written form of what it gives.
pub record ReadExact : Type 0 where
  pub is_tree : (n : ℕ) (s : List ℕ) → (read_of n s).verdict ≡ Accepted → EngagementTree n (read_of n s).engager (read_of n s).root
  pub is_text : (n : ℕ) (s : List ℕ) → (read_of n s).verdict ≡ Accepted → s ≡ text_of (read_of n s).engager (read_of n s).root

-- A number of nodes outside 1 to 16 is refused with 1, whatever the text.
pub record NodeCountFirst : Type 0 where
  pub few : (s : List ℕ) → read_of 0 s ≡ nothing NodeCount
  pub many : (n : ℕ) (s : List ℕ) → 16 < n → read_of n s ≡ nothing NodeCount

-- Where a number belongs, what follows a node's opening bracket is judged before anything that stands inside the node, whatever comes
-- after it. `Stands s at v e` says that the text of the number v, however long, stands in s from `at` to `e`, its last digit before e.
pub record NumberFirst : Type 0 where
  -- a number of n or more: 6
  pub large :
      (left : ℕ) (s : List ℕ) (n : ℕ) (r : Reading) (by low v e : ℕ) → n ≤ 16 → get_or s r.at 0 ≡ opening
      → Stands s (r.at + 1) v e → n ≤ v → node_of left s n r by low ≡ refused r UnknownNode
  -- another one, out of order or repeated: 10
  pub not_now :
      (left : ℕ) (s : List ℕ) (n : ℕ) (r : Reading) (by low v e : ℕ) → n ≤ 16 → get_or s r.at 0 ≡ opening
      → Stands s (r.at + 1) v e → v < n → (v < low) ⊎ (get_or r.engager v 16 ≢ 16) → node_of left s n r by low ≡ refused r NotAForm
  -- no number, as with a leading zero: 10
  pub none :
      (left : ℕ) (s : List ℕ) (n : ℕ) (r : Reading) (by low : ℕ) → get_or s r.at 0 ≡ opening
      → ((v e : ℕ) → Stands s (r.at + 1) v e → ⊥) → node_of left s n r by low ≡ refused r NotAForm
  -- no opening bracket: 10
  pub no_bracket :
      (left : ℕ) (s : List ℕ) (n : ℕ) (r : Reading) (by low : ℕ) → get_or s r.at 0 ≢ opening → node_of left s n r by low ≡ refused r NotAForm

-- No text meets the bound on the reader's depth: with any other the answer is the same.
pub record DepthEnough : Type 0 where
  pub any : (n : ℕ) (s : List ℕ) (left : ℕ) → n ≤ 16 → 16 ≤ left → node_of left s n fresh 16 0 ≡ node_of 16 s n fresh 16 0

-- The length of the text of a tree, and the most that n nodes take: 69 bytes are always enough.
pub record LengthKnown : Type 0 where
  pub exact : (n : ℕ) (e : List ℕ) (root : ℕ) → EngagementTree n e root → length (text_of e root) ≡ length_of e
  pub bound : (n : ℕ) (e : List ℕ) (root : ℕ) → EngagementTree n e root → length (text_of e root) ≤ longest n
  pub most : (n : ℕ) → n ≤ 16 → longest n ≤ 69
  -- the bound is met where every node is engaged
  pub met :
      (n : ℕ) (e : List ℕ) (root : ℕ) → EngagementTree n e root → ((i : ℕ) → i < n → get_or e i 16 ≢ 16)
      → length (text_of e root) ≡ longest n

-- The writer's answer for every state and buffer; its number is the table's.
pub record WriteAnswered : Type 0 where
  pub number : (t : State) (b : List ℕ) → Numbered (write_table t b) (written_number (written_of t b))
  pub accepted : (t : State) (b : List ℕ) → (write_verdict t b ≡ Accepted) ↔ NoneHolds (write_table t b)
  pub length_told : (t : State) (b : List ℕ) → write_verdict t b ≡ Accepted → written_of t b ≡ Length (length (state_text t))
  pub text_stands : (t : State) (b : List ℕ) → write_verdict t b ≡ Accepted → take (length (state_text t)) (buffer_of t b) ≡ state_text t
  pub past_kept :
      (t : State) (b : List ℕ) (i : ℕ) → length (state_text t) ≤ i → get_or (buffer_of t b) i 0 ≡ get_or b i 0
  pub size_kept : (t : State) (b : List ℕ) → length (buffer_of t b) ≡ length b
  pub refusal_told :
      (t : State) (b : List ℕ) (e : Refusal) → write_verdict t b ≡ Refused e
      → (written_of t b ≡ NotWritten e) × ((row : Row) × (row.refusal ≡ e) × FirstIs (write_table t b) row)
  pub same : (t : State) (b : List ℕ) (e : Refusal) → write_verdict t b ≡ Refused e → buffer_of t b ≡ b
