-- What a row of the table is, and when it passes: a question to the definitions and the answer that document 01 gives. Numbers are those of its
-- table of refusals; 0 where a request is accepted.
use Rattle.std.specs.Prelude.{◌+◌, ◌-◌, ℕ, eqb, ◌+ℤ◌, ℤ, length, replicate, set, Bool, ◌&&◌, ◌||◌, cond, false, not, true, List, [], ◌++◌, ◌∷◌}
use Prim.Native.String.{String}
use Rattle.color.specs.Colors.{blackened, is_black, whitened}
use Rattle.decimal.specs.Bytes.{bytes}
use Rattle.laws.specs.Places.{all_to}
use Rattle.lent.specs.Ring.{Lent, drive_fields, drive_moves, drive_number, sound_number, start_fields, start_number, step_fields, step_number}
use Rattle.lent.specs.Table.{LentTable, ask_fields, ask_number, table_sound_number}
use Rattle.lent.specs.Tree.{LentTree, read_engagers, read_number, read_root, tree_sound_number, tree_start_fields, tree_start_number, tree_step_fields, tree_step_number, write_buffer, write_length, write_number}
use Rattle.log_rules.specs.Output.{output_of}
use Rattle.refusal.specs.Table.{code_of, number_of}
use Rattle.refusal.specs.declared.Refusal.{Refusal}
use Rattle.ring_rules.specs.Driver.{drive_of, reason_number}
use Rattle.ring_rules.specs.Driver.{Reason}
use Rattle.ring_rules.specs.Driver.{Conclusive, Spent, Waiting}
use Rattle.runs.specs.Runs.{Request, accepted_of, run_of}
use Rattle.signed.specs.Integers.{is_positive, is_same}
use Rattle.table_rules.specs.Answers.{Ask, Start, Step, verdict_on}
use Rattle.table_rules.specs.Soundness.{slot_test}
use Rattle.table_rules.specs.Table.{Table, fixed, nodes_of, slot_at}
use Rattle.tree_rules.specs.Termination.{acks_total, engaged_others}
use Rattle.tree_text.specs.Read.{read_of}
use Rattle.tree_text.specs.Text.{text_of}
use Rattle.tree_text.specs.Write.{written_number, written_of}
use Rattle.ring_rules.specs.Answers as ring_answers
use Rattle.ring_rules.specs.Soundness as RingSound
use Rattle.ring_rules.specs.Start as ring_start
use Rattle.ring_rules.specs.State as ring
use Rattle.ring_runs.specs.Counts as ring_runs
use Rattle.ring_runs.specs.Requests as ring_requests
use Rattle.tree_rules.specs.Answers as tree_answers
use Rattle.tree_rules.specs.Soundness as TreeSound
use Rattle.tree_rules.specs.Start as tree_start
use Rattle.tree_rules.specs.State as tree
use Rattle.tree_runs.specs.Counts as tree_runs
use Rattle.tree_runs.specs.Requests as tree_requests

-- ---- the questions

-- a request, and the number that it is answered with
pub record Asked : Type 0 where
  pub request : Request
  pub number : ℕ

infix 70 ◌is◌
abbrev pub ◌is◌ : Request → ℕ → Asked
x is k = record { request = x; number = k }

-- the tests that soundness is made of, in their order; a test of every place is one. (The very first, of the columns' lengths, holds of every
-- state that can be handed in.)
pub data RingTest : Type 0 where
  Range Flow Sum Safra Unused Announced : RingTest

pub data TreeTest : Type 0 where
  Range Engagers Chains Balance Resting Pairs Limit Announced : TreeTest

-- of a table: each started update is sound; it is so with the one N
pub data TableTest : Type 0 where
  Each OneN : TableTest

-- Safra's four
pub data SafraTest : Type 0 where
  Gathered Positive BlackNode BlackToken : SafraTest

pub data Case : Type 0 where
  -- a start of n nodes with these flags, or with this root, is answered with this number
  ring_start_ask : ℕ → List ℕ → ℕ → Case
  tree_start_ask : ℕ → ℕ → ℕ → Case
  -- the requests, each given the state that the one before it left, are answered so
  ring_run : ring.State → List Asked → Case
  tree_run : tree.State → List Asked → Case
  -- after the requests, all of them accepted, the token is at this node
  holder_after : ring.State → List Request → ℕ → Case
  -- after the requests, all of them accepted, the ring is quiet, and so many token moves lead to the announcement
  quiet_then : ring.State → List Request → ℕ → Case
  -- after the requests, all of them accepted, the tree is quiet, with so many acknowledgements under way and so many engaged nodes besides
  -- the root
  quiet_with : tree.State → List Request → ℕ → ℕ → Case
  -- a driver with this limit gives a reason of this number, and this count of moves
  drives : ring.State → ℕ → ℕ → ℕ → Case
  -- the ring is sound; it is sound by one of Safra's four alone; of the tests of soundness this one alone fails, and 3 is the answer
  ring_sound : ring.State → Case
  sound_by : SafraTest → ring.State → Case
  ring_unsound : RingTest → ring.State → Case
  -- the tree is sound; of the tests of soundness these alone fail, and 3 is the answer
  tree_sound : tree.State → Case
  tree_unsound : List TreeTest → tree.State → Case
  -- the table is sound; of the tests of soundness these alone fail, and 3 is the answer; a request to a table is answered with this number
  table_sound : Table → Case
  table_unsound : List TableTest → Table → Case
  table_ask : Table → Ask → ℕ → Case
  -- the writer, lent so many bytes, answers with this number
  writes : tree.State → ℕ → ℕ → Case
  -- a tree of these engagers and this root has this text, and a reader of n nodes gives them back; a text is refused by it so
  text : ℕ → List ℕ → ℕ → String → Case
  fault : ℕ → String → ℕ → Case
  -- the output of a log; the bytes of a line
  prints : List ℕ → String → Case
  bytes_of : List ℕ → ℕ → Case
  -- the number of a refusal; of a driver's reason
  refusal : Refusal → ℕ → Case
  reason : Reason → ℕ → Case
  -- node i alone is black: it is so by this value of this byte
  black_by_case : ℕ → ℕ → ℕ → Case
  -- the ring's color bytes
  colors : ring.State → List ℕ → Case
  -- from other languages: of n nodes and these flags, the fields before, the number of the answer, and the fields after; of a lent ring,
  -- the number that a step of this kind and these nodes is answered with, and the fields after it; the number of its soundness; of a driver
  -- with this limit, the count of moves before it, its number, and the count and the fields after it
  lent_start : ℕ → List ℕ → Lent → ℕ → Lent → Case
  lent_step : Lent → ℕ → ℕ → ℕ → ℕ → Lent → Case
  lent_sound : Lent → ℕ → Case
  lent_drive : Lent → ℕ → ℕ → ℕ → ℕ → Lent → Case
  -- the same of n nodes and a root; of a lent tree
  lent_tree_start : ℕ → ℕ → LentTree → ℕ → LentTree → Case
  lent_tree_step : LentTree → ℕ → ℕ → ℕ → ℕ → LentTree → Case
  lent_tree_sound : LentTree → ℕ → Case
  -- of a lent table, the number that a request is answered with, and the columns after it; the number of its soundness
  lent_table_case : LentTable → Ask → ℕ → LentTable → Case
  lent_table_sound : LentTable → ℕ → Case
  -- of a lent tree, the buffer and the length before, the number of the answer, and the length and the buffer after; of n nodes and a text,
  -- the engagers and the root before, the number of the answer, and the engagers and the root after
  lent_write : LentTree → List ℕ → ℕ → ℕ → ℕ → List ℕ → Case
  lent_read : ℕ → String → List ℕ → ℕ → ℕ → List ℕ → ℕ → Case

-- ---- what each asks of the definitions

abbrev pub conclusive : ℕ
conclusive = reason_number Conclusive

abbrev pub waiting : ℕ
waiting = reason_number Waiting

abbrev pub spent : ℕ
spent = reason_number Spent

abbrev pub same_bit : Bool → Bool → Bool
same_bit a b = cond a b (not b)

abbrev pub same_list : List ℕ → List ℕ → Bool
same_list [] [] = true
same_list [] (y ∷ ys) = false
same_list (x ∷ xs) [] = false
same_list (x ∷ xs) (y ∷ ys) = eqb x y && same_list xs ys

abbrev pub requests_of : List Asked → List Request
requests_of [] = []
requests_of (a ∷ xs) = a.request ∷ requests_of xs

abbrev pub numbers_of : List Asked → List ℕ
numbers_of [] = []
numbers_of (a ∷ xs) = a.number ∷ numbers_of xs

-- every node is passive and no message is in transit
abbrev pub ring_quiet : ring.State → Bool
ring_quiet r = all_to r.n (λ i. not (ring.active_at r i) && eqb (ring.pending_at r i) 0)

abbrev pub tree_quiet : tree.State → Bool
tree_quiet t = all_to t.n (λ i. not (tree.active_at t i) && eqb (tree.messages_from t.transit i) 0)

abbrev pub ring_accepts : ring.State → List Request → Bool
ring_accepts r xs = eqb (length (accepted_of ring_runs.ring r xs)) (length xs)

abbrev pub tree_accepts : tree.State → List Request → Bool
tree_accepts t xs = eqb (length (accepted_of tree_runs.tree t xs)) (length xs)

abbrev pub drives_to : ring.State → ℕ → ℕ → ℕ → Bool
drives_to r m e k = eqb (reason_number (drive_of r m).reason) e && eqb (drive_of r m).moves k

-- ---- soundness

abbrev pub among : ℕ → List ℕ → Bool
among i [] = false
among i (k ∷ ks) = eqb i k || among i ks

-- of the tests from place i on, those at the places ks fail, and no others
abbrev pub fail_at : List ℕ → ℕ → List Bool → Bool
fail_at ks i [] = true
fail_at ks i (b ∷ bs) = same_bit b (not (among i ks)) && fail_at ks (i + 1) bs

abbrev pub ring_tests : ring.State → List Bool
ring_tests r =
    RingSound.shape_test r
    ∷ RingSound.range_test r
    ∷ RingSound.flow_test r
    ∷ RingSound.sum_test r
    ∷ RingSound.safra_test r
    ∷ RingSound.unused_test r
    ∷ RingSound.closed_test r
    ∷ []

abbrev pub ring_place : RingTest → ℕ
ring_place Range = 1
ring_place Flow = 2
ring_place Sum = 3
ring_place Safra = 4
ring_place Unused = 5
ring_place Announced = 6

abbrev pub tree_tests : tree.State → List Bool
tree_tests t =
    TreeSound.shape_test t
    ∷ TreeSound.range_test t
    ∷ all_to 16 (TreeSound.engager_test t)
    ∷ all_to 16 (TreeSound.chain_test t)
    ∷ all_to 16 (TreeSound.balance_test t)
    ∷ all_to 16 (TreeSound.rest_test t)
    ∷ all_to 16 (λ i. all_to 16 (TreeSound.pair_test t i))
    ∷ TreeSound.limit_test t
    ∷ TreeSound.closed_test t
    ∷ []

abbrev pub tree_place : TreeTest → ℕ
tree_place Range = 1
tree_place Engagers = 2
tree_place Chains = 3
tree_place Balance = 4
tree_place Resting = 5
tree_place Pairs = 6
tree_place Limit = 7
tree_place Announced = 8

abbrev pub tree_places : List TreeTest → List ℕ
tree_places [] = []
tree_places (c ∷ cs) = tree_place c ∷ tree_places cs

-- a ring that is not sound with its own N is so with no other
abbrev pub table_tests : Table → List Bool
table_tests t =
    eqb (length t.slots) 8
    ∷ all_to 8 (λ u. slot_test (nodes_of (slot_at t u)) (slot_at t u))
    ∷ all_to 8 (λ u. slot_test (fixed t) (slot_at t u))
    ∷ []

abbrev pub table_place : TableTest → ℕ
table_place Each = 1
table_place OneN = 2

abbrev pub table_places : List TableTest → List ℕ
table_places [] = []
table_places (c ∷ cs) = table_place c ∷ table_places cs

-- the numbers that a state handed in gets: from a step, from the driver, and where its messages in transit and its black nodes are asked for;
-- from a step, from the writer, and where its acknowledgements are asked for
abbrev pub ring_told : ring.State → List ℕ
ring_told r =
    code_of ((ring_runs.ring).verdict r ring_requests.probe)
    ∷ reason_number (drive_of r 0).reason
    ∷ code_of (ring_answers.transit_answer r).verdict
    ∷ code_of (ring_answers.black_answer r).verdict
    ∷ []

abbrev pub tree_told : tree.State → List ℕ
tree_told t =
    code_of ((tree_runs.tree).verdict t tree_requests.announce)
    ∷ written_number (written_of t (replicate 100 0))
    ∷ code_of (tree_answers.acks_answer t).verdict
    ∷ []

-- from a start and from a step
abbrev pub table_told : Table → List ℕ
table_told t = code_of (verdict_on t (Start 0 1 (0 ∷ []))) ∷ code_of (verdict_on t (Step 0 ring_requests.probe)) ∷ []

abbrev pub is_ring_sound : ring.State → Bool
is_ring_sound r = fail_at [] 0 (ring_tests r) && not (among 3 (ring_told r))

abbrev pub safra_tests : ring.State → List Bool
safra_tests r =
    RingSound.gathered_test r
    ∷ is_positive (r.q +ℤ ring.counters_to r (r.pos + 1))
    ∷ not (RingSound.white_to r.color (r.pos + 1))
    ∷ r.black
    ∷ []

-- the places of the other three
abbrev pub others : SafraTest → List ℕ
others Gathered = 1 ∷ 2 ∷ 3 ∷ []
others Positive = 0 ∷ 2 ∷ 3 ∷ []
others BlackNode = 0 ∷ 1 ∷ 3 ∷ []
others BlackToken = 0 ∷ 1 ∷ 2 ∷ []

-- ---- texts and colors

-- the engagers of the first nodes, the others having none
abbrev pub none_after : List ℕ → List ℕ
none_after l = l ++ replicate (16 - length l) 16

abbrev pub white : List ℕ
white = replicate 12 0

abbrev pub black_by : ℕ → ℕ → ℕ → Bool
black_by i k v =
    same_list (blackened white i) (set white k v)
    && (all_to 96 (λ m. same_bit (is_black (set white k v) m) (eqb m i)) && same_list (whitened (set white k v) i) white)

-- ---- what is lent

-- all ten fields
abbrev pub same_lent : Lent → Lent → Bool
same_lent a b =
    eqb a.n b.n
    && (same_list a.active b.active
    && (same_list a.color b.color
    && (same_list a.sent b.sent
    && (same_list a.received b.received
    && (same_list a.pending b.pending
    && (eqb a.pos b.pos && (is_same a.q b.q && (eqb a.black b.black && eqb a.closed b.closed))))))))

-- all nine fields
abbrev pub same_lent_tree : LentTree → LentTree → Bool
same_lent_tree a b =
    eqb a.n b.n
    && (eqb a.root b.root
    && (same_list a.active b.active
    && (same_list a.engager b.engager
    && (same_list a.unacked b.unacked
    && (same_list a.transit b.transit
    && (same_list a.acks b.acks && (eqb a.sends b.sends && eqb a.closed b.closed)))))))

abbrev pub same_rows : List (List ℕ) → List (List ℕ) → Bool
same_rows [] [] = true
same_rows [] (y ∷ ys) = false
same_rows (x ∷ xs) [] = false
same_rows (x ∷ xs) (y ∷ ys) = same_list x y && same_rows xs ys

abbrev pub same_sums : List ℤ → List ℤ → Bool
same_sums [] [] = true
same_sums [] (y ∷ ys) = false
same_sums (x ∷ xs) [] = false
same_sums (x ∷ xs) (y ∷ ys) = is_same x y && same_sums xs ys

-- all ten columns, each at all eight places
abbrev pub same_lent_table : LentTable → LentTable → Bool
same_lent_table a b =
    same_list a.n b.n
    && (same_list a.pos b.pos
    && (same_sums a.q b.q
    && (same_list a.black b.black
    && (same_list a.closed b.closed
    && (same_rows a.active b.active
    && (same_rows a.color b.color
    && (same_rows a.sent b.sent && (same_rows a.received b.received && same_rows a.pending b.pending))))))))

-- ---- the answer

unfoldable pub passes : Case → Bool
passes (ring_start_ask n flags k) = eqb (code_of (ring_start.start_verdict n flags)) k
passes (tree_start_ask n root k) = eqb (code_of (tree_start.start_verdict n root)) k
passes (ring_run r xs) = same_list (ring_requests.numbers r (requests_of xs)) (numbers_of xs)
passes (tree_run t xs) = same_list (tree_requests.numbers t (requests_of xs)) (numbers_of xs)
passes (holder_after r xs p) = ring_accepts r xs && eqb (run_of ring_runs.ring r xs).pos p
passes (quiet_then r xs m) =
    ring_accepts r xs && (ring_quiet (run_of ring_runs.ring r xs) && drives_to (run_of ring_runs.ring r xs) 1000 conclusive m)
passes (quiet_with t xs a e) =
    tree_accepts t xs
    && (tree_quiet (run_of tree_runs.tree t xs)
    && (eqb (acks_total (run_of tree_runs.tree t xs)) a && eqb (engaged_others (run_of tree_runs.tree t xs)) e))
passes (drives r m e k) = drives_to r m e k
passes (ring_sound r) = is_ring_sound r
passes (sound_by c r) = is_ring_sound r && fail_at (others c) 0 (safra_tests r)
passes (ring_unsound c r) = fail_at (ring_place c ∷ []) 0 (ring_tests r) && same_list (ring_told r) (3 ∷ 3 ∷ 3 ∷ 3 ∷ [])
passes (tree_sound t) = fail_at [] 0 (tree_tests t) && not (among 3 (tree_told t))
passes (tree_unsound cs t) = fail_at (tree_places cs) 0 (tree_tests t) && same_list (tree_told t) (3 ∷ 3 ∷ 3 ∷ [])
passes (table_sound t) = fail_at [] 0 (table_tests t) && not (among 3 (table_told t))
passes (table_unsound cs t) = fail_at (table_places cs) 0 (table_tests t) && same_list (table_told t) (3 ∷ 3 ∷ [])
passes (table_ask t a k) = eqb (code_of (verdict_on t a)) k
passes (writes t size k) = eqb (written_number (written_of t (replicate size 0))) k
passes (text n l root s) =
    same_list (text_of (none_after l) root) (bytes s)
    && (eqb (code_of (read_of n (bytes s)).verdict) 0
    && (same_list (read_of n (bytes s)).engager (none_after l) && eqb (read_of n (bytes s)).root root))
passes (fault n s k) = eqb (code_of (read_of n (bytes s)).verdict) k
passes (prints log s) = same_list (output_of log) (bytes s)
passes (bytes_of l k) = eqb (length l) k
passes (refusal e k) = eqb (number_of e) k
passes (reason e k) = eqb (reason_number e) k
passes (black_by_case i k v) = black_by i k v
passes (colors r l) = same_list r.color l
passes (lent_start n flags before k after) = eqb (start_number n flags) k && same_lent (start_fields n flags before) after
passes (lent_step l kind i j k after) = eqb (step_number l kind i j) k && same_lent (step_fields l kind i j) after
passes (lent_sound l k) = eqb (sound_number l) k
passes (lent_drive l limit moves k made after) =
    eqb (drive_number l limit) k && (eqb (drive_moves l limit moves) made && same_lent (drive_fields l limit) after)
passes (lent_tree_start n root before k after) = eqb (tree_start_number n root) k && same_lent_tree (tree_start_fields n root before) after
passes (lent_tree_step l kind i j k after) = eqb (tree_step_number l kind i j) k && same_lent_tree (tree_step_fields l kind i j) after
passes (lent_tree_sound l k) = eqb (tree_sound_number l) k
passes (lent_table_case m a k after) = eqb (ask_number m a) k && same_lent_table (ask_fields m a) after
passes (lent_table_sound m k) = eqb (table_sound_number m) k
passes (lent_write l buf size k long after) =
    eqb (write_number l buf) k && (eqb (write_length l buf size) long && same_list (write_buffer l buf) after)
passes (lent_read n s engager root k engager' root') =
    eqb (read_number n (bytes s)) k
    && (same_list (read_engagers n (bytes s) engager) engager' && eqb (read_root n (bytes s) root) root')

unfoldable pub all_cases_pass : List Case → Bool
all_cases_pass [] = true
all_cases_pass (c ∷ cs) = passes c && all_cases_pass cs
