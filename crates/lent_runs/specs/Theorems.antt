-- Demand 3 of calls: lists of steps and drives on one ring that is lent, and of steps on one tree, refused ones included, are runs. A start begins a
-- new list; soundness and texts only read what is lent.
use Rattle.std.specs.Prelude.{◌*◌, ◌-◌, ◌<◌, ◌≤◌, ℕ, false, List, [], ◌↔◌, ◌≡◌}
use Rattle.lent.specs.Ring.{Lent, StartedTo, lent_of, sound_number, state_of}
use Rattle.lent.specs.Table.{Eight, LentTable, ask_number, fields_at, table_in, table_sound_number}
use Rattle.lent.specs.Tree.{LentTree, TreeStartedTo, lent_tree_of, tree_of, tree_sound_number, tree_step_number}
use Rattle.refusal.specs.Table.{code_of}
use Rattle.runs.specs.Runs.{Accepts, Request, accepted_of, run_of}
use Rattle.table_rules.specs.Answers.{Ask, Step, verdict_on}
use Rattle.table_rules.specs.Runs.{naming, table}
use Rattle.table_rules.specs.Table.{NotStarted, Started, fixed, slot_at}
use Rattle.table_runs.specs.Counts.{QuietIn, history_of}
use Rattle.table_runs.specs.WholeRun as table_run
use Rattle.ring_rules.specs.Driver as ring_drive
use Rattle.ring_rules.specs.Rules as ring_rules
use Rattle.ring_rules.specs.Soundness as ring_sound
use Rattle.ring_rules.specs.Start as ring_start
use Rattle.ring_rules.specs.State as ring_state
use Rattle.ring_runs.specs.Counts as ring_counts
use Rattle.ring_runs.specs.WholeRun as ring_run
use Rattle.tree_rules.specs.Rules as tree_rules
use Rattle.tree_rules.specs.Soundness as tree_sound
use Rattle.tree_rules.specs.Start as tree_start
use Rattle.tree_rules.specs.State as tree_state
use Rattle.tree_runs.specs.Counts as tree_counts
use Rattle.tree_runs.specs.WholeRun as tree_run
use Rattle.lent_runs.specs.Ring.{RingCall, drive, fields_after, fields_left, number_told, requests_in, requests_of, step}
use Rattle.lent_runs.specs.Table.{columns_after, numbers_to}
use Rattle.lent_runs.specs.Tree.{tree_fields_after}

-- After the calls cs on the fields of the ring r, which come to the requests xs.
pub record RingCalls (r : ring_state.State) (cs : List RingCall) (xs : List Request) : Type 0 where
  -- the fields are those of the state that the run of these requests comes to
  pub fields : fields_after (lent_of r) cs ≡ lent_of (run_of ring_counts.ring r xs)
  -- a step is told 0 exactly if that run accepts it next
  pub told : (x : Request) → (number_told (fields_after (lent_of r) cs) (step x) ≡ 0) ↔ Accepts ring_counts.ring (run_of ring_counts.ring r xs) x
  -- what a drive makes next are token moves, each accepted
  pub moves :
      (m : ℕ) → ring_counts.AllMoves (requests_of (fields_after (lent_of r) cs) (drive m))
      × (accepted_of ring_counts.ring (run_of ring_counts.ring r xs) (requests_of (fields_after (lent_of r) cs) (drive m))
      ≡ requests_of (fields_after (lent_of r) cs) (drive m))
  -- demand 3 of that run; an announcement is told 0 only if it is quiet; after it every step and drive tells 4
  pub point : ring_run.Point r xs
  pub quiet :
      (x : Request) → ring_counts.kind x ≡ ring_rules.Announce → number_told (fields_after (lent_of r) cs) (step x) ≡ 0 → ring_counts.QuietBy r xs
  pub last : ring_counts.Announced r xs → (c : RingCall) → number_told (fields_after (lent_of r) cs) c ≡ 4
  -- once quiet, and until the announcement, a drive with a limit of 3n - 2 to 1,000 tells 100: the announce test holds
  pub concludes :
      ring_counts.QuietBy r xs → ring_counts.Unannounced r xs → (m : ℕ) → 3 * r.n - 2 ≤ m → m ≤ ring_drive.move_limit
      → number_told (fields_after (lent_of r) cs) (drive m) ≡ 100
  -- and whenever a drive tells 100, an announcement is told 0 next
  pub announces :
      (m : ℕ) → number_told (fields_after (lent_of r) cs) (drive m) ≡ 100 → (x : Request) → ring_counts.kind x ≡ ring_rules.Announce
      → number_told (fields_left (fields_after (lent_of r) cs) (drive m)) (step x) ≡ 0

-- After the steps xs on the fields of the tree t.
pub record TreeCalls (t : tree_state.State) (xs : List Request) : Type 0 where
  pub fields : tree_fields_after (lent_tree_of t) xs ≡ lent_tree_of (run_of tree_counts.tree t xs)
  pub told :
      (x : Request) → (tree_step_number (tree_fields_after (lent_tree_of t) xs) x.kind x.i x.j ≡ 0)
      ↔ Accepts tree_counts.tree (run_of tree_counts.tree t xs) x
  pub point : tree_run.Point t xs
  pub quiet :
      (x : Request) → tree_counts.kind x ≡ tree_rules.Announce
      → tree_step_number (tree_fields_after (lent_tree_of t) xs) x.kind x.i x.j ≡ 0 → tree_counts.QuietBy t xs
  pub last :
      tree_counts.Announced t xs → (x : Request) → tree_step_number (tree_fields_after (lent_tree_of t) xs) x.kind x.i x.j ≡ 4

-- After the starts and steps ls of any updates on the columns m of a table: they are a run of the table.
pub record TableCalls (m : LentTable) (ls : List Ask) : Type 0 where
  pub there : table_in (columns_after m ls) ≡ run_of table (table_in m) ls
  -- each call tells the number of the answer that this run gives next
  pub told : (a : Ask) → ask_number (columns_after m ls) a ≡ code_of (verdict_on (run_of table (table_in m) ls) a)
  pub sound : table_sound_number (columns_after m ls) ≡ 1
  -- demand 3 for update u: r stood there at its latest start, or in m where it is not started in ls; an announcement of u is told 0 only if u is quiet
  pub point : (u : ℕ) (r : ring_state.State) → (history_of u (table_in m) ls).first ≡ Started r → r.closed ≡ false → table_run.Point (table_in m) u ls r
  pub quiet :
      (u : ℕ) (r : ring_state.State) → (history_of u (table_in m) ls).first ≡ Started r → r.closed ≡ false → (x : Request)
      → ring_counts.kind x ≡ ring_rules.Announce → ask_number (columns_after m ls) (Step u x) ≡ 0 → QuietIn r (history_of u (table_in m) ls).taken
  -- every byte of an update that none of them names is as it was
  pub unnamed : (u : ℕ) → naming u ls ≡ [] → fields_at (columns_after m ls) u ≡ fields_at m u

-- the calls ls and ls' that name u are told the same numbers one by one; where u is started after them, every byte of it is the same; where it is
-- not, nothing was written there
pub record CallsAlike (m m' : LentTable) (u : ℕ) (ls ls' : List Ask) : Type 0 where
  pub numbers : numbers_to u m ls ≡ numbers_to u m' ls'
  pub started :
      (r : ring_state.State) → slot_at (table_in (columns_after m ls)) u ≡ Started r
      → (fields_at (columns_after m ls) u ≡ lent_of r) × (fields_at (columns_after m' ls') u ≡ lent_of r)
  pub not_started :
      slot_at (table_in (columns_after m ls)) u ≡ NotStarted
      → (fields_at (columns_after m ls) u ≡ fields_at m u) × (fields_at (columns_after m' ls') u ≡ fields_at m' u)

-- Q-5, of calls: two tables that are told as sound, with one fixed n, that agree on u, and any two lists of starts and steps of which those naming
-- u are the same.
pub record CallsIndependent : Type 0 where
  pub same :
      (m m' : LentTable) → Eight m → Eight m' → table_sound_number m ≡ 1 → table_sound_number m' ≡ 1
      → 0 < fixed (table_in m) → fixed (table_in m) ≡ fixed (table_in m') → (u : ℕ) → slot_at (table_in m) u ≡ slot_at (table_in m') u
      → (ls ls' : List Ask) → naming u ls ≡ naming u ls' → CallsAlike m m' u ls ls'

-- for every such list on the fields of every sound state that is not yet announced
pub record WholeCalls : Type 0 where
  pub ring : (r : ring_state.State) → ring_sound.Open r → (cs : List RingCall) → RingCalls r cs (requests_in (lent_of r) cs)
  pub tree : (t : tree_state.State) → tree_sound.Open t → (xs : List Request) → TreeCalls t xs
  pub table_calls : (m : LentTable) → Eight m → table_sound_number m ≡ 1 → (ls : List Ask) → TableCalls m ls
  -- such fields are those that an accepted start leaves, and all that are told as sound and are not closed
  pub ring_started :
      {nodes : ℕ} {flags : List ℕ} {before after : Lent} → StartedTo nodes flags 0 before after
      → (after ≡ lent_of (ring_start.start_of nodes flags).state) × ring_sound.Open (ring_start.start_of nodes flags).state
  pub ring_handed : (l : Lent) → sound_number l ≡ 1 → l.closed ≡ 0 → (l ≡ lent_of (state_of l)) × ring_sound.Open (state_of l)
  pub tree_started :
      {nodes at : ℕ} {before after : LentTree} → TreeStartedTo nodes at 0 before after
      → (after ≡ lent_tree_of (tree_start.start_of nodes at).state) × tree_sound.Open (tree_start.start_of nodes at).state
  pub tree_handed : (l : LentTree) → tree_sound_number l ≡ 1 → l.closed ≡ 0 → (l ≡ lent_tree_of (tree_of l)) × tree_sound.Open (tree_of l)
