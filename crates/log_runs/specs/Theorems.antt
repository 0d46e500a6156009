-- Demand 3 of what is printed for a log: its run is the run of the requests that its lines say, so that `WholeRuns` (crates ring_runs and
-- tree_runs) speaks of it. `WholeLog` (WholeLog.antt) puts it together for every list of bytes. The proofs are in proofs/Theorems.antt.
use Rattle.std.specs.Prelude.{◌*◌, ◌+◌, ◌-◌, ◌≤◌, ℕ, length, take, List, ◌++◌, ◌∷◌, map, ◌↔◌, ◌≡◌}
use Rattle.forms.specs.Form.{Says, announce}
use Rattle.log_rules.specs.Answers.{Stage, answer_text, fresh, line_told, on_ring, on_table, on_tree, opened_by}
use Rattle.log_rules.specs.Output.{lines_told}
use Rattle.log_rules.specs.Theorems.{LinesOf}
use Rattle.refusal.specs.Table.{Accepted}
use Rattle.runs.specs.Runs.{Request, accepted_of, run_of}
use Rattle.table_rules.specs.Answers.{Start, verdict_on}
use Rattle.table_rules.specs.Runs.{table}
use Rattle.table_rules.specs.Soundness.{SoundTable}
use Rattle.table_rules.specs.Table.{Table, empty_table}
use Rattle.tree_runs.specs.WholeRun.{steps_by}
use Rattle.log_runs.specs.First.{FirstAsks, StartAsk, begun, first_verdict, flags_to, ring_start_ask, tree_start_ask, update_start}
use Rattle.log_runs.specs.Says.{Ask, BegunOpen, Each, RingAsks, RingSays, TreeAsks, TreeSays, moves_in, printed, stage_after}
use Rattle.log_runs.specs.Updates.{UpdateAsk, UpdateAsks, UpdatesSay, moves_after, table_ask, to_table, updates}
use Rattle.ring_rules.specs.State as RingState
use Rattle.ring_rules.specs.Soundness as ring_sound
use Rattle.ring_rules.specs.Start as ring_start
use Rattle.ring_runs.specs.Counts as ring_counts
use Rattle.tree_rules.specs.State as TreeState
use Rattle.tree_rules.specs.Soundness as tree_sound
use Rattle.tree_rules.specs.Start as tree_start
use Rattle.tree_runs.specs.Counts as tree_counts

-- the answer to a line, line j of a log that has come to s, is `(ok j)`
abbrev pub Ok : Stage → ℕ → List ℕ → Type 0
Ok s j l = (line_told s j l).text ≡ answer_text j Accepted

-- After the lines ls, which say xs: an announce line that comes after further lines, with no announcement accepted among them, is answered
-- with ok exactly if as many requests of these are accepted as K says.
pub record RingCountdown (r : RingState.State) (ls : List (List ℕ)) (xs : List Request) : Type 0 where
  pub K : ℕ
  pub bound : K ≤ 3 * r.n - 2
  pub exactly :
      (m k j : ℕ) {ls' : List (List ℕ)} {ys : List Request} → RingSays ls' ys → ring_counts.Unannounced (run_of ring_counts.ring r xs) ys
      → (l : List ℕ) → Says l announce
      → Ok (stage_after (stage_after (on_ring r m) k ls) (k + length ls) ls') j l ↔ (length (accepted_of ring_counts.ring (run_of ring_counts.ring r xs) ys) ≡ K)

pub record LogRuns : Type 0 where
  -- the answer to a line stands in the output behind those of the lines before it
  pub output :
      (s : Stage) (k : ℕ) (ls : List (List ℕ)) (l : List ℕ) (rest : List (List ℕ))
      → lines_told s k (ls ++ (l ∷ rest))
      ≡ printed s k ls ++ ((line_told (stage_after s k ls) (k + length ls) l).text ++ lines_told (line_told (stage_after s k ls) (k + length ls) l).stage (k + length ls + 1) rest)
  -- the first line asks for a start or for none, and for that alone
  pub first_asks : {s l : List ℕ} {ls : List (List ℕ)} → LinesOf s (l ∷ ls) → (a : StartAsk) × FirstAsks l a
  pub first_once : {l : List ℕ} {a b : StartAsk} → FirstAsks l a → FirstAsks l b → a ≡ b
  -- it is answered by the first row of the table that applies, and where there is none it begins the run of that start
  pub first_line_is_told : {l : List ℕ} {a : StartAsk} → FirstAsks l a → line_told fresh 1 l ≡ opened_by (first_verdict a) (begun a)
  -- which is an accepted start, so that `from_start` and `RunsAgree` (crates ring_runs and tree_runs) speak of the run
  pub ring_started :
      (n : ℕ) (active black : List ℕ) → first_verdict (ring_start_ask n active black) ≡ Accepted
      → ring_start.start_verdict n (flags_to active black n) ≡ Accepted
  pub tree_started : (n root : ℕ) → first_verdict (tree_start_ask n root) ≡ Accepted → tree_start.start_verdict n root ≡ Accepted
  pub update_started :
      (u n : ℕ) (active black : List ℕ) → first_verdict (update_start u n active black) ≡ Accepted
      → verdict_on empty_table (Start u n (flags_to active black n)) ≡ Accepted
  -- so the first line begins an open run, or none
  pub first : (l : List ℕ) → BegunOpen (line_told fresh 1 l).stage
  -- the lines that are read of a log, its first n, are the lines of a text too; and the lines of every text say requests, and these alone
  pub taken : {s : List ℕ} {ls : List (List ℕ)} → LinesOf s ls → (n : ℕ) → (s' : List ℕ) × LinesOf s' (take n ls)
  pub ring_asks : {s : List ℕ} {ls : List (List ℕ)} → LinesOf s ls → (xs : List Request) × RingSays ls xs
  pub tree_asks : {s : List ℕ} {ls : List (List ℕ)} → LinesOf s ls → (xs : List Request) × TreeSays ls xs
  pub ring_once : {ls : List (List ℕ)} {ps qs : List (Ask Request)} → Each RingAsks ls ps → Each RingAsks ls qs → ps ≡ qs
  pub tree_once : {ls : List (List ℕ)} {ps qs : List (Ask Request)} → Each TreeAsks ls ps → Each TreeAsks ls qs → ps ≡ qs
  pub update_asks : {s : List ℕ} {ls : List (List ℕ)} → LinesOf s ls → (xs : List UpdateAsk) × UpdatesSay ls xs
  pub update_once : {ls : List (List ℕ)} {ps qs : List (Ask UpdateAsk)} → Each UpdateAsks ls ps → Each UpdateAsks ls qs → ps ≡ qs
  -- and the log comes to what these requests lead to; "moves are accepted token moves"
  pub ring_state :
      (r : RingState.State) (m k : ℕ) {ls : List (List ℕ)} {xs : List Request} → RingSays ls xs
      → stage_after (on_ring r m) k ls ≡ on_ring (run_of ring_counts.ring r xs) (m + moves_in (accepted_of ring_counts.ring r xs))
  pub tree_state :
      (t : TreeState.State) (k : ℕ) {ls : List (List ℕ)} {xs : List Request} → TreeSays ls xs
      → stage_after (on_tree t) k ls ≡ on_tree (run_of tree_counts.tree t xs)
  -- "moves counted from its latest start"
  pub update_state :
      (t : Table) (ms : List ℕ) (k : ℕ) {ls : List (List ℕ)} {xs : List UpdateAsk} → UpdatesSay ls xs
      → stage_after (on_table t ms) k ls ≡ on_table (run_of updates t xs) (moves_after ms (accepted_of updates t xs))
  -- which are requests to the table, judged and carried out as the table does
  pub update_requests :
      (t : Table) → SoundTable t → (xs : List UpdateAsk)
      → (run_of updates t xs ≡ run_of table t (to_table xs)) × (accepted_of table t (to_table xs) ≡ map table_ask (accepted_of updates t xs))
  -- `(ok j)` is printed for an announce line only if every node is passive and no message is in transit, counted from the start and the
  -- requests accepted before it
  pub ring_quiet :
      (r : RingState.State) → ring_sound.Open r → (m k j : ℕ) {ls : List (List ℕ)} {xs : List Request} → RingSays ls xs
      → (l : List ℕ) → Says l announce → Ok (stage_after (on_ring r m) k ls) j l → ring_counts.QuietBy r xs
  pub tree_quiet :
      (t : TreeState.State) → tree_sound.Open t → (k j : ℕ) {ls : List (List ℕ)} {xs : List Request} → TreeSays ls xs
      → (l : List ℕ) → Says l announce → Ok (stage_after (on_tree t) k ls) j l → tree_counts.QuietBy t xs
  -- and for no line after it
  pub ring_last :
      (r : RingState.State) → ring_sound.Open r → (m k j : ℕ) {ls : List (List ℕ)} {xs : List Request} → RingSays ls xs
      → ring_counts.Announced r xs → (l : List ℕ) → Ok (stage_after (on_ring r m) k ls) j l → ⊥
  pub tree_last :
      (t : TreeState.State) → tree_sound.Open t → (k j : ℕ) {ls : List (List ℕ)} {xs : List Request} → TreeSays ls xs
      → tree_counts.Announced t xs → (l : List ℕ) → Ok (stage_after (on_tree t) k ls) j l → ⊥
  -- once that is so, and until the announcement: one number of token moves is fixed, at most 3N - 2
  pub ring_countdown :
      (r : RingState.State) → ring_sound.Open r → {ls : List (List ℕ)} {xs : List Request} → RingSays ls xs → ring_counts.QuietBy r xs
      → ring_counts.Unannounced r xs → RingCountdown r ls xs
  -- on the tree A + 2E acknowledgements and leavings
  pub tree_countdown :
      (t : TreeState.State) → tree_sound.Open t → {ls : List (List ℕ)} {xs : List Request} → TreeSays ls xs → tree_counts.QuietBy t xs
      → tree_counts.Unannounced t xs → (k j : ℕ) {ls' : List (List ℕ)} {ys : List Request} → TreeSays ls' ys
      → tree_counts.Unannounced (run_of tree_counts.tree t xs) ys → (l : List ℕ) → Says l announce
      → Ok (stage_after (stage_after (on_tree t) k ls) (k + length ls) ls') j l ↔ (length (accepted_of tree_counts.tree (run_of tree_counts.tree t xs) ys) ≡ steps_by t xs)
