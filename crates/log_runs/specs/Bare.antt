-- Document 02, Q-6: "`(ring 3)` alone now means all active and white. Logs that relied on idle boards write `(ring 3 (active) (black))`". The proof is
-- in proofs/Bare.antt. Lines are numbered as in their answers: the lines after the first are lines 2 + i.
use Rattle.std.specs.Prelude.{◌<◌, ◌≤◌, suc, ℕ, eqb, ltb, get_or, Bool, ◌||◌, false, not, true, List, [], ◌∷◌, ◌≡◌}
use Rattle.first_line.specs.Meaning.{every_node}
use Rattle.forms.specs.Form.{Form, Says, Valid, bare_ring, ring_with, update}
use Rattle.log_rules.specs.Answers.{Stage, line_told}
use Rattle.log_rules.specs.Lines.{lines_of}
use Rattle.log_rules.specs.Output.{output_of}
use Rattle.refusal.specs.Table.{◌⟶◌, first_of}
use Rattle.refusal.specs.declared.Refusal.TheVariants.{NodeCount, UnknownUpdate}
use Rattle.refusal.specs.Table.{Accepted}
use Rattle.ring_rules.specs.Rules.{Announce, Idle, Kind, Pass, Probe, Send, Take, Unknown}
use Rattle.ring_rules.specs.Start.{start_of}
use Rattle.ring_rules.specs.State.{State, active_at, black_at}
use Rattle.ring_runs.specs.Counts.{kind, ring}
use Rattle.runs.specs.Runs.{Request, accepted_of, next}
use Rattle.table_rules.specs.Answers.{Ask as TableAsk, Start, other_nodes}
use Rattle.table_rules.specs.Soundness.{SoundTable}
use Rattle.table_rules.specs.Table.{Started, Table, empty_table, slot_at}
use Rattle.table_runs.specs.Counts.{history_of}
use Rattle.log_runs.specs.Answered.{said}
use Rattle.log_runs.specs.First.{FirstAsks, first_verdict, flags_to, in_range, ring_start_ask, update_start, update_verdict}
use Rattle.log_runs.specs.Says.{request}
use Rattle.log_runs.specs.UpdateLog.{LineOk, NoStart, UpdateLog, made}
use Rattle.log_runs.specs.Updates.{UpdateAsks, start, updates, verdict_of}
use Rattle.log_runs.specs.WholeLog.{AnnouncedAt, RingLog}
use Rattle.log_runs.specs.UpdateLog as update_log

-- every node of r, a ring of n nodes, is active, or every one is passive; and all are white
pub record AllNodesAre (active : Bool) (n : ℕ) (r : State) : Type 0 where
  pub nodes : r.n ≡ n
  pub activity : (b : ℕ) → b < n → active_at r b ≡ active
  pub white : (b : ℕ) → b < n → black_at r b ≡ false

-- the flags of a ring of n nodes, all named active and none black; and the ring that they start
abbrev pub bare_flags : ℕ → List ℕ
bare_flags n = flags_to (every_node n) [] n

abbrev pub bare_run : ℕ → State
bare_run n = (start_of n (bare_flags n)).state

-- the line with lists that names them so
abbrev pub listed : ℕ → Form
listed n = ring_with n (every_node n) []

-- the line l' is l, or lists every node active and none black where l is a start without lists; and so line by line
pub data AsListed (l l' : List ℕ) : Type 0 where
  same : l ≡ l' → AsListed l l'
  of_ring : (n : ℕ) → Says l (bare_ring n) → Says l' (listed n) → AsListed l l'
  of_update : (u n : ℕ) → Says l (update u (bare_ring n)) → Says l' (update u (listed n)) → AsListed l l'

pub data AllAsListed : List (List ℕ) → List (List ℕ) → Type 0 where
  no_line : AllAsListed [] []
  line : {l l' : List ℕ} {ls ls' : List (List ℕ)} → AsListed l l' → AllAsListed ls ls' → AllAsListed (l ∷ ls) (l' ∷ ls')

-- is there an idle of b among these requests
abbrev pub idles : Kind → ℕ → ℕ → Bool
idles Send i b = false
idles Take i b = false
idles Idle i b = eqb i b
idles Probe i b = false
idles Pass i b = false
idles Announce i b = false
idles Unknown i b = false

abbrev pub idle_in : List Request → ℕ → Bool
idle_in [] b = false
idle_in (x ∷ xs) b = idles (kind x) x.i b || idle_in xs b

pub record BareStarts : Type 0 where
  -- `(ring n)` asks for a ring all of whose nodes are named active, and none black; `(update u (ring n))`, in the first line or later, for such an update
  pub ring_line : {l : List ℕ} (n : ℕ) → Says l (bare_ring n) → FirstAsks l (ring_start_ask n (every_node n) [])
  pub first_line : {l : List ℕ} (u n : ℕ) → Says l (update u (bare_ring n)) → FirstAsks l (update_start u n (every_node n) [])
  pub later_line : {l : List ℕ} (u n : ℕ) → Says l (update u (bare_ring n)) → UpdateAsks l (request (start u n (every_node n) []))
  -- `(ring n (active) (black))` for one whose lists name none
  pub empty_ring_line : {l : List ℕ} (n : ℕ) → Says l (ring_with n [] []) → FirstAsks l (ring_start_ask n [] [])
  pub empty_first_line : {l : List ℕ} (u n : ℕ) → Says l (update u (ring_with n [] [])) → FirstAsks l (update_start u n [] [])
  pub empty_later_line : {l : List ℕ} (u n : ℕ) → Says l (update u (ring_with n [] [])) → UpdateAsks l (request (start u n [] []))
  -- the first starts a ring of active white nodes, the second one of passive white nodes
  pub active : (n : ℕ) → 0 < n → n ≤ 96 → AllNodesAre true n (bare_run n)
  pub passive : (n : ℕ) → 0 < n → n ≤ 96 → AllNodesAre false n (start_of n (flags_to [] [] n)).state
  -- and so it stands at the update, in a table
  pub active_at_node :
      (t : Table) → SoundTable t → (u n : ℕ) → verdict_of t (start u n (every_node n) []) ≡ Accepted
      → (r : State) × (slot_at (next updates t (start u n (every_node n) [])) u ≡ Started r) × AllNodesAre true n r
  pub passive_at :
      (t : Table) → SoundTable t → (u n : ℕ) → verdict_of t (start u n [] []) ≡ Accepted
      → (r : State) × (slot_at (next updates t (start u n [] [])) u ≡ Started r) × AllNodesAre false n r
  -- The numbers of a start without lists: of a ring 1 outside 1 to 96, of an update 13 and then 1; never 6
  pub verdict : (n : ℕ) → first_verdict (ring_start_ask n (every_node n) []) ≡ first_of ((not (in_range 96 n) ⟶ NodeCount) ∷ [])
  pub update_is_judged :
      (t : Table) (u n : ℕ)
      → update_verdict t u n (every_node n) []
      ≡ first_of ((not (ltb u 8) ⟶ UnknownUpdate) ∷ (other_nodes t n ⟶ NodeCount) ∷ (not (in_range 96 n) ⟶ NodeCount) ∷ [])
  -- The line that lists every node active and none black says the same. Up to 96 nodes there is one, inside every update too; each line is answered as
  -- the other and leads to the same, wherever a log has come to; and a log prints the same with any of its starts so written.
  pub listed_valid : (u n : ℕ) → u ≤ 99999 → n ≤ 96 → Valid (listed n) × Valid (update u (listed n))
  pub line_as_listed : (g : Stage) (k : ℕ) {l l' : List ℕ} → AsListed l l' → line_told g k l ≡ line_told g k l'
  pub as_listed : (s s' : List ℕ) → AllAsListed (lines_of s) (lines_of s') → output_of s ≡ output_of s'
  -- A log with such a first line is one of that ring, or of updates that begin with it, so that all of `RingLog` or `UpdateLog` holds of it.
  pub begins :
      (s : List ℕ) {l : List ℕ} {lines : List (List ℕ)} (n : ℕ) → lines_of s ≡ l ∷ lines → Says l (bare_ring n) → 0 < n → n ≤ 96
      → RingLog s lines n (bare_run n)
  pub update_begins :
      (s : List ℕ) {l : List ℕ} {lines : List (List ℕ)} (u n : ℕ) → lines_of s ≡ l ∷ lines → Says l (update u (bare_ring n)) → u < 8 → 0 < n → n ≤ 96
      → UpdateLog s lines n (Start u n (bare_flags n))
  -- `(announce)` is answered with ok there only if the requests accepted before it have an idle of every node among them
  pub idle_first :
      {s : List ℕ} {lines : List (List ℕ)} (n : ℕ) → n ≤ 96 → (log : RingLog s lines n (bare_run n)) (i : ℕ)
      → AnnouncedAt ring (bare_run n) log.asks lines i
      → (b : ℕ) → b < n → idle_in (accepted_of ring (bare_run n) (said log.asks i)) b ≡ true
  -- and `(update u (announce))` only if the steps of u accepted since its latest start have, where that is the first line, or line 2 + k
  pub update_idle_first :
      {s : List ℕ} {lines : List (List ℕ)} (u n : ℕ) → n ≤ 96 → (log : UpdateLog s lines n (Start u n (bare_flags n))) (i : ℕ)
      → NoStart (Start u n (bare_flags n)) log.asks u 0 i → update_log.AnnouncedAt (Start u n (bare_flags n)) log.asks lines u i
      → (b : ℕ) → b < n → idle_in (history_of u empty_table (made (Start u n (bare_flags n)) log.asks i)).taken b ≡ true
  pub later_idle_first :
      {s : List ℕ} {lines : List (List ℕ)} {n : ℕ} {first : TableAsk} (log : UpdateLog s lines n first) (u m k i : ℕ) → k < i
      → Says (get_or lines k []) (update u (bare_ring m)) → LineOk first log.asks k → NoStart first log.asks u (suc k) i
      → update_log.AnnouncedAt first log.asks lines u i
      → (b : ℕ) → b < m → idle_in (history_of u empty_table (made first log.asks i)).taken b ≡ true
