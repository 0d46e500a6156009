-- Document 02, Q-7, over lists of requests: what is counted at a point of a list, from the first panel and the requests accepted so far alone.
use Rattle.std.specs.Prelude.{◌+◌, ◌-◌, ◌<◌, ℕ, eqb, Bool, ◌&&◌, ◌||◌, cond, false, true, List, [], ◌++◌, ◌∷◌, ◌≡◌}
use Rattle.laws.specs.Sums.{total}
use Rattle.panel_rules.specs.Asks.{Ask, Start, Step, panel}
use Rattle.panel_rules.specs.Rules.{firmware_said, map_said, second}
use Rattle.panel_rules.specs.State.{Panel, firmware_at, map_at, nodes}
use Rattle.ring_rules.specs.Rules.{Announce, Idle, Kind, Pass, Probe, Send, Take, Unknown}
use Rattle.ring_rules.specs.Start.{first_state}
use Rattle.ring_rules.specs.State.{State, active_at, pending_at}
use Rattle.ring_rules.specs.Theorems.{TokenMove}
use Rattle.ring_runs.specs.Counts.{active_after, is_announce, kind, sends_in, sends_to, takes_by}
use Rattle.runs.specs.Runs.{Request, accepted_of}

-- ---- released: from an accepted close until the next accepted start; the first panel if it is closed

abbrev pub released_after : Bool → List Ask → Bool
released_after b [] = b
released_after b (Step x ∷ acc) = released_after (is_announce (kind x) || b) acc
released_after b (Start n flags ∷ acc) = released_after false acc

abbrev pub released_by : Panel → List Ask → Bool
released_by p ls = released_after p.ring.closed (accepted_of panel p ls)

-- ---- marks: what the node's last accepted take with a word of that kind said; with none, as in the first panel

-- what one accepted step says of node b's mark, where it was m before
abbrev pub firmware_told : Kind → ℕ → ℕ → Bool → ℕ → Bool
firmware_told Send i word m b = m
firmware_told Take i word m b = cond (eqb i b) (firmware_said word m) m
firmware_told Idle i word m b = m
firmware_told Probe i word m b = m
firmware_told Pass i word m b = m
firmware_told Announce i word m b = m
firmware_told Unknown i word m b = m

abbrev pub map_told : Kind → ℕ → ℕ → Bool → ℕ → Bool
map_told Send i word m b = m
map_told Take i word m b = cond (eqb i b) (map_said word m) m
map_told Idle i word m b = m
map_told Probe i word m b = m
map_told Pass i word m b = m
map_told Announce i word m b = m
map_told Unknown i word m b = m

abbrev pub firmware_after : Bool → List Ask → ℕ → Bool
firmware_after m [] b = m
firmware_after m (Step x ∷ acc) b = firmware_after (firmware_told (kind x) x.i x.j m b) acc b
firmware_after m (Start n flags ∷ acc) b = firmware_after m acc b

abbrev pub map_after : Bool → List Ask → ℕ → Bool
map_after m [] b = m
map_after m (Step x ∷ acc) b = map_after (map_told (kind x) x.i x.j m b) acc b
map_after m (Start n flags ∷ acc) b = map_after m acc b

abbrev pub firmware_by : Panel → List Ask → ℕ → Bool
firmware_by p ls b = firmware_after (firmware_at p b) (accepted_of panel p ls) b

abbrev pub map_by : Panel → List Ask → ℕ → Bool
map_by p ls b = map_after (map_at p b) (accepted_of panel p ls) b

abbrev pub is_take : Kind → Bool
is_take Send = false
is_take Take = true
is_take Idle = false
is_take Probe = false
is_take Pass = false
is_take Announce = false
is_take Unknown = false

-- a take by b with the word v or w
abbrev pub speaks : ℕ → ℕ → ℕ → Ask → Bool
speaks v w b (Step x) = is_take (kind x) && (eqb x.i b && (eqb x.j v || eqb x.j w))
speaks v w b (Start n flags) = false

-- none of a list is one
pub data Silent (v w b : ℕ) : List Ask → Type 0 where
  nothing : Silent v w b []
  other : {a : Ask} {acc : List Ask} → speaks v w b a ≡ false → Silent v w b acc → Silent v w b (a ∷ acc)

-- every counted mark of every node is one word
pub record AgreeBy (p : Panel) (ls : List Ask) : Type 0 where
  pub word : Bool
  pub firmware : (b : ℕ) → b < nodes p → firmware_by p ls b ≡ word
  pub map : (b : ℕ) → b < nodes p → map_by p ls b ≡ word

-- ---- since the latest accepted start, or the first panel: the ring there, and the accepted steps since, as the ring's own requests

-- a step as the ring's request: a take fetches one message
abbrev pub to_ring : Request → Request
to_ring x = record { kind = x.kind; i = x.i; j = second (kind x) x.j }

pub record Leg : Type 0 where
  pub base : State
  pub steps : List Request

abbrev pub leg_from : Leg → List Ask → Leg
leg_from l [] = l
leg_from l (Step x ∷ acc) = leg_from (record { base = l.base; steps = l.steps ++ (to_ring x ∷ []) }) acc
leg_from l (Start n flags ∷ acc) = leg_from (record { base = first_state n flags; steps = [] }) acc

abbrev pub leg_of : Panel → List Ask → Leg
leg_of p ls = leg_from (record { base = p.ring; steps = [] }) (accepted_of panel p ls)

-- counted as in demand 3: is node b active, the messages in transit to it, the sends made; every node is passive and no message is in transit
abbrev pub active_in : Leg → ℕ → Bool
active_in l b = active_after (active_at l.base b) l.steps b

abbrev pub transit_in : Leg → ℕ → ℕ
transit_in l b = pending_at l.base b + sends_to l.steps b - takes_by l.steps b

abbrev pub sends_over : Leg → ℕ
sends_over l = total l.base.sent l.base.n + sends_in l.steps

pub record QuietOver (n : ℕ) (l : Leg) : Type 0 where
  pub passive : (b : ℕ) → b < n → active_in l b ≡ false
  pub empty : (b : ℕ) → b < n → transit_in l b ≡ 0

abbrev pub QuietBy : Panel → List Ask → Type 0
QuietBy p ls = QuietOver (nodes p) (leg_of p ls)

-- ---- what comes after a point

-- a close or a start is among them
abbrev pub ended_in : List Ask → Bool
ended_in [] = false
ended_in (Step x ∷ acc) = is_announce (kind x) || ended_in acc
ended_in (Start n flags ∷ acc) = true

-- a start is among them
abbrev pub started_in : List Ask → Bool
started_in [] = false
started_in (Step x ∷ acc) = started_in acc
started_in (Start n flags ∷ acc) = true

-- probe and pass alone
pub data AllMoves : List Ask → Type 0 where
  no_request : AllMoves []
  move_first : {x : Request} {acc : List Ask} → TokenMove (kind x) → AllMoves acc → AllMoves (Step x ∷ acc)
