-- Document 02, Q-7, at work: a panel of three nodes. All get new firmware and a new map, and a restore of the firmware is still on its way to node 2
-- when the packing asks to close: 8. It is taken later; the ring is quiet, and the announce test holds after six token moves, with one mark that is
-- not as the others: 15, and nothing is accepted but a start. A new run puts node 2 right, and the panel is closed as new. Only statements are here;
-- proofs/Story.antt proves them.
use Rattle.std.specs.Prelude.{ℕ, set, false, true, List, [], ◌++◌, ◌∷◌, ◌≡◌}
use Rattle.panel_rules.specs.Answers.{enter_of}
use Rattle.panel_rules.specs.Asks.{Ask, Start, Step, panel, verdict_on}
use Rattle.panel_rules.specs.Soundness.{sound_test}
use Rattle.panel_rules.specs.State.{Panel, agreed, agreed_word}
use Rattle.panel_rules.specs.declared.record.Record.{Record}
use Rattle.panel_rules.specs.declared.record.Record.TheVariants.{Empty, New, Old}
use Rattle.panel_runs.specs.Counts.{QuietBy, active_in, firmware_by, leg_of, map_by, released_by, transit_in}
use Rattle.panel_runs.specs.WholeRun.{Countdown}
use Rattle.refusal.specs.Table.{code_of}
use Rattle.refusal.specs.Table.{Accepted}
use Rattle.ring_rules.specs.Rules.{conclusive}
use Rattle.ring_runs.specs.Requests.{announce, idle, pass, probe, send, take}
use Rattle.runs.specs.Runs.{Request, next, run_of}

-- the numbers of the answers to a list of requests
unfoldable pub numbers : Panel → List Ask → List ℕ
numbers p [] = []
numbers p (a ∷ ls) = code_of (verdict_on p a) ∷ numbers (next panel p a) ls

abbrev pub steps : List Request → List Ask
steps [] = []
steps (x ∷ xs) = Step x ∷ steps xs

-- node 0 alone is active
abbrev pub flags : List ℕ
flags = 1 ∷ 0 ∷ 0 ∷ []

abbrev pub first : Panel
first = (enter_of 3 flags).state

-- firmware new and map new for each node, taken; a message more to node 2
abbrev pub updates : List Ask
updates =
    steps
    (send 0 0
    ∷ send 0 0
    ∷ send 0 1
    ∷ send 0 1
    ∷ send 0 2
    ∷ send 0 2
    ∷ take 0 1
    ∷ take 0 2
    ∷ take 1 1
    ∷ take 1 2
    ∷ take 2 1
    ∷ take 2 2
    ∷ idle 1
    ∷ send 0 2
    ∷ idle 0
    ∷ idle 2
    ∷ [])

-- the token goes round, and the packing asks
abbrev pub packing : List Ask
packing = updates ++ steps (probe ∷ pass 2 ∷ pass 1 ∷ [])

-- the message is taken: firmware old; then the ring is quiet
abbrev pub restored : List Ask
restored = packing ++ steps (announce ∷ take 2 3 ∷ announce ∷ idle 2 ∷ [])

-- six token moves, with a close between that comes too early
abbrev pub rounds : List Ask
rounds = steps (probe ∷ pass 2 ∷ pass 1 ∷ announce ∷ probe ∷ pass 2 ∷ pass 1 ∷ [])

-- a new run, started once with another number of nodes; firmware new for node 2, and two rounds
abbrev pub put_right : List Ask
put_right =
    steps (announce ∷ probe ∷ [])
    ++ (Start 2 (1 ∷ 0 ∷ [])
    ∷ Start 3 flags
    ∷ steps (announce ∷ send 0 2 ∷ take 2 1 ∷ idle 2 ∷ idle 0 ∷ probe ∷ pass 2 ∷ pass 1 ∷ probe ∷ pass 2 ∷ pass 1 ∷ []))

abbrev pub closed : List Ask
closed = restored ++ rounds ++ put_right ++ steps (announce ∷ send 0 1 ∷ [])

-- a panel of one node on which nothing was done: one token move, and it is closed as old
abbrev pub one : Panel
one = (enter_of 1 (0 ∷ [])).state

abbrev pub shut : Panel
shut = run_of panel one (steps (probe ∷ announce ∷ []))

-- the same panel with another mark of a node, or another record
abbrev pub firmware_set : Panel → ℕ → Panel
firmware_set p i = record { ring = p.ring; firmware = set p.firmware i true; map = p.map; recorded = p.recorded }

abbrev pub map_set : Panel → ℕ → Panel
map_set p i = record { ring = p.ring; firmware = p.firmware; map = set p.map i true; recorded = p.recorded }

abbrev pub record_set : Panel → Record → Panel
record_set p w = record { ring = p.ring; firmware = p.firmware; map = p.map; recorded = w }

-- What is sound and what is not, each by one thing alone: a mark that no node uses, a record while open, when closed none or the other word, or a mark
-- unlike it.
pub record SoundByOne : Type 0 where
  pub open_panel : sound_test first ≡ true
  pub open_marks : (sound_test (firmware_set first 2) ≡ true) × (sound_test (map_set first 2) ≡ true)
  pub unused_firmware : (sound_test (firmware_set first 3) ≡ false) × (sound_test (firmware_set first 95) ≡ false)
  pub unused_map : (sound_test (map_set first 3) ≡ false) × (sound_test (map_set first 95) ≡ false)
  pub open_record : (sound_test (record_set first Old) ≡ false) × (sound_test (record_set first New) ≡ false)
  pub closed_panel : (sound_test shut ≡ true) × (shut.recorded ≡ Old)
  pub closed_record : (sound_test (record_set shut Empty) ≡ false) × (sound_test (record_set shut New) ≡ false)
  pub closed_marks : (sound_test (firmware_set shut 0) ≡ false) × (sound_test (map_set shut 0) ≡ false)
  pub closed_new : sound_test (record_set (firmware_set (map_set shut 0) 0) New) ≡ true

-- the numbers of all the answers
abbrev pub answers : List ℕ
answers =
    0 ∷ 0 ∷ 0 ∷ 0 ∷ 0 ∷ 0 ∷ 0 ∷ 0 ∷ 0 ∷ 0 ∷ 0 ∷ 0 ∷ 0 ∷ 0 ∷ 0 ∷ 0 ∷ 0 ∷ 0 ∷ 0 ∷ 8 ∷ 0 ∷ 8 ∷ 0 ∷ 0 ∷ 0 ∷ 0 ∷ 8 ∷ 0 ∷ 0 ∷ 0 ∷ 15 ∷ 8 ∷ 1 ∷ 0 ∷ 8 ∷ 0 ∷ 0 ∷ 0 ∷ 0 ∷ 0 ∷ 0 ∷ 0 ∷ 0 ∷ 0 ∷ 0 ∷ 0 ∷ 4 ∷ []

pub record StoryHolds : Type 0 where
  pub entered : (enter_of 3 flags).verdict ≡ Accepted
  -- the packing asks with one message in transit, every node passive and every mark new: 8
  pub travelling : transit_in (leg_of first packing) 2 ≡ 1
  pub passive : (active_in (leg_of first packing) 0 ≡ false) × (active_in (leg_of first packing) 1 ≡ false) × (active_in (leg_of first packing) 2 ≡ false)
  pub marks_new : (agreed (run_of panel first packing) ≡ true) × (agreed_word (run_of panel first packing) ≡ New)
  pub asked : code_of (verdict_on (run_of panel first packing) (Step announce)) ≡ 8
  -- once it is taken and node 2 is passive again, the ring is quiet, node 2's firmware is old, and exactly six token moves are left
  pub quiet : QuietBy first restored
  pub still_open : released_by first restored ≡ false
  pub marks_unequal : (firmware_by first restored 2 ≡ false) × (map_by first restored 2 ≡ true) × (firmware_by first restored 1 ≡ true)
  pub six : (c : Countdown first restored) → c.K ≡ 6
  -- after them the announce test holds, and a close is 15
  pub tested : conclusive (run_of panel first (restored ++ rounds)).ring ≡ true
  pub unequal : code_of (verdict_on (run_of panel first (restored ++ rounds)) (Step announce)) ≡ 15
  pub nothing_written : (run_of panel first (restored ++ rounds)).recorded ≡ Empty
  -- put right by a new run, which keeps the other marks: closed, and every mark is new
  pub released : released_by first closed ≡ true
  pub recorded : (run_of panel first closed).recorded ≡ New
  pub found : (agreed (run_of panel first closed) ≡ true) × (agreed_word (run_of panel first closed) ≡ New)
  -- each answer
  pub told : numbers first closed ≡ answers
