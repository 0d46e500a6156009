-- What is proved of the definitions; the proofs are in proofs/, put together in proofs/Theorems.antt.
use Rattle.std.specs.Prelude.{◌<◌, ◌≤◌, ℕ, get_or, length, Bool, false, true, List, ◌↔◌, ◌≢◌, ◌⊎◌, ◌≡◌}
use Rattle.panel_rules.specs.Answers.{answer_of, enter_of, marks_answer, record_answer, start_of, verdict_of}
use Rattle.panel_rules.specs.Asks.{Ask, Start, Step, after, answer_on, panel, rows_of, verdict_on}
use Rattle.panel_rules.specs.Rules.{firmware_said, map_said, panel_effect, second}
use Rattle.panel_rules.specs.Soundness.{Matches, Sound, sound_test}
use Rattle.panel_rules.specs.State.{AllAre, Panel, agreed, entered, firmware_at, map_at, marks_number, nodes, record_number, word_of}
use Rattle.panel_rules.specs.declared.record.Record.TheVariants.{Empty}
use Rattle.refusal.specs.Table.{FirstIs, NoneHolds, Numbered, Row, code_of}
use Rattle.refusal.specs.declared.Refusal.{Refusal}
use Rattle.refusal.specs.Table.{Accepted, Refused}
use Rattle.ring_rules.specs.Answers as ring
use Rattle.ring_rules.specs.Rules.{Announce, Idle, Kind, Pass, Probe, Take, Unknown, conclusive, effect, kind_of}
use Rattle.ring_rules.specs.Soundness as ring_sound
use Rattle.ring_rules.specs.Start as ring_start
use Rattle.ring_rules.specs.Termination.{Quiet}
use Rattle.runs.specs.Runs.{run_of}

-- The facts of soundness and the test that code computes agree; so do the fact that all marks are one word and its test.
pub record PanelTested : Type 0 where
  pub holds : (p : Panel) → sound_test p ≡ true → Sound p
  pub tested : (p : Panel) → Sound p → sound_test p ≡ true
  pub agreed : (p : Panel) → (agreed p ≡ true) ↔ ((word : Bool) × AllAre word p)

-- Soundness in one sentence, in plain terms: "A panel is sound if its ring is, unused marks are old, and the record is empty while open and, when closed,
-- equals its marks", of marks with a place for each of 96 nodes, as code has them.
pub record SoundSentence : Type 0 where
  pub exactly :
      (p : Panel) → length p.firmware ≡ 96 → length p.map ≡ 96
      → (sound_test p ≡ true)
      ↔ (ring_sound.Sound p.ring
      × ((i : ℕ) → p.ring.n ≤ i → i < 96 → (get_or p.firmware i false ≡ false) × (get_or p.map i false ≡ false))
      × (p.ring.closed ≡ false → p.recorded ≡ Empty)
      × (p.ring.closed ≡ true
      → (i : ℕ) → i < p.ring.n → (word_of (get_or p.firmware i false) ≡ p.recorded) × (word_of (get_or p.map i false) ≡ p.recorded)))

-- A step or a start of any panel, with any numbers: accepted exactly where no row of its table applies, and then the next panel; a
-- refusal is that of the first row that applies, and hands back the very panel. The answer's number is the table's.
pub record PanelAnswered : Type 0 where
  pub number : (p : Panel) (a : Ask) → Numbered (rows_of p a) (code_of (answer_on p a).verdict)
  pub accepted : (p : Panel) (a : Ask) → (verdict_on p a ≡ Accepted) ↔ NoneHolds (rows_of p a)
  pub next : (p : Panel) (a : Ask) → verdict_on p a ≡ Accepted → (answer_on p a).state ≡ after p a
  pub refused : (p : Panel) (a : Ask) (e : Refusal) → verdict_on p a ≡ Refused e → (row : Row) × (row.refusal ≡ e) × FirstIs (rows_of p a) row
  pub same : (p : Panel) (a : Ask) (e : Refusal) → verdict_on p a ≡ Refused e → (answer_on p a).state ≡ p
  -- a panel that is not sound is 3, whatever is asked
  pub unsound : (p : Panel) → (Sound p → ⊥) → (a : Ask) → code_of (verdict_on p a) ≡ 3

-- Entering is the ring's start, with its numbers; all marks are old then and the record is empty. A refused one leaves a panel that is not sound.
pub record EnterAnswered : Type 0 where
  pub number : (n : ℕ) (flags : List ℕ) → Numbered (ring_start.start_table n flags) (code_of (enter_of n flags).verdict)
  pub verdict : (n : ℕ) (flags : List ℕ) → (enter_of n flags).verdict ≡ ring_start.start_verdict n flags
  pub first :
      (n : ℕ) (flags : List ℕ) → (enter_of n flags).verdict ≡ Accepted → (enter_of n flags).state ≡ entered (ring_start.first_state n flags)
  pub old : (n : ℕ) (flags : List ℕ) (i : ℕ) → (firmware_at (enter_of n flags).state i ≡ false) × (map_at (enter_of n flags).state i ≡ false)
  pub none : (n : ℕ) (flags : List ℕ) (e : Refusal) → (enter_of n flags).verdict ≡ Refused e → sound_test (enter_of n flags).state ≡ false

-- Every entering, start and step that is accepted gives a sound panel; so does every request to a sound one, and every list of them.
pub record PanelKept : Type 0 where
  pub enter : (n : ℕ) (flags : List ℕ) → (enter_of n flags).verdict ≡ Accepted → Sound (enter_of n flags).state
  pub accepted : (p : Panel) (a : Ask) → verdict_on p a ≡ Accepted → Sound (answer_on p a).state
  pub any : (p : Panel) (a : Ask) → Sound p → Sound (answer_on p a).state
  pub run : (p : Panel) → Sound p → (ls : List Ask) → Sound (run_of panel p ls)

-- The ring's part of every step is the ring's own: what is accepted here is accepted there, a take as the take of one message and a
-- close as the announcement, and leads to the ring's own next state. In a sound panel whose marks agree, the verdict on a close is the ring's on the announcement.
pub record RingsOwn : Type 0 where
  pub accepted : (p : Panel) (k : Kind) (i j : ℕ) → verdict_of p k i j ≡ Accepted → ring.verdict_of p.ring k i (second k j) ≡ Accepted
  pub effect : (p : Panel) (k : Kind) (i j : ℕ) → (panel_effect p k i j).ring ≡ effect p.ring k i (second k j)
  pub next :
      (p : Panel) (k : Kind) (i j : ℕ) → verdict_of p k i j ≡ Accepted
      → (answer_of p k i j).state.ring ≡ (ring.answer_of p.ring k i (second k j)).state
  pub close : (p : Panel) → Sound p → agreed p ≡ true → (i j : ℕ) → verdict_of p Announce i j ≡ ring.verdict_of p.ring Announce i j
  -- send, idle, probe, pass and kinds that are none: in a sound panel the ring's own verdict, with the numbers handed in; marks and record are kept
  pub verdict :
      (p : Panel) → Sound p → (k : Kind) → k ≢ Take → k ≢ Announce → (i j : ℕ) → verdict_of p k i j ≡ ring.verdict_of p.ring k i j
  pub kept :
      (p : Panel) (k : Kind) → k ≢ Take → k ≢ Announce → (i j : ℕ)
      → ((answer_of p k i j).state.firmware ≡ p.firmware) × ((answer_of p k i j).state.map ≡ p.map)
      × ((answer_of p k i j).state.recorded ≡ p.recorded)

-- A take: in a sound panel, with a word from 1 to 4, the ring's own verdict on the take of one message; with any other, in a sound panel that is open and of a node of
-- it, 14, whether or not it has a message. An accepted one sets the marks of its node as the word says and those of no other.
pub record TakeAnswered : Type 0 where
  pub word : (p : Panel) → Sound p → (i j : ℕ) → 0 < j → j ≤ 4 → verdict_of p Take i j ≡ ring.verdict_of p.ring Take i 1
  pub no_word :
      (p : Panel) (i j : ℕ)
      → (code_of (verdict_of p Take i j) ≡ 14) ↔ (Sound p × (p.ring.closed ≡ false) × (i < nodes p) × ((j ≡ 0) ⊎ (4 < j)))
  pub mine :
      (p : Panel) (i j : ℕ) → verdict_of p Take i j ≡ Accepted
      → (firmware_at (answer_of p Take i j).state i ≡ firmware_said j (firmware_at p i))
      × (map_at (answer_of p Take i j).state i ≡ map_said j (map_at p i))
  pub others :
      (p : Panel) (i j b : ℕ) → b ≢ i
      → (firmware_at (answer_of p Take i j).state b ≡ firmware_at p b) × (map_at (answer_of p Take i j).state b ≡ map_at p b)
  pub recorded : (p : Panel) (i j : ℕ) → (answer_of p Take i j).state.recorded ≡ p.recorded

-- The job words: 1 firmware new, 2 map new, 3 firmware old, 4 map old; each leaves the other mark as it was.
pub record WordsMean : Type 0 where
  pub firmware_new : (m : Bool) → firmware_said 1 m ≡ true
  pub map_new : (m : Bool) → map_said 2 m ≡ true
  pub firmware_old : (m : Bool) → firmware_said 3 m ≡ false
  pub map_old : (m : Bool) → map_said 4 m ≡ false
  pub firmware_kept : (m : Bool) → (firmware_said 2 m ≡ m) × (firmware_said 4 m ≡ m)
  pub map_kept : (m : Bool) → (map_said 1 m ≡ m) × (map_said 3 m ≡ m)

-- A close is accepted exactly in a sound panel that is open, where the announce test holds and all marks agree; the ring is quiet then. It closes
-- the run, and the record says what every mark of every node says; the marks stay. With unequal marks, and all else as it should be, it is 15.
pub record CloseAnswered : Type 0 where
  pub accepted :
      (p : Panel) (i j : ℕ)
      → (verdict_of p Announce i j ≡ Accepted)
      ↔ (Sound p × (p.ring.closed ≡ false) × (conclusive p.ring ≡ true) × (agreed p ≡ true))
  pub unequal :
      (p : Panel) (i j : ℕ)
      → (code_of (verdict_of p Announce i j) ≡ 15)
      ↔ (Sound p × (p.ring.closed ≡ false) × (conclusive p.ring ≡ true) × (agreed p ≡ false))
  pub early :
      (p : Panel) (i j : ℕ)
      → (code_of (verdict_of p Announce i j) ≡ 8) ↔ (Sound p × (p.ring.closed ≡ false) × (conclusive p.ring ≡ false))
  pub quiet : (p : Panel) (i j : ℕ) → verdict_of p Announce i j ≡ Accepted → Quiet p.ring
  pub closes : (p : Panel) (i j : ℕ) → verdict_of p Announce i j ≡ Accepted → (answer_of p Announce i j).state.ring.closed ≡ true
  pub writes : (p : Panel) (i j : ℕ) → verdict_of p Announce i j ≡ Accepted → Matches (answer_of p Announce i j).state
  pub marks : (p : Panel) (i j : ℕ) → ((answer_of p Announce i j).state.firmware ≡ p.firmware) × ((answer_of p Announce i j).state.map ≡ p.map)
  -- and every step of a sound panel that is closed is 4
  pub last : (p : Panel) → Sound p → p.ring.closed ≡ true → (k : Kind) (i j : ℕ) → code_of (verdict_of p k i j) ≡ 4

-- 14 is answered to a take alone, and 15 to a close alone; neither to a start.
pub record NumbersAlone : Type 0 where
  pub word : (p : Panel) (a : Ask) → code_of (verdict_on p a) ≡ 14 → (i j : ℕ) × (k : ℕ) × (a ≡ Step (record { kind = k; i = i; j = j })) × (kind_of k ≡ Take)
  pub marks : (p : Panel) (a : Ask) → code_of (verdict_on p a) ≡ 15 → (i j : ℕ) × (k : ℕ) × (a ≡ Step (record { kind = k; i = i; j = j })) × (kind_of k ≡ Announce)

-- A start on a sound panel: 1 exactly where n is not from 1 to 96 or another than the panel's, 2 exactly where n is the panel's and
-- the flags are not n values from 0 to 3. An accepted one starts the ring afresh and empties the record; no start changes a mark.
pub record StartAnswered : Type 0 where
  pub accepted :
      (p : Panel) (n : ℕ) (flags : List ℕ)
      → (verdict_on p (Start n flags) ≡ Accepted) ↔ (Sound p × (n ≡ nodes p) × (ring_start.start_verdict n flags ≡ Accepted))
  pub node_count :
      (p : Panel) (n : ℕ) (flags : List ℕ)
      → (code_of (verdict_on p (Start n flags)) ≡ 1) ↔ (Sound p × ((n ≡ 0) ⊎ ((96 < n) ⊎ (n ≢ nodes p))))
  pub start_flags :
      (p : Panel) (n : ℕ) (flags : List ℕ)
      → (code_of (verdict_on p (Start n flags)) ≡ 2) ↔ (Sound p × (n ≡ nodes p) × (ring_start.flags_test n flags ≡ false))
  pub afresh :
      (p : Panel) (n : ℕ) (flags : List ℕ) → verdict_on p (Start n flags) ≡ Accepted → (start_of p n flags).state.ring ≡ ring_start.first_state n flags
  pub emptied : (p : Panel) (n : ℕ) (flags : List ℕ) → verdict_on p (Start n flags) ≡ Accepted → (start_of p n flags).state.recorded ≡ Empty
  pub firmware : (p : Panel) (n : ℕ) (flags : List ℕ) → (start_of p n flags).state.firmware ≡ p.firmware
  pub map : (p : Panel) (n : ℕ) (flags : List ℕ) → (start_of p n flags).state.map ≡ p.map

-- What is read: of a sound panel the record, and the marks of a node of it; 3 of every other panel, 6 of a node that it does not have.
pub record PanelRead : Type 0 where
  pub record_told : (p : Panel) → Sound p → (code_of (record_answer p).verdict ≡ 0) × ((record_answer p).number ≡ record_number p.recorded)
  pub record_unsound : (p : Panel) → (Sound p → ⊥) → code_of (record_answer p).verdict ≡ 3
  pub marks_are_told :
      (p : Panel) → Sound p → (i : ℕ) → i < nodes p
      → (code_of (marks_answer p i).verdict ≡ 0) × ((marks_answer p i).number ≡ marks_number (firmware_at p i) (map_at p i))
  pub marks_outside : (p : Panel) → Sound p → (i : ℕ) → nodes p ≤ i → code_of (marks_answer p i).verdict ≡ 6
  pub marks_unsound : (p : Panel) → (Sound p → ⊥) → (i : ℕ) → code_of (marks_answer p i).verdict ≡ 3

-- Fields that a kind does not use are not read: send and take use both numbers, an unknown kind none, and all kind numbers outside 1 to 6 are
-- answered alike.
pub record PanelUnread : Type 0 where
  pub idle : (p : Panel) (i j j' : ℕ) → answer_of p Idle i j ≡ answer_of p Idle i j'
  pub probe : (p : Panel) (i i' j j' : ℕ) → answer_of p Probe i j ≡ answer_of p Probe i' j'
  pub pass : (p : Panel) (i j j' : ℕ) → answer_of p Pass i j ≡ answer_of p Pass i j'
  pub close : (p : Panel) (i i' j j' : ℕ) → answer_of p Announce i j ≡ answer_of p Announce i' j'
  pub unknown : (p : Panel) (i i' j j' : ℕ) → answer_of p Unknown i j ≡ answer_of p Unknown i' j'
  pub other_kinds :
      (p : Panel) (k k' : ℕ) → (k ≡ 0) ⊎ (6 < k) → (k' ≡ 0) ⊎ (6 < k') → (i i' j j' : ℕ)
      → answer_of p (kind_of k) i j ≡ answer_of p (kind_of k') i' j'
