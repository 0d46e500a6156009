-- A panel is a ring, for each of its nodes a firmware mark and a map mark, and a record.
use Rattle.std.specs.Prelude.{◌+◌, ◌<◌, ℕ, get_or, replicate, Bool, ◌&&◌, ◌||◌, cond, false, not, true, List, ◌≡◌}
use Rattle.laws.specs.Places.{all_to}
use Rattle.panel_rules.specs.declared.record.Record.{Record}
use Rattle.panel_rules.specs.declared.record.Record.TheVariants.{Empty, New, Old}
use Rattle.ring_rules.specs.State.{State}

-- A mark is new where it is true, and else old. Marks have a place for each of 96 nodes, as the ring's columns have.
pub record Panel : Type 0 where
  pub ring : State
  pub firmware : List Bool
  pub map : List Bool
  pub recorded : Record

abbrev pub nodes : Panel → ℕ
nodes p = p.ring.n

abbrev pub firmware_at : Panel → ℕ → Bool
firmware_at p i = get_or p.firmware i false

abbrev pub map_at : Panel → ℕ → Bool
map_at p i = get_or p.map i false

-- the record that a mark's word is
abbrev pub word_of : Bool → Record
word_of true = New
word_of false = Old

-- every firmware and map mark of every node is this word, as a fact
pub record AllAre (word : Bool) (p : Panel) : Type 0 where
  pub firmware : (i : ℕ) → i < nodes p → firmware_at p i ≡ word
  pub map : (i : ℕ) → i < nodes p → map_at p i ≡ word

-- does a mark say this word
abbrev pub says : Bool → Bool → Bool
says true mark = mark
says false mark = not mark

-- do both marks of each node say this word
unfoldable pub all_say_word : Bool → ℕ → List Bool → List Bool → Bool
all_say_word word n firmware map = all_to n (λ i. says word (get_or firmware i false) && says word (get_or map i false))

-- do all marks of all nodes agree, and the word that they then say
unfoldable pub agreed : Panel → Bool
agreed p = all_say_word true (nodes p) p.firmware p.map || all_say_word false (nodes p) p.firmware p.map

abbrev pub agreed_word : Panel → Record
agreed_word p = word_of (all_say_word true (nodes p) p.firmware p.map)

-- a panel that is first entered with this ring: all marks old, the record empty
abbrev pub entered : State → Panel
entered r = record { ring = r; firmware = replicate 96 false; map = replicate 96 false; recorded = Empty }

-- ---- what is read of a panel, as numbers

-- the record: 0 empty, 1 old, 2 new
abbrev pub record_number : Record → ℕ
record_number Empty = 0
record_number Old = 1
record_number New = 2

-- a node's marks: lowest bit firmware new, next bit map new
abbrev pub marks_number : Bool → Bool → ℕ
marks_number firmware map = cond firmware 1 0 + cond map 2 0
