-- What the contracts of the panel's exported functions add up to, of every number that they can answer; the proofs are in proofs/Theorems.antt.
use Rattle.std.specs.Prelude.{◌+◌, ◌<◌, ℕ, get_or, true, List, ◌≡◌}
use Rattle.flag_bytes.specs.Flags.{byte_of}
use Rattle.lent.specs.Theorems.{NoFlag}
use Rattle.lent_panel.specs.Calls.{fields_after}
use Rattle.lent_panel.specs.Panel.{AskedTo, EnteredTo, LentPanel, ask_number, lent_panel_of, panel_in, panel_sound_number, panel_truths}
use Rattle.panel_rules.specs.Answers.{enter_of}
use Rattle.panel_rules.specs.Asks.{Ask, Start, Step, answer_on, panel, verdict_on}
use Rattle.panel_rules.specs.Soundness.{sound_test}
use Rattle.panel_rules.specs.State.{Panel}
use Rattle.panel_runs.specs.Counts.{AgreeBy, QuietBy, released_by}
use Rattle.panel_runs.specs.WholeRun.{Point}
use Rattle.refusal.specs.Table.{code_of, settle}
use Rattle.ring_rules.specs.Rules.{Announce}
use Rattle.ring_runs.specs.Counts.{kind}
use Rattle.runs.specs.Runs.{Request, run_of}

-- "A refusal gives its number and the state handed in; no byte of a lent buffer differs": where the number is not 0, every lent field is as it was
pub record PanelRefusalsKeep : Type 0 where
  pub enter :
      {nodes number : ℕ} {flags : List ℕ} {before after : LentPanel} → EnteredTo nodes flags number before after → (number ≡ 0 → ⊥)
      → after ≡ before
  pub ask : {l after : LentPanel} {a : Ask} {number : ℕ} → AskedTo l a number after → (number ≡ 0 → ⊥) → after ≡ l
  -- whatever it is answered, a request leaves the number of nodes, and a start every byte of both columns of marks
  pub nodes : {l after : LentPanel} {a : Ask} {number : ℕ} → AskedTo l a number after → after.ring.n ≡ l.ring.n
  pub start_marks :
      {l after : LentPanel} {n number : ℕ} {flags : List ℕ} → AskedTo l (Start n flags) number after
      → (after.firmware ≡ l.firmware) × (after.map ≡ l.map)

-- a byte above 1 where a truth is lent, at whatever place, or a record above 2
pub data NoPanelFlag (l : LentPanel) : Type 0 where
  in_ring : NoFlag l.ring → NoPanelFlag l
  in_firmware : (k : ℕ) → 1 < get_or l.firmware k 0 → NoPanelFlag l
  in_map : (k : ℕ) → 1 < get_or l.map k 0 → NoPanelFlag l
  in_record : 2 < l.recorded → NoPanelFlag l

-- "any state handed in, 3, not sound": such a byte is answered 3, whatever the request, and told as not sound
pub record PanelBytesJudged : Type 0 where
  pub ask : {l after : LentPanel} {a : Ask} {number : ℕ} → NoPanelFlag l → AskedTo l a number after → number ≡ 3
  pub sound : {l : LentPanel} → NoPanelFlag l → panel_sound_number l ≡ 0

-- the fields that a panel is put into hold truths as bytes, and the very panel; where each byte that stands for a truth is 0 or 1 and the record is
-- at most 2, the fields are those of the panel that lies there
pub record PanelFieldsHold : Type 0 where
  pub panel : (p : Panel) → (panel_truths (lent_panel_of p) ≡ true) × (panel_in (lent_panel_of p) ≡ p)
  pub panel_back : (l : LentPanel) → panel_truths l ≡ true → lent_panel_of (panel_in l) ≡ l

-- every entering, start and step that is accepted leaves fields that are told as sound
pub record PanelSoundLeft : Type 0 where
  pub enter : {nodes : ℕ} {flags : List ℕ} {before after : LentPanel} → EnteredTo nodes flags 0 before after → panel_sound_number after ≡ 1
  pub ask : {l after : LentPanel} {a : Ask} → AskedTo l a 0 after → panel_sound_number after ≡ 1

-- each call is the operation by value, of the panel that is lent and of the very numbers that are handed in, whatever their size
pub record PanelCallsAnswer : Type 0 where
  pub enter :
      {nodes number : ℕ} {flags : List ℕ} {before after : LentPanel} → EnteredTo nodes flags number before after
      → (number ≡ code_of (enter_of nodes flags).verdict)
      × (after ≡ settle (enter_of nodes flags).verdict (lent_panel_of (enter_of nodes flags).state) before)
  pub ask :
      (p : Panel) {a : Ask} {number : ℕ} {after : LentPanel} → AskedTo (lent_panel_of p) a number after
      → (number ≡ code_of (answer_on p a).verdict) × (after ≡ lent_panel_of (answer_on p a).state)
  pub sound : (p : Panel) → panel_sound_number (lent_panel_of p) ≡ byte_of (sound_test p)

-- After the starts and steps ls on the fields l of a panel: they are a run of the panel.
pub record PanelCalls (l : LentPanel) (ls : List Ask) : Type 0 where
  pub fields : fields_after l ls ≡ lent_panel_of (run_of panel (panel_in l) ls)
  -- each call tells the number of the answer that this run gives next
  pub told : (a : Ask) → ask_number (fields_after l ls) a ≡ code_of (verdict_on (run_of panel (panel_in l) ls) a)
  pub sound : panel_sound_number (fields_after l ls) ≡ 1
  pub nodes : (fields_after l ls).ring.n ≡ l.ring.n
  -- demand 3 of that run; a close is told 0 only if it is quiet and all marks agree
  pub point : Point (panel_in l) ls
  pub close :
      (x : Request) → kind x ≡ Announce → ask_number (fields_after l ls) (Step x) ≡ 0 → QuietBy (panel_in l) ls × AgreeBy (panel_in l) ls
  -- whoever opens a released panel finds a record that is not 0, each byte of a node's marks one less, and every step is told 4
  pub released :
      released_by (panel_in l) ls ≡ true → (b : ℕ) → b < l.ring.n
      → ((fields_after l ls).recorded ≡ get_or (fields_after l ls).firmware b 0 + 1) × ((fields_after l ls).recorded ≡ get_or (fields_after l ls).map b 0 + 1)
  pub last : released_by (panel_in l) ls ≡ true → (x : Request) → ask_number (fields_after l ls) (Step x) ≡ 4

-- for every such list on all fields that are told as sound; those that an accepted entering leaves are
pub record WholePanelCalls : Type 0 where
  pub calls : (l : LentPanel) → panel_sound_number l ≡ 1 → (ls : List Ask) → PanelCalls l ls
  pub entered :
      {nodes : ℕ} {flags : List ℕ} {before after : LentPanel} → EnteredTo nodes flags 0 before after
      → (panel_sound_number after ≡ 1) × (panel_in after ≡ (enter_of nodes flags).state)
