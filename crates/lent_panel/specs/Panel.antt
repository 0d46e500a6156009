-- Q-7: a panel that is lent field by field: the fields of its ring, two columns of marks, 1 new and 0 old, and the record, 0 empty, 1 old, 2 new.
-- Truths are bytes as in the ring's fields; a mark's byte above 1 or a record above 2 makes a state that is not sound.
use Rattle.std.specs.Prelude.{ℕ, eqb, leb, ℤ, Bool, ◌&&◌, cond, List, ◌≡◌}
use Rattle.flag_bytes.specs.Flags.{are_flags, byte_of, bytes_of, flags_of}
use Rattle.lent.specs.Ring.{Lent, lent, lent_of, state_of, truths_test}
use Rattle.panel_rules.specs.Answers.{enter_of}
use Rattle.panel_rules.specs.Asks.{Ask, answer_on, verdict_on}
use Rattle.panel_rules.specs.Soundness.{sound_test}
use Rattle.panel_rules.specs.State.{Panel, record_number}
use Rattle.panel_rules.specs.declared.record.Record.{Record}
use Rattle.panel_rules.specs.declared.record.Record.TheVariants.{Empty, New, Old}
use Rattle.refusal.specs.Table.{code_of, settle}
use Rattle.refusal.specs.declared.Refusal.TheVariants.{Unsound}
use Rattle.refusal.specs.Table.{Verdict}
use Rattle.refusal.specs.Table.{Refused}

pub record LentPanel : Type 0 where
  pub ring : Lent
  pub firmware : List ℕ
  pub map : List ℕ
  pub recorded : ℕ

abbrev pub lent_panel :
    ℕ → List ℕ → List ℕ → List ℕ → List ℕ → List ℕ → ℕ → ℤ → ℕ → ℕ → List ℕ → List ℕ → ℕ → LentPanel
lent_panel n active color sent received pending at q black closed firmware map recorded =
    record {
      ring = lent n active color sent received pending at q black closed;
      firmware = firmware;
      map = map;
      recorded = recorded;
    }

abbrev pub is_record : ℕ → Bool
is_record k = leb k 2

-- each byte that stands for a truth is 0 or 1, those of places from n on too, and the record is at most 2
unfoldable pub panel_truths : LentPanel → Bool
panel_truths l = truths_test l.ring && (are_flags l.firmware && (are_flags l.map && is_record l.recorded))

-- the record that a number says
abbrev pub record_of : ℕ → Record
record_of k = cond (eqb k 0) Empty (cond (eqb k 1) Old New)

-- the panel that lies there
abbrev pub panel_in : LentPanel → Panel
panel_in l =
    record {
      ring = state_of l.ring;
      firmware = flags_of l.firmware;
      map = flags_of l.map;
      recorded = record_of l.recorded;
    }

-- the fields in which a panel lies
abbrev pub lent_panel_of : Panel → LentPanel
lent_panel_of p =
    record {
      ring = lent_of p.ring;
      firmware = bytes_of p.firmware;
      map = bytes_of p.map;
      recorded = record_number p.recorded;
    }

-- ---- entering: the number of its answer, and the fields afterwards

abbrev pub enter_number : ℕ → List ℕ → ℕ
enter_number nodes flags = code_of (enter_of nodes flags).verdict

-- those of the first panel; where entering is refused, `same`, which were lent
abbrev pub enter_fields : ℕ → List ℕ → LentPanel → LentPanel
enter_fields nodes flags same = settle (enter_of nodes flags).verdict (lent_panel_of (enter_of nodes flags).state) same

pub record EnteredTo (nodes : ℕ) (flags : List ℕ) (number : ℕ) (before after : LentPanel) : Type 0 where
  pub told : number ≡ enter_number nodes flags
  pub fields : after ≡ enter_fields nodes flags before

-- ---- soundness: 1 where the panel is sound, else 0

abbrev pub panel_sound_number : LentPanel → ℕ
panel_sound_number l = byte_of (panel_truths l && sound_test (panel_in l))

-- ---- a start or a step: the number of its answer, and the fields afterwards

abbrev pub ask_verdict : LentPanel → Ask → Verdict
ask_verdict l a = cond (panel_truths l) (verdict_on (panel_in l) a) (Refused Unsound)

abbrev pub ask_number : LentPanel → Ask → ℕ
ask_number l a = code_of (ask_verdict l a)

-- those of the next panel; where the request is refused, those that were lent
abbrev pub ask_fields : LentPanel → Ask → LentPanel
ask_fields l a = settle (ask_verdict l a) (lent_panel_of (answer_on (panel_in l) a).state) l

pub record AskedTo (l : LentPanel) (a : Ask) (number : ℕ) (after : LentPanel) : Type 0 where
  pub told : number ≡ ask_number l a
  pub fields : after ≡ ask_fields l a
