-- A ring that is lent field by field, truths as bytes: 1 is true, 0 is false. A byte above 1 where a truth is lent makes a state that is
-- not sound ("any state handed in, 3, not sound"). "A refusal gives its number and the state handed in; no byte of a lent buffer differs."
use Rattle.std.specs.Prelude.{ℕ, ℤ, Bool, ◌&&◌, cond, List, ◌≡◌}
use Rattle.flag_bytes.specs.Flags.{are_flags, byte_of, bytes_of, flag_of, flags_of, is_flag}
use Rattle.refusal.specs.Table.{code_of, settle}
use Rattle.refusal.specs.declared.Refusal.TheVariants.{Unsound}
use Rattle.refusal.specs.Table.{Verdict}
use Rattle.refusal.specs.Table.{Refused}
use Rattle.ring_rules.specs.Answers.{step_of}
use Rattle.ring_rules.specs.Driver.{drive_of, reason_number, reason_verdict}
use Rattle.ring_rules.specs.Soundness.{sound_test}
use Rattle.ring_rules.specs.Start.{start_of}
use Rattle.ring_rules.specs.State.{State}
use Rattle.ring_rules.specs.Driver.{Reason}
use Rattle.ring_rules.specs.Driver.{Stopped}

pub record Lent : Type 0 where
  pub n : ℕ
  pub active : List ℕ
  pub color : List ℕ
  pub sent : List ℕ
  pub received : List ℕ
  pub pending : List ℕ
  pub pos : ℕ
  pub q : ℤ
  pub black : ℕ
  pub closed : ℕ

abbrev pub lent : ℕ → List ℕ → List ℕ → List ℕ → List ℕ → List ℕ → ℕ → ℤ → ℕ → ℕ → Lent
lent n active color sent received pending at q black closed =
    record {
      n = n;
      active = active;
      color = color;
      sent = sent;
      received = received;
      pending = pending;
      pos = at;
      q = q;
      black = black;
      closed = closed;
    }

-- each byte that stands for a truth is 0 or 1, those of places from n on too
unfoldable pub truths_test : Lent → Bool
truths_test l = are_flags l.active && (is_flag l.black && is_flag l.closed)

-- the ring that lies there
abbrev pub state_of : Lent → State
state_of l =
    record {
      n = l.n;
      active = flags_of l.active;
      color = l.color;
      sent = l.sent;
      received = l.received;
      pending = l.pending;
      pos = l.pos;
      q = l.q;
      black = flag_of l.black;
      closed = flag_of l.closed;
    }

-- the fields in which a ring lies
abbrev pub lent_of : State → Lent
lent_of r =
    record {
      n = r.n;
      active = bytes_of r.active;
      color = r.color;
      sent = r.sent;
      received = r.received;
      pending = r.pending;
      pos = r.pos;
      q = r.q;
      black = byte_of r.black;
      closed = byte_of r.closed;
    }

-- ---- a start: the number of its answer, and the fields afterwards

abbrev pub start_number : ℕ → List ℕ → ℕ
start_number nodes flags = code_of (start_of nodes flags).verdict

-- those of the first state; where the start is refused, `same`, which were lent
abbrev pub start_fields : ℕ → List ℕ → Lent → Lent
start_fields nodes flags same = settle (start_of nodes flags).verdict (lent_of (start_of nodes flags).state) same

pub record StartedTo (nodes : ℕ) (flags : List ℕ) (number : ℕ) (before after : Lent) : Type 0 where
  pub told : number ≡ start_number nodes flags
  pub fields : after ≡ start_fields nodes flags before

-- ---- soundness: 1 where the ring is sound, else 0

abbrev pub sound_number : Lent → ℕ
sound_number l = byte_of (truths_test l && sound_test (state_of l))

-- ---- a step: the number of its answer, and the fields afterwards

abbrev pub step_verdict : Lent → ℕ → ℕ → ℕ → Verdict
step_verdict l kind i j = cond (truths_test l) (step_of (state_of l) kind i j).verdict (Refused Unsound)

abbrev pub step_number : Lent → ℕ → ℕ → ℕ → ℕ
step_number l kind i j = code_of (step_verdict l kind i j)

abbrev pub step_fields : Lent → ℕ → ℕ → ℕ → Lent
step_fields l kind i j = settle (step_verdict l kind i j) (lent_of (step_of (state_of l) kind i j).state) l

pub record SteppedTo (l : Lent) (kind i j number : ℕ) (after : Lent) : Type 0 where
  pub told : number ≡ step_number l kind i j
  pub fields : after ≡ step_fields l kind i j

-- ---- the driver: the number of its reason, its moves, and the fields afterwards

abbrev pub drive_reason : Lent → ℕ → Reason
drive_reason l limit = cond (truths_test l) (drive_of (state_of l) limit).reason (Stopped Unsound)

abbrev pub drive_verdict : Lent → ℕ → Verdict
drive_verdict l limit = reason_verdict (drive_reason l limit)

abbrev pub drive_number : Lent → ℕ → ℕ
drive_number l limit = reason_number (drive_reason l limit)

-- the moves made; where the driver is refused, `same`, which was lent
abbrev pub drive_moves : Lent → ℕ → ℕ → ℕ
drive_moves l limit same = settle (drive_verdict l limit) (drive_of (state_of l) limit).moves same

abbrev pub drive_fields : Lent → ℕ → Lent
drive_fields l limit = settle (drive_verdict l limit) (lent_of (drive_of (state_of l) limit).state) l

pub record DrivenTo (l : Lent) (limit number moves moves' : ℕ) (after : Lent) : Type 0 where
  pub told : number ≡ drive_number l limit
  pub made : moves' ≡ drive_moves l limit moves
  pub fields : after ≡ drive_fields l limit
