-- A lent ring as the code has it.
use Rattle.std.specs.Prelude.{◌≡◌, ◌&&◌, ℕ, Bool, cond, Result, Ok, Err}
use Rattle.lent.specs.Ring.{DrivenTo, Lent, lent_of, state_of, truths_test}
use Rattle.refusal.specs.declared.Refusal.{Refusal}
use Rattle.refusal.specs.declared.Refusal.TheVariants.{Unsound}
use Rattle.refusal.specs.Table.{number_of}
use Rattle.ring_rules.specs.Driver.{reason_number}
use Rattle.ring_rules.specs.Reasons.{reason_of}
use Rattle.ring_rules.specs.Soundness.{sound_test}
use Rattle.ring_rules.specs.State.{State}
use Rattle.ring_rules.specs.declared.Reason.{Reason}

-- a ring put into fields
abbrev pub IsLentOf : State → Lent → Type 0
IsLentOf r l = l ≡ lent_of r

-- the ring that lies in them
abbrev pub ring_in : Lent → Result State Refusal
ring_in l = cond (truths_test l) (Ok (state_of l)) (Err Unsound)

abbrev pub found_sound : Lent → Bool
found_sound l = truths_test l && sound_test (state_of l)

-- the driver in place: its number and its moves; where it is refused, `same` moves, whatever number that is
abbrev pub drove_number : Result (Reason × ℕ) Refusal → ℕ
drove_number (Ok x) = reason_number (reason_of x.0)
drove_number (Err e) = number_of e

abbrev pub drove_moves : Result (Reason × ℕ) Refusal → ℕ → ℕ
drove_moves (Ok x) same = x.1
drove_moves (Err e) same = same

abbrev pub DroveTo : Lent → ℕ → Result (Reason × ℕ) Refusal → Lent → Type 0
DroveTo l limit x after = (same : ℕ) → DrivenTo l limit (drove_number x) same (drove_moves x same) after

-- only the colors and the token differ
abbrev pub IsTokenMoved : Lent → Lent → Type 0
IsTokenMoved before after =
    after ≡ record {
      n = before.n;
      active = before.active;
      color = after.color;
      sent = before.sent;
      received = before.received;
      pending = before.pending;
      pos = after.pos;
      q = after.q;
      black = after.black;
      closed = before.closed;
    }
