-- Calls of other languages on one ring, each on the fields that the last one left: steps and drives, refused ones included.
use Rattle.std.specs.Prelude.{suc, zero, ℕ, eqb, cond, List, [], ◌++◌, ◌∷◌}
use Rattle.lent.specs.Ring.{Lent, drive_fields, drive_moves, drive_number, state_of, step_fields, step_number}
use Rattle.ring_rules.specs.Driver.{move_of}
use Rattle.ring_rules.specs.State.{State}
use Rattle.runs.specs.Runs.{Request}

-- a step, or the driver with its limit
pub data RingCall : Type 0 where
  step : Request → RingCall
  drive : ℕ → RingCall

-- the number that a call tells
abbrev pub number_told : Lent → RingCall → ℕ
number_told l (step x) = step_number l x.kind x.i x.j
number_told l (drive m) = drive_number l m

-- the fields that it leaves
abbrev pub fields_left : Lent → RingCall → Lent
fields_left l (step x) = step_fields l x.kind x.i x.j
fields_left l (drive m) = drive_fields l m

unfoldable pub fields_after : Lent → List RingCall → Lent
fields_after l [] = l
fields_after l (c ∷ cs) = fields_after (fields_left l c) cs

-- ---- the requests that calls come to: a step is one; a drive is the token moves that it tells, none where it is refused

-- the move that the token's position leaves: probe at node 0, and pass elsewhere
abbrev pub move_request : State → Request
move_request r = record { kind = cond (eqb r.pos 0) 4 5; i = r.pos; j = 0 }

unfoldable pub move_requests : ℕ → State → List Request
move_requests zero r = []
move_requests (suc d) r = move_request r ∷ move_requests d (move_of r)

abbrev pub requests_of : Lent → RingCall → List Request
requests_of l (step x) = x ∷ []
requests_of l (drive m) = move_requests (drive_moves l m 0) (state_of l)

unfoldable pub requests_in : Lent → List RingCall → List Request
requests_in l [] = []
requests_in l (c ∷ cs) = requests_of l c ++ requests_in (fields_left l c) cs
