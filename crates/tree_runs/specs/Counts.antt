-- Document 01, "Whole runs": what is counted at a point of a run, from the first state and the requests accepted so far alone.
use Rattle.std.specs.Prelude.{◌+◌, ◌-◌, ◌<◌, ℕ, eqb, Bool, ◌&&◌, ◌||◌, cond, false, not, true, List, [], ◌∷◌, ◌≡◌}
use Rattle.laws.specs.Sums.{count_to}
use Rattle.runs.specs.Runs.{Machine, Request, accepted_of}
use Rattle.tree_rules.specs.Answers.{verdict_of}
use Rattle.tree_rules.specs.Rules.{Ack, Announce, Idle, Kind, Leave, Send, Take, Unknown, effect, kind_of}
use Rattle.tree_rules.specs.State.{State, active_at, engaged, transit_at}
use Rattle.tree_rules.specs.Termination.{Closing, acks_total}

-- the tree as a machine that takes requests
abbrev pub tree : Machine State Request
tree =
    record {
      verdict = λ t x. verdict_of t (kind_of x.kind) x.i x.j;
      effect = λ t x. effect t (kind_of x.kind) x.i x.j;
    }

abbrev pub kind : Request → Kind
kind x = kind_of x.kind

-- ---- what one accepted request of a kind says

-- of node b's activity, where it was a before
abbrev pub active_next : Kind → ℕ → Bool → ℕ → Bool
active_next Send i a b = a
active_next Take i a b = cond (eqb i b) true a
active_next Idle i a b = cond (eqb i b) false a
active_next Ack i a b = a
active_next Leave i a b = a
active_next Announce i a b = a
active_next Unknown i a b = a

-- of node b's engagement, where it was e before
abbrev pub engaged_next : Kind → ℕ → Bool → ℕ → Bool
engaged_next Send i e b = e
engaged_next Take i e b = cond (eqb i b) true e
engaged_next Idle i e b = e
engaged_next Ack i e b = e
engaged_next Leave i e b = cond (eqb i b) false e
engaged_next Announce i e b = e
engaged_next Unknown i e b = e

-- 1 for a send, else 0
abbrev pub sending : Kind → ℕ
sending Send = 1
sending Take = 0
sending Idle = 0
sending Ack = 0
sending Leave = 0
sending Announce = 0
sending Unknown = 0

-- 1 for a send from b to c, else 0
abbrev pub send_between : Kind → ℕ → ℕ → ℕ → ℕ → ℕ
send_between Send i j b c = cond (eqb i b && eqb j c) 1 0
send_between Take i j b c = 0
send_between Idle i j b c = 0
send_between Ack i j b c = 0
send_between Leave i j b c = 0
send_between Announce i j b c = 0
send_between Unknown i j b c = 0

-- 1 for a take by c of a message from b, else 0
abbrev pub take_between : Kind → ℕ → ℕ → ℕ → ℕ → ℕ
take_between Send i j b c = 0
take_between Take i j b c = cond (eqb j b && eqb i c) 1 0
take_between Idle i j b c = 0
take_between Ack i j b c = 0
take_between Leave i j b c = 0
take_between Announce i j b c = 0
take_between Unknown i j b c = 0

-- 1 for an acknowledgement that sets out, else 0: at a take by a node already engaged (e), and at a leave
abbrev pub reply : Kind → Bool → ℕ
reply Send e = 0
reply Take e = cond e 1 0
reply Idle e = 0
reply Ack e = 0
reply Leave e = 1
reply Announce e = 0
reply Unknown e = 0

-- 1 for an ack, else 0
abbrev pub received : Kind → ℕ
received Send = 0
received Take = 0
received Idle = 0
received Ack = 1
received Leave = 0
received Announce = 0
received Unknown = 0

abbrev pub is_announce : Kind → Bool
is_announce Send = false
is_announce Take = false
is_announce Idle = false
is_announce Ack = false
is_announce Leave = false
is_announce Announce = true
is_announce Unknown = false

-- ---- what a list of accepted requests says

-- node b's last take or idle decides; with neither, it is as it was first
abbrev pub active_after : Bool → List Request → ℕ → Bool
active_after a [] b = a
active_after a (x ∷ xs) b = active_after (active_next (kind x) x.i a b) xs b

-- node b's last take or leave decides; with neither, it is as it was first
abbrev pub engaged_after : Bool → List Request → ℕ → Bool
engaged_after e [] b = e
engaged_after e (x ∷ xs) b = engaged_after (engaged_next (kind x) x.i e b) xs b

abbrev pub sends_in : List Request → ℕ
sends_in [] = 0
sends_in (x ∷ xs) = sending (kind x) + sends_in xs

abbrev pub sends_between : List Request → ℕ → ℕ → ℕ
sends_between [] b c = 0
sends_between (x ∷ xs) b c = send_between (kind x) x.i x.j b c + sends_between xs b c

abbrev pub takes_between : List Request → ℕ → ℕ → ℕ
takes_between [] b c = 0
takes_between (x ∷ xs) b c = take_between (kind x) x.i x.j b c + takes_between xs b c

-- the nodes engaged before the list are given
abbrev pub replies_in : (ℕ → Bool) → List Request → ℕ
replies_in e [] = 0
replies_in e (x ∷ xs) = reply (kind x) (e x.i) + replies_in (λ b. engaged_next (kind x) x.i (e b) b) xs

abbrev pub received_in : List Request → ℕ
received_in [] = 0
received_in (x ∷ xs) = received (kind x) + received_in xs

abbrev pub announced_in : List Request → Bool
announced_in [] = false
announced_in (x ∷ xs) = is_announce (kind x) || announced_in xs

-- acknowledgements and leavings alone
pub data AllClosing : List Request → Type 0 where
  no_request : AllClosing []
  closing_first : {x : Request} {xs : List Request} → Closing (kind x) → AllClosing xs → AllClosing (x ∷ xs)

-- ---- the counts at the point after xs, of a run from t

-- is node b active
abbrev pub active_by : State → List Request → ℕ → Bool
active_by t xs b = active_after (active_at t b) (accepted_of tree t xs) b

-- is node b engaged
abbrev pub engaged_by : State → List Request → ℕ → Bool
engaged_by t xs b = engaged_after (engaged t b) (accepted_of tree t xs) b

-- messages in transit from b to c: those in the first state, plus the accepted sends, less those that c took
abbrev pub transit_by : State → List Request → ℕ → ℕ → ℕ
transit_by t xs b c = transit_at t b c + sends_between (accepted_of tree t xs) b c - takes_between (accepted_of tree t xs) b c

-- demand 3's A, acknowledgements under way: those in the first state, plus those that set out, less the accepted acks
abbrev pub acks_by : State → List Request → ℕ
acks_by t xs = acks_total t + replies_in (engaged t) (accepted_of tree t xs) - received_in (accepted_of tree t xs)

-- demand 3's E, engaged nodes besides the root
abbrev pub others_by : State → List Request → ℕ
others_by t xs = count_to 16 (λ b. not (eqb b t.root) && engaged_by t xs b)

-- sends made: those that the first state counts, plus the accepted ones
abbrev pub sends_by : State → List Request → ℕ
sends_by t xs = t.sends + sends_in (accepted_of tree t xs)

-- every node is passive and no message is in transit
pub record QuietBy (t : State) (xs : List Request) : Type 0 where
  pub passive : (b : ℕ) → b < t.n → active_by t xs b ≡ false
  pub empty : (b c : ℕ) → b < t.n → c < t.n → transit_by t xs b c ≡ 0

-- an announcement was accepted
abbrev pub Announced : State → List Request → Type 0
Announced t xs = announced_in (accepted_of tree t xs) ≡ true

abbrev pub Unannounced : State → List Request → Type 0
Unannounced t xs = announced_in (accepted_of tree t xs) ≡ false
