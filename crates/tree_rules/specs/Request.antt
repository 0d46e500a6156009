-- A request as its kind and its numbers.
use Rattle.std.specs.Prelude.{◌≡◌, ℕ, cond, eqb, Result, Ok, Err}
use Rattle.refusal.specs.declared.Refusal.{Refusal}
use Rattle.refusal.specs.declared.Refusal.TheVariants as refusals
use Rattle.tree_rules.specs.Answers.{Answer, answer_of}
use Rattle.tree_rules.specs.Rules.{Kind, Send, Take, Idle, Ack, Leave, Announce}
use Rattle.tree_rules.specs.State.{State}
use Rattle.tree_rules.specs.declared.request.Request.{Request}
use Rattle.tree_rules.specs.declared.request.Request.TheVariants as requests
use Rattle.tree_rules.specs.declared.request.UnknownKind.{UnknownKind}

abbrev pub kind_of_request : Request → Kind
kind_of_request (requests.Send i j) = Send
kind_of_request (requests.Take i k) = Take
kind_of_request (requests.Idle i) = Idle
kind_of_request (requests.Ack i) = Ack
kind_of_request (requests.Leave i) = Leave
kind_of_request requests.Announce = Announce

abbrev pub first_number : Request → ℕ
first_number (requests.Send i j) = i
first_number (requests.Take i k) = i
first_number (requests.Idle i) = i
first_number (requests.Ack i) = i
first_number (requests.Leave i) = i
first_number requests.Announce = 0

abbrev pub second_number : Request → ℕ
second_number (requests.Send i j) = j
second_number (requests.Take i k) = k
second_number (requests.Idle i) = 0
second_number (requests.Ack i) = 0
second_number (requests.Leave i) = 0
second_number requests.Announce = 0

abbrev pub request_of : ℕ → ℕ → ℕ → Result Request UnknownKind
request_of k i j =
    cond (eqb k 1) (Ok (requests.Send i j))
    (cond (eqb k 2) (Ok (requests.Take i j)) (cond (eqb k 3) (Ok (requests.Idle i)) (cond (eqb k 4) (Ok (requests.Ack i))
    (cond (eqb k 5) (Ok (requests.Leave i)) (cond (eqb k 6) (Ok requests.Announce) (Err (record { 0 = k })))))))

abbrev pub IsRequestOf : (ℕ × ℕ × ℕ) → Result Request UnknownKind → Type 0
IsRequestOf x r = r ≡ request_of x.0 x.1 x.2

abbrev pub UnknownIsRefused : UnknownKind → Refusal → Type 0
UnknownIsRefused u e = e ≡ refusals.UnknownKind

-- a request is answered as its kind and its numbers are
abbrev pub answer_to : State → Request → Answer
answer_to t x = answer_of t (kind_of_request x) (first_number x) (second_number x)
