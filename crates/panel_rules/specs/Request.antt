-- A request by name at the station: a take's second number is its job word, and an announcement closes the panel.
use Rattle.panel_rules.specs.Answers.{Answer, answer_of}
use Rattle.panel_rules.specs.State.{Panel}
use Rattle.ring_rules.specs.Request.{first_number, kind_of_request, second_number}
use Rattle.ring_rules.specs.declared.request.Request.{Request}

-- it is answered as its kind and its numbers are
abbrev pub answer_to : Panel → Request → Answer
answer_to p x = answer_of p (kind_of_request x) (first_number x) (second_number x)
