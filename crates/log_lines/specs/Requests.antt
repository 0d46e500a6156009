-- What a step's form asks of a ring, and of a tree.
use Rattle.std.specs.Prelude.{Bool, false, true, ◌≡◌}
use Rattle.forms.specs.declared.RingStep.{RingStep}
use Rattle.forms.specs.declared.TreeStep.{TreeStep}
use Rattle.log_rules.specs.Answers.{is_move, ring_request, tree_request}
use Rattle.ring_rules.specs.declared.request.Request.{Request}
use Rattle.table.specs.Request.{by_number}
use Rattle.ring_rules.specs.declared.request.Request.TheVariants as requests
use Rattle.tree_rules.specs.Request as tree
use Rattle.tree_rules.specs.Rules as tree_kinds
use Rattle.tree_rules.specs.declared.request.Request as trees

abbrev pub moves_token : Request → Bool
moves_token (requests.Send i j) = false
moves_token (requests.Take i n) = false
moves_token (requests.Idle i) = false
moves_token requests.Probe = true
moves_token (requests.Pass i) = true
moves_token requests.Announce = false

-- the request of a ring is the one that the definitions give the form
pub record Asks (f : RingStep) (x : Request) : Type 0 where
  pub numbers : by_number x ≡ ring_request f
  pub token : moves_token x ≡ is_move f

-- and of a tree
pub record AsksTree (f : TreeStep) (x : trees.Request) : Type 0 where
  pub kind : tree.kind_of_request x ≡ tree_kinds.kind_of (tree_request f).kind
  pub first : tree.first_number x ≡ (tree_request f).i
  pub second : tree.second_number x ≡ (tree_request f).j
