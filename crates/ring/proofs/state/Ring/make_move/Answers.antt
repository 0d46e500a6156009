use Rattle.std.proofs.Common.{◌≡◌, ℕ, ap, sym, ◌∙◌}
use Rattle.ring_rules.specs.Answers.{Answer, answer_of}
use Rattle.ring_rules.specs.Rules.{Pass}
use Rattle.ring_rules.specs.State.{State}
use Rattle.ring.proofs.Handed.{handed_state}
use Rattle.ring.proofs.Moves.{pass_moves, probe_moves}
use Rattle.ring.proofs.state.Ring.make_move.Goals as goal

pub returns-then-position-eq0 : goal.returns-then-position-eq0
returns-then-position-eq0 c =
    sym (handed_state c.apply_probe.result _) ∙ ap (λ (a : Answer). a.state) c.apply_probe.ensures
    ∙ probe_moves _ c.requires.0 c.requires.1 (ap (λ (s : State). s.pos) (sym c.self.view_is) ∙ c.if-position-eq0.true)

pub returns : goal.returns
returns c =
    let e : c.self.inside.pos ≡ c.args.self.now.pos = ap (λ (s : State). s.pos) c.self.view_is in
    sym (handed_state c.apply_pass.result _) ∙ ap (λ (a : Answer). a.state) c.apply_pass.ensures
    ∙ ap (λ (p : ℕ). (answer_of c.args.self.now Pass p 0).state) e
    ∙ pass_moves _ c.requires.0 c.requires.1 (λ z. c.if-position-eq0.false (e ∙ z))
