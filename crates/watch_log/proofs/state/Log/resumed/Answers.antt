use mathlib.Core.List.{List}
use mathlib.Core.Path.{◌∙◌, ap, subst, sym}
use Prim.Native.Nat.{ℕ}
use Rattle.log_rules.specs.Pieces.{PartLine, empty}
use Rattle.watch_log.proofs.Kept.{goes_on, itself, kept_part}
use Rattle.watch_log.specs.Held.{kept}
use Rattle.watch_log.proofs.state.Log.resumed.Goals as goal

pub invariant_of-result : goal.invariant_of-result
invariant_of-result c = record {
  sound = c.requires.sound;
  most = c.requires.most;
  part =
      subst PartLine (sym (c.extend.ensures ∙ ap (λ (x : List ℕ). kept x c.args.held.now) c.new-line.ensures))
      (kept_part c.requires.part (itself empty)).held_part;
}

pub returns : goal.returns
returns c = goes_on _ _ c.requires.part (c.extend.ensures ∙ ap (λ (x : List ℕ). kept x c.args.held.now) c.new-line.ensures)
