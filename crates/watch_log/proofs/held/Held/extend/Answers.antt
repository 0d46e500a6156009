use mathlib.Core.Path.{◌∙◌, sym}
use native.Mathlib.Omega.{arith}
use Rattle.watch_log.proofs.Kept.{kept_all, kept_next}
use Rattle.watch_log.specs.Held.{held_line}
use Rattle.watch_log.proofs.held.Held.extend.Goals as goal

pub loop-byte-preserved : goal.loop-byte-preserved
loop-byte-preserved c =
    rw c.push.ensures (sym (kept_next _ _ _ c.loop-byte-test.true) ∙ c.loop-byte.invariant)

pub returns : goal.returns
returns c =
    sym (kept_all (held_line c.loop-byte.self) c.args.bytes.now c.loop-byte.byte-index (omega (arith, c.loop-byte-test.false))) ∙ c.loop-byte.invariant
