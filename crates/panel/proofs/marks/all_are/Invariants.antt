use Rattle.std.proofs.Common.{◌≡◌, ◌<◌, ◌↔◌, ℕ, IsTrue, false, get_or}
use Rattle.panel.proofs.marks.all_are.Given as goal

abbrev pub invariant-loop-mark : goal.invariant-loop-mark
invariant-loop-mark l = IsTrue l.same ↔ ((k : ℕ) → k < l.mark-index → get_or l.marks k false ≡ l.word)
