-- A start: only the root is active and engaged.
use Rattle.std.specs.Prelude.{ℕ, leb, ltb, replicate, set, ◌&&◌, false, not, true, List, [], ◌∷◌}
use Rattle.refusal.specs.Table.{Row, ◌⟶◌, first_of, settle}
use Rattle.refusal.specs.declared.Refusal.TheVariants.{NodeCount, UnknownNode}
use Rattle.refusal.specs.Table.{Verdict}
use Rattle.tree_rules.specs.Answers.{Answer}
use Rattle.tree_rules.specs.State.{State}

-- the first state: no message, no acknowledgement
unfoldable pub first_state : ℕ → ℕ → State
first_state n root =
    record {
      n = n;
      root = root;
      active = set (replicate 16 false) root true;
      engager = set (replicate 16 16) root root;
      unacked = replicate 16 0;
      transit = replicate 256 0;
      acks = replicate 16 0;
      sends = 0;
      closed = false;
    }

-- A refused start yields no state: what stands in its place is this blank, of no nodes. It is not sound, so that every use of it
-- is refused with 3.
unfoldable pub blank : State
blank =
    record {
      n = 0;
      root = 0;
      active = replicate 16 false;
      engager = replicate 16 16;
      unacked = replicate 16 0;
      transit = replicate 256 0;
      acks = replicate 16 0;
      sends = 0;
      closed = false;
    }

abbrev pub start_table : ℕ → ℕ → List Row
start_table n root =
    (not (ltb 0 n && leb n 16) ⟶ NodeCount)
    ∷ (leb n root ⟶ UnknownNode)
    ∷ []

unfoldable pub start_verdict : ℕ → ℕ → Verdict
start_verdict n root = first_of (start_table n root)

unfoldable pub start_of : ℕ → ℕ → Answer
start_of n root = record { verdict = start_verdict n root; state = settle (start_verdict n root) (first_state n root) blank }
