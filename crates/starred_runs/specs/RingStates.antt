-- Rings handed in: the start of three passive white nodes, with some fields changed.
use Rattle.std.specs.Prelude.{ℕ, ℤ, replicate, set, Bool, false, true, List, [], ◌∷◌}
use Rattle.color.specs.Colors.{blackened}
use Rattle.ring_rules.specs.Start.{opened}
use Rattle.ring_rules.specs.State.{State}

pub data Change : Type 0 where
  -- the number of nodes; the token's position, its sum, and its color white; the run closed
  nodes : ℕ → Change
  holder : ℕ → Change
  sum : ℤ → Change
  white_token : Change
  closed : Change
  -- node i active; black; with so many messages sent, received, on their way to it
  active : ℕ → Change
  black : ℕ → Change
  sent : ℕ → ℕ → Change
  received : ℕ → ℕ → Change
  pending : ℕ → ℕ → Change

abbrev pub state_of : ℕ → List Bool → List ℕ → List ℕ → List ℕ → List ℕ → ℕ → ℤ → Bool → Bool → State
state_of n a c s v p h q b d =
    record { n = n; active = a; color = c; sent = s; received = v; pending = p; pos = h; q = q; black = b; closed = d }

abbrev pub changed : Change → State → State
changed (nodes k) r =
    state_of k r.active r.color r.sent r.received r.pending r.pos r.q r.black r.closed
changed (holder k) r =
    state_of r.n r.active r.color r.sent r.received r.pending k r.q r.black r.closed
changed (sum z) r =
    state_of r.n r.active r.color r.sent r.received r.pending r.pos z r.black r.closed
changed white_token r =
    state_of r.n r.active r.color r.sent r.received r.pending r.pos r.q false r.closed
changed closed r = state_of r.n r.active r.color r.sent r.received r.pending r.pos r.q r.black true
changed (active i) r =
    state_of r.n (set r.active i true) r.color r.sent r.received r.pending r.pos r.q r.black r.closed
changed (black i) r =
    state_of r.n r.active (blackened r.color i) r.sent r.received r.pending r.pos r.q r.black r.closed
changed (sent i k) r =
    state_of r.n r.active r.color (set r.sent i k) r.received r.pending r.pos r.q r.black r.closed
changed (received i k) r =
    state_of r.n r.active r.color r.sent (set r.received i k) r.pending r.pos r.q r.black r.closed
changed (pending i k) r =
    state_of r.n r.active r.color r.sent r.received (set r.pending i k) r.pos r.q r.black r.closed

abbrev pub handed : List Change → State
handed [] = opened 3 (replicate 96 false) (replicate 12 0)
handed (c ∷ cs) = changed c (handed cs)
