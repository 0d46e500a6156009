-- Trees handed in: the start of three nodes with root 0, with some fields changed.
use Rattle.std.specs.Prelude.{◌*◌, ◌+◌, ℕ, set, Bool, false, true, List, [], ◌∷◌}
use Rattle.tree_rules.specs.Start.{first_state}
use Rattle.tree_rules.specs.State.{State}

pub data Change : Type 0 where
  -- the number of nodes; the root; the accepted sends; the run closed
  nodes : ℕ → Change
  root : ℕ → Change
  sends : ℕ → Change
  closed : Change
  -- node i active; passive; engaged by k; with so many messages unacknowledged, acknowledgements on their way to it
  active : ℕ → Change
  passive : ℕ → Change
  engager : ℕ → ℕ → Change
  unacked : ℕ → ℕ → Change
  acks : ℕ → ℕ → Change
  -- a message in transit from i to j
  message : ℕ → ℕ → Change

abbrev pub state_of : ℕ → ℕ → List Bool → List ℕ → List ℕ → List ℕ → List ℕ → ℕ → Bool → State
state_of n r a e u m k s d =
    record { n = n; root = r; active = a; engager = e; unacked = u; transit = m; acks = k; sends = s; closed = d }

abbrev pub changed : Change → State → State
changed (nodes k) t =
    state_of k t.root t.active t.engager t.unacked t.transit t.acks t.sends t.closed
changed (root k) t =
    state_of t.n k t.active t.engager t.unacked t.transit t.acks t.sends t.closed
changed (sends k) t =
    state_of t.n t.root t.active t.engager t.unacked t.transit t.acks k t.closed
changed closed t =
    state_of t.n t.root t.active t.engager t.unacked t.transit t.acks t.sends true
changed (active i) t =
    state_of t.n t.root (set t.active i true) t.engager t.unacked t.transit t.acks t.sends t.closed
changed (passive i) t =
    state_of t.n t.root (set t.active i false) t.engager t.unacked t.transit t.acks t.sends t.closed
changed (engager i k) t =
    state_of t.n t.root t.active (set t.engager i k) t.unacked t.transit t.acks t.sends t.closed
changed (unacked i k) t =
    state_of t.n t.root t.active t.engager (set t.unacked i k) t.transit t.acks t.sends t.closed
changed (acks i k) t =
    state_of t.n t.root t.active t.engager t.unacked t.transit (set t.acks i k) t.sends t.closed
changed (message i j) t =
    state_of t.n t.root t.active t.engager t.unacked (set t.transit (i * 16 + j) 1) t.acks t.sends t.closed

abbrev pub handed : List Change → State
handed [] = first_state 3 0
handed (c ∷ cs) = changed c (handed cs)
