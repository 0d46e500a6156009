-- The six steps of the tree of Dijkstra and Scholten, each one's condition and effect.
use Rattle.std.specs.Prelude.{◌*◌, ◌+◌, ◌-◌, ℕ, eqb, ltb, set, Bool, ◌&&◌, cond, false, not, true}
use Rattle.tree_rules.specs.State.{State, acks_at, active_at, engaged, engager_at, transit_at, unacked_at}

-- the steps by name, and every other kind number
pub data Kind : Type 0 where
  Send Take Idle Ack Leave Announce Unknown : Kind

abbrev pub kind_of : ℕ → Kind
kind_of k =
    cond (eqb k 1) Send
    (cond (eqb k 2) Take (cond (eqb k 3) Idle (cond (eqb k 4) Ack (cond (eqb k 5) Leave (cond (eqb k 6) Announce Unknown)))))

-- ---- the conditions

-- rule 5: i is not the root, is engaged, passive, and has nothing unacknowledged
unfoldable pub may_leave : State → ℕ → Bool
may_leave t i = not (eqb i t.root) && (engaged t i && (not (active_at t i) && eqb (unacked_at t i) 0))

-- rule 6: the test that announce asks for
unfoldable pub conclusive : State → Bool
conclusive t = not (active_at t t.root) && eqb (unacked_at t t.root) 0

-- of send i j, take i j (a message from j), idle i, ack i, leave i, announce
abbrev pub guard : State → Kind → ℕ → ℕ → Bool
guard t Send i j = active_at t i
guard t Take i j = ltb 0 (transit_at t j i)
guard t Idle i j = active_at t i
guard t Ack i j = ltb 0 (acks_at t i)
guard t Leave i j = may_leave t i
guard t Announce i j = conclusive t
guard t Unknown i j = false

-- ---- the effects

-- rule 1: unacked of i and the messages from i to j rise by one
abbrev pub send_of : State → ℕ → ℕ → State
send_of t i j =
    record {
      n = t.n;
      root = t.root;
      active = t.active;
      engager = t.engager;
      unacked = set t.unacked i (unacked_at t i + 1);
      transit = set t.transit (i * 16 + j) (transit_at t i j + 1);
      acks = t.acks;
      sends = t.sends + 1;
      closed = t.closed;
    }

-- rule 2 where i has no engager: a message from k is removed, i becomes active, and k its engager
abbrev pub engage_of : State → ℕ → ℕ → State
engage_of t i k =
    record {
      n = t.n;
      root = t.root;
      active = set t.active i true;
      engager = set t.engager i k;
      unacked = t.unacked;
      transit = set t.transit (k * 16 + i) (transit_at t k i - 1);
      acks = t.acks;  -- the engaging receipt is acknowledged when i leaves
      sends = t.sends;
      closed = t.closed;
    }

-- rule 2 where i has an engager: a message from k is removed, i becomes active, and an acknowledgement sets out to k
abbrev pub reply_of : State → ℕ → ℕ → State
reply_of t i k =
    record {
      n = t.n;
      root = t.root;
      active = set t.active i true;
      engager = t.engager;
      unacked = t.unacked;
      transit = set t.transit (k * 16 + i) (transit_at t k i - 1);
      acks = set t.acks k (acks_at t k + 1);
      sends = t.sends;
      closed = t.closed;
    }

abbrev pub take_of : State → ℕ → ℕ → State
take_of t i k = cond (engaged t i) (reply_of t i k) (engage_of t i k)

-- rule 3: i becomes passive
abbrev pub idle_of : State → ℕ → State
idle_of t i =
    record {
      n = t.n;
      root = t.root;
      active = set t.active i false;
      engager = t.engager;
      unacked = t.unacked;
      transit = t.transit;
      acks = t.acks;
      sends = t.sends;
      closed = t.closed;
    }

-- rule 4: the acknowledgements on their way to i, and unacked of i, fall by one
abbrev pub ack_of : State → ℕ → State
ack_of t i =
    record {
      n = t.n;
      root = t.root;
      active = t.active;
      engager = t.engager;
      unacked = set t.unacked i (unacked_at t i - 1);
      transit = t.transit;
      acks = set t.acks i (acks_at t i - 1);
      sends = t.sends;
      closed = t.closed;
    }

-- rule 5: an acknowledgement sets out to i's engager; i then has none
abbrev pub leave_of : State → ℕ → State
leave_of t i =
    record {
      n = t.n;
      root = t.root;
      active = t.active;
      engager = set t.engager i 16;
      unacked = t.unacked;
      transit = t.transit;
      acks = set t.acks (engager_at t i) (acks_at t (engager_at t i) + 1);
      sends = t.sends;
      closed = t.closed;
    }

-- rule 6: the run is closed
abbrev pub announce_of : State → State
announce_of t =
    record {
      n = t.n;
      root = t.root;
      active = t.active;
      engager = t.engager;
      unacked = t.unacked;
      transit = t.transit;
      acks = t.acks;
      sends = t.sends;
      closed = true;
    }

abbrev pub effect : State → Kind → ℕ → ℕ → State
effect t Send i j = send_of t i j
effect t Take i j = take_of t i j
effect t Idle i j = idle_of t i
effect t Ack i j = ack_of t i
effect t Leave i j = leave_of t i
effect t Announce i j = announce_of t
effect t Unknown i j = t
