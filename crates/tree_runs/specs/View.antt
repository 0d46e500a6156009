-- The tree's state seen as the systems of document 003, and which request stands for which rule.
use Rattle.std.specs.Prelude.{ℕ, eqb, cond, ◌≢◌, ◌≡◌}
use Rattle.tree_rules.specs.Rules.{Ack, Announce, Idle, Kind, Leave, Send, Take}
use Rattle.tree_rules.specs.State.{State, acks_at, active_at, engager_at, transit_at, unacked_at}
use Rattle.tree_runs.specs.DijkstraScholten.{Addr, Deactivate, Disengage, Engager, ReceiveACK, ReceiveDAT, SendDAT, SignalTermination, Systems, addr, null}

abbrev pub engager_of : ℕ → Engager
engager_of e = cond (eqb e 16) null (addr e)

-- a tree of N nodes as document 003 sees it; the accepted sends and closed are not seen
abbrev pub systems_of : (N : ℕ) → State → Systems N
systems_of N t =
    record {
      active = λ j. active_at t j.nr;
      engager = λ j. engager_of (engager_at t j.nr);
      un_acked = λ j. unacked_at t j.nr;
      DAT = λ j k. transit_at t j.nr k.nr;
      ACK = λ j. acks_at t j.nr;
    }

-- The rule that a request of a kind, with its numbers i and j, stands for. Announce is the root's disengage: it signals termination and
-- changes nothing.
module _ {N : ℕ} (a0 : Addr N) (s t : Systems N) where
  pub data Action : Kind → ℕ → ℕ → Type 0 where
    is_send_action : (i j : Addr N) → SendDAT i j s t → Action Send i.nr j.nr
    is_take : (i k : Addr N) → ReceiveDAT i k s t → Action Take i.nr k.nr
    is_idle : (i : Addr N) {j : ℕ} → Deactivate i s t → Action Idle i.nr j
    is_ack : (i : Addr N) {j : ℕ} → ReceiveACK i s t → Action Ack i.nr j
    is_leave : (i : Addr N) {j : ℕ} → i.nr ≢ a0.nr → Disengage i s t → Action Leave i.nr j
    is_announce_action : {i j : ℕ} → SignalTermination a0 s → t ≡ s → Action Announce i j
