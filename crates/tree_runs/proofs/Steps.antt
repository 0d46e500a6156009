-- A rule of the tree, made, is the rule that stands for it in document 003; a rule there is a rule here, and leads where it leads.
-- Assumes nothing.
use Prim.Native.Nat.{◌*◌, ◌+◌, ◌-◌, ◌<◌, ℕ}
use lib.ListN.{get_or, set}
use mathlib.Core.Bool.{Bool, false, true}
use mathlib.Core.Path.{◌∙◌, ◌≡◌, ap, refl, sym}
use native.Mathlib.Omega.{arith}
use Rattle.tree_rules.proofs.Accepted.{Conclusion, Leaver, Rule, acknowledges, announces, idles, leaves, sends, takes}
use Rattle.tree_rules.proofs.Facts.{Facts, facts, in_acks, in_engager, in_range_lem, in_transit, in_unacked, take_cases, take_engages, take_replies}
use Rattle.tree_rules.specs.Rules.{Ack, Announce, Idle, Kind, Leave, Send, Take, effect, leave_of, take_of}
use Rattle.tree_rules.specs.Soundness.{Sound}
use Rattle.refusal.specs.Table.{send_limit}
use Rattle.tree_rules.specs.State.{State, acks_at, engager_at, transit_at, unacked_at}
use Rattle.tree_runs.proofs.Change.{addr_of, engaged_null, null_engaged, null_of, of_addr, of_null, pair_but, set_but}
use Rattle.tree_runs.specs.Agreement.{root_of}
use Rattle.tree_runs.specs.DijkstraScholten.{Addr, Branch, Disengage, Engager, ReceiveDAT, SignalTermination, Systems, ◌BUT◌≔◌, acknowledged, addr, engaged_by, null}
use Rattle.tree_runs.specs.View.{Action, engager_of, is_ack, is_announce_action, is_idle, is_leave, is_send_action, is_take, systems_of}
use Rattle.tree_rules.specs.Rules.{Unknown}

-- two states with the same variables
pub same_systems :
    {N : ℕ} {a b : Systems N} → a.active ≡ b.active → a.engager ≡ b.engager → a.un_acked ≡ b.un_acked → a.DAT ≡ b.DAT → a.ACK ≡ b.ACK → a ≡ b
same_systems e₁ e₂ e₃ e₄ e₅ = λ x. record { active = e₁ x; engager = e₂ x; un_acked = e₃ x; DAT = e₄ x; ACK = e₅ x }

module _ (t : State) (ok : Sound t) where
  abbrev s : Systems t.n
  s = systems_of t.n t

  abbrev a0 : Addr t.n
  a0 = root_of t ok

  abbrev same : ℕ → ℕ
  same x = x

  f : Facts t
  f = facts t ok

  module _ (i : Addr t.n) where
    low : i.nr < 16
    low = in_range_lem t f i.nr i.below

    active_but : (v : Bool) → (λ (k : Addr t.n). get_or (set t.active i.nr v) k.nr false) ≡ s.active BUT i ≔ v
    active_but v = set_but i (λ (x : Bool). x) t.active v false v refl (omega (arith, ok.shape.active_places, low))

    engager_but :
        (v : ℕ) (w : Engager) → engager_of v ≡ w → (λ (k : Addr t.n). engager_of (get_or (set t.engager i.nr v) k.nr 16))
        ≡ s.engager BUT i ≔ w
    engager_but v w e = set_but i engager_of t.engager v 16 w e (in_engager t f i.nr low)

    unacked_but : (v : ℕ) → (λ (k : Addr t.n). get_or (set t.unacked i.nr v) k.nr 0) ≡ s.un_acked BUT i ≔ v
    unacked_but v = set_but i same t.unacked v 0 v refl (in_unacked t f i.nr low)

    acks_but : (v : ℕ) → (λ (k : Addr t.n). get_or (set t.acks i.nr v) k.nr 0) ≡ s.ACK BUT i ≔ v
    acks_but v = set_but i same t.acks v 0 v refl (in_acks t f i.nr low)

    transit_but :
        (j : Addr t.n) (v : ℕ) → (λ (a b : Addr t.n). get_or (set t.transit (i.nr * 16 + j.nr) v) (a.nr * 16 + b.nr) 0)
        ≡ s.DAT BUT i ≔ (s.DAT i BUT j ≔ v)
    transit_but j v = pair_but ok.nodes i j t.transit v (in_transit t f i.nr j.nr low (low' j))
      where
        low' : (k : Addr t.n) → k.nr < 16
        low' k = in_range_lem t f k.nr k.below

  -- ---- a rule here is that rule there

  pub signal_of : Conclusion t → SignalTermination a0 s
  signal_of c =
      record {
        passive = c.passive;
        settled = c.settled;
        engaged = engaged_null (engager_at t t.root) (λ z. omega (arith, ok.root_own, ok.root_in, ok.nodes));
      }

  leave_action : (i j : ℕ) (hi : i < t.n) → Leaver t i → Action a0 s (systems_of t.n (leave_of t i)) Leave i j
  leave_action i j hi l =
      let a : Addr t.n = record { nr = i; below = hi } in
      let e : Addr t.n = record { nr = engager_at t i; below = (f.engagers i (low a) l.engaged).1 } in
      is_leave a l.no_root
      (record {
        may = record { passive = l.passive; settled = l.settled; engaged = engaged_null (engager_at t i) l.engaged };
        upstream = e;
        engager_is = of_addr (engager_at t i) l.engaged;
        ACK' = acks_but e (acks_at t (engager_at t i) + 1);
        engager' = engager_but a 16 null refl;
        unchanged_active = refl;
        unchanged_un_acked = refl;
        unchanged_dat = refl;
      })

  take_action : (i j : ℕ) → i < t.n → j < t.n → 0 < transit_at t j i → Action a0 s (systems_of t.n (take_of t i j)) Take i j
  take_action i j hi hj has =
      let a : Addr t.n = record { nr = i; below = hi } in
      let b : Addr t.n = record { nr = j; below = hj } in
      take_cases (λ (v : State). Action a0 s (systems_of t.n v) Take i j) t i j
      (λ free.
      is_take a b
      (record {
        in_transit = has;
        DAT' = transit_but b a (transit_at t j i - 1);
        active' = active_but a true;
        branch = engaged_by (of_null (engager_at t i) free) (engager_but a j (addr j) (of_addr j (omega (arith, ok.nodes)))) refl;
        unchanged_un_acked = refl;
      }))
      (λ busy.
      is_take a b
      (record {
        in_transit = has;
        DAT' = transit_but b a (transit_at t j i - 1);
        active' = active_but a true;
        branch = acknowledged (engaged_null (engager_at t i) busy) refl (acks_but b (acks_at t j + 1));
        unchanged_un_acked = refl;
      }))

  pub rule_action : (k : Kind) (i j : ℕ) → Rule t i j k → Action a0 s (systems_of t.n (effect t k i j)) k i j
  rule_action Send i j (sends hi hj act lim) =
      let a : Addr t.n = record { nr = i; below = hi } in
      let b : Addr t.n = record { nr = j; below = hj } in
      is_send_action a b
      (record {
        active = act;
        DAT' = transit_but a b (transit_at t i j + 1);
        un_acked' = unacked_but a (unacked_at t i + 1);
        unchanged_active = refl;
        unchanged_engager = refl;
        unchanged_ack = refl;
      })
  rule_action Take i j (takes hi hj m) = take_action i j hi hj m
  rule_action Idle i j (idles hi act) =
      let a : Addr t.n = record { nr = i; below = hi } in
      is_idle a
      (record {
        active = act;
        active' = active_but a false;
        unchanged_engager = refl;
        unchanged_un_acked = refl;
        unchanged_dat = refl;
        unchanged_ack = refl;
      })
  rule_action Ack i j (acknowledges hi has) =
      let a : Addr t.n = record { nr = i; below = hi } in
      is_ack a
      (record {
        in_transit = has;
        ACK' = acks_but a (acks_at t i - 1);
        un_acked' = unacked_but a (unacked_at t i - 1);
        unchanged_active = refl;
        unchanged_engager = refl;
        unchanged_dat = refl;
      })
  rule_action Leave i j (leaves hi l) = leave_action i j hi l
  rule_action Announce i j (announces c) = is_announce_action (signal_of c) refl
  rule_action Unknown i j x' = elim x' [ ]

  pub of_signal : SignalTermination a0 s → Conclusion t
  of_signal d = record { passive = d.passive; settled = d.settled }

  -- ---- a rule there is a rule here, and leads where it leads

  pub record Led (u : Systems t.n) (k : Kind) (i j : ℕ) : Type 0 where
    pub rule : Rule t i j k
    pub there : systems_of t.n (effect t k i j) ≡ u

  take_led : (a b : Addr t.n) (u : Systems t.n) → ReceiveDAT a b s u → systems_of t.n (take_of t a.nr b.nr) ≡ u
  take_led a b u x = go x.branch
    where
      go : Branch a b s u → systems_of t.n (take_of t a.nr b.nr) ≡ u
      go (engaged_by free e k) =
          ap (systems_of t.n) (sym (take_engages t a.nr b.nr (null_of (engager_at t a.nr) free)))
          ∙ same_systems (active_but a true ∙ sym x.active')
          (engager_but a b.nr (addr b.nr) (of_addr b.nr (omega (arith, low b))) ∙ sym e) (sym x.unchanged_un_acked)
          (transit_but b a (transit_at t b.nr a.nr - 1) ∙ sym x.DAT') (sym k)
      go (acknowledged busy e k) =
          ap (systems_of t.n) (sym (take_replies t a.nr b.nr (null_engaged (engager_at t a.nr) busy)))
          ∙ same_systems (active_but a true ∙ sym x.active') (sym e) (sym x.unchanged_un_acked)
          (transit_but b a (transit_at t b.nr a.nr - 1) ∙ sym x.DAT') (acks_but b (acks_at t b.nr + 1) ∙ sym k)

  leave_led : (a : Addr t.n) (u : Systems t.n) → Disengage a s u → systems_of t.n (leave_of t a.nr) ≡ u
  leave_led a u x =
      same_systems (sym x.unchanged_active) (engager_but a 16 null refl ∙ sym x.engager') (sym x.unchanged_un_acked) (sym x.unchanged_dat)
      (ap (λ (e : ℕ). λ (k : Addr t.n). get_or (set t.acks e (acks_at t e + 1)) k.nr 0) (addr_of (engager_at t a.nr) x.upstream.nr x.engager_is)
      ∙ (acks_but x.upstream (acks_at t x.upstream.nr + 1) ∙ sym x.ACK'))

  pub action_rule : (u : Systems t.n) (k : Kind) (i j : ℕ) → Action a0 s u k i j → (k ≡ Send → t.sends < send_limit) → Led u k i j
  action_rule u k i j (is_send_action a b x) room =
      record {
        rule = sends a.below b.below x.active (room refl);
        there =
            same_systems (sym x.unchanged_active) (sym x.unchanged_engager) (unacked_but a (unacked_at t a.nr + 1) ∙ sym x.un_acked')
            (transit_but a b (transit_at t a.nr b.nr + 1) ∙ sym x.DAT') (sym x.unchanged_ack);
      }
  action_rule u k i j (is_take a b x) room = record { rule = takes a.below b.below x.in_transit; there = take_led a b u x }
  action_rule u k i j (is_idle a x) room =
      record {
        rule = idles a.below x.active;
        there =
            same_systems (active_but a false ∙ sym x.active') (sym x.unchanged_engager) (sym x.unchanged_un_acked) (sym x.unchanged_dat)
            (sym x.unchanged_ack);
      }
  action_rule u k i j (is_ack a x) room =
      record {
        rule = acknowledges a.below x.in_transit;
        there =
            same_systems (sym x.unchanged_active) (sym x.unchanged_engager) (unacked_but a (unacked_at t a.nr - 1) ∙ sym x.un_acked')
            (sym x.unchanged_dat) (acks_but a (acks_at t a.nr - 1) ∙ sym x.ACK');
      }
  action_rule u k i j (is_leave a ne x) room =
      record {
        rule =
            leaves a.below
            (record { no_root = ne; engaged = null_engaged (engager_at t a.nr) x.may.engaged; passive = x.may.passive; settled = x.may.settled });
        there = leave_led a u x;
      }
  action_rule u k i j (is_announce_action d e) room = record { rule = announces (of_signal d); there = sym e }
