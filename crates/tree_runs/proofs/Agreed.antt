-- The proofs of what specs/Agreement.antt says of one step. Assumes nothing.
use Prim.Native.Nat.{◌≤◌, ℕ}
use borrow.Author.Tests.{le-leb, lt-leb}
use mathlib.Core.Bool.{Bool, false, true}
use mathlib.Core.Logic.{◌↔◌, ◌⊎◌, inl, inr}
use mathlib.Core.Path.{◌∙◌, ◌≡◌, ap, refl, subst, sym}
use native.Mathlib.Decide.{dec_lt}
use native.Mathlib.Omega.{arith}
use Rattle.laws.proofs.Tests.{false_true, split}
use Rattle.refusal.specs.Table.{send_limit, settle}
use Rattle.refusal.specs.declared.Refusal.TheVariants.{SendLimit}
use Rattle.refusal.specs.Table.{Verdict}
use Rattle.refusal.specs.Table.{Accepted, Refused}
use Rattle.tree_rules.proofs.Accepted.{Conclusion, accepted, allowed, conclusive-true}
use Rattle.tree_rules.proofs.Answers.{limit_answer}
use Rattle.tree_rules.proofs.Facts.{facts}
use Rattle.tree_rules.proofs.Quiet.{alone, at_rest, conclusive_quiet}
use Rattle.tree_rules.specs.Answers.{Answer, answer_of, outside, step_of, verdict_of}
use Rattle.tree_rules.specs.Rules.{Ack, Announce, Idle, Kind, Leave, Send, Take, Unknown, effect, kind_of}
use Rattle.tree_rules.specs.Soundness.{Open, Resting, Sound}
use Rattle.tree_rules.specs.State.{State, active_at, engager_at}
use Rattle.tree_runs.proofs.Change.{null_engaged}
use Rattle.tree_runs.proofs.Steps.{action_rule, of_signal, rule_action, signal_of}
use Rattle.tree_runs.specs.Agreement.{AcceptsStep, BelowLimit, RuleAnswered, at_limit, matched, root_of, shown, shown_after}
use Rattle.tree_runs.specs.DijkstraScholten.{Addr, SendDAT, SignalTermination, Step, Systems, deactivate, disengage, receive_ack, receive_dat, send_dat}
use Rattle.tree_runs.specs.View.{Action, is_ack, is_announce_action, is_idle, is_leave, is_send_action, is_take, systems_of}

-- a send is no other kind
abbrev pub is_send : Kind → Bool
is_send Send = true
is_send Take = false
is_send Idle = false
is_send Ack = false
is_send Leave = false
is_send Announce = false
is_send Unknown = false

pub other_kind {ℓ} : {A : Type ℓ} {k : Kind} → Send ≡ k → is_send k ≡ false → A
other_kind e z = absurd (false_true (sym z ∙ ap is_send (sym e)))

module _ (t : State) (ok : Sound t) where
  abbrev a0 : Addr t.n
  a0 = root_of t ok

  made : (k i j : ℕ) → AcceptsStep t k i j → shown_after t k i j ≡ systems_of t.n (effect t (kind_of k) i j)
  unfolding answer_of
  made k i j e = ap (λ (v : Verdict). systems_of t.n (settle v (effect t (kind_of k) i j) t)) e

  -- an accepted request is its rule
  pub accepted_rule : (k i j : ℕ) → AcceptsStep t k i j → Action a0 (shown t) (shown_after t k i j) (kind_of k) i j
  unfolding answer_of
  accepted_rule k i j e =
      subst (λ u. Action a0 (shown t) u (kind_of k) i j) (sym (made k i j e)) (rule_action t ok (kind_of k) i j (allowed t (kind_of k) i j e).by)

  pub accepted_step :
      (k i j : ℕ) → AcceptsStep t k i j
      → Step a0 (shown t) (shown_after t k i j) ⊎ ((kind_of k ≡ Announce) × SignalTermination a0 (shown t) × (shown_after t k i j ≡ shown t))
  accepted_step k i j e = go (accepted_rule k i j e)
    where
      go :
          {u : Systems t.n} {c : Kind} {i j : ℕ} → Action a0 (shown t) u c i j
          → Step a0 (shown t) u ⊎ ((c ≡ Announce) × SignalTermination a0 (shown t) × (u ≡ shown t))
      go (is_send_action i j x) = inl (send_dat i j x)
      go (is_take i k x) = inl (receive_dat i k x)
      go (is_idle i x) = inl (deactivate i x)
      go (is_ack i x) = inl (receive_ack i x)
      go (is_leave i ne x) = inl (disengage i ne x)
      go (is_announce_action d e) = inr (refl, d, e)

  pub refused_same : (k i j : ℕ) → (AcceptsStep t k i j → ⊥) → shown_after t k i j ≡ shown t
  unfolding answer_of
  refused_same k i j ne = go (verdict_of t (kind_of k) i j) refl
    where
      go : (v : Verdict) → verdict_of t (kind_of k) i j ≡ v → systems_of t.n (settle v (effect t (kind_of k) i j) t) ≡ shown t
      go Accepted e = absurd (ne e)
      go (Refused x) e = refl

  module _ (running : t.closed ≡ false) where
    abbrev open_here : Open t
    open_here = record { sound = ok; running = running }

    -- a rule, a send below the limit, is accepted, and leads to the same systems
    pub rule_accepted :
        (k i j : ℕ) (u : Systems t.n) → Action a0 (shown t) u (kind_of k) i j → BelowLimit t k
        → AcceptsStep t k i j × (shown_after t k i j ≡ u)
    unfolding answer_of
    rule_accepted k i j u a room =
        let l = action_rule t ok u (kind_of k) i j a room in
        let e = accepted t (kind_of k) i j open_here l.rule in
        (e, made k i j e ∙ l.there)

    answered : (k i j : ℕ) (u : Systems t.n) → Action a0 (shown t) u (kind_of k) i j → BelowLimit t k → RuleAnswered t ok u
    answered k i j u a room = let p = rule_accepted k i j u a room in matched k i j p.0 p.1

    inside : (i j : Addr t.n) → outside t Send i.nr j.nr ≡ false
    inside i j = rw (lt-leb _ _ i.below, lt-leb _ _ j.below)

    spent_9 : (i j : Addr t.n) → active_at t i.nr ≡ true → send_limit ≤ t.sends → (step_of t 1 i.nr j.nr).verdict ≡ Refused SendLimit
    spent_9 i j act full =
        ap (λ (x : Answer). x.verdict)
        (sym (limit_answer t Send i.nr j.nr open_here refl (inside i j) act (le-leb _ _ full)))

    send_answered : (u : Systems t.n) (i j : Addr t.n) → SendDAT i j (shown t) u → RuleAnswered t ok u
    send_answered u i j x =
        elim (dec_lt t.sends send_limit) [
          | yes h ↦ answered 1 i.nr j.nr u (is_send_action i j x) (λ _. h)
          | no h ↦ at_limit i j x (omega arith) (spent_9 i j x.active (omega arith))
        ]

    open_answered : (u : Systems t.n) → Step a0 (shown t) u → RuleAnswered t ok u
    open_answered u (deactivate i x) = answered 3 i.nr 0 u (is_idle i x) (λ e. other_kind (sym e) refl)
    open_answered u (send_dat i j x) = send_answered u i j x
    open_answered u (receive_dat i k x) = answered 2 i.nr k.nr u (is_take i k x) (λ e. other_kind (sym e) refl)
    open_answered u (receive_ack i x) = answered 4 i.nr 0 u (is_ack i x) (λ e. other_kind (sym e) refl)
    open_answered u (disengage i ne x) = answered 5 i.nr 0 u (is_leave i ne x) (λ e. other_kind (sym e) refl)

    pub announce_signal : (i j : ℕ) → AcceptsStep t 6 i j ↔ SignalTermination a0 (shown t)
    announce_signal i j = (λ e. go (accepted_rule 6 i j e), λ d. (rule_accepted 6 i j (shown t) (is_announce_action d refl) (λ e. other_kind (sym e) refl)).0)
      where
        go : {u : Systems t.n} {i j : ℕ} → Action a0 (shown t) u Announce i j → SignalTermination a0 (shown t)
        go (is_announce_action d e) = d

  -- where the root signals termination document 003 has no step left, so that closing the run takes none away
  pub signal_last : SignalTermination a0 (shown t) → (u : Systems t.n) → Step a0 (shown t) u → ⊥
  signal_last d u x = go x
    where
      c : Conclusion t
      c = of_signal t ok d

      rests : (i : Addr t.n) → Resting t i.nr
      rests i = at_rest t (facts t ok) c i.nr (omega (arith, i.below, ok.nodes))

      go : Step a0 (shown t) u → ⊥
      go (deactivate i x) = false_true (sym (rests i).passive ∙ x.active)
      go (send_dat i j x) = false_true (sym (rests i).passive ∙ x.active)
      go (receive_dat i k x) = omega (arith, x.in_transit, (conclusive_quiet t ok c).empty k.nr i.nr k.below i.below)
      go (receive_ack i x) = omega (arith, x.in_transit, (rests i).settled, ok.balance i.nr i.below)
      go (disengage i ne x) =
          null_engaged (engager_at t i.nr) x.may.engaged
          (alone t (facts t ok) c.settled i.nr (omega (arith, i.below, ok.nodes)) ne)

  pub step_answered : (u : Systems t.n) → Step a0 (shown t) u → RuleAnswered t ok u
  step_answered u x =
      elim (split t.closed) [
        | inl c ↦ absurd (signal_last (signalled (conclusive-true t (ok.announced c))) u x)
        | inr o ↦ open_answered o u x
      ]
    where
      signalled : Conclusion t → SignalTermination a0 (shown t)
      signalled c = signal_of t ok c
