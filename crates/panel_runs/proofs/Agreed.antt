-- The proofs of what Agreement says of one step. Assumes nothing.
use Prim.Native.Nat.{◌+◌, ◌<◌, ◌≤◌, ℕ}
use borrow.Author.Tests.{le-leb}
use mathlib.Core.Bool.{false, not, true}
use mathlib.Core.Logic.{◌↔◌, ⊎_elim}
use mathlib.Core.Path.{◌∙◌, ◌≡◌, ap, refl, subst, sym}
use native.Mathlib.Decide.{dec_lt}
use native.Mathlib.Omega.{arith}
use Rattle.laws.proofs.Tests.{split}
use Rattle.panel_rules.proofs.Accepted.{panel_accepts, ring_accepts}
use Rattle.panel_rules.proofs.Answers.{ring_verdict}
use Rattle.panel_rules.proofs.Numbers.{close_accepted}
use Rattle.panel_rules.proofs.Theorems.{panel_answered, rings_own}
use Rattle.panel_rules.specs.Asks.{Step, answer_on, panel, verdict_on}
use Rattle.panel_rules.specs.Rules.{bad_word, second, unequal}
use Rattle.panel_rules.specs.Soundness.{Sound}
use Rattle.panel_rules.specs.State.{Panel, agreed, nodes}
use Rattle.panel_runs.specs.Agreement.{NextAnswered, StepsAgree, at_limit, matched, shown_after, some_node}
use Rattle.refusal.specs.Table.{code_of, send_limit}
use Rattle.refusal.specs.Table.{Verdict}
use Rattle.refusal.specs.Table.{Accepted, Refused}
use Rattle.ring_rules.proofs.Fields.{same_n}
use Rattle.ring_rules.proofs.Theorems.{limit_met}
use Rattle.ring_rules.proofs.Accepted.{conclusive-true}
use Rattle.ring_rules.specs.Answers as ring_answers
use Rattle.ring_rules.specs.Rules.{Announce, Idle, Kind, Pass, Probe, Send, Take, Unknown}
use Rattle.ring_runs.proofs.Agreed.{other_kind}
use Rattle.ring_runs.proofs.Steps.{detected_of}
use Rattle.ring_runs.proofs.Agreement as rings
use Rattle.ring_runs.specs.Agreement.{AcceptsStep, BelowLimit, nexts_of, sends_made, sends_of, shown}
use Rattle.ring_runs.specs.Agreement as ring_agree
use Rattle.ring_runs.specs.Counts.{is_announce, kind, sending}
use Rattle.ring_runs.specs.EWD998.{Next, Node, RecvMsg, SendMsg, Vars, deactivate, environment, initiate_probe, pass_token, recv_msg, send_msg, system, TerminationDetected}
use Rattle.ring_runs.specs.Requests.{announce, idle, pass, probe, send, take}
use Rattle.ring_runs.specs.View.{Action, InARow, is_deactivate, is_pass, is_probe, is_send_action, vars_of}
use Rattle.runs.specs.Runs.{Accepts, Request}

-- ---- one step

-- what a step has to meet where neither its word nor the marks refuse it
fits_word : (k : Kind) (j : ℕ) → (k ≡ Take → (0 < j) × (j ≤ 4)) → bad_word k j ≡ false
fits_word Send j h = refl
fits_word Take j h = rw (le-leb 1 j (h refl).0, le-leb j 4 (h refl).1)
fits_word Idle j h = refl
fits_word Probe j h = refl
fits_word Pass j h = refl
fits_word Announce j h = refl
fits_word Unknown j h = refl

fits_marks : (p : Panel) (k : Kind) → (k ≡ Announce → agreed p ≡ true) → unequal p k ≡ false
fits_marks p Send h = refl
fits_marks p Take h = refl
fits_marks p Idle h = refl
fits_marks p Probe h = refl
fits_marks p Pass h = refl
fits_marks p Announce h = ap not (h refl)
fits_marks p Unknown h = refl

module _ (p : Panel) (ok : Sound p) where
  accepts_step : (x : Request) → Accepts panel p (Step x) → AcceptsStep p.ring x.kind x.i (second (kind x) x.j)
  unfolding ring_answers.answer_of
  accepts_step x a = ring_accepts p (kind x) x.i x.j a

  -- the ring after an accepted step is the ring's own
  ring_shown :
      (x : Request) → Accepts panel p (Step x) → shown_after p x ≡ ring_agree.shown_after p.ring x.kind x.i (second (kind x) x.j)
  ring_shown x a = ap (vars_of (nodes p)) (rings_own.next p (kind x) x.i x.j a)

  -- what the ring accepts is accepted here, and leads to the same
  from_ring :
      (x : Request) (t : Vars (nodes p)) → bad_word (kind x) x.j ≡ false → unequal p (kind x) ≡ false
      → AcceptsStep p.ring x.kind x.i (second (kind x) x.j)
      → ring_agree.shown_after p.ring x.kind x.i (second (kind x) x.j) ≡ t → Accepts panel p (Step x) × (shown_after p x ≡ t)
  unfolding ring_answers.answer_of
  from_ring x t b q a e =
      let c = panel_accepts p (kind x) x.i x.j ok b q a in
      (c, ring_shown x c ∙ e)

  abbrev agrees : ring_agree.StepsAgree p.ring ok.ring
  agrees = rings.steps_agree p.ring ok.ring

  action_accepted :
      p.ring.closed ≡ false → (x : Request) (t : Vars (nodes p))
      → Action (some_node p ok) (shown p.ring) t (kind x) x.i (second (kind x) x.j) → BelowLimit p.ring x.kind
      → (kind x ≡ Take → (0 < x.j) × (x.j ≤ 4)) → (kind x ≡ Announce → agreed p ≡ true) → Accepts panel p (Step x) × (shown_after p x ≡ t)
  action_accepted running x t a room w m =
      let r = agrees.action_is_accepted running x.kind x.i (second (kind x) x.j) t a room in
      from_ring x t (fits_word (kind x) x.j w) (fits_marks p (kind x) m) r.0 r.1

  -- a receipt, with any word
  receipt :
      (i : Node (nodes p)) (t : Vars (nodes p)) → RecvMsg (some_node p ok) i (shown p.ring) t → (word : ℕ) → 0 < word → word ≤ 4
      → Accepts panel p (Step (take i.nr word)) × (shown_after p (take i.nr word) ≡ t)
  receipt i t a word lo hi =
      let r = agrees.receipts_are_take i 1 t (omega arith) (omega arith) (t, a, refl) in
      from_ring (take i.nr word) t (rw (le-leb 1 word lo, le-leb word 4 hi)) refl r.0 r.1

  module _ (running : p.ring.closed ≡ false) where
    -- an action of a kind that asks for no word and no marks
    answered :
        (x : Request) (t : Vars (nodes p)) → Action (some_node p ok) (shown p.ring) t (kind x) x.i (second (kind x) x.j)
        → BelowLimit p.ring x.kind → bad_word (kind x) x.j ≡ false → unequal p (kind x) ≡ false
        → Accepts panel p (Step x) × (shown_after p x ≡ t)
    answered x t a room b q =
        let r = agrees.action_is_accepted running x.kind x.i (second (kind x) x.j) t a room in from_ring x t b q r.0 r.1

    -- below the limit a step of EWD998 is one that is accepted and is no close
    pub record One (t : Vars (nodes p)) (c : ℕ) : Type 0 where
      pub x : Request
      pub accepted : Accepts panel p (Step x)
      pub there : shown_after p x ≡ t
      pub no_close : is_announce (kind x) ≡ false
      pub sends : sending (kind x) ≡ c

    pub one : (t : Vars (nodes p)) (a : Next (some_node p ok) (shown p.ring) t) → sends_made p.ring + sends_of (some_node p ok) a ≤ send_limit → One t (sends_of (some_node p ok) a)
    one t (system (initiate_probe a)) h =
        let w = answered probe t (is_probe a) (λ e. other_kind (sym e) refl) refl refl in
        record { x = probe; accepted = w.0; there = w.1; no_close = refl; sends = refl }
    one t (system (pass_token i ne a)) h =
        let w = answered (pass i.nr) t (is_pass i ne a) (λ e. other_kind (sym e) refl) refl refl in
        record { x = pass i.nr; accepted = w.0; there = w.1; no_close = refl; sends = refl }
    one t (environment (send_msg i a)) h =
        let w = answered (send i.nr a.j.nr) t (is_send_action i a) (λ e. omega arith) refl refl in
        record { x = send i.nr a.j.nr; accepted = w.0; there = w.1; no_close = refl; sends = refl }
    one t (environment (recv_msg i a)) h =
        let w = receipt i t a 1 (omega arith) (omega arith) in
        record { x = take i.nr 1; accepted = w.0; there = w.1; no_close = refl; sends = refl }
    one t (environment (deactivate i a)) h =
        let w = answered (idle i.nr) t (is_deactivate i a) (λ e. other_kind (sym e) refl) refl refl in
        record { x = idle i.nr; accepted = w.0; there = w.1; no_close = refl; sends = refl }

    -- a send at the limit
    spent :
        (i : Node (nodes p)) (t : Vars (nodes p)) (a : SendMsg (some_node p ok) i (shown p.ring) t) → sends_made p.ring ≡ send_limit
        → code_of (verdict_on p (Step (send i.nr a.j.nr))) ≡ 9
    unfolding ring_answers.answer_of
    spent i t a full =
        ap code_of (ring_verdict p ok Send i.nr a.j.nr refl refl)
        ∙ (limit_met.spent p.ring i.nr a.j.nr (record { sound = ok.ring; running = running })
        (record { sender = i.below; receiver = a.j.below; active = a.active })).1 full

    by_one :
        (t : Vars (nodes p)) (a : Next (some_node p ok) (shown p.ring) t) → sends_made p.ring + sends_of (some_node p ok) a ≤ send_limit
        → NextAnswered p ok t
    by_one t a h = let o = one t a h in matched o.x o.accepted o.there

    open_answered : (t : Vars (nodes p)) → Next (some_node p ok) (shown p.ring) t → NextAnswered p ok t
    open_answered t (system a) = by_one t (system a) (omega (arith, ok.ring.limit))
    open_answered t (environment (recv_msg i a)) = by_one t (environment (recv_msg i a)) (omega (arith, ok.ring.limit))
    open_answered t (environment (deactivate i a)) = by_one t (environment (deactivate i a)) (omega (arith, ok.ring.limit))
    open_answered t (environment (send_msg i a)) = go (dec_lt (sends_made p.ring) send_limit)
      where
        go : Dec (sends_made p.ring < send_limit) → NextAnswered p ok t
        go (yes h) = by_one t (environment (send_msg i a)) (omega arith)
        go (no h) = at_limit i a (omega (arith, ok.ring.limit)) (spent i t a (omega (arith, ok.ring.limit)))

  -- where EWD998 has a step, the panel is open
  still_open : {t : Vars (nodes p)} → Next (some_node p ok) (shown p.ring) t → p.ring.closed ≡ false
  still_open {t} a =
      ⊎_elim (λ c. absurd (agrees.detected_is_last (detected_of p.ring ok.ring (conclusive-true p.ring (ok.ring.announced c))) t a)) (λ o. o)
      (split p.ring.closed)

  refused_same : (x : Request) → (Accepts panel p (Step x) → ⊥) → (answer_on p (Step x)).state ≡ p
  refused_same x ne = go (verdict_on p (Step x)) refl
    where
      go : (v : Verdict) → verdict_on p (Step x) ≡ v → (answer_on p (Step x)).state ≡ p
      go Accepted e = absurd (ne e)
      go (Refused f) e = panel_answered.same p (Step x) f e

  kept_n : (x : Request) → nodes (answer_on p (Step x)).state ≡ nodes p
  kept_n x = go (verdict_on p (Step x)) refl
    where
      go : (v : Verdict) → verdict_on p (Step x) ≡ v → nodes (answer_on p (Step x)).state ≡ nodes p
      go Accepted e = ap nodes (panel_answered.next p (Step x) e) ∙ same_n p.ring (kind x) x.i (second (kind x) x.j)
      go (Refused f) e = ap nodes (panel_answered.same p (Step x) f e)

  close_detected :
      p.ring.closed ≡ false → Accepts panel p (Step announce) ↔ (TerminationDetected (some_node p ok) (shown p.ring) × (agreed p ≡ true))
  unfolding ring_answers.answer_of
  close_detected running =
      let w = agrees.announce_is_detected running 0 0 in (
        λ a. (w.0 (accepts_step announce a), ((close_accepted p 0 0).0 a).3),
        λ d. panel_accepts p Announce 0 0 ok refl (ap not d.1) (w.1 d.0),
      )

  pub steps_agree : StepsAgree p ok
  steps_agree =
      record {
        nodes_kept = kept_n;
        accepted_is_action =
            λ x a.
            subst (λ (t : Vars (nodes p)). Action (some_node p ok) (shown p.ring) t (kind x) x.i (second (kind x) x.j)) (sym (ring_shown x a))
            (agrees.accepted_is_action x.kind x.i (second (kind x) x.j) (accepts_step x a));
        action_is_accepted = action_accepted;
        accepted_is_next =
            λ x a.
            subst
            (λ (t : Vars (nodes p)).
            InARow (Next (some_node p ok)) (nexts_of (kind x) (second (kind x) x.j)) (shown p.ring) t
            × (kind x ≡ Announce → TerminationDetected (some_node p ok) (shown p.ring)))
            (sym (ring_shown x a))
            (agrees.accepted_is_next x.kind x.i (second (kind x) x.j) (accepts_step x a));
        refused_is_same = refused_same;
        next_is_answered = λ t a. open_answered (still_open a) t a;
        receipt_with_any_word = receipt;
        close_is_detected = close_detected;
      }
