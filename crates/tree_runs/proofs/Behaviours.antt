-- The proofs of what specs/Agreement.antt says of whole runs. Assumes nothing.
use Prim.Native.Nat.{◌+◌, ◌<◌, ◌≤◌, ℕ}
use mathlib.Core.Bool.{cond, false}
use mathlib.Core.List.{List, [], ◌++◌, ◌∷◌}
use mathlib.Core.Path.{◌∙◌, ◌≡◌, ap, refl, subst, sym}
use native.Mathlib.Bridge.{le_prop}
use native.Mathlib.Omega.{arith}
use Rattle.refusal.specs.Table.{send_limit, settle}
use Rattle.refusal.specs.Table.{Verdict}
use Rattle.runs.proofs.Runs.{Run, accepted_append, kept, run_append, run_of_lem, stop, took}
use Rattle.runs.specs.Runs.{Accepts, Request, accepted_of, next, run_of}
use Rattle.tree_rules.proofs.Accepted.{Rule, accepted}
use Rattle.tree_rules.proofs.Facts.{take_cases}
use Rattle.tree_rules.proofs.Theorems.{sound_kept, start_answered}
use Rattle.tree_rules.specs.Answers.{verdict_of}
use Rattle.tree_rules.specs.Rules.{Ack, Announce, Idle, Kind, Leave, Send, Take, effect, kind_of}
use Rattle.tree_rules.specs.Soundness.{Sound}
use Rattle.tree_rules.specs.Start.{first_state, start_of}
use Rattle.tree_rules.specs.State.{State}
use Rattle.tree_runs.proofs.Agreed.{is_send, other_kind}
use Rattle.tree_runs.proofs.Starts.{initial_start, start_accepted, start_initial}
use Rattle.tree_runs.proofs.Steps.{action_rule, rule_action}
use Rattle.tree_rules.proofs.Fields.{same_n, same_root}
use Rattle.tree_runs.proofs.Trace.{closed_step}
use Rattle.tree_runs.proofs.Traced.{may, sound_after, traced}
use Rattle.tree_runs.specs.Agreement.{BelowLimit, Reachable, RunTo, initial, later, root_of, sends_of}
use Rattle.tree_runs.specs.Counts.{is_announce, kind, tree}
use Rattle.tree_runs.specs.DijkstraScholten.{Addr, Initial, Step, Systems, deactivate, disengage, receive_ack, receive_dat, send_dat}
use Rattle.tree_runs.specs.View.{Action, is_ack, is_announce_action, is_idle, is_leave, is_send_action, is_take, systems_of}
use Rattle.tree_rules.specs.Rules.{Unknown}

-- two addresses of one number
same_addr : {N : ℕ} (k l : ℕ) → k ≡ l → (p : k < N) (q : l < N) → ◌≡◌ {A = Addr N} (record { nr = k; below = p }) (record { nr = l; below = q })
same_addr {N} k l e p =
    subst (λ (m : ℕ). (q : m < N) → ◌≡◌ {A = Addr N} (record { nr = k; below = p }) (record { nr = m; below = q })) e
    (λ q. ap (λ (h : k < N). record { nr = k; below = h }) (le_prop p q))

-- what holds of t's own nodes and root holds of N and a0, where these are t's
moved :
    (Q : (M : ℕ) → Addr M → Type 0) (t : State) (ok : Sound t) → Q t.n (root_of t ok)
    → {N : ℕ} (a0 : Addr N) → t.n ≡ N → t.root ≡ a0.nr → Q N a0
moved Q t ok q {N} a0 size e =
    subst (λ (M : ℕ). (b : Addr M) → t.root ≡ b.nr → Q M b) size
    (λ b p. subst (Q t.n) (same_addr t.root b.nr p ok.root_in b.below) q) a0 e

-- an accepted send is counted
abbrev send_one : Kind → ℕ
send_one k = cond (is_send k) 1 0

sends_effect : (t : State) (k : Kind) (i j : ℕ) → Rule t i j k → (effect t k i j).sends ≡ t.sends + send_one k
sends_effect t Send i j w = refl
sends_effect t Take i j w = take_cases (λ (s : State). s.sends ≡ t.sends + 0) t i j (λ _. omega arith) (λ _. omega arith)
sends_effect t Idle i j w = omega arith
sends_effect t Ack i j w = omega arith
sends_effect t Leave i j w = omega arith
sends_effect t Announce i j w = omega arith
sends_effect t Unknown i j w = elim w [ ]

-- ---- a run's states are reachable

module _ {N : ℕ} (a0 : Addr N) {s : Systems N} {m : ℕ} (before : Reachable a0 s m) where
  action_reaches : {u : Systems N} {k : Kind} {i j : ℕ} → Action a0 s u k i j → Reachable a0 u (m + send_one k)
  action_reaches (is_send_action i j x) = later before (send_dat i j x)
  action_reaches (is_take i k x) = later before (receive_dat i k x)
  action_reaches (is_idle i x) = later before (deactivate i x)
  action_reaches (is_ack i x) = later before (receive_ack i x)
  action_reaches (is_leave i ne x) = later before (disengage i ne x)
  action_reaches {u} (is_announce_action d e) =
      let z : m ≡ m + 0 = omega arith in
      subst (λ n. Reachable a0 u n) z (subst (λ v. Reachable a0 v m) (sym e) before)

step_reaches :
    (t : State) → Sound t → (k : Kind) (i j : ℕ) → Rule t i j k → {N : ℕ} (a0 : Addr N) → t.n ≡ N → t.root ≡ a0.nr
    → Reachable a0 (systems_of N t) t.sends → Reachable a0 (systems_of N (effect t k i j)) (effect t k i j).sends
step_reaches t ok k i j w a0 =
    moved (λ M b. Reachable b (systems_of M t) t.sends → Reachable b (systems_of M (effect t k i j)) (effect t k i j).sends) t ok here a0
  where
    here : Reachable (root_of t ok) (systems_of t.n t) t.sends → Reachable (root_of t ok) (systems_of t.n (effect t k i j)) (effect t k i j).sends
    here b =
        subst (λ (m : ℕ). Reachable (root_of t ok) (systems_of t.n (effect t k i j)) m) (sym (sends_effect t k i j w))
        (action_reaches (root_of t ok) b (rule_action t ok k i j w))

run_reaches :
    {t t' : State} {xs acc : List Request} → Run tree t xs t' acc → Sound t → {N : ℕ} (a0 : Addr N) → t.n ≡ N → t.root ≡ a0.nr
    → Reachable a0 (systems_of N t) t.sends → Reachable a0 (systems_of N t') t'.sends
run_reaches stop ok a0 size e b = b
run_reaches (took {s = t} {x = x} a c) ok a0 size e b =
    run_reaches c (sound_after t x a) a0 (same_n t (kind x) x.i x.j ∙ size) (same_root t (kind x) x.i x.j ∙ e)
    (step_reaches t ok (kind x) x.i x.j (may t x a).by a0 size e b)
run_reaches (kept c) ok a0 size e b = run_reaches c ok a0 size e b

-- ---- a start

module _ {N : ℕ} (a0 : Addr N) (small : N ≤ 16) where
  first : State
  first = (start_of N a0.nr).state

  first_is : first ≡ first_state N a0.nr
  unfolding first
  first_is = start_answered.first N a0.nr (start_accepted a0 small)

  first_sound : Sound first
  unfolding first
  first_sound = (sound_kept.start N a0.nr (start_accepted a0 small)).sound

  first_running : first.closed ≡ false
  unfolding first
  first_running = (sound_kept.start N a0.nr (start_accepted a0 small)).running

  first_n : first.n ≡ N
  unfolding first_state
  first_n = ap (λ (t : State). t.n) first_is

  first_root : first.root ≡ a0.nr
  unfolding first_state
  first_root = ap (λ (t : State). t.root) first_is

  first_sends : first.sends ≡ 0
  unfolding first_state
  first_sends = ap (λ (t : State). t.sends) first_is

  pub run_reachable :
      (xs : List Request)
      → Reachable a0 (systems_of N (run_of tree (start_of N a0.nr).state xs)) (run_of tree (start_of N a0.nr).state xs).sends
  unfolding first
  run_reachable xs =
      run_reaches (run_of_lem tree first xs) first_sound a0 first_n first_root
      (subst (λ (m : ℕ). Reachable a0 (systems_of N first) m) (sym first_sends) (initial (start_initial a0 small)))

-- ---- reachable systems are a run's

-- one accepted request that leads to u and is no announcement, with c sends
record One (N : ℕ) (t : State) (u : Systems N) (c : ℕ) : Type 0 where
  x : Request
  accepted : Accepts tree t x
  there : systems_of N (next tree t x) ≡ u
  running : (next tree t x).closed ≡ false
  count : (next tree t x).sends ≡ t.sends + c

module _ (t : State) (ok : Sound t) (running : t.closed ≡ false) where
  by_rule :
      (k i j : ℕ) (u : Systems t.n) → Action (root_of t ok) (systems_of t.n t) u (kind_of k) i j → BelowLimit t k
      → is_announce (kind_of k) ≡ false → One t.n t u (send_one (kind_of k))
  by_rule k i j u a room other =
      let l = action_rule t ok u (kind_of k) i j a room in
      let e = accepted t (kind_of k) i j (record { sound = ok; running = running }) l.rule in
      let made : settle (verdict_of t (kind_of k) i j) (effect t (kind_of k) i j) t ≡ effect t (kind_of k) i j = ap (λ (v : Verdict). settle v (effect t (kind_of k) i j) t) e in
      record {
        x = record { kind = k; i = i; j = j };
        accepted = e;
        there = ap (systems_of t.n) made ∙ l.there;
        running = ap (λ (u : State). u.closed) made ∙ closed_step t (kind_of k) i j ∙ rw (other, running);
        count = ap (λ (u : State). u.sends) made ∙ sends_effect t (kind_of k) i j l.rule;
      }

  by_step :
      (u : Systems t.n) (a : Step (root_of t ok) (systems_of t.n t) u)
      → t.sends + sends_of (root_of t ok) a ≤ send_limit → One t.n t u (sends_of (root_of t ok) a)
  by_step u (deactivate i x) h = by_rule 3 i.nr 0 u (is_idle i x) (λ e. other_kind (sym e) refl) refl
  by_step u (send_dat i j x) h = by_rule 1 i.nr j.nr u (is_send_action i j x) (λ e. omega arith) refl
  by_step u (receive_dat i k x) h = by_rule 2 i.nr k.nr u (is_take i k x) (λ e. other_kind (sym e) refl) refl
  by_step u (receive_ack i x) h = by_rule 4 i.nr 0 u (is_ack i x) (λ e. other_kind (sym e) refl) refl
  by_step u (disengage i ne x) h = by_rule 5 i.nr 0 u (is_leave i ne x) (λ e. other_kind (sym e) refl) refl

  -- the same for N and a0, and s what t shows
  one :
      {N : ℕ} (a0 : Addr N) → t.n ≡ N → t.root ≡ a0.nr → {s : Systems N} → systems_of N t ≡ s
      → (u : Systems N) (a : Step a0 s u) → t.sends + sends_of a0 a ≤ send_limit → One N t u (sends_of a0 a)
  one {N} a0 size e {s} p =
      subst (λ (v : Systems N). (u : Systems N) (a : Step a0 v u) → t.sends + sends_of a0 a ≤ send_limit → One N t u (sends_of a0 a)) p
      (moved
      (λ M b. (u : Systems M) (a : Step b (systems_of M t) u) → t.sends + sends_of b a ≤ send_limit → One M t u
      (sends_of b a)) t ok by_step a0 size e)

module _ {N : ℕ} (a0 : Addr N) (small : N ≤ 16) where
  -- one request more
  more : {s u : Systems N} {m c : ℕ} (w : RunTo a0 s m) → One N (run_of tree (start_of N a0.nr).state w.requests) u c → RunTo a0 u (m + c)
  unfolding run_of accepted_of
  more {c = c} w o =
      let start = (start_of N a0.nr).state in
      let now : run_of tree start (w.requests ++ (o.x ∷ [])) ≡ next tree (run_of tree start w.requests) o.x = run_append tree start w.requests (o.x ∷ []) in
      let took : accepted_of tree (run_of tree start w.requests) (o.x ∷ []) ≡ o.x ∷ [] = ap (λ (v : Verdict). settle v (o.x ∷ []) []) o.accepted in
      record {
        requests = w.requests ++ (o.x ∷ []);
        accepted = accepted_append tree start w.requests (o.x ∷ []) ∙ (λ y. w.accepted y ++ took y);
        running = ap (λ (u : State). u.closed) now ∙ o.running;
        count = ap (λ (u : State). u.sends) now ∙ o.count ∙ ap (λ (n : ℕ). n + c) w.count;
        there = ap (systems_of N) now ∙ o.there;
      }

  empty_run : {s : Systems N} → Initial a0 s → RunTo a0 s 0
  unfolding run_of accepted_of first
  empty_run {s} i =
      record {
        requests = [];
        accepted = refl;
        running = first_running a0 small;
        count = first_sends a0 small;
        there = initial_start a0 small s i;
      }

  run_more : {s u : Systems N} {m : ℕ} (w : RunTo a0 s m) (a : Step a0 s u) → m + sends_of a0 a ≤ send_limit → RunTo a0 u (m + sends_of a0 a)
  unfolding first
  run_more {u = u} w a h =
      let p = traced (first a0 small) (first_sound a0 small) w.requests in
      more w
      (one (run_of tree (first a0 small) w.requests) p.sound w.running a0 (p.nodes ∙ first_n a0 small) (p.root ∙ first_root a0 small)
      w.there u a
      (omega (arith, w.count, h)))

  pub reachable_run : {u : Systems N} {m : ℕ} → Reachable a0 u m → m ≤ send_limit → RunTo a0 u m
  reachable_run (initial i) h = empty_run i
  reachable_run (later b a) h = run_more (reachable_run b (omega arith)) a h
