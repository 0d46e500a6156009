-- The limit of sends, counted over a run. Assumes nothing.
use Prim.Native.Nat.{◌<◌, ℕ}
use mathlib.Core.Bool.{true}
use mathlib.Core.List.{List}
use mathlib.Core.Logic.{◌↔◌}
use mathlib.Core.Path.{◌∙◌, ◌≡◌, ap, subst, sym}
use native.Mathlib.Omega.{arith}
use Rattle.refusal.specs.Table.{code_of, send_limit}
use Rattle.refusal.specs.Table.{Accepted}
use Rattle.runs.specs.Runs.{Request, accepted_of, run_of}
use Rattle.tree_rules.proofs.Theorems.{limit_met, sound_kept, start_answered}
use Rattle.tree_rules.specs.Answers.{answer_of, verdict_of}
use Rattle.tree_rules.specs.Rules.{Kind, Send}
use Rattle.tree_rules.specs.Soundness.{Open}
use Rattle.tree_rules.specs.Start.{first_state, start_of, start_verdict}
use Rattle.tree_rules.specs.State.{State}
use Rattle.tree_rules.specs.Theorems.{Sending}
use Rattle.tree_runs.proofs.Traced.{Traced, traced}
use Rattle.tree_runs.specs.Counts.{Unannounced, active_by, kind, sends_by, sends_in, tree}
use Rattle.tree_runs.specs.WholeRun.{LimitCounted}

module _ (t : State) (o : Open t) (xs : List Request) where
  abbrev here : State
  here = run_of tree t xs

  trace : Traced t (accepted_of tree t xs) here
  trace = traced t o.sound xs

  only : (x : Request) → code_of (tree.verdict here x) ≡ 9 → (kind x ≡ Send) × (sends_by t xs ≡ send_limit)
  unfolding answer_of
  only x e = let w = limit_met.only here (kind x) x.i x.j e in (w.0, sym trace.sends ∙ w.1)

  -- what the number k says of the count m of sends
  abbrev Decided : ℕ → ℕ → Type 0
  Decided k m = ((k ≡ 0) ↔ (m < send_limit)) × ((k ≡ 9) ↔ (m ≡ send_limit))

  decides :
      Unannounced t xs → (x : Request) → kind x ≡ Send → x.i < t.n → x.j < t.n → active_by t xs x.i ≡ true
      → Decided (code_of (tree.verdict here x)) (sends_by t xs)
  unfolding answer_of
  decides u x e hi hj act =
      let run : Open here = record { sound = trace.sound; running = trace.closing ∙ rw (u, o.running) } in
      let s : Sending here x.i x.j =
      record {
        sender = omega (arith, trace.nodes);
        receiver = omega (arith, trace.nodes);
        active = trace.active x.i ∙ act;
      } in
      let w : Decided (code_of (verdict_of here Send x.i x.j)) here.sends =
      (limit_met.below here x.i x.j run s, limit_met.spent here x.i x.j run s) in
      subst (Decided (code_of (tree.verdict here x))) trace.sends
      (subst (λ (k : Kind). Decided (code_of (verdict_of here k x.i x.j)) here.sends) (sym e) w)

module _ (n root : ℕ) (e : start_verdict n root ≡ Accepted) (xs : List Request) where
  none_sent : (start_of n root).state.sends ≡ 0
  unfolding first_state
  none_sent = ap (λ (t : State). t.sends) (start_answered.first n root e)

  from_start :
      (x : Request) → code_of (tree.verdict (run_of tree (start_of n root).state xs) x) ≡ 9
      → (kind x ≡ Send) × (sends_in (accepted_of tree (start_of n root).state xs) ≡ send_limit)
  from_start x p =
      let w = only (start_of n root).state (sound_kept.start n root e) xs x p in
      (w.0, omega (arith, w.1, none_sent))

pub limit_counted : LimitCounted
limit_counted =
    record {
      only = only;
      decides = decides;
      from_start = from_start;
      below = λ n root e xs h x p. omega (arith, (from_start n root e xs x p).1);
    }
