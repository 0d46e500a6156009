-- The statements of specs/Tree.antt, proved, the runs by computation. Assumes nothing.
use Prim.Native.Nat.{ℕ}
use borrow.Author.Tests.{eqb-true, not-true}
use lib.Dec.{eqb}
use lib.ListN.{length}
use mathlib.Core.Bool.{Bool, false, not, true}
use mathlib.Core.List.{List, [], ◌++◌, ◌∷◌}
use mathlib.Core.Path.{◌∙◌, ◌≡◌, ap, refl, sym}
use native.Mathlib.Omega.{arith}
use Rattle.laws.proofs.Places.{all_at}
use Rattle.laws.specs.Places.{all_to}
use Rattle.laws.specs.Sums.{count_to, sum_to}
use Rattle.runs.specs.Runs.{Accepts, Request, accepted_of, run_of}
use Rattle.tree_rules.proofs.Theorems.{sound_kept, sound_tested}
use Rattle.tree_rules.specs.Answers.{verdict_of}
use Rattle.tree_rules.specs.Rules.{conclusive, may_leave}
use Rattle.tree_rules.specs.Soundness.{Open, balance_test, chain_test, closed_test, engager_test, limit_test, pair_test, place_test, range_test, rest_test, shape_test, sound_test}
use Rattle.tree_rules.specs.Start.{blank, first_state, start_of, start_verdict}
use Rattle.tree_rules.specs.State.{State, children, climb, messages_from}
use Rattle.tree_rules.specs.Termination.{acks_total, engaged_others}
use Rattle.tree_runs.proofs.Agreement.{tree_agrees}
use Rattle.tree_runs.proofs.Change.{engaged_null}
use Rattle.tree_runs.proofs.WholeRun.{whole_runs}
use Rattle.tree_runs.specs.Counts.{Announced, Unannounced, active_by, transit_by, tree}
use Rattle.tree_runs.specs.DijkstraScholten.{Addr}
use Rattle.instances.specs.Tree.{Instances, QuietPoint, Worked, alone, alone_requests, alone_sends, alone_takes, below_requests, below_steps, first, handed, handed_requests, handed_steps, handed_tree, requests, steps}
use Rattle.tree_runs.specs.Requests.{ack, announce, numbers}
use Rattle.tree_runs.specs.WholeRun.{steps_by}

-- ---- from what is computed

open_tested : (t : State) → sound_test t ≡ true → t.closed ≡ false → Open t
open_tested t e c = record { sound = sound_tested.holds t e; running = c }

module _ (t : State) (xs : List Request) where
  abbrev passive_at : ℕ → Bool
  passive_at b = not (active_by t xs b)

  abbrev empty_at : ℕ → ℕ → Bool
  empty_at b c = eqb (transit_by t xs b c) 0

  quiet_point :
      all_to t.n passive_at ≡ true → all_to t.n (λ b. all_to t.n (empty_at b)) ≡ true → Unannounced t xs → QuietPoint t xs
  quiet_point p e u =
      record {
        quiet =
            record {
              passive = λ b h. not-true _ (all_at t.n passive_at p b h);
              empty = λ b c hb hc. eqb-true _ _ (all_at t.n (empty_at b) (all_at t.n (λ b. all_to t.n (empty_at b)) e b hb) c hc);
            };
        unannounced = u;
      }

  -- the announcement is accepted after ys, so that K is their number
  worked :
      (ys : List Request) (K : ℕ) → Open t → QuietPoint t xs
      → accepted_of tree (run_of tree t xs) ys ≡ ys → Unannounced (run_of tree t xs) ys
      → Accepts tree (run_of tree (run_of tree t xs) ys) announce → Announced t (xs ++ (ys ++ announce ∷ []))
      → length ys ≡ K → steps_by t xs ≡ K → Worked t xs ys K
  worked ys K o q m u a l k s =
      record {
        accepted = m;
        unannounced = u;
        announces = a;
        announced = l;
        sum = s;
        countdown = rw (← s) ((whole_runs.point t o xs).countdown q.quiet q.unannounced);
        only = λ i c. sym (((c ys u).exactly announce refl).0 a) ∙ ap length m ∙ k;
      }

pub instances : Instances
unfolding numbers run_of accepted_of sum_to count_to messages_from children climb may_leave conclusive shape_test range_test engager_test chain_test balance_test rest_test pair_test place_test limit_test closed_test sound_test verdict_of first_state blank start_verdict start_of acks_total engaged_others
instances =
    let first_open : Open first = sound_kept.start 3 0 refl in
    let first_quiet : QuietPoint first requests = quiet_point first requests refl refl refl in
    let handed_open : Open handed = open_tested handed refl refl in
    let handed_quiet : QuietPoint handed [] = quiet_point handed [] refl refl refl in
    let three_open : Open handed_tree = open_tested handed_tree refl refl in
    let three_quiet : QuietPoint handed_tree handed_requests = quiet_point handed_tree handed_requests refl refl refl in
    let alone_open : Open alone = sound_kept.start 1 0 refl in
    let alone_quiet : QuietPoint alone (alone_sends ++ alone_takes) = quiet_point alone (alone_sends ++ alone_takes) refl refl refl in
    let alone_still : QuietPoint alone alone_requests = quiet_point alone alone_requests refl refl refl in
    let below_quiet : QuietPoint first below_requests = quiet_point first below_requests refl refl refl in
    let lone : Addr 1 = record { nr = 0; below = omega arith } in
    let root : Addr 3 = record { nr = 0; below = omega arith } in
    record {
      start = (refl, first_open);
      handed_in = (handed_open, refl);
      quiet_point = (refl, first_quiet);
      worked = worked first requests steps _ first_open first_quiet refl refl refl refl refl refl;
      handed_point = handed_quiet;
      handed_worked = worked handed [] [] _ handed_open handed_quiet refl refl refl refl refl refl;
      alone_start = (refl, alone_open);
      alone_is_answered = refl;
      alone_busy = λ q. omega (arith, q.empty 0 0 (omega arith) (omega arith));
      alone_point = alone_quiet;
      alone_worked = worked alone (alone_sends ++ alone_takes) (ack 0 ∷ []) _ alone_open alone_quiet refl refl refl refl refl refl;
      alone_last = alone_still;
      alone_done = worked alone alone_requests [] _ alone_open alone_still refl refl refl refl refl refl;
      below_is_answered = refl;
      below_point = below_quiet;
      below_counts = (refl, refl);
      below_worked = worked first below_requests below_steps _ first_open below_quiet refl refl refl refl refl refl;
      three_in = three_open;
      three_point = (refl, three_quiet);
      three_counts = (refl, refl);
      three_worked = worked handed_tree handed_requests handed_steps _ three_open three_quiet refl refl refl refl refl refl;
      agreed =
          record {
            a0 = root;
            initial = ((tree_agrees.starts 3).start_is_initial root (omega arith)).1;
            reachable = (tree_agrees.runs 3 root).run_is_reachable (omega arith) requests;
            b0 = lone;
            reachable_alone = (tree_agrees.runs 1 lone).run_is_reachable (omega arith) alone_sends;
            detected = record { passive = refl; settled = refl; engaged = engaged_null 0 (λ z. omega arith) };
          };
    }
