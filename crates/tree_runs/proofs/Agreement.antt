-- The statements of specs/Agreement.antt, proved. Assumes nothing.
use Prim.Native.Nat.{ℕ}
use Rattle.tree_rules.proofs.Start.{fits}
use Rattle.tree_rules.specs.Soundness.{Sound}
use Rattle.tree_rules.specs.State.{State}
use Rattle.tree_rules.proofs.Fields.{nodes_kept, root_kept}
use Rattle.tree_runs.proofs.Agreed.{accepted_rule, accepted_step, announce_signal, refused_same, rule_accepted, signal_last, step_answered}
use Rattle.tree_runs.proofs.Behaviours.{reachable_run, run_reachable}
use Rattle.tree_runs.proofs.Starts.{initial_start, start_accepted, start_initial}
use Rattle.tree_runs.proofs.Sums.{balance_of, null_of_sound, safe_of, tree_of}
use Rattle.tree_runs.specs.Agreement.{StartsAgree, StepsAgree, TreeAgrees}

starts_agree : (N : ℕ) → StartsAgree N
starts_agree N =
    record {
      start_is_initial = λ a0 small. (start_accepted a0 small, start_initial a0 small);
      initial_is_start = λ a0 small. initial_start a0 small;
      others_refused = λ root e. let f = fits N root e in (f.nodes, f.root_in);
    }

steps_agree : (t : State) (ok : Sound t) → StepsAgree t ok
steps_agree t ok =
    record {
      nodes_kept = nodes_kept t;
      root_kept = root_kept t;
      accepted_is_rule = accepted_rule t ok;
      rule_is_accepted = rule_accepted t ok;
      accepted_is_step = accepted_step t ok;
      refused_is_same = refused_same t ok;
      step_is_answered = step_answered t ok;
      announce_is_signal = announce_signal t ok;
      signal_is_last = signal_last t ok;
      tree_invariant = tree_of t ok;
      balance_invariant = balance_of t ok;
      null_invariant = null_of_sound t ok;
      safety = safe_of t ok;
    }

pub tree_agrees : TreeAgrees
tree_agrees =
    record {
      starts = starts_agree;
      steps = steps_agree;
      runs = λ N a0. record { run_is_reachable = run_reachable a0; reachable_is_run = λ small u m b h. reachable_run a0 small b h };
    }
