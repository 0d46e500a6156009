-- The statement of specs/WholeLog.antt, proved. Assumes nothing.
use Prim.Native.Nat.{◌*◌, ◌-◌, ◌<◌, ◌≤◌, min, ℕ}
use lib.ListN.{length}
use mathlib.Core.Bool.{true}
use mathlib.Core.List.{List, [], ◌++◌, ◌∷◌, append-nil}
use mathlib.Core.Logic.{◌⊎◌, inl, inr}
use mathlib.Core.Path.{◌∙◌, ◌≡◌, ap, refl, subst}
use native.Mathlib.Nat.{zero-add}
use native.Mathlib.Omega.{arith}
use Rattle.decimal.specs.Text.{decimal, digits}
use Rattle.log_rules.proofs.Cuts.{lines_over}
use Rattle.log_rules.proofs.Theorems.{lines_cut, lines_read}
use Rattle.log_rules.specs.Answers.{Stage, answer_text, end_text, fresh, on_ring, on_tree, opened_by, ring_end, ring_request, tree_request}
use Rattle.log_rules.specs.Lines.{line_limit, lines_of, split}
use Rattle.log_rules.specs.Output.{lines_told, output_of}
use Rattle.log_rules.specs.Theorems.{LinesOf}
use Rattle.decimal.specs.Bytes.{bytes}
use Rattle.refusal.proofs.Table.{not_both}
use Rattle.refusal.specs.declared.Refusal.{Refusal}
use Rattle.refusal.specs.Table.{Verdict}
use Rattle.refusal.specs.Table.{Accepted, Refused}
use Rattle.ring_rules.specs.Theorems.{TokenMove}
use Rattle.forms.specs.declared.RingStep.TheVariants as ring_step
use Rattle.forms.specs.declared.TreeStep.TheVariants as tree_step
use Rattle.runs.specs.Runs.{Accepts, Request, accepted_of, run_of}
use Rattle.tree_rules.specs.Termination.{Closing}
use Rattle.tree_runs.specs.WholeRun.{steps_by}
use Rattle.log_runs.proofs.Detectors.{ring_answers, ring_reads, ring_steps, tree_answers, tree_reads, tree_steps}
use Rattle.log_runs.proofs.First.{first_line_is_told, ring_accepted, tree_accepted, update_accepted}
use Rattle.log_runs.proofs.Runs.{Left, announce_ok, counts_down, each_asks, lines_printed, none_after, told_printed, unannounced}
use Rattle.log_runs.proofs.Theorems.{log_runs}
use Rattle.log_runs.proofs.UpdateLog.{update_log}
use Rattle.log_runs.proofs.Updates.{update_reads}
use Rattle.log_runs.specs.First.{FirstAsks, StartAsk, begun, first_verdict, flags_to, no_start, ring_start_ask, tree_start_ask, update_start}
use Rattle.log_runs.specs.Says.{Ask, Each, RingAsks, TreeAsks, moves_in, printed, requests_in, stage_after}
use Rattle.log_runs.specs.WholeLog.{LogBy, RingLog, TreeLog, WholeLog}
use Rattle.log_runs.specs.Answered.{answers, said}
use Rattle.log_rules.specs.Theorems as lines
use Rattle.log_rules.specs.Answers as rules
use Rattle.ring_rules.specs.Soundness as ring_sound
use Rattle.ring_rules.specs.Start as ring_start
use Rattle.ring_rules.specs.State as ring_state
use Rattle.ring_rules.proofs.Theorems as ring_theorems
use Rattle.ring_runs.proofs.Agreement as ring_agreement
use Rattle.ring_runs.proofs.WholeRun as ring_runs
use Rattle.ring_runs.specs.Counts as ring_counts
use Rattle.ring_runs.specs.WholeRun as ring_whole
use Rattle.tree_rules.specs.Start as tree_start
use Rattle.tree_rules.specs.State as tree_state
use Rattle.tree_rules.proofs.Start as tree_laws
use Rattle.tree_runs.proofs.Agreement as tree_agreement
use Rattle.tree_runs.proofs.WholeRun as tree_runs
use Rattle.tree_runs.specs.Counts as tree_counts
use Rattle.tree_runs.specs.WholeRun as tree_whole

-- ---- the lines that are read

read_lines : (s : List ℕ) → (s' : List ℕ) × LinesOf s' (lines_of s)
read_lines s = log_runs.taken (lines_cut.lines s) line_limit

later_lines : {s l : List ℕ} {ls : List (List ℕ)} → LinesOf s (l ∷ ls) → (s' : List ℕ) × LinesOf s' ls
later_lines (lines.last u h) = ([], lines.no_line)
later_lines (lines.another {s = s} o c) = (s, c)

-- ---- the first line decides

module _ (s l : List ℕ) (ls : List (List ℕ)) (o : output_of s ≡ lines_told fresh 1 (l ∷ ls)) {a : StartAsk} (f : FirstAsks l a) where
  by_first : {v : Verdict} → first_verdict a ≡ v → output_of s ≡ (opened_by v (begun a)).text ++ lines_told (opened_by v (begun a)).stage 2 ls
  unfolding lines_told
  by_first {v} is =
      let told = first_line_is_told 1 f ∙ ap (λ (v : Verdict). opened_by v (begun a)) is in
      o ∙ ap (λ (t : rules.Told). t.text ++ lines_told t.stage 2 ls) told

  refused : {x : Refusal} → first_verdict a ≡ Refused x → output_of s ≡ answer_text 1 (Refused x)
  refused {x} is =
      let text = answer_text 1 (Refused x) in by_first is ∙ (ap (λ (t : List ℕ). text ++ t) (lines_over 2 ls) ∙ append-nil text)

  accepted :
      first_verdict a ≡ Accepted
      → output_of s ≡ answer_text 1 Accepted ++ (printed (begun a) 2 ls ++ end_text (stage_after (begun a) 2 ls))
  accepted is = by_first is ∙ ap (λ (t : List ℕ). answer_text 1 Accepted ++ t) (told_printed (begun a) 2 ls)

-- ---- a ring

ring_left : {t : ring_state.State} {ys : List Request} {K : ℕ} → ring_whole.Counted t K ys
    → Left ring_steps ring_counts.ring (λ x. TokenMove (ring_counts.kind x)) t K ys
ring_left {t} {ys} d = record {
  one_of = λ x a. one x a d.then;
  at_most = d.at_most;
  exactly = d.exactly (ring_request ring_step.Announce) refl;
}
  where
    one : (x : Request) → Accepts ring_counts.ring (run_of ring_counts.ring t ys) x → ring_whole.OneOfTwo (run_of ring_counts.ring t ys)
        → TokenMove (ring_counts.kind x) ⊎ (ring_counts.is_announce (ring_counts.kind x) ≡ true)
    one x a (ring_whole.token_moves y b moves) = inl (moves x a)
    one x a (ring_whole.announcement all alone) = inr (ap ring_counts.is_announce (alone x a))

module _ (n : ℕ) (flags : List ℕ) (started : ring_start.start_verdict n flags ≡ Accepted) where
  abbrev ring_first : ring_state.State
  ring_first = (ring_start.start_of n flags).state

  ring_open : ring_sound.Open ring_first
  ring_open = (ring_theorems.sound_kept).start n flags started

  ring_nodes : ring_first.n ≡ n
  unfolding ring_start.first_state
  ring_nodes = ap (λ (x : ring_state.State). x.n) ((ring_theorems.start_answered).first n flags started)

  ring_log : (s : List ℕ) (ls : List (List ℕ))
      → output_of s ≡ answer_text 1 Accepted ++ (printed (on_ring ring_first 0) 2 ls ++ end_text (stage_after (on_ring ring_first 0) 2 ls))
      → (qs : List (Ask Request)) → Each RingAsks ls qs → RingLog s ls n ring_first
  ring_log s ls o qs c = record {
    asks = qs;
    says = c;
    output =
        o
        ∙ (ap (λ (t : List ℕ). answer_text 1 Accepted ++ (t ++ end_text (stage_after (on_ring ring_first 0) 2 ls)))
        (lines_printed ring_counts.ring ring_answers ring_first 0 2 c)
        ∙ ap (λ (t : List ℕ). answer_text 1 Accepted ++ (answers ring_counts.ring ring_first qs ++ t)) end);
    quiet = λ i a. (point i).quiet (ring_request ring_step.Announce) refl (announce_ok ring_steps ring_counts.ring ring_first c i a);
    last = none_after ring_steps ring_counts.ring ring_first c (λ i. (point i).last);
    countdown = λ i quiet none.
        let d = (point i).countdown quiet (unannounced ring_steps ring_counts.ring ring_first c i none) in (
          d.K,
          subst (λ (k : ℕ). d.K ≤ 3 * k - 2) ring_nodes d.bound,
          counts_down ring_steps ring_counts.ring ring_first c i d.K (λ ys u. ring_left (d.counted ys u)),
        );
    point = point;
    received = λ i b. ((ring_runs.whole_runs).from_start n flags started (said qs i) b).0;
    pending = λ i b. ((ring_runs.whole_runs).from_start n flags started (said qs i) b).1;
    reachable = λ h i. (ring_agreement.runs_agree h).run_is_reachable flags started (said qs i);
  }
    where
      point : (i : ℕ) → ring_whole.Point ring_first (said qs i)
      point i = (ring_runs.whole_runs).point ring_first ring_open (said qs i)

      end : end_text (stage_after (on_ring ring_first 0) 2 ls)
          ≡ ring_end (run_of ring_counts.ring ring_first (requests_in qs)) (moves_in (accepted_of ring_counts.ring ring_first (requests_in qs)))
      end =
          ap end_text (log_runs.ring_state ring_first 0 2 (qs, c, refl))
          ∙ ap (ring_end (run_of ring_counts.ring ring_first (requests_in qs))) (zero-add _)

-- ---- a tree

tree_left : {t : tree_state.State} {ys : List Request} {K : ℕ} → tree_whole.Counted t K ys
    → Left tree_steps tree_counts.tree (λ x. Closing (tree_counts.kind x)) t K ys
tree_left {t} {ys} d = record {
  one_of = λ x a. one x a d.then;
  at_most = d.at_most;
  exactly = d.exactly (tree_request tree_step.Announce) refl;
}
  where
    one : (x : Request) → Accepts tree_counts.tree (run_of tree_counts.tree t ys) x → tree_whole.OneOfTwo (run_of tree_counts.tree t ys)
        → Closing (tree_counts.kind x) ⊎ (tree_counts.is_announce (tree_counts.kind x) ≡ true)
    one x a (tree_whole.closing_steps y b closing) = inl (closing x a)
    one x a (tree_whole.announcement all alone) = inr (ap tree_counts.is_announce (alone x a))

module _ (n root : ℕ) (started : tree_start.start_verdict n root ≡ Accepted) where
  abbrev tree_first : tree_state.State
  tree_first = (tree_start.start_of n root).state

  tree_log : (s : List ℕ) (ls : List (List ℕ))
      → output_of s ≡ answer_text 1 Accepted ++ (printed (on_tree tree_first) 2 ls ++ end_text (stage_after (on_tree tree_first) 2 ls))
      → (qs : List (Ask Request)) → Each TreeAsks ls qs → TreeLog s ls n root tree_first
  tree_log s ls o qs c = record {
    asks = qs;
    says = c;
    output =
        o
        ∙ (ap (λ (t : List ℕ). answer_text 1 Accepted ++ (t ++ end_text (stage_after (on_tree tree_first) 2 ls)))
        (lines_printed tree_counts.tree {stage = λ t moves. on_tree t} tree_answers tree_first 0 2 c)
        ∙ ap (λ (t : Stage). answer_text 1 Accepted ++ (answers tree_counts.tree tree_first qs ++ end_text t))
        (log_runs.tree_state tree_first 2 (qs, c, refl)));
    quiet = λ i a. (point i).quiet (tree_request tree_step.Announce) refl (announce_ok tree_steps tree_counts.tree tree_first c i a);
    last = none_after tree_steps tree_counts.tree tree_first c (λ i. (point i).last);
    countdown = λ i quiet none.
        let d = (point i).countdown quiet (unannounced tree_steps tree_counts.tree tree_first c i none) in
        counts_down tree_steps tree_counts.tree tree_first c i (steps_by tree_first (said qs i)) (λ ys u. tree_left (d ys u));
    point = point;
    reachable = λ h i.
        ((tree_agreement.tree_agrees).runs n (record { nr = root; below = h })).run_is_reachable (tree_laws.fits n root started).nodes (said qs i);
  }
    where
      point : (i : ℕ) → tree_whole.Point tree_first (said qs i)
      point i = (tree_runs.whole_runs).from_start n root started (said qs i)

-- ---- the log

nothing_told : lines_told fresh 1 [] ≡ bytes "(no 1 10)\n"
unfolding lines_told decimal digits
nothing_told = refl

-- the lines after the first of at most so many
few_later :
    (n k : ℕ) (read : List (List ℕ)) (l : List ℕ) (ls : List (List ℕ)) → length read ≡ min n k → read ≡ l ∷ ls → length ls < n
few_later n k read l ls h e = omega (arith, ap length e)

few_read : (s l : List ℕ) (ls : List (List ℕ)) → lines_of s ≡ l ∷ ls → length ls < line_limit
few_read s l ls e = few_later 1000000 (length (split [] s)) (lines_of s) l ls (lines_read.many s) e

told_by :
    (s l : List ℕ) (ls : List (List ℕ)) → length ls < line_limit → output_of s ≡ lines_told fresh 1 (l ∷ ls) → {s' : List ℕ} → LinesOf s' ls → (a : StartAsk) → FirstAsks l a
    → (v : Verdict) → first_verdict a ≡ v → LogBy s ls a v
told_by s l ls few o c a f (Refused x) e = refused s l ls o f e
told_by s l ls few o c (ring_start_ask n active black) f Accepted e =
    let w = each_asks ring_reads c in
    ring_log n (flags_to active black n) (ring_accepted n active black e) s ls (accepted s l ls o f e) w.0 w.1
told_by s l ls few o c (tree_start_ask n root) f Accepted e =
    let w = each_asks tree_reads c in tree_log n root (tree_accepted n root e) s ls (accepted s l ls o f e) w.0 w.1
told_by s l ls few o c (update_start u n active black) f Accepted e =
    let w = each_asks update_reads c in
    update_log u n (flags_to active black n) (update_accepted u n active black e) w.1 s few (accepted s l ls o f e)
told_by s l ls few o c no_start f Accepted e = not_both e refl

pub whole_log : WholeLog
whole_log s = record {
  missing = λ e. lines_read.output s ∙ (ap (lines_told fresh 1) e ∙ nothing_told);
  begins = λ l ls e.
      let read = subst (λ (ts : List (List ℕ)). (s' : List ℕ) × LinesOf s' ts) e (read_lines s) in
      let first = log_runs.first_asks read.1 in
      let output = lines_read.output s ∙ ap (lines_told fresh 1) e in
      (first.0, first.1, told_by s l ls (few_read s l ls e) output (later_lines read.1).1 first.0 first.1 (first_verdict first.0) refl);
}
