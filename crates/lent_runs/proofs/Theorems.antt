-- Demand 3 of calls. Assumes nothing.
use Prim.Native.Nat.{ℕ}
use mathlib.Core.Bool.{Bool, ◌||◌, cond, false, true}
use mathlib.Core.List.{List}
use mathlib.Core.Logic.{◌↔◌}
use mathlib.Core.Path.{◌∙◌, ◌≡◌, ap, refl, subst, sym}
use native.Mathlib.Omega.{arith}
use Rattle.flag_bytes.specs.Flags.{byte_of, flag_of}
use Rattle.laws.proofs.Tests.{both}
use Rattle.lent.proofs.Calls.{calls_answer}
use Rattle.lent.proofs.Sound.{fields_hold}
use Rattle.lent.specs.Ring.{Lent, lent_of, state_of, truths_test}
use Rattle.lent.specs.Table.{Eight, LentTable, ask_number, table_in, table_sound_number, table_truths}
use Rattle.lent.specs.Tree.{LentTree, lent_tree_of, tree_of, tree_step_number, tree_truths_test}
use Rattle.refusal.proofs.Table.{code_accepted}
use Rattle.refusal.specs.Table.{code_of}
use Rattle.refusal.specs.declared.Refusal.TheVariants.{Unsound}
use Rattle.refusal.specs.Table.{Verdict}
use Rattle.refusal.specs.Table.{Accepted, Refused}
use Rattle.runs.proofs.Runs.{run_of_lem}
use Rattle.runs.specs.Runs.{Request, accepted_of, run_of}
use Rattle.table_rules.proofs.Theorems.{non_interference, table_kept, table_tested}
use Rattle.table_rules.specs.Answers.{Ask, Step, verdict_on}
use Rattle.table_rules.specs.Runs.{table}
use Rattle.table_rules.specs.Soundness.{SoundTable, sound_table_test}
use Rattle.table_rules.specs.Table.{Table}
use Rattle.table_runs.proofs.WholeRun.{whole_table}
use Rattle.ring_rules.proofs.Answers as ring_answered
use Rattle.ring_rules.proofs.Driver as ring_driver
use Rattle.ring_rules.proofs.Theorems as ring_rules
use Rattle.ring_rules.specs.Answers as ring_answers
use Rattle.ring_rules.specs.Driver as ring_drive
use Rattle.ring_rules.specs.Soundness as ring_sound
use Rattle.ring_rules.specs.Start as ring_start
use Rattle.ring_rules.specs.State as ring_state
use Rattle.ring_runs.proofs.Trace as ring_trace
use Rattle.ring_runs.proofs.WholeRun as ring_run
use Rattle.ring_runs.specs.Counts as ring_counts
use Rattle.tree_rules.proofs.Answers as tree_answered
use Rattle.tree_rules.proofs.Theorems as tree_rules
use Rattle.tree_rules.specs.Answers as tree_answers
use Rattle.tree_rules.specs.Soundness as TreeSound
use Rattle.tree_rules.specs.Start as tree_start
use Rattle.tree_rules.specs.State as tree_state
use Rattle.tree_runs.proofs.Traced as tree_trace
use Rattle.tree_runs.proofs.WholeRun as tree_run
use Rattle.tree_runs.specs.Counts as tree_counts
use Rattle.lent_runs.proofs.Ring as rings
use Rattle.lent_runs.proofs.Table as tables
use Rattle.lent_runs.proofs.Tree as trees
use Rattle.lent_runs.specs.Ring.{RingCall, drive, fields_after, fields_left, number_told, requests_in, requests_of, step}
use Rattle.lent_runs.specs.Table.{columns_after}
use Rattle.lent_runs.specs.Theorems.{CallsIndependent, RingCalls, TableCalls, TreeCalls, WholeCalls}
use Rattle.lent_runs.specs.Tree.{tree_fields_after}

-- a number that is a verdict's code is 0 exactly if the verdict is accepted
zero_accepted : (k : ℕ) (v : Verdict) → k ≡ code_of v → (k ≡ 0) ↔ (v ≡ Accepted)
zero_accepted k v e = (λ z. code_accepted v (sym e ∙ z), λ a. e ∙ ap code_of a)

-- ---- the ring

module _ (r : ring_state.State) (o : ring_sound.Open r) (cs : List RingCall) where
  abbrev xs : List Request
  xs = requests_in (lent_of r) cs

  abbrev here : ring_state.State
  here = run_of ring_counts.ring r xs

  sound_here : ring_sound.Sound here
  sound_here = ring_run.sound_here r o xs

  fields : fields_after (lent_of r) cs ≡ lent_of here
  fields = rings.calls_run r o.sound cs

  told : (x : Request) → number_told (fields_after (lent_of r) cs) (step x) ≡ code_of ((ring_counts.ring).verdict here x)
  told x = ap (λ (l : Lent). number_told l (step x)) fields ∙ rings.step_told here x

  closed-here : ring_counts.Announced r xs → here.closed ≡ true
  closed-here a = ring_run.closed-here r o xs ∙ a

  -- what a drive tells here
  drive_told : (m : ℕ) → number_told (fields_after (lent_of r) cs) (drive m) ≡ ring_drive.reason_number (ring_drive.drive_of here m).reason
  drive_told m = ap (λ (l : Lent). number_told l (drive m)) fields ∙ rings.drive_told here m

  -- what a step tells after it
  told_after :
      (m : ℕ) (x : Request)
      → number_told (fields_left (fields_after (lent_of r) cs) (drive m)) (step x) ≡ code_of ((ring_counts.ring).verdict (ring_drive.drive_of here m).state x)
  told_after m x =
      ap (λ (l : Lent). number_told (fields_left l (drive m)) (step x)) fields
      ∙ ap (λ (l : Lent). number_told l (step x)) (rings.drive_left here m)
      ∙ rings.step_told (ring_drive.drive_of here m).state x

  last_told : here.closed ≡ true → (c : RingCall) → number_told (lent_of here) c ≡ 4
  last_told e (step x) =
      rings.step_told here x
      ∙ ap (λ (a : ring_answers.Answer). code_of a.verdict)
      (sym ((ring_run.whole_runs).answers here x) ∙ sym (ring_answered.closed_answer here (ring_counts.kind x) x.i x.j sound_here e))
  last_told e (drive m) =
      rings.drive_told here m ∙ ap (λ (d : ring_drive.Driven). ring_drive.reason_number d.reason) (ring_driver.drive_closed here m sound_here e)

  ring_calls : RingCalls r cs xs
  ring_calls =
      record {
        fields = fields;
        told = λ x. zero_accepted _ _ (told x);
        moves = λ m.
            subst
            (λ (l : Lent). ring_counts.AllMoves (requests_of l (drive m)) × (accepted_of ring_counts.ring here (requests_of l (drive m)) ≡ requests_of l (drive m)))
            (sym fields) (rings.drive_moves_lem here m sound_here);
        point = (ring_run.whole_runs).point r o xs;
        quiet = λ x k z. ((ring_run.whole_runs).point r o xs).quiet x k ((zero_accepted _ _ (told x)).0 z);
        last = λ a c. ap (λ (l : Lent). number_told l c) fields ∙ last_told (closed-here a) c;
        concludes = λ q e m lo hi.
            drive_told m
            ∙ ((ring_rules.driver_counts).quiet here m
            (record { sound = sound_here; running = ring_run.closed-here r o xs ∙ e })
            hi
            (ring_run.by_quiet r o xs q)
            (omega (arith, lo, ring_trace.run_n (run_of_lem ring_counts.ring r xs)))).1;
        announces = λ m e x k. told_after m x ∙ ap code_of (rings.announce_next here m sound_here (sym (drive_told m) ∙ e) x k);
      }

-- ---- the tree

module _ (t : tree_state.State) (o : TreeSound.Open t) (xs : List Request) where
  abbrev tree_here : tree_state.State
  tree_here = run_of tree_counts.tree t xs

  tree_fields : tree_fields_after (lent_tree_of t) xs ≡ lent_tree_of tree_here
  tree_fields = trees.steps_run t xs

  tree_told :
      (x : Request) → tree_step_number (tree_fields_after (lent_tree_of t) xs) x.kind x.i x.j ≡ code_of ((tree_counts.tree).verdict tree_here x)
  tree_told x = ap (λ (l : LentTree). tree_step_number l x.kind x.i x.j) tree_fields ∙ trees.step_told tree_here x

  tree_closed : tree_counts.Announced t xs → tree_here.closed ≡ true
  tree_closed a = (tree_trace.traced t o.sound xs).closing ∙ (λ i. o.running i || a i)

  tree_sound : TreeSound.Sound tree_here
  tree_sound = (tree_trace.traced t o.sound xs).sound

  tree_calls : TreeCalls t xs
  tree_calls =
      record {
        fields = tree_fields;
        told = λ x. zero_accepted _ _ (tree_told x);
        point = (tree_run.whole_runs).point t o xs;
        quiet = λ x k z. ((tree_run.whole_runs).point t o xs).quiet x k ((zero_accepted _ _ (tree_told x)).0 z);
        last = λ a x.
            tree_told x
            ∙ ap (λ (a : tree_answers.Answer). code_of a.verdict)
            (sym ((tree_run.whole_runs).answers tree_here x)
            ∙ sym (tree_answered.closed_answer tree_here (tree_counts.kind x) x.i x.j tree_sound (tree_closed a)));
      }

-- ---- where lists of calls begin

one_true : (b : Bool) → byte_of b ≡ 1 → b ≡ true
one_true true e = refl
one_true false e = absurd (omega arith)

-- ---- the table

sound_in : (m : LentTable) → table_sound_number m ≡ 1 → (table_truths m ≡ true) × SoundTable (table_in m)
sound_in m k =
    let p = both (table_truths m) (sound_table_test (table_in m)) (one_true _ k) in
    (p.0, table_tested.holds (table_in m) p.1)

table_calls : (m : LentTable) → Eight m → table_sound_number m ≡ 1 → (ls : List Ask) → TableCalls m ls
table_calls m e k ls =
    let p = sound_in m k in
    let c = tables.comes m e p.0 ls in
    let ok = p.1 in
    let told : (a : Ask) → ask_number (columns_after m ls) a ≡ code_of (verdict_on (run_of table (table_in m) ls) a) = λ a.
    ap (λ (b : Bool). code_of (cond b (verdict_on (table_in (columns_after m ls)) a) (Refused Unsound))) c.truths ∙
    ap (λ (t : Table). code_of (verdict_on t a)) c.table_there in
    record {
      there = c.table_there;
      told = told;
      sound =
          rw (
            c.truths,
            c.table_there,
            table_tested.tested (run_of table (table_in m) ls) (table_kept.run (table_in m) ok ls),
          );
      point = λ u r. whole_table.point (table_in m) ok u ls r;
      quiet = λ u r b o x k z. (whole_table.point (table_in m) ok u ls r b o).quiet x k ((zero_accepted _ _ (told (Step u x))).0 z);
      unnamed = λ u. tables.unnamed u m ls;
    }

pub calls_independent : CallsIndependent
calls_independent =
    record {
      same = λ m m' e e' k k' some one u at ls ls' q.
          let p = sound_in m k in
          let p' = sound_in m' k' in
          let w = non_interference.same (table_in m) (table_in m') p.1 p'.1 some one u at ls ls' q in
          record {
            numbers = tables.same_numbers m m' e e' p.0 p'.0 u ls ls' w;
            started = tables.same_fields m m' e e' p.0 p'.0 u ls ls' w;
            not_started = tables.left_fields m m' e e' p.0 p'.0 u ls ls' w;
          };
    }

pub whole_calls : WholeCalls
unfolding ring_start.start_of tree_start.start_of
whole_calls =
    record {
      ring = ring_calls;
      tree = tree_calls;
      table_calls = table_calls;
      ring_started = λ {nodes} {flags} s.
          let v = code_accepted (ring_start.start_of nodes flags).verdict (sym s.told) in
          ((calls_answer.start s).1 ∙ rw v, (ring_rules.sound_kept).start nodes flags v);
      ring_handed = λ l k c.
          let p = both (truths_test l) _ (one_true _ k) in
          (sym (fields_hold.ring_back l p.0), record { sound = (ring_rules.sound_tested).holds (state_of l) p.1; running = ap flag_of c });
      tree_started = λ {nodes} {at} s.
          let v = code_accepted (tree_start.start_of nodes at).verdict (sym s.told) in
          ((calls_answer.tree_start_ask s).1 ∙ rw v, (tree_rules.sound_kept).start nodes at v);
      tree_handed = λ l k c.
          let p = both (tree_truths_test l) _ (one_true _ k) in
          (sym (fields_hold.tree_back l p.0), record { sound = (tree_rules.sound_tested).holds (tree_of l) p.1; running = ap flag_of c });
    }
