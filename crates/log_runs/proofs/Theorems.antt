-- The statement of specs/Theorems.antt, proved. Assumes nothing.
use Rattle.std.specs.Prelude.{Some, None}
use Prim.Native.Nat.{◌+◌, suc, zero, ℕ}
use borrow.Author.Tests.{leb-true, ltb-false, ltb-true, not-false}
use lib.Dec.{leb, ltb}
use lib.ListN.{get_or, length, take}
use mathlib.Core.Bool.{◌&&◌, cond}
use mathlib.Core.List.{List, [], ◌++◌, ◌∷◌, append_assoc}
use mathlib.Core.Logic.{◌↔◌}
use mathlib.Core.Path.{◌∙◌, ◌≡◌, ap, refl, subst, sym}
use native.Mathlib.Nat.{add-zero}
use native.Mathlib.Omega.{arith}
use Rattle.first_line.specs.Read.{first_at}
use Rattle.first_line.specs.Start.{bare_start, lists_start, seen_of}
use Rattle.first_line.specs.declared.First.{First}
use Rattle.first_line.specs.declared.RingStart.{RingStart}
use Rattle.forms.specs.Form.{Says, announce}
use Rattle.forms.specs.Read.{Read, ring_at, tree_at}
use Rattle.first_line.specs.Meaning.{Flags}
use Rattle.forms.specs.declared.RingStep.{RingStep}
use Rattle.forms.specs.declared.TreeStep.{TreeStep}
use Rattle.laws.proofs.Tests.{both}
use Rattle.first_line.proofs.Flags.{ReadFlags, one_flags, seen_flags}
use Rattle.log_rules.proofs.First.{flags_fit, update_is_judged}
use Rattle.log_rules.proofs.Theorems.{lines_say}
use Rattle.log_rules.specs.Answers.{Stage, Told, answer_text, first_told, fresh, fresh_told, is_move, line_told, no_moves, on_ring, on_table, on_tree, opened_by, ring_request, ring_table, ring_told, tree_request, tree_told, update_ask, update_first, update_opened, update_table}
use Rattle.log_rules.specs.Output.{lines_told}
use Rattle.log_rules.specs.Theorems.{LinesOf}
use Rattle.refusal.proofs.Table.{none_holds, not_both}
use Rattle.refusal.specs.Table.{NoneHolds, also, first_of, is_accepted, settle}
use Rattle.refusal.specs.declared.Refusal.{Refusal}
use Rattle.refusal.specs.declared.Refusal.TheVariants.{NotAForm}
use Rattle.refusal.specs.Table.{Verdict}
use Rattle.refusal.specs.Table.{Accepted, Refused}
use Rattle.runs.specs.Runs.{Accepts, Request, accepted_of, next, run_of}
use Rattle.tree_runs.specs.WholeRun.{steps_by}
use Rattle.table_rules.proofs.Soundness.{empty_sound}
use Rattle.table_rules.proofs.Theorems.{table_answered, table_kept}
use Rattle.table_rules.specs.Answers.{after}
use Rattle.table_rules.specs.Soundness.{SoundTable}
use Rattle.table_rules.specs.Table.{Table, empty_table}
use Rattle.update_forms.proofs.Held.{WrappedFlags, wrapped_flags}
use Rattle.update_forms.specs.Read.{wrapped_at, wrapped_seen}
use Rattle.update_forms.specs.Wrapped.{Wrapped}
use Rattle.log_runs.proofs.Detectors.{move_is, no_move, ring_reads, tree_reads}
use Rattle.log_runs.proofs.Updates.{update_each, update_reads, update_requests}
use Rattle.log_runs.proofs.Runs.{each_asks, each_once}
use Rattle.log_runs.proofs.First.{asks_once, first_asks, first_line_is_told, opening_once, ring_accepted, tree_accepted, update_accepted}
use Rattle.log_runs.specs.First.{FirstAsks, StartAsk, no_start}
use Rattle.log_runs.specs.Says.{Ask, BegunOpen, Each, RingAsks, TreeAsks, cut, line, no_line, other, requests_in, says, RingSays, TreeSays, moves_in, printed, stage_after}
use Rattle.log_runs.specs.Theorems.{LogRuns, Ok, RingCountdown}
use Rattle.log_runs.specs.Updates.{UpdateAsk, UpdatesSay, moves_after, updates}
use Rattle.log_rules.specs.Theorems as lines
use Rattle.update_forms.specs.Wrapped as wrapped
use Rattle.first_line.specs.declared.First.TheVariants as line
use Rattle.forms.specs.declared.RingStep.TheVariants as ring_step
use Rattle.forms.specs.declared.TreeStep.TheVariants as tree_step
use Rattle.ring_rules.proofs.Start as ring_start
use Rattle.ring_rules.specs.Answers as ring_answers
use Rattle.ring_rules.specs.Soundness as ring_sound
use Rattle.ring_rules.specs.Start as ring_first
use Rattle.ring_rules.specs.State as RingState
use Rattle.ring_runs.proofs.WholeRun as ring_runs
use Rattle.ring_runs.specs.Counts as ring_counts
use Rattle.tree_rules.proofs.Start as tree_start
use Rattle.tree_rules.specs.Answers as tree_answers
use Rattle.tree_rules.specs.Soundness as tree_sound
use Rattle.tree_rules.specs.Start as tree_first
use Rattle.tree_rules.specs.State as TreeState
use Rattle.tree_runs.proofs.WholeRun as tree_runs
use Rattle.tree_runs.specs.Counts as tree_counts

-- ---- "(ok" and "(no" are told apart by their second letter

not_ok : (k : ℕ) (e : Refusal) → answer_text k (Refused e) ≡ answer_text k Accepted → ⊥
not_ok k e p = let z : ◌≡◌ {A = ℕ} 110 111 = ap (λ (l : List ℕ). get_or l 1 0) p in let y : ⊥ = omega arith in y

ok_accepted : (k : ℕ) (v : Verdict) → answer_text k v ≡ answer_text k Accepted → v ≡ Accepted
ok_accepted k Accepted p = refl
ok_accepted k (Refused e) p = absurd (not_ok k e p)

-- ---- the output, line by line

output :
    (s : Stage) (k : ℕ) (ls : List (List ℕ)) (l : List ℕ) (rest : List (List ℕ))
    → lines_told s k (ls ++ (l ∷ rest))
    ≡ printed s k ls ++
    ((line_told (stage_after s k ls) (k + length ls) l).text ++ lines_told (line_told (stage_after s k ls) (k + length ls) l).stage
    (k + length ls + 1) rest)
unfolding lines_told printed stage_after
output s k [] l rest = rw (add-zero k)
output s k (x ∷ ls) l rest =
    let t = line_told s k x in
    let after : ℕ → List ℕ = λ n. (line_told (stage_after t.stage (k + 1) ls) n l).text ++ lines_told (line_told (stage_after t.stage (k + 1) ls) n l).stage (n + 1) rest in
    let e : k + 1 + length ls ≡ k + length (x ∷ ls) = omega arith in
    ap (λ (w : List ℕ). t.text ++ w) (output t.stage (k + 1) ls l rest)
    ∙ (sym (append_assoc t.text (printed t.stage (k + 1) ls) (after (k + 1 + length ls)))
    ∙ ap (λ (n : ℕ). (t.text ++ printed t.stage (k + 1) ls) ++ after n) e)

-- ---- what the lines say

taken : {s : List ℕ} {ls : List (List ℕ)} → LinesOf s ls → (n : ℕ) → (s' : List ℕ) × LinesOf s' (take n ls)
taken c zero = ([], lines.no_line)
taken lines.no_line (suc n) = ([], lines.no_line)
taken (lines.last {l} u h) (suc n) = go n
  where
    go : (m : ℕ) → (s' : List ℕ) × LinesOf s' (l ∷ take m [])
    go zero = (l, lines.last u h)
    go (suc m) = (l, lines.last u h)
taken (lines.another {l} o c) (suc n) = let w = taken c n in (l ++ w.0, lines.another o w.1)

ring_asks : {s : List ℕ} {ls : List (List ℕ)} → LinesOf s ls → (xs : List Request) × RingSays ls xs
ring_asks c = let w = each_asks ring_reads c in (requests_in w.0, (w.0, w.1, refl))

tree_asks : {s : List ℕ} {ls : List (List ℕ)} → LinesOf s ls → (xs : List Request) × TreeSays ls xs
tree_asks c = let w = each_asks tree_reads c in (requests_in w.0, (w.0, w.1, refl))

update_asks : {s : List ℕ} {ls : List (List ℕ)} → LinesOf s ls → (xs : List UpdateAsk) × UpdatesSay ls xs
update_asks c = let w = each_asks update_reads c in (requests_in w.0, (w.0, w.1, refl))

-- ---- what they lead to

moved :
    (f : RingStep) (v : Verdict) (acc : List Request) (m : ℕ)
    → m + cond (is_move f && is_accepted v) 1 0 + moves_in acc ≡ m + moves_in (settle v (ring_request f ∷ acc) acc)
unfolding moves_in
moved f Accepted acc m = omega (arith, move_is f)
moved f (Refused e) acc m = omega (arith, no_move (is_move f))

ring_each :
    (r : RingState.State) (m k : ℕ) {ls : List (List ℕ)} {qs : List (Ask Request)} → Each RingAsks ls qs
    → stage_after (on_ring r m) k ls
    ≡ on_ring (run_of ring_counts.ring r (requests_in qs)) (m + moves_in (accepted_of ring_counts.ring r (requests_in qs)))
unfolding stage_after run_of accepted_of moves_in ring_answers.answer_of
ring_each r m k no_line = rw (add-zero m)
ring_each r m k (line {l} {ls} {qs = qs} (says f s) c) =
    let x = ring_request f in
    let t = next ring_counts.ring r x in
    let v = (ring_counts.ring).verdict r x in
    ap (λ (y : Told). stage_after y.stage (k + 1) ls) (lines_say.ring_step r m k l f s)
    ∙ (ring_each t (m + cond (is_move f && is_accepted v) 1 0) (k + 1) c
    ∙ ap (on_ring (run_of ring_counts.ring t (requests_in qs))) (moved f v (accepted_of ring_counts.ring t (requests_in qs)) m))
ring_each r m k (line {l} {ls} (other o h) c) =
    ap (λ (y : Told). stage_after y.stage (k + 1) ls) (lines_say.ring_other r m k l o h) ∙ ring_each r m (k + 1) c
ring_each r m k (line {l} {ls} (cut u) c) =
    ap (λ (y : Told). stage_after y.stage (k + 1) ls) (lines_say.unended (on_ring r m) k l u) ∙ ring_each r m (k + 1) c

ring_state :
    (r : RingState.State) (m k : ℕ) {ls : List (List ℕ)} {xs : List Request} → RingSays ls xs
    → stage_after (on_ring r m) k ls ≡ on_ring (run_of ring_counts.ring r xs) (m + moves_in (accepted_of ring_counts.ring r xs))
ring_state r m k c =
    ring_each r m k c.1
    ∙ ap (λ (xs : List Request). on_ring (run_of ring_counts.ring r xs) (m + moves_in (accepted_of ring_counts.ring r xs))) c.2

tree_each :
    (t : TreeState.State) (k : ℕ) {ls : List (List ℕ)} {qs : List (Ask Request)} → Each TreeAsks ls qs
    → stage_after (on_tree t) k ls ≡ on_tree (run_of tree_counts.tree t (requests_in qs))
unfolding stage_after run_of tree_answers.answer_of
tree_each t k no_line = refl
tree_each t k (line {l} {ls} (says f s) c) =
    ap (λ (y : Told). stage_after y.stage (k + 1) ls) (lines_say.tree_step t k l f s)
    ∙ tree_each (next tree_counts.tree t (tree_request f)) (k + 1) c
tree_each t k (line {l} {ls} (other o h) c) =
    ap (λ (y : Told). stage_after y.stage (k + 1) ls) (lines_say.tree_other t k l o h) ∙ tree_each t (k + 1) c
tree_each t k (line {l} {ls} (cut u) c) =
    ap (λ (y : Told). stage_after y.stage (k + 1) ls) (lines_say.unended (on_tree t) k l u) ∙ tree_each t (k + 1) c

tree_state :
    (t : TreeState.State) (k : ℕ) {ls : List (List ℕ)} {xs : List Request} → TreeSays ls xs
    → stage_after (on_tree t) k ls ≡ on_tree (run_of tree_counts.tree t xs)
tree_state t k c = tree_each t k c.1 ∙ ap (λ (xs : List Request). on_tree (run_of tree_counts.tree t xs)) c.2

update_state :
    (t : Table) (ms : List ℕ) (k : ℕ) {ls : List (List ℕ)} {xs : List UpdateAsk} → UpdatesSay ls xs
    → stage_after (on_table t ms) k ls ≡ on_table (run_of updates t xs) (moves_after ms (accepted_of updates t xs))
update_state t ms k c =
    update_each t ms k c.1 ∙ ap (λ (xs : List UpdateAsk). on_table (run_of updates t xs) (moves_after ms (accepted_of updates t xs))) c.2

-- ---- an announcement that is printed

ring-announce :
    (s : RingState.State) (n j : ℕ) (l : List ℕ) → Says l announce
    → Ok (on_ring s n) j l ↔ Accepts ring_counts.ring s (ring_request ring_step.Announce)
unfolding ring_answers.answer_of
ring-announce s n j l q =
    let e = ap (λ (y : Told). y.text) (lines_say.ring_step s n j l ring_step.Announce q) in
    let v = (ring_counts.ring).verdict s (ring_request ring_step.Announce) in
    (λ ok. ok_accepted j v (sym e ∙ ok), λ a. e ∙ ap (answer_text j) a)

tree-announce :
    (s : TreeState.State) (j : ℕ) (l : List ℕ) → Says l announce
    → Ok (on_tree s) j l ↔ Accepts tree_counts.tree s (tree_request tree_step.Announce)
unfolding tree_answers.answer_of
tree-announce s j l q =
    let e = ap (λ (y : Told). y.text) (lines_say.tree_step s j l tree_step.Announce q) in
    let v = (tree_counts.tree).verdict s (tree_request tree_step.Announce) in
    (λ ok. ok_accepted j v (sym e ∙ ok), λ a. e ∙ ap (answer_text j) a)

ring_quiet :
    (r : RingState.State) → ring_sound.Open r → (m k j : ℕ) {ls : List (List ℕ)} {xs : List Request} → RingSays ls xs
    → (l : List ℕ) → Says l announce → Ok (stage_after (on_ring r m) k ls) j l → ring_counts.QuietBy r xs
ring_quiet r running m k j {xs = xs} c l q ok =
    ((ring_runs.whole_runs).point r running xs).quiet (ring_request ring_step.Announce) refl
    ((ring-announce _ _ j l q).0 (subst (λ (s : Stage). Ok s j l) (ring_state r m k c) ok))

tree_quiet :
    (t : TreeState.State) → tree_sound.Open t → (k j : ℕ) {ls : List (List ℕ)} {xs : List Request} → TreeSays ls xs
    → (l : List ℕ) → Says l announce → Ok (stage_after (on_tree t) k ls) j l → tree_counts.QuietBy t xs
tree_quiet t running k j {xs = xs} c l q ok =
    ((tree_runs.whole_runs).point t running xs).quiet (tree_request tree_step.Announce) refl
    ((tree-announce _ j l q).0 (subst (λ (s : Stage). Ok s j l) (tree_state t k c) ok))

ring_countdown :
    (r : RingState.State) → ring_sound.Open r → {ls : List (List ℕ)} {xs : List Request} → RingSays ls xs → ring_counts.QuietBy r xs
    → ring_counts.Unannounced r xs → RingCountdown r ls xs
ring_countdown r running {ls} {xs} c quiet not_yet =
    let d = ((ring_runs.whole_runs).point r running xs).countdown quiet not_yet in
    record {
      K = d.K;
      bound = d.bound;
      exactly = λ m k j {ls'} {ys} c' u l q.
          let there = ap (λ (s : Stage). stage_after s (k + length ls) ls') (ring_state r m k c) ∙ ring_state _ _ (k + length ls) c' in
          let exactly = (d.counted ys u).exactly (ring_request ring_step.Announce) refl in
          let answer = ring-announce (run_of ring_counts.ring (run_of ring_counts.ring r xs) ys) _ j l q in (
            λ ok. exactly.0 (answer.0 (subst (λ (s : Stage). Ok s j l) there ok)),
            λ n. subst (λ (s : Stage). Ok s j l) (sym there)
                (answer.1 (exactly.1 n)),
          );
    }

tree_countdown :
    (t : TreeState.State) → tree_sound.Open t → {ls : List (List ℕ)} {xs : List Request} → TreeSays ls xs → tree_counts.QuietBy t xs
    → tree_counts.Unannounced t xs → (k j : ℕ) {ls' : List (List ℕ)} {ys : List Request} → TreeSays ls' ys
    → tree_counts.Unannounced (run_of tree_counts.tree t xs) ys → (l : List ℕ) → Says l announce
    → Ok (stage_after (stage_after (on_tree t) k ls) (k + length ls) ls') j l ↔
    (length (accepted_of tree_counts.tree (run_of tree_counts.tree t xs) ys) ≡ steps_by t xs)
tree_countdown t running {ls} {xs} c quiet not_yet k j {ls'} {ys} c' u l q =
    let there = ap (λ (s : Stage). stage_after s (k + length ls) ls') (tree_state t k c) ∙ tree_state _ (k + length ls) c' in
    let exactly = (((tree_runs.whole_runs).point t running xs).countdown quiet not_yet ys u).exactly (tree_request tree_step.Announce) refl in
    let answer = tree-announce (run_of tree_counts.tree (run_of tree_counts.tree t xs) ys) j l q in
    (λ ok. exactly.0 (answer.0 (subst (λ (s : Stage). Ok s j l) there ok)), λ n. subst (λ (s : Stage). Ok s j l) (sym there) (answer.1 (exactly.1 n)))

-- a request that is refused whatever it is
none_taken : (v : Verdict) (x : Request) → settle v (x ∷ []) [] ≡ [] → v ≡ Accepted → ⊥
none_taken Accepted x p q = let z : ◌≡◌ {A = ℕ} 1 0 = ap length p in let y : ⊥ = omega arith in y
none_taken (Refused e) x p q = not_both q refl

ring_last :
    (r : RingState.State) → ring_sound.Open r → (m k j : ℕ) {ls : List (List ℕ)} {xs : List Request} → RingSays ls xs
    → ring_counts.Announced r xs → (l : List ℕ) → Ok (stage_after (on_ring r m) k ls) j l → ⊥
unfolding line_told accepted_of ring_answers.answer_of
ring_last r running m k j {xs = xs} c a l ok =
    go (ring_at l 0) (sym (ap (λ (q : Stage). (line_told q j l).text) (ring_state r m k c)) ∙ ok)
  where
    go :
        (x : Read RingStep)
        → (ring_told (run_of ring_counts.ring r xs) (m + moves_in (accepted_of ring_counts.ring r xs)) j x).text ≡ answer_text j Accepted → ⊥
    go (Some (f, e)) p =
        none_taken ((ring_counts.ring).verdict (run_of ring_counts.ring r xs) (ring_request f)) (ring_request f)
        (((ring_runs.whole_runs).point r running xs).last a (ring_request f ∷ []))
        (ok_accepted j ((ring_counts.ring).verdict (run_of ring_counts.ring r xs) (ring_request f)) p)
    go None p = not_ok j NotAForm p

tree_last :
    (t : TreeState.State) → tree_sound.Open t → (k j : ℕ) {ls : List (List ℕ)} {xs : List Request} → TreeSays ls xs
    → tree_counts.Announced t xs → (l : List ℕ) → Ok (stage_after (on_tree t) k ls) j l → ⊥
unfolding line_told accepted_of tree_answers.answer_of
tree_last t running k j {xs = xs} c a l ok =
    go (tree_at l 0) (sym (ap (λ (q : Stage). (line_told q j l).text) (tree_state t k c)) ∙ ok)
  where
    go : (x : Read TreeStep) → (tree_told (run_of tree_counts.tree t xs) j x).text ≡ answer_text j Accepted → ⊥
    go (Some (f, e)) p =
        none_taken ((tree_counts.tree).verdict (run_of tree_counts.tree t xs) (tree_request f)) (tree_request f)
        (((tree_runs.whole_runs).point t running xs).last a (tree_request f ∷ []))
        (ok_accepted j ((tree_counts.tree).verdict (run_of tree_counts.tree t xs) (tree_request f)) p)
    go None p = not_ok j NotAForm p

-- ---- the first line

asks : {s l : List ℕ} {ls : List (List ℕ)} → LinesOf s (l ∷ ls) → (a : StartAsk) × FirstAsks l a
asks (lines.last u h) = (no_start, cut u)
asks (lines.another {l} o c) = first_asks l o

-- the table that an accepted start begins
opened_sound :
    (u : ℕ) (g : RingStart) → Flags g.flags → first_of (update_table empty_table u g) ≡ Accepted → SoundTable (after empty_table (update_ask u g))
opened_sound u g flags e = go (none_holds (update_table empty_table u g) e)
  where
    go : NoneHolds (update_table empty_table u g) → SoundTable (after empty_table (update_ask u g))
    go (also a (also b (also c (also d rest)))) =
        let many = leb-true g.n 96 (both (ltb 0 g.n) (leb g.n 96) (not-false (ltb 0 g.n && leb g.n 96) c)).1 in
        let v = update_is_judged g flags many empty_table empty_sound u (ltb-false g.n g.top d) ∙ e in
        subst SoundTable (table_answered.next empty_table (update_ask u g) v) (table_kept.accepted empty_table (update_ask u g) v)

first : (l : List ℕ) → BegunOpen (line_told fresh 1 l).stage
unfolding line_told
first l = go (seen_of (first_at l 0)) (seen_flags l 0)
  where
    ring_open : (f : RingStart) → Flags f.flags → NoneHolds (ring_table f) → ring_sound.Open (ring_first.first_state f.n (take f.n f.flags))
    ring_open f flags (also p rest) =
        let w = both _ _ (not-false _ p) in
        ring_start.first_open _ _ (flags_fit f (ltb-true _ _ w.0) (leb-true _ _ w.1) flags)

    ring : (f : RingStart) → Flags f.flags → (v : Verdict) → first_of (ring_table f) ≡ v → BegunOpen (first_told (line.Ring f)).stage
    ring f flags Accepted e = rw e (ring_open f flags (none_holds (ring_table f) e), refl)
    ring f flags (Refused x) e = rw e tt

    tree : (n root : ℕ) (v : Verdict) → tree_first.start_verdict n root ≡ v → BegunOpen (first_told (line.Tree n root)).stage
    tree n root Accepted e = rw e (tree_start.first_open n root (tree_start.fits n root e))
    tree n root (Refused x) e = rw e tt

    update_open : (u : ℕ) (g : RingStart) → Flags g.flags → BegunOpen (update_opened u g).stage
    update_open u g flags = by (first_of (update_table empty_table u g)) refl
      where
        by :
            (v : Verdict) → first_of (update_table empty_table u g) ≡ v
            → BegunOpen (opened_by v (on_table (after empty_table (update_ask u g)) no_moves)).stage
        by Accepted e = (opened_sound u g flags e, refl)
        by (Refused x) e = tt

    update : (w : Read Wrapped) → wrapped_at l 0 ≡ w → BegunOpen (update_first w).stage
    update (Some (wrapped.step u h, e)) p = tt
    update (Some (wrapped.bare u n, e)) p = update_open u (bare_start n) one_flags
    update (Some (wrapped.lists u n a b, e)) p =
        update_open u (lists_start n a b) (subst (λ (w : Read Wrapped). WrappedFlags (wrapped_seen w)) p (wrapped_flags l 0))
    update None p = tt

    go : (r : Read First) → ReadFlags r → BegunOpen (fresh_told r (wrapped_at l 0)).stage
    go (Some (line.Ring f, e)) flags = ring f flags (first_of (ring_table f)) refl
    go (Some (line.Tree n root, e)) flags = tree n root (tree_first.start_verdict n root) refl
    go None flags = update (wrapped_at l 0) refl

pub log_runs : LogRuns
log_runs = record {
  output = output;
  first_asks = asks;
  first_once = λ {l} p q. asks_once (opening_once l) p q;
  first_line_is_told = first_line_is_told 1;
  ring_started = ring_accepted;
  tree_started = tree_accepted;
  update_started = update_accepted;
  first = first;
  taken = taken;
  ring_asks = ring_asks;
  tree_asks = tree_asks;
  ring_once = each_once ring_reads;
  tree_once = each_once tree_reads;
  ring_state = ring_state;
  tree_state = tree_state;
  update_asks = update_asks;
  update_once = each_once update_reads;
  update_state = update_state;
  update_requests = update_requests;
  ring_quiet = ring_quiet;
  tree_quiet = tree_quiet;
  ring_countdown = ring_countdown;
  tree_countdown = tree_countdown;
  ring_last = ring_last;
  tree_last = tree_last;
}
