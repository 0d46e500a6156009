-- The statement of specs/Bare.antt, proved. Assumes nothing.
use Prim.Native.Nat.{◌*◌, ◌+◌, ◌<◌, ◌≤◌, suc, zero, ℕ}
use borrow.Author.Tests.{le-leb, lt-ltb}
use lib.Dec.{eqb, ltb}
use lib.ListN.{get_or, length, length-append}
use mathlib.Core.Bool.{Bool, ◌||◌, cond, false, not, true}
use mathlib.Core.List.{List, [], ◌++◌, ◌∷◌}
use mathlib.Core.Logic.{inl, inr}
use mathlib.Core.Path.{◌∙◌, ◌≡◌, ap, refl, subst, subst⁻¹, sym}
use native.Mathlib.Omega.{arith}
use Rattle.decimal.proofs.Decimal.{decimal_five, decimal_width}
use Rattle.first_line.proofs.Meaning.{every_ascends, every_below, named_every}
use Rattle.first_line.specs.Meaning.{every_node, flag_byte, named, nodes_from}
use Rattle.first_line.specs.Start.{bare, lists}
use Rattle.forms.specs.Form.{Form, Says, SmallForm, Valid, ack, announce, bare_ring, form_text, idle, leave, pass, probe, ring_form, ring_with, send, spaced_numbers, take_one, take_with, tree_form, tree_of, update}
use Rattle.forms.specs.declared.RingStep.{RingStep}
use Rattle.forms.specs.declared.TreeStep.{TreeStep}
use Rattle.laws.proofs.Tests.{both_true, false_true}
use Rattle.log_rules.proofs.Ends.{form_ended}
use Rattle.log_rules.proofs.Theorems.{lines_read, lines_say, same_form}
use Rattle.log_rules.specs.Answers.{Stage, Told, fresh, line_told, on_ring, on_table, on_tree, over}
use Rattle.log_rules.specs.Lines.{lines_of}
use Rattle.log_rules.specs.Output.{lines_told}
use Rattle.log_rules.specs.Pieces.{OneLine, not_told}
use Rattle.refusal.specs.Table.{◌⟶◌, first_of, settle}
use Rattle.refusal.specs.declared.Refusal.TheVariants.{NodeCount, UnknownUpdate}
use Rattle.refusal.specs.Table.{Verdict}
use Rattle.refusal.specs.Table.{Accepted}
use Rattle.ring_rules.proofs.Start.{active_at_node, color_at, fits}
use Rattle.ring_rules.proofs.Theorems.{start_answered}
use Rattle.ring_rules.specs.Rules.{Announce, Idle, Kind, Pass, Probe, Send, Take, Unknown}
use Rattle.ring_rules.specs.Start.{first_state, flag_active, flag_black, start_of}
use Rattle.ring_rules.specs.State.{State, active_at}
use Rattle.ring_runs.specs.Counts.{active_after, active_next, kind, ring}
use Rattle.runs.specs.Runs.{Request, accepted_of, next, run_of}
use Rattle.table_rules.proofs.Slots.{put_same, same_state}
use Rattle.table_rules.proofs.Soundness.{empty_fixed}
use Rattle.table_rules.proofs.Theorems.{table_numbers}
use Rattle.table_rules.specs.Answers.{Ask as TableAsk, Start, after, other_nodes}
use Rattle.table_rules.specs.Soundness.{SoundTable}
use Rattle.table_rules.specs.Table.{Started, Table, empty_table, slot_at}
use Rattle.table_runs.specs.Counts.{history_of}
use Rattle.log_runs.proofs.First.{asks_once, below_test, first_line_is_told, flags_at, flags_start, opening_once, table_rows, update_passed, wrapped_once}
use Rattle.log_runs.proofs.Runs.{each_at}
use Rattle.log_runs.proofs.Updates.{line_told_lem, update_reads}
use Rattle.log_runs.proofs.WholeLog.{whole_log}
use Rattle.log_runs.specs.Answered.{said}
use Rattle.log_runs.specs.Bare.{AllAsListed, AllNodesAre, AsListed, BareStarts, bare_flags, bare_run, idle_in, idles, line, listed, no_line, of_ring, of_update, same}
use Rattle.log_runs.specs.First.{FirstAsks, StartAsk, first_verdict, flags_to, in_range, known_by, ring_start_ask, start_rows, update_start, update_verdict}
use Rattle.log_runs.specs.Says.{no_step, request, says}
use Rattle.log_runs.specs.UpdateLog.{LineOk, StartedAt, UpdateLog, made, table_begun}
use Rattle.log_runs.specs.Updates.{start, updates, verdict_of}
use Rattle.log_runs.specs.WholeLog.{LogBy}
use Rattle.forms.specs.declared.RingStep.TheVariants as ring_step
use Rattle.forms.specs.declared.TreeStep.TheVariants as tree_step
use Rattle.log_runs.specs.Answered as answered
use Rattle.update_forms.specs.Wrapped as wrapped

-- ---- the verdict

every_known : (n : ℕ) → known_by n (every_node n) [] ≡ true
every_known n = both_true ((below_test n (every_node n)).1 ((every_below n n).0 (omega arith))) refl

one_row : (count : Bool) → first_of (start_rows count true) ≡ first_of ((not count ⟶ NodeCount) ∷ [])
one_row true = refl
one_row false = refl

three_rows : (a b count : Bool)
    → first_of ((a ⟶ UnknownUpdate) ∷ (b ⟶ NodeCount) ∷ start_rows count true)
    ≡ first_of ((a ⟶ UnknownUpdate) ∷ (b ⟶ NodeCount) ∷ (not count ⟶ NodeCount) ∷ [])
three_rows true b count = refl
three_rows false true count = refl
three_rows false false count = one_row count

told_verdict : (n : ℕ) → first_verdict (ring_start_ask n (every_node n) []) ≡ first_of ((not (in_range 96 n) ⟶ NodeCount) ∷ [])
told_verdict n = rw (every_known n) (one_row (in_range 96 n))

told_update : (t : Table) (u n : ℕ)
    → update_verdict t u n (every_node n) []
    ≡ first_of ((not (ltb u 8) ⟶ UnknownUpdate) ∷ (other_nodes t n ⟶ NodeCount) ∷ (not (in_range 96 n) ⟶ NodeCount) ∷ [])
told_update t u n = rw (every_known n) (three_rows (not (ltb u 8)) (other_nodes t n) (in_range 96 n))

-- ---- the ring that is started

flag_active_lem : (a : Bool) → flag_active (flag_byte a false) ≡ a
flag_active_lem true = refl
flag_active_lem false = refl

flag_white : (a : Bool) → flag_black (flag_byte a false) ≡ false
flag_white true = refl
flag_white false = refl

module _ (a : Bool) (names : List ℕ) (n : ℕ) (named_all : (i : ℕ) → i < n → named names i ≡ a) where
  flag : (b : ℕ) → b < n → get_or (flags_to names [] n) b 0 ≡ flag_byte a false
  flag b h = flags_at names [] n b h ∙ ap (λ (t : Bool). flag_byte t false) (named_all b h)

  first_are : n ≤ 96 → AllNodesAre a n (first_state n (flags_to names [] n))
  unfolding first_state
  first_are hi = record {
    nodes = refl;
    activity = λ b h. active_at_node (flags_to names [] n) n b hi (omega arith) ∙ rw (lt-ltb b n h, flag b h) (flag_active_lem a);
    white = λ b h. color_at (flags_to names [] n) n b hi (omega arith) ∙ rw (lt-ltb b n h, flag b h) (flag_white a);
  }

  start_are : 0 < n → n ≤ 96 → AllNodesAre a n (start_of n (flags_to names [] n)).state
  start_are lo hi =
      subst⁻¹ (AllNodesAre a n) (start_answered.first n (flags_to names [] n) (flags_start n names [] lo hi)) (first_are hi)

  -- at an update of a table
  slot_are :
      (t : Table) → SoundTable t → (u : ℕ) → known_by n names [] ≡ true → verdict_of t (start u n names []) ≡ Accepted
      → (r : State) × (slot_at (next updates t (start u n names [])) u ≡ Started r) × AllNodesAre a n r
  slot_are t ok u known granted =
      let w = (table_numbers.start t ok u n (flags_to names [] n)).0 (table_rows t ok u n names [] known ∙ granted) in
      let place : u < length t.slots = omega (arith, w.0, ok.places) in (
        first_state n (flags_to names [] n),
        ap (λ (v : Verdict). slot_at (settle v (after t (Start u n (flags_to names [] n))) t) u) granted
            ∙ put_same t u (Started (first_state n (flags_to names [] n))) place,
        first_are (fits n (flags_to names [] n) w.2).nodes,
      )

bare_are : (n : ℕ) → n ≤ 96 → AllNodesAre true n (first_state n (bare_flags n))
bare_are n hi = first_are true (every_node n) n (named_every n) hi

-- ---- the line that lists them

nodes_long : (many low : ℕ) → low + many ≤ 100 → length (spaced_numbers (nodes_from low many)) ≤ 3 * many
unfolding nodes_from
nodes_long zero low h = omega arith
nodes_long (suc many) low h =
    simp length-append (omega (arith, nodes_long many (low + 1) (omega arith), decimal_width 1 low (omega arith)))

short_line : (n : ℕ) → n ≤ 96 → length (form_text (listed n)) ≤ 320
short_line n h = simp length-append (omega (arith, nodes_long n 0 (omega arith), decimal_width 1 n (omega arith)))

valid_line : (u n : ℕ) → u ≤ 99999 → n ≤ 96 → Valid (listed n) × Valid (update u (listed n))
valid_line u n hu h =
    let small : n ≤ 99999 = omega arith in
    let form : SmallForm (listed n) = (small, every_ascends n (omega arith), tt) in
    let line = short_line n h in
    let long : length (form_text (update u (listed n))) ≤ 700 = simp length-append (omega (arith, simp length-append at line, decimal_five u hu)) in
    ((form, omega arith), ((hu, form), long))

-- a start of a ring is no step
is_start : Form → Bool
is_start (bare_ring n) = true
is_start (ring_with n active black) = true
is_start (tree_of n root) = false
is_start (send i j) = false
is_start (take_one i) = false
is_start (take_with i k) = false
is_start (idle i) = false
is_start probe = false
is_start (pass i) = false
is_start (ack i) = false
is_start (leave i) = false
is_start announce = false
is_start (update u f) = false

ring_no_start : (f : RingStep) → is_start (ring_form f) ≡ false
unfolding is_start
ring_no_start (ring_step.Send i j) = refl
ring_no_start (ring_step.TakeOne i) = refl
ring_no_start (ring_step.Take i n) = refl
ring_no_start (ring_step.Idle i) = refl
ring_no_start ring_step.Probe = refl
ring_no_start (ring_step.Pass i) = refl
ring_no_start ring_step.Announce = refl

tree_no_start : (f : TreeStep) → is_start (tree_form f) ≡ false
unfolding is_start
tree_no_start (tree_step.Send i j) = refl
tree_no_start (tree_step.Take i k) = refl
tree_no_start (tree_step.Idle i) = refl
tree_no_start (tree_step.Ack i) = refl
tree_no_start (tree_step.Leave i) = refl
tree_no_start tree_step.Announce = refl

update_no_start : (f : Form) → is_start f ≡ true → (u : ℕ) (g : Form) → f ≡ update u g → ⊥
unfolding is_start
update_no_start f s u g e = false_true (sym (ap is_start e) ∙ s)

-- after the first line it is no form
abbrev Begun : Stage → Type 0
Begun fresh = ⊥
Begun (on_ring r m) = Unit {0}
Begun (on_tree t) = Unit {0}
Begun (on_table t ms) = Unit {0}
Begun over = Unit {0}

start_told : (f : Form) → is_start f ≡ true → (g : Stage) → Begun g → (k : ℕ) (l : List ℕ) → Says l f → line_told g k l ≡ not_told g k
start_told f s fresh b k l p = absurd b
start_told f s (on_ring r m) b k l p =
    lines_say.ring_other r m k l (subst OneLine (sym p.0) (form_ended f))
    (λ x q. false_true (sym (ring_no_start x) ∙ (ap is_start (same_form l (ring_form x) f q p) ∙ s)))
start_told f s (on_tree t) b k l p =
    lines_say.tree_other t k l (subst OneLine (sym p.0) (form_ended f))
    (λ x q. false_true (sym (tree_no_start x) ∙ (ap is_start (same_form l (tree_form x) f q p) ∙ s)))
start_told f s (on_table t ms) b k l p = lines_say.update_bare t ms k l f (update_no_start f s) p
start_told f s over b k l p = lines_say.after k l

no_form_alike : (g : Stage) → Begun g → (k n : ℕ) {l l' : List ℕ} → Says l (bare_ring n) → Says l' (listed n) → line_told g k l ≡ line_told g k l'
unfolding is_start
no_form_alike g b k n {l} {l'} p q = start_told (bare_ring n) refl g b k l p ∙ sym (start_told (listed n) refl g b k l' q)

same_first : (k : ℕ) {l l' : List ℕ} {a : StartAsk} → FirstAsks l a → FirstAsks l' a → line_told fresh k l ≡ line_told fresh k l'
same_first k p q = first_line_is_told k p ∙ sym (first_line_is_told k q)

same_told : {x y : Told} → x.stage ≡ y.stage → x.text ≡ y.text → x ≡ y
same_told p q = λ i. record { stage = p i; text = q i }

told_alike : (g : Stage) (k : ℕ) {l l' : List ℕ} → AsListed l l' → line_told g k l ≡ line_told g k l'
told_alike g k (same e) = ap (line_told g k) e
told_alike fresh k (of_ring n p q) = same_first k (says (inl (bare n)) p) (says (inl (lists n (every_node n) [])) q)
told_alike (on_ring r m) k (of_ring n p q) = no_form_alike (on_ring r m) tt k n p q
told_alike (on_tree t) k (of_ring n p q) = no_form_alike (on_tree t) tt k n p q
told_alike (on_table t ms) k (of_ring n p q) = no_form_alike (on_table t ms) tt k n p q
told_alike over k (of_ring n p q) = no_form_alike over tt k n p q
told_alike fresh k (of_update u n p q) = same_first k (says (inr (wrapped.bare u n)) p) (says (inr (wrapped.lists u n (every_node n) [])) q)
told_alike (on_ring r m) k {l} {l'} (of_update u n p q) =
    lines_say.ring_wrapped r m k l u (bare_ring n) p ∙ sym (lines_say.ring_wrapped r m k l' u (listed n) q)
told_alike (on_tree t) k {l} {l'} (of_update u n p q) =
    lines_say.tree_wrapped t k l u (bare_ring n) p ∙ sym (lines_say.tree_wrapped t k l' u (listed n) q)
told_alike (on_table t ms) k {l} {l'} (of_update u n p q) =
    let x = line_told_lem t ms k l (wrapped.bare u n) p in
    let y = line_told_lem t ms k l' (wrapped.lists u n (every_node n) []) q in
    same_told (x.there ∙ sym y.there) (x.text ∙ sym y.text)
told_alike over k {l} {l'} (of_update u n p q) = lines_say.after k l ∙ sym (lines_say.after k l')

all_alike : (g : Stage) (k : ℕ) {ls ls' : List (List ℕ)} → AllAsListed ls ls' → lines_told g k ls ≡ lines_told g k ls'
unfolding lines_told
all_alike g k no_line = refl
all_alike g k (line {l} {l'} {ls} {ls'} p c) =
    let y = line_told g k l' in
    ap (λ (t : Told). t.text ++ lines_told t.stage (k + 1) ls) (told_alike g k p) ∙ ap (λ (w : List ℕ). y.text ++ w) (all_alike y.stage (k + 1) c)

-- ---- a log that begins so

-- what its first line asks for is known, and accepted
log_of :
    (s : List ℕ) {l : List ℕ} {lines : List (List ℕ)} (a : StartAsk) → lines_of s ≡ l ∷ lines → FirstAsks l a → first_verdict a ≡ Accepted
    → LogBy s lines a Accepted
log_of s {l} {lines} a e f granted =
    let w = (whole_log s).begins l lines e in
    let is : w.0 ≡ a = asks_once (opening_once l) w.1 f in
    subst (LogBy s lines a) granted (subst (λ (x : StartAsk). LogBy s lines x (first_verdict x)) is w.2)

in_range_lem : (n : ℕ) → 0 < n → n ≤ 96 → in_range 96 n ≡ true
in_range_lem n lo hi = both_true (lt-ltb 0 n lo) (le-leb n 96 hi)

ring_granted : (n : ℕ) → 0 < n → n ≤ 96 → first_verdict (ring_start_ask n (every_node n) []) ≡ Accepted
ring_granted n lo hi = told_verdict n ∙ ap (λ (b : Bool). first_of ((not b ⟶ NodeCount) ∷ [])) (in_range_lem n lo hi)

update_granted : (u n : ℕ) → u < 8 → 0 < n → n ≤ 96 → first_verdict (update_start u n (every_node n) []) ≡ Accepted
update_granted u n h lo hi = told_update empty_table u n ∙ rw (lt-ltb u 8 h, empty_fixed, in_range_lem n lo hi)

-- ---- an idle of each node

idle_next :
    (k : Kind) (i b : ℕ) (xs : List Request) → (active_after true xs b ≡ false → idle_in xs b ≡ true)
    → active_after (active_next k i true b) xs b ≡ false → (idles k i b || idle_in xs b) ≡ true
idle_next Send i b xs ih e = ih e
idle_next Take i b xs ih e = go (eqb i b) e
  where
    go : (t : Bool) → active_after (cond t true true) xs b ≡ false → idle_in xs b ≡ true
    go true e = ih e
    go false e = ih e
idle_next Idle i b xs ih e = go (eqb i b) e
  where
    go : (t : Bool) → active_after (cond t false true) xs b ≡ false → (t || idle_in xs b) ≡ true
    go true e = refl
    go false e = ih e
idle_next Probe i b xs ih e = ih e
idle_next Pass i b xs ih e = ih e
idle_next Announce i b xs ih e = ih e
idle_next Unknown i b xs ih e = ih e

idle_by : (xs : List Request) (b : ℕ) → active_after true xs b ≡ false → idle_in xs b ≡ true
idle_by [] b e = absurd (false_true (sym e))
idle_by (x ∷ xs) b e = idle_next (kind x) x.i b xs (idle_by xs b) e

-- every node of r was active, and b is passive by the count
idle_of : {n : ℕ} {r : State} → AllNodesAre true n r → (xs : List Request) (b : ℕ) → b < n
    → ((b : ℕ) → b < r.n → active_after (active_at r b) xs b ≡ false) → idle_in xs b ≡ true
idle_of {r = r} are xs b h passive =
    let below : b < r.n = omega (arith, are.nodes) in
    idle_by xs b (ap (λ (a : Bool). active_after a xs b) (sym (are.activity b h)) ∙ passive b below)

-- line 2 + k starts u without lists, and is answered with ok
module _ {s : List ℕ} {lines : List (List ℕ)} {n : ℕ} {first : TableAsk} (log : UpdateLog s lines n first) (u m k : ℕ) where
  line_asks : Says (get_or lines k []) (update u (bare_ring m)) → get_or log.asks k no_step ≡ request (start u m (every_node m) [])
  line_asks p = asks_once (wrapped_once (get_or lines k [])) (each_at update_reads log.says k) (says (wrapped.bare u m) p)

  line_starts : Says (get_or lines k []) (update u (bare_ring m)) → LineOk first log.asks k → StartedAt first log.asks u k
  line_starts p ok = record { n = m; active = every_node m; black = []; asks = line_asks p; ok = ok }

  few : Says (get_or lines k []) (update u (bare_ring m)) → LineOk first log.asks k → m ≤ 96
  few p ok =
      let t = run_of updates (table_begun first) (said log.asks k) in
      (update_passed t u m (every_node m) [] (sym (ap (answered.verdict_on updates t) (line_asks p)) ∙ ok)).0

pub bare_starts : BareStarts
unfolding line_starts
bare_starts = record {
  ring_line = λ n s. says (inl (bare n)) s;
  first_line = λ u n s. says (inr (wrapped.bare u n)) s;
  later_line = λ u n s. says (wrapped.bare u n) s;
  empty_ring_line = λ n s. says (inl (lists n [] [])) s;
  empty_first_line = λ u n s. says (inr (wrapped.lists u n [] [])) s;
  empty_later_line = λ u n s. says (wrapped.lists u n [] []) s;
  active = λ n lo hi. start_are true (every_node n) n (named_every n) lo hi;
  passive = λ n lo hi. start_are false [] n (λ i h. refl) lo hi;
  active_at_node = λ t ok u n v. slot_are true (every_node n) n (named_every n) t ok u (every_known n) v;
  passive_at = λ t ok u n v. slot_are false [] n (λ i h. refl) t ok u refl v;
  verdict = told_verdict;
  update_is_judged = told_update;
  listed_valid = valid_line;
  line_as_listed = told_alike;
  as_listed = λ s s' c. lines_read.output s ∙ (all_alike fresh 1 c ∙ sym (lines_read.output s'));
  begins = λ s n e p lo hi. log_of s (ring_start_ask n (every_node n) []) e (says (inl (bare n)) p) (ring_granted n lo hi);
  update_begins = λ s u n e p h lo hi.
      log_of s (update_start u n (every_node n) []) e (says (inr (wrapped.bare u n)) p) (update_granted u n h lo hi);
  idle_first = λ n hi log i a b h.
      let accepted = accepted_of ring (bare_run n) (said log.asks i) in
      idle_of (start_are true (every_node n) n (named_every n) (omega arith) hi) accepted b h (log.quiet i a).passive;
  update_idle_first = λ u n hi log i none a b h.
      let taken = (history_of u empty_table (made (Start u n (bare_flags n)) log.asks i)).taken in
      let q = log.quiet u i a in
      let is = same_state (sym (log.began_first u n (bare_flags n) refl i none) ∙ q.began) in
      idle_of (subst (AllNodesAre true n) is (bare_are n hi)) taken b h q.quiet.passive;
  later_idle_first = λ {first = first} log u m k i less p ok none a b h.
      let taken = (history_of u empty_table (made first log.asks i)).taken in
      let q = log.quiet u i a in
      let is = same_state (sym (log.began u k i (line_starts log u m k p ok) less none) ∙ q.began) in
      idle_of (subst (AllNodesAre true m) is (bare_are m (few log u m k p ok))) taken b h q.quiet.passive;
}
