-- What a line asks for, and what a first line begins. Assumes nothing.
use Rattle.std.specs.Prelude.{Some, None}
use Prim.Native.Nat.{◌+◌, ◌<◌, ◌≤◌, suc, zero, ℕ}
use borrow.Author.Tests.{le-leb, le-ltb, leb-true, lt-leb, lt-ltb, ltb-false, ltb-true}
use lib.Dec.{leb, ltb}
use lib.ListN.{get_or-append, get_or, length, length-append, take}
use lib.Seq.{ext_get_or, get_or_at, get_or-take, length-take-le}
use mathlib.Core.Bool.{Bool, false, not, true}
use mathlib.Core.List.{List, [], ◌++◌, ◌∷◌}
use mathlib.Core.Logic.{◌↔◌, inl, inr, ◌⊎◌}
use mathlib.Core.Path.{◌∙◌, ◌≡◌, ap, refl, subst, subst⁻¹, sym}
use native.Mathlib.Decide.{dec_lt}
use native.Mathlib.Omega.{arith}
use Rattle.first_line.proofs.Meaning.{nodes_mean, rings_mean}
use Rattle.first_line.proofs.Opens.{first_exact, first_other}
use Rattle.first_line.specs.Meaning.{Below, Means, every_node, flag_byte, named}
use Rattle.first_line.specs.Read.{first_at}
use Rattle.first_line.specs.Start.{Start, bare, lists, ring_first, seen, start_form, tree}
use Rattle.first_line.specs.declared.RingStart.{RingStart}
use Rattle.first_line.specs.declared.First.TheVariants.{Ring}
use Rattle.decimal.proofs.Cases.{same_read}
use Rattle.forms.specs.Form.{Form, Says, form_text}
use Rattle.forms.specs.Read.{Read}
use Rattle.laws.proofs.Tests.{both, both_true, false_true, split}
use Rattle.first_line.proofs.Flags.{flag_small}
use Rattle.log_rules.proofs.Ends.{form_ended}
use Rattle.log_rules.proofs.Theorems.{lines_say, says_first, says_itself, start_or_wrapped}
use Rattle.log_rules.specs.Answers.{Stage, first_told, fresh, line_told, no_moves, on_ring, on_table, on_tree, opened_by, update_ask, update_first, update_opened, update_table}
use Rattle.log_rules.specs.Pieces.{OneLine, PartLine}
use Rattle.refusal.proofs.Table.{not_both}
use Rattle.refusal.specs.Table.{Row, ◌⟶◌, first_of}
use Rattle.refusal.specs.declared.Refusal.TheVariants.{NodeCount, UnknownNode, UnknownUpdate}
use Rattle.refusal.specs.Table.{Verdict}
use Rattle.refusal.specs.Table.{Accepted, Refused}
use Rattle.table_rules.proofs.Soundness.{empty_sound}
use Rattle.table_rules.proofs.Theorems.{table_answered, table_tested}
use Rattle.table_rules.specs.Answers.{after, other_nodes, verdict_on}
use Rattle.table_rules.specs.Soundness.{SoundTable}
use Rattle.table_rules.specs.Table.{Table, empty_table}
use Rattle.update_forms.proofs.Exact.{wrapped_exact, wrapped_other}
use Rattle.update_forms.specs.Read.{wrapped_at}
use Rattle.update_forms.specs.Wrapped.{Wrapped, wrapped_form}
use Rattle.log_runs.specs.First.{StartAsk, FirstAsks, all_below, begun, in_range, first_form, first_verdict, flags_to, known_by, meant, no_start, start_rows, update_verdict}
use Rattle.log_runs.specs.Says.{Asks, cut, list_to, other, says}
use Rattle.forms.specs.Read as read
use Rattle.log_rules.proofs.Ends as ends
use Rattle.ring_rules.proofs.Start as ring_laws
use Rattle.ring_rules.proofs.Theorems as ring_theorems
use Rattle.ring_rules.specs.Start as ring_start
use Rattle.tree_rules.proofs.Start as tree_laws
use Rattle.tree_rules.proofs.Theorems as tree_theorems
use Rattle.tree_rules.specs.Start as tree_start
use Rattle.table_rules.specs.Answers as table
use Rattle.update_forms.proofs.Exact as forms
use Rattle.update_forms.specs.Wrapped as wrapped

-- ---- a line asks for one thing

not_cut : {l : List ℕ} (f : Form) → Says l f → PartLine l → ⊥
not_cut f s u = ends.not_both (form_ended f) (subst PartLine s.0 u)

pub asks_once :
    {F A : Type 0} {form : F → Form} {means : F → A} {nothing : A} {l : List ℕ} → ((f g : F) → Says l (form f) → Says l (form g) → f ≡ g)
    → {a b : A} → Asks form means nothing l a → Asks form means nothing l b → a ≡ b
asks_once {means = means} once (says f s) (says g t) = ap means (once f g s t)
asks_once once (says f s) (other o h) = absurd (h f s)
asks_once {form = form} once (says f s) (cut u) = absurd (not_cut (form f) s u)
asks_once once (other o h) (says f s) = absurd (h f s)
asks_once once (other o h) (other o' h') = refl
asks_once once (other o h) (cut u) = refl
asks_once {form = form} once (cut u) (says f s) = absurd (not_cut (form f) s u)
asks_once once (cut u) (other o h) = refl
asks_once once (cut u) (cut u') = refl

-- ---- the first line

pub first_asks : (l : List ℕ) → OneLine l → (a : StartAsk) × FirstAsks l a
first_asks l o = go (first_at l 0) refl (wrapped_at l 0) refl
  where
    neither :
        first_at l 0 ≡ None → wrapped_at l 0 ≡ None → (f : Start ⊎ Wrapped) → Says l (first_form f) → ⊥
    neither p q (inl f) s = (first_other l 0).0 p f (says_first (start_form f) l s)
    neither p q (inr w) s = (wrapped_other l 0).0 q w (says_first (wrapped_form w) l s)

    go : (x : Read Start) → first_at l 0 ≡ x → (y : Read Wrapped) → wrapped_at l 0 ≡ y → (a : StartAsk) × FirstAsks l a
    go (Some (f, e)) p y q = (meant (inl f), says (inl f) (says_itself (start_form f) l o ((first_exact l 0 f e).0 p).0))
    go None p (Some (w, e)) q = (meant (inr w), says (inr w) (says_itself (wrapped_form w) l o ((wrapped_exact l 0 w e).0 q).0))
    go None p None q = (no_start, other o (neither p q))

start_once : (l : List ℕ) (f g : Start) → Says l (start_form f) → Says l (start_form g) → f ≡ g
start_once l f g s t =
    let p = (first_exact l 0 f (0 + length (form_text (start_form f)))).1 (says_first (start_form f) l s, refl) in
    let q = (first_exact l 0 g (0 + length (form_text (start_form g)))).1 (says_first (start_form g) l t, refl) in
    (same_read (sym p ∙ q)).0

pub wrapped_once : (l : List ℕ) (v w : Wrapped) → Says l (wrapped_form v) → Says l (wrapped_form w) → v ≡ w
wrapped_once l v w s t = forms.wrapped_once v w s.1.0 t.1.0 (sym s.0 ∙ t.0)

pub opening_once : (l : List ℕ) (f g : Start ⊎ Wrapped) → Says l (first_form f) → Says l (first_form g) → f ≡ g
opening_once l (inl f) (inl g) s t = ap inl (start_once l f g s t)
opening_once l (inl f) (inr w) s t = absurd (start_or_wrapped l f w s t)
opening_once l (inr w) (inl f) s t = absurd (start_or_wrapped l f w t s)
opening_once l (inr v) (inr w) s t = ap inr (wrapped_once l v w s t)

-- ---- the nodes that a ring's lists name

pub below_test : (n : ℕ) (ks : List ℕ) → (all_below n ks ≡ true) ↔ Below n ks
below_test n [] = (λ e. tt, λ b. refl)
below_test n (k ∷ ks) =
    let ih = below_test n ks in (
      λ e. (let w = both (ltb k n) (all_below n ks) e in (ltb-true k n w.0, ih.0 w.1)),
      λ b. both_true (lt-ltb k n b.0) (ih.1 b.1),
    )

pub list_length : (f : ℕ → ℕ) (n : ℕ) → length (list_to f n) ≡ n
unfolding list_to
list_length f zero = refl
list_length f (suc n) = length-append (list_to f n) _ ∙ omega (arith, list_length f n)

pub list_at : (f : ℕ → ℕ) (n i : ℕ) → i < n → get_or (list_to f n) i 0 ≡ f i
unfolding list_to
list_at f zero i h = absurd (let z : ⊥ = omega arith in z)
list_at f (suc n) i h = go (list_at f n i) (dec_lt i n)
  where
    go : (i < n → get_or (list_to f n) i 0 ≡ f i) → Dec (i < n) → get_or (list_to f n ++ (f n ∷ [])) i 0 ≡ f i
    go ih (yes k) = get_or-append (list_to f n) _ 0 i (omega (arith, list_length f n)) ∙ ih k
    go ih (no k) =
        let e : i ≡ n = omega arith in
        ap (λ (j : ℕ). get_or (list_to f n ++ (f n ∷ [])) j 0) e ∙ (get_or_at (list_to f n) _ [] 0 n (list_length f n) ∙ ap f (sym e))

flags_length : (active black : List ℕ) (n : ℕ) → length (flags_to active black n) ≡ n
unfolding flags_to
flags_length a b n = list_length _ n

pub flags_at : (active black : List ℕ) (n i : ℕ) → i < n → get_or (flags_to active black n) i 0 ≡ flag_byte (named active i) (named black i)
unfolding flags_to
flags_at a b n i h = list_at (λ i. flag_byte (named a i) (named b i)) n i h

-- ---- an accepted first line is an accepted start

-- no row applies
passed : (c k : Bool) → first_of (start_rows c k) ≡ Accepted → (c ≡ true) × (k ≡ true)
passed true true e = (refl, refl)
passed true false e = absurd (not_both e refl)
passed false true e = absurd (not_both e refl)
passed false false e = absurd (not_both e refl)

range : (most n : ℕ) (k : Bool) → first_of (start_rows (in_range most n) k) ≡ Accepted → (0 < n) × (n ≤ most) × (k ≡ true)
range most n k e =
    let p = passed (in_range most n) k e in
    let w = both (ltb 0 n) (leb n most) p.0 in
    (ltb-true 0 n w.0, leb-true n most w.1, p.1)

pub flags_start : (n : ℕ) (a b : List ℕ) → 0 < n → n ≤ 96 → ring_start.start_verdict n (flags_to a b n) ≡ Accepted
flags_start n a b lo hi =
    ring_laws.accepted_start n (flags_to a b n) (record {
      some_node = lo;
      nodes = hi;
      each = flags_length a b n;
      small = λ i h. subst⁻¹ (λ (x : ℕ). x ≤ 3) (flags_at a b n i h) (flag_small (named a i) (named b i));
    })

pub ring_accepted :
    (n : ℕ) (active black : List ℕ) → first_verdict (StartAsk.ring_start_ask n active black) ≡ Accepted
    → ring_start.start_verdict n (flags_to active black n) ≡ Accepted
ring_accepted n a b e =
    let w = range 96 n (known_by n a b) e in flags_start n a b w.0 w.1

pub tree_accepted : (n root : ℕ) → first_verdict (StartAsk.tree_start_ask n root) ≡ Accepted → tree_start.start_verdict n root ≡ Accepted
tree_accepted n root e =
    let w = range 16 n (ltb root n) e in
    tree_laws.accepted_start n root (record { some_node = w.0; nodes = w.1; root_in = ltb-true root n w.2 })

-- ---- the log's rows for a start of an update are the table's

last_rows : (n : ℕ) (a b : List ℕ) → first_of (ring_start.start_table n (flags_to a b n)) ≡ first_of (start_rows (in_range 96 n) true)
unfolding ring_start.start_verdict
last_rows n a b = go (in_range 96 n) refl
  where
    go : (c : Bool) → in_range 96 n ≡ c → first_of (ring_start.start_table n (flags_to a b n)) ≡ first_of (start_rows (in_range 96 n) true)
    go true e =
        let w = both (ltb 0 n) (leb n 96) e in
        flags_start n a b (ltb-true 0 n w.0) (leb-true n 96 w.1) ∙ sym (rw e)
    go false e = rw e

all_rows :
    (a b : Bool) (p q : List Row) → first_of p ≡ first_of q
    → first_of ((a ⟶ UnknownUpdate) ∷ (b ⟶ NodeCount) ∷ p) ≡ first_of ((a ⟶ UnknownUpdate) ∷ (b ⟶ NodeCount) ∷ q)
all_rows true b p q e = refl
all_rows false true p q e = refl
all_rows false false p q e = e

pub table_rows :
    (t : Table) → SoundTable t → (u n : ℕ) (a b : List ℕ) → known_by n a b ≡ true
    → verdict_on t (table.Start u n (flags_to a b n)) ≡ update_verdict t u n a b
unfolding verdict_on
table_rows t ok u n a b k =
    rw (table_tested.tested t ok, k)
    (all_rows (not (ltb u 8)) (other_nodes t n) (ring_start.start_table n (flags_to a b n)) (start_rows (in_range 96 n) true) (last_rows n a b))

-- an accepted one names nodes that there are
pub update_passed : (t : Table) (u n : ℕ) (a b : List ℕ) → update_verdict t u n a b ≡ Accepted → (n ≤ 96) × (known_by n a b ≡ true)
update_passed t u n a b = go (not (ltb u 8)) (other_nodes t n)
  where
    go :
        (x y : Bool) → first_of ((x ⟶ UnknownUpdate) ∷ (y ⟶ NodeCount) ∷ start_rows (in_range 96 n) (known_by n a b)) ≡ Accepted
        → (n ≤ 96) × (known_by n a b ≡ true)
    go true y e = absurd (not_both e refl)
    go false true e = absurd (not_both e refl)
    go false false e = let w = range 96 n (known_by n a b) e in (w.1, w.2)

pub update_accepted :
    (u n : ℕ) (active black : List ℕ) → first_verdict (StartAsk.update_start u n active black) ≡ Accepted
    → verdict_on empty_table (table.Start u n (flags_to active black n)) ≡ Accepted
update_accepted u n a b e = table_rows empty_table empty_sound u n a b (update_passed empty_table u n a b e).1 ∙ e

-- ---- and is answered so

opened_same : (v : Verdict) {s t : Stage} → (v ≡ Accepted → s ≡ t) → opened_by v s ≡ opened_by v t
opened_same Accepted e = ap (opened_by Accepted) (e refl)
opened_same (Refused x) e = refl

-- the top of a ring's lists is past n exactly if a node that they name is none
top_known : (n : ℕ) (a b : List ℕ) {p : ℕ} {f : RingStart} → Means p a b f → ltb n f.top ≡ not (known_by n a b)
top_known n a b {f} m = go (known_by n a b) refl (split (ltb n f.top))
  where
    go : (k : Bool) → known_by n a b ≡ k → (ltb n f.top ≡ true) ⊎ (ltb n f.top ≡ false) → ltb n f.top ≡ not k
    go true e t =
        let w = both (all_below n a) (all_below n b) e in
        le-ltb n f.top ((m.most n).1 ((below_test n a).0 w.0, (below_test n b).0 w.1))
    go false e (inl t) = t
    go false e (inr t) =
        let w = (m.most n).0 (ltb-false n f.top t) in
        absurd (false_true (sym e ∙ both_true ((below_test n a).1 w.0) ((below_test n b).1 w.1)))

-- its flags are those of the lists
flags_same : (a b : List ℕ) {f : RingStart} → Means f.n a b f → f.n ≤ 96 → take f.n f.flags ≡ flags_to a b f.n
flags_same a b {f} m h =
    let len = length-take-le f.n f.flags (omega (arith, m.many)) in
    ext_get_or 0 (take f.n f.flags) (flags_to a b f.n) (len ∙ sym (flags_length a b f.n))
    (λ i k.
    let j : i < f.n = omega arith in
    get_or-take f.n f.flags i 0 j ∙ (m.flag i j (omega arith) ∙ sym (flags_at a b f.n i j)))

ring_told :
    (n top : ℕ) (flags a b : List ℕ) → Means n a b (ring_first n flags top)
    → first_told (Ring (ring_first n flags top))
    ≡ opened_by (first_verdict (StartAsk.ring_start_ask n a b)) (begun (StartAsk.ring_start_ask n a b))
ring_told n top flags a b m =
    ap (λ (t : Bool). opened_by (first_of ((not (in_range 96 n) ⟶ NodeCount) ∷ (t ⟶ UnknownNode) ∷ [])) (on_ring (ring_start.first_state n (take n flags)) 0))
    (top_known n a b m)
    ∙ opened_same (first_verdict (StartAsk.ring_start_ask n a b)) same
  where
    same : first_verdict (StartAsk.ring_start_ask n a b) ≡ Accepted → on_ring (ring_start.first_state n (take n flags)) 0 ≡ begun (StartAsk.ring_start_ask n a b)
    same v =
        let w = range 96 n (known_by n a b) v in
        ap (λ (x : List ℕ). on_ring (ring_start.first_state n x) 0) (flags_same a b m w.1)
        ∙ ap (λ (r : _). on_ring r 0) (sym ((ring_theorems.start_answered).first n (flags_to a b n) (ring_accepted n a b v)))

root_known : (n root : ℕ) → leb n root ≡ not (ltb root n)
root_known n root = go (dec_lt root n)
  where
    go : Dec (root < n) → leb n root ≡ not (ltb root n)
    go (yes h) = rw (lt-ltb root n h) (lt-leb n root h)
    go (no h) = rw (le-ltb root n (omega arith)) (le-leb n root (omega arith))

tree_told :
    (n root : ℕ)
    → opened_by (tree_start.start_verdict n root) (on_tree (tree_start.first_state n root))
    ≡ opened_by (first_verdict (StartAsk.tree_start_ask n root)) (begun (StartAsk.tree_start_ask n root))
unfolding tree_start.start_verdict
tree_told n root =
    ap (λ (t : Bool). opened_by (first_of ((not (in_range 16 n) ⟶ NodeCount) ∷ (t ⟶ UnknownNode) ∷ [])) (on_tree (tree_start.first_state n root)))
    (root_known n root)
    ∙ opened_same (first_verdict (StartAsk.tree_start_ask n root))
    (λ v. ap on_tree (sym ((tree_theorems.start_answered).first n root (tree_accepted n root v))))

start_told :
    {l : List ℕ} (f : Start) → Says l (start_form f)
    → first_told (seen f) ≡ opened_by (first_verdict (meant (inl f))) (begun (meant (inl f)))
start_told (bare n) s = ring_told n _ _ (every_node n) [] (rings_mean.neither n)
start_told (lists n a b) s = ring_told n _ _ a b (nodes_mean n (rings_mean.both n a b s.1.0.1 s.1.0.2))
start_told (tree n root) s = tree_told n root

-- ---- a start of an update, as it was read

module _ (t : Table) (u n top : ℕ) (flags a b : List ℕ) (m : Means n a b (ring_first n flags top)) where
  abbrev seen_first : RingStart
  seen_first = ring_first n flags top

  pub update_rows : first_of (update_table t u seen_first) ≡ update_verdict t u n a b
  update_rows =
      ap
      (λ (k : Bool).
      first_of ((not (ltb u 8) ⟶ UnknownUpdate) ∷ (other_nodes t n ⟶ NodeCount) ∷ (not (in_range 96 n) ⟶ NodeCount) ∷ (k ⟶ UnknownNode) ∷ []))
      (top_known n a b m)

  pub update_after : update_verdict t u n a b ≡ Accepted → after t (update_ask u seen_first) ≡ after t (table.Start u n (flags_to a b n))
  update_after v = ap (λ (x : List ℕ). after t (table.Start u n x)) (flags_same a b m (update_passed t u n a b v).0)

update_told :
    (u n top : ℕ) (flags a b : List ℕ) → Means n a b (ring_first n flags top)
    → update_opened u (ring_first n flags top)
    ≡ opened_by (first_verdict (StartAsk.update_start u n a b)) (begun (StartAsk.update_start u n a b))
update_told u n top flags a b m =
    ap (λ (v : Verdict). opened_by v (on_table (after empty_table (update_ask u (ring_first n flags top))) no_moves))
    (update_rows empty_table u n top flags a b m)
    ∙ opened_same (first_verdict (StartAsk.update_start u n a b))
    (λ v.
    ap (λ (t : Table). on_table t no_moves)
    (update_after empty_table u n top flags a b m v ∙ sym (table_answered.next empty_table _ (update_accepted u n a b v))))

wrapped_told :
    {l : List ℕ} (w : Wrapped) → Says l (wrapped_form w)
    → update_first (read.read w 0) ≡ opened_by (first_verdict (meant (inr w))) (begun (meant (inr w)))
wrapped_told (wrapped.step u f) s = refl
wrapped_told (wrapped.bare u n) s = update_told u n _ _ (every_node n) [] (rings_mean.neither n)
wrapped_told (wrapped.lists u n a b) s = update_told u n _ _ a b (nodes_mean n (rings_mean.both n a b s.1.0.1.1 s.1.0.1.2))

pub first_line_is_told : (k : ℕ) {l : List ℕ} {a : StartAsk} → FirstAsks l a → line_told fresh k l ≡ opened_by (first_verdict a) (begun a)
first_line_is_told k {l} (says (inl f) s) = lines_say.first k l f s ∙ start_told f s
first_line_is_told k {l} (says (inr w) s) = lines_say.first_update k l w s ∙ wrapped_told w s
first_line_is_told k {l} (other o h) = lines_say.first_other k l o (λ f. h (inl f)) (λ w. h (inr w))
first_line_is_told k {l} (cut u) = lines_say.unended fresh k l u
