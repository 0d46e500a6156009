-- The equations of the tree's contracts, by what the code found. Assumes nothing.
use Prim.Native.Nat.{ℕ}
use mathlib.Core.Bool.{false, true}
use mathlib.Core.List.{List}
use mathlib.Core.Logic.{inl, inr}
use mathlib.Core.Path.{◌∙◌, ◌≡◌, ap, refl, sym}
use native.Mathlib.Omega.{arith}
use Rattle.flag_bytes.proofs.Laws.{flag_back, flags_back, narrow_same}
use Rattle.flag_bytes.specs.Flags.{are_flags, is_flag}
use Rattle.flag_bytes.specs.Narrow.{kind_byte}
use Rattle.laws.proofs.Tests.{both}
use Rattle.refusal.specs.Table.{code_of, settle}
use Rattle.refusal.specs.declared.Refusal.{Refusal}
use Rattle.refusal.specs.declared.Refusal.TheVariants.{Unsound}
use Rattle.refusal.specs.Table.{Verdict}
use Rattle.refusal.specs.Table.{Accepted, Refused}
use Rattle.tree_rules.proofs.Fields.{nodes_kept, root_kept}
use Rattle.tree_rules.proofs.Theorems.{fields_unread}
use Rattle.tree_rules.specs.Answers.{Answer, step_of}
use Rattle.tree_rules.specs.Start.{start_of}
use Rattle.tree_rules.specs.State.{State}
use Rattle.tree_text.specs.Read.{read_of}
use Rattle.tree_text.specs.Write.{buffer_of, told, write_verdict, written_number, written_of}
use Rattle.tree_text.specs.Read.{Found}
use Rattle.tree_text.specs.Write.{Written}
use Rattle.tree_text.specs.Write.{Length, NotWritten}
use Rattle.lent.specs.Tree.{LentTree, ReadAs, TreeStartedTo, TreeSteppedTo, WrittenAs, lent_tree, lent_tree_of, tree_truths_test, tree_of, tree_step_verdict}

-- flags are what their truths give back
pub tree_back : (l : LentTree) → tree_truths_test l ≡ true → lent_tree_of (tree_of l) ≡ l
unfolding tree_truths_test
tree_back l f =
    let a = both (are_flags l.active) (is_flag l.closed) f in
    λ x. lent_tree l.n l.root (flags_back l.active a.0 x) l.engager l.unacked l.transit l.acks l.sends
    (flag_back l.closed a.1 x)

-- ---- a start

pub tree_started :
    {nodes at number : ℕ} {before after : LentTree} (a : Answer) → a ≡ start_of nodes at → number ≡ code_of a.verdict
    → after ≡ settle a.verdict (lent_tree_of a.state) before → TreeStartedTo nodes at number before after
tree_started a e t h = record { told = rw (← e) t; fields = rw (← e) h }

-- ---- a step

-- a kind that does not fit a byte is unknown, as 0 is
pub tree_kind_same : (t : State) (b kind i j : ℕ) → b ≡ kind_byte kind → step_of t b i j ≡ step_of t kind i j
tree_kind_same t b kind i j e =
    ap (λ (k : ℕ). step_of t k i j) e
    ∙ narrow_same (λ (k : ℕ). step_of t k i j) 255 0 kind (λ k h. fields_unread.other_kinds t 0 k (inl refl) (inr (omega arith)) i i j j)

by_step :
    (l : LentTree) (kind i j number : ℕ) (after : LentTree) (w : Verdict) → tree_step_verdict l kind i j ≡ w → number ≡ code_of w
    → after ≡ settle w (lent_tree_of (step_of (tree_of l) kind i j).state) l → TreeSteppedTo l kind i j number after
by_step l kind i j number after w e t f =
    record {
      told = t ∙ sym (ap code_of e);
      fields = f ∙ sym (ap (λ (v : Verdict). settle v (lent_tree_of (step_of (tree_of l) kind i j).state) l) e);
    }

pub tree_step_unflagged : {l : LentTree} {kind i j number : ℕ} → tree_truths_test l ≡ false → number ≡ 3 → TreeSteppedTo l kind i j number l
tree_step_unflagged {l} {kind} {i} {j} {number} f t = by_step l kind i j number l (Refused Unsound) (rw f) t refl

pub tree_step_refused :
    {l : LentTree} {kind i j number : ℕ} (r : State) (a : Answer) {e : Refusal} → r ≡ tree_of l → a ≡ step_of r kind i j
    → tree_truths_test l ≡ true → a.verdict ≡ Refused e → number ≡ code_of a.verdict → TreeSteppedTo l kind i j number l
tree_step_refused {l} {kind} {i} {j} {number} r a {e} p s f v t =
    by_step l kind i j number l (Refused e)
    (rw (f, ← p) (ap (λ (x : Answer). x.verdict) (sym s) ∙ v))
    (t ∙ ap code_of v)
    refl

-- the fields `s` in which the next state lies, but for the number of nodes and the root, which no step changes
abbrev pub with_root : ℕ → ℕ → LentTree → LentTree
with_root n root s = lent_tree n root s.active s.engager s.unacked s.transit s.acks s.sends s.closed

pub tree_step_accepted :
    {l : LentTree} {kind i j : ℕ} (r : State) (a : Answer) (s : LentTree) → r ≡ tree_of l → a ≡ step_of r kind i j
    → tree_truths_test l ≡ true → a.verdict ≡ Accepted → s ≡ lent_tree_of a.state
    → TreeSteppedTo l kind i j 0 (with_root l.n l.root s)
tree_step_accepted {l} {kind} {i} {j} r a s p q f v h =
    let e : a ≡ step_of (tree_of l) kind i j = q ∙ ap (λ (x : State). step_of x kind i j) p in
    let n : l.n ≡ a.state.n = sym (ap (λ (x : Answer). x.state.n) e ∙ nodes_kept (tree_of l) kind i j) in
    let root : l.root ≡ a.state.root = sym (ap (λ (x : Answer). x.state.root) e ∙ root_kept (tree_of l) kind i j) in
    by_step l kind i j 0 (with_root l.n l.root s) Accepted
    (rw (f, ← e) v)
    refl
    ((λ x. with_root (n x) (root x) (h x)) ∙ ap (λ (x : Answer). lent_tree_of x.state) e)

-- ---- the text of a tree

-- what the writer's answer makes of the lent length
abbrev pub length_by : Written → ℕ → ℕ
length_by (Length k) same = k
length_by (NotWritten e) same = same

pub number_told : (v : Verdict) (k : ℕ) → written_number (told v k) ≡ code_of v
number_told Accepted k = refl
number_told (Refused e) k = refl

length_told : (v : Verdict) (k same : ℕ) → length_by (told v k) same ≡ settle v k same
length_told Accepted k same = refl
length_told (Refused e) k same = refl

pub write_unflagged :
    {l : LentTree} {buf : List ℕ} {number length : ℕ} → tree_truths_test l ≡ false → number ≡ 3 → WrittenAs l buf number length length buf
write_unflagged f t = record { told = rw f t; long = rw f; bytes = rw f }

pub write_flagged :
    {l : LentTree} {buf buf' : List ℕ} {number length length' : ℕ} (w : Written) → tree_truths_test l ≡ true
    → w ≡ written_of (tree_of l) buf
    → number ≡ written_number w → length' ≡ length_by w length → buf' ≡ buffer_of (tree_of l) buf
    → WrittenAs l buf number length length' buf'
unfolding written_of buffer_of
write_flagged {l} {buf} {buf'} {number} {length} {length'} w f e t h b =
    record {
      told = rw f (t ∙ ap written_number e ∙ number_told (write_verdict (tree_of l) buf) _);
      long = rw f (h ∙ ap (λ (x : Written). length_by x length) e ∙ length_told (write_verdict (tree_of l) buf) _ length);
      bytes = rw f b;
    }

pub read_as :
    {n number root root' : ℕ} {s engager engager' : List ℕ} (f : Found) → f ≡ read_of n s → number ≡ code_of f.verdict
    → engager' ≡ settle f.verdict f.engager engager → root' ≡ settle f.verdict f.root root
    → ReadAs n s number engager root engager' root'
read_as f e t h r = record { told = rw (← e) t; engagers = rw (← e) h; outermost = rw (← e) r }
