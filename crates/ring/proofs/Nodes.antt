-- One node more of the walk: the nodes i to n - 1 are behind it, those below i before it. Assumes nothing.
use Prim.Native.Nat.{◌*◌, ◌+◌, ◌-◌, ◌<◌, ◌^◌, ◌≤◌, suc, ℕ}
use borrow.Author.Tests.{le-leb, le-ltb, lt-leb, lt-ltb}
use lib.Dec.{leb, ltb}
use lib.ListN.{get_or}
use mathlib.Core.Bool.{Bool, ◌&&◌, ◌||◌, and_assoc, and_comm, and-true, false, not, true}
use mathlib.Core.List.{List}
use mathlib.Core.Path.{◌∙◌, ◌≡◌, ap, refl, subst, sym}
use native.Mathlib.Decide.{dec_lt}
use native.Mathlib.Omega.{arith}
use Rattle.color.specs.Colors.{is_black}
use Rattle.laws.proofs.Places.{all_at, all_from, all_next}
use Rattle.laws.proofs.Sums.{sum_none, total_mono, total_next}
use Rattle.laws.proofs.Tests.{left_true, right_true, same_test}
use Rattle.laws.specs.Places.{all_to}
use Rattle.laws.specs.Sums.{total}
use Rattle.ring_rules.specs.Soundness.{passive_above, white_to}
use Rattle.ring.specs.Walked.{Walked}
use Rattle.ring.specs.declared.walk.Seen.{Seen}

-- the node that the walk comes to next is i - 1
total_node : (l : List ℕ) (i : ℕ) → 0 < i → total l i ≡ total l (i - 1) + get_or l (i - 1) 0
total_node l i h = let e : i ≡ i - 1 + 1 = omega arith in ap (total l) e ∙ total_next l (i - 1)

all_node : (p : ℕ → Bool) (i : ℕ) → 0 < i → all_to i p ≡ (all_to (i - 1) p && p (i - 1))
all_node p i h = let e : i ≡ i - 1 + 1 = omega arith in ap (λ (m : ℕ). all_to m p) e ∙ all_next (i - 1) p

-- ---- a column's total

-- s is the total of what lies behind the walk, with each place below 2 ^ 32
pub record Behind (l : List ℕ) (n i s : ℕ) : Type 0 where
  pub all : s + total l i ≡ total l n
  pub few : s + i * 2 ^ 32 ≤ n * 2 ^ 32

-- a is the part of it above pos
pub record PartAbove (l : List ℕ) (n pos i s a : ℕ) : Type 0 where
  pub all : a + (total l i - total l (suc pos)) ≡ total l n - total l (suc pos)
  pub part : a ≤ s

module _ (l : List ℕ) (n : ℕ) where
  pub behind_none : Behind l n n 0
  behind_none = record { all = omega arith; few = omega arith }

  pub behind_node : {i s x : ℕ} → Behind l n i s → 0 < i → x ≡ get_or l (i - 1) 0 → x < 2 ^ 32 → Behind l n (i - 1) (s + x)
  behind_node {i} b h e less = record { all = omega (arith, b.all, total_node l i h); few = omega (arith, b.few) }

  pub behind_all : {s : ℕ} → Behind l n 0 s → s ≡ total l n
  behind_all b = omega (arith, b.all, sum_none (λ k. get_or l k 0))

  module _ (pos : ℕ) where
    pub above_none : PartAbove l n pos n 0 0
    above_none = record { all = omega arith; part = omega arith }

    -- up to a node above pos it is all of it; a node up to pos adds nothing to it
    pub above_here : {i s : ℕ} → Behind l n i s → pos < i → PartAbove l n pos i s s
    above_here {i} b h = record { all = omega (arith, b.all, total_mono l (suc pos) i (omega arith)); part = omega arith }

    pub above_kept : {i s a : ℕ} (x : ℕ) → PartAbove l n pos i s a → 0 < i → i - 1 ≤ pos → PartAbove l n pos (i - 1) (s + x) a
    above_kept {i} x b h to =
        record {
          all = omega (arith, b.all, total_mono l i (suc pos) (omega arith), total_node l i h);
          part = omega (arith, b.part);
        }

    pub above_all : {s a : ℕ} → PartAbove l n pos 0 s a → a ≡ total l n - total l (suc pos)
    above_all b = omega (arith, b.all, sum_none (λ k. get_or l k 0))

-- ---- a test of the nodes

-- ok is what the test tells of those behind the walk
abbrev pub Asked : (ℕ → Bool) → ℕ → ℕ → Bool → Type 0
Asked p n i ok = (ok && all_to i p) ≡ all_to n p

module _ (p : ℕ → Bool) (n i : ℕ) (ok : Bool) (e : Asked p n i ok) (h : 0 < i) where
  pub asked_node : (b : Bool) → p (i - 1) ≡ b → Asked p n (i - 1) (ok && b)
  asked_node b q =
      and_assoc ok b (all_to (i - 1) p) ∙ ap (◌&&◌ ok) (and_comm b (all_to (i - 1) p) ∙ ap (◌&&◌ (all_to (i - 1) p)) (sym q) ∙ sym (all_node p i h)) ∙ e

  pub asked_kept : p (i - 1) ≡ true → Asked p n (i - 1) ok
  asked_kept q = ap (λ (x : Bool). x && all_to (i - 1) p) (sym (and-true ok)) ∙ asked_node true q

pub asked_all : (p : ℕ → Bool) (n : ℕ) (ok : Bool) → Asked p n 0 ok → ok ≡ all_to n p
asked_all p n true e = e
asked_all p n false e = e

-- the two tests: of the nodes above pos, and of the others
abbrev pub passive_test : List Bool → ℕ → ℕ → Bool
passive_test active pos i = leb i pos || not (get_or active i false)

abbrev pub white_test : List ℕ → ℕ → ℕ → Bool
white_test color pos i = ltb pos i || not (is_black color i)

-- what each asks of a node
pub passive_asked : (active : List Bool) (pos i : ℕ) → pos < i → passive_test active pos i ≡ not (get_or active i false)
passive_asked active pos i h = ap (λ (b : Bool). b || not (get_or active i false)) (lt-leb i pos h)

pub passive_unasked : (active : List Bool) (pos i : ℕ) → i ≤ pos → passive_test active pos i ≡ true
passive_unasked active pos i h = left_true _ (le-leb i pos h)

pub white_asked : (color : List ℕ) (pos i : ℕ) → i ≤ pos → white_test color pos i ≡ not (is_black color i)
white_asked color pos i h = ap (λ (b : Bool). b || not (is_black color i)) (le-ltb pos i h)

pub white_unasked : (color : List ℕ) (pos i : ℕ) → pos < i → white_test color pos i ≡ true
white_unasked color pos i h = left_true _ (lt-ltb pos i h)

pub passive_is : (active : List Bool) (n pos : ℕ) → all_to n (passive_test active pos) ≡ passive_above active n pos
unfolding passive_above
passive_is active n pos = refl

pub white_is : (color : List ℕ) (n pos : ℕ) → pos < n → all_to n (white_test color pos) ≡ white_to color (suc pos)
unfolding white_to
white_is color n pos h = same_test _ _ forth back
  where
    forth : all_to n (white_test color pos) ≡ true → all_to (suc pos) (λ i. not (is_black color i)) ≡ true
    forth e =
        all_from (suc pos) _
        (λ i k. sym (white_asked color pos i (omega arith)) ∙ all_at n _ e i (omega arith))

    back : all_to (suc pos) (λ i. not (is_black color i)) ≡ true → all_to n (white_test color pos) ≡ true
    back e = all_from n _ (λ i k. at i (dec_lt pos i))
      where
        at : (i : ℕ) → Dec (pos < i) → white_test color pos i ≡ true
        at i (yes above) = white_unasked color pos i above
        at i (no to) = right_true (ltb pos i) (all_at (suc pos) _ e i (omega arith))

-- ---- all of it: the nodes i to n - 1 are behind the walk

-- of those above the token
pub record Higher (n pos : ℕ) (active : List Bool) (sent received : List ℕ) (s t s_above t_above : ℕ) (ok : Bool) (i : ℕ) : Type 0 where
  pub sends : PartAbove sent n pos i s s_above
  pub receipts : PartAbove received n pos i t t_above
  pub passive : Asked (passive_test active pos) n i ok

pub record Going
    (n pos : ℕ) (active : List Bool) (color sent received pending : List ℕ) (s t p s_above t_above : ℕ) (ok white : Bool) (i : ℕ) : Type 0 where
  pub left : i ≤ n
  pub sends : Behind sent n i s
  pub receipts : Behind received n i t
  pub transit : Behind pending n i p
  pub higher : Higher n pos active sent received s t s_above t_above ok i
  pub lower : Asked (white_test color pos) n i white

module _ (n pos : ℕ) (active : List Bool) (sent received : List ℕ) where
  pub higher_node :
      {i s t s_above t_above : ℕ} {next : Bool} (ok : Bool) → Behind sent n (i - 1) s → Behind received n (i - 1) t → Asked (passive_test active pos) n i ok → 0 < i
      → pos < i - 1 → s_above ≡ s → t_above ≡ t → next ≡ (ok && not (get_or active (i - 1) false))
      → Higher n pos active sent received s t s_above t_above next (i - 1)
  higher_node {i} ok b₁ b₂ e some h e₁ e₂ e₃ =
      rw (e₁, e₂, e₃)
      (record {
        sends = above_here sent n pos b₁ h;
        receipts = above_here received n pos b₂ h;
        passive = asked_node (passive_test active pos) n i ok e some _ (passive_asked active pos (i - 1) h);
      })

  pub higher_kept :
      {i s t s_above t_above a b : ℕ} {ok next : Bool} (x y : ℕ) → Higher n pos active sent received s t s_above t_above ok i → 0 < i
      → i - 1 ≤ pos → a ≡ s_above → b ≡ t_above → next ≡ ok
      → Higher n pos active sent received (s + x) (t + y) a b next (i - 1)
  higher_kept {i} {ok} x y g some h e₁ e₂ e₃ =
      rw (e₁, e₂, e₃)
      (record {
        sends = above_kept sent n pos x g.sends some h;
        receipts = above_kept received n pos y g.receipts some h;
        passive = asked_kept (passive_test active pos) n i ok g.passive some (passive_unasked active pos (i - 1) h);
      })

module _ (color : List ℕ) (n pos i : ℕ) (white : Bool) (e : Asked (white_test color pos) n i white) (some : 0 < i) where
  pub lower_node : (black : Bool) → black ≡ is_black color (i - 1) → i - 1 ≤ pos → Asked (white_test color pos) n (i - 1) (white && not black)
  lower_node black f h = asked_node (white_test color pos) n i white e some _ (white_asked color pos (i - 1) h ∙ ap not (sym f))

  pub lower_kept : pos < i - 1 → Asked (white_test color pos) n (i - 1) white
  lower_kept h = asked_kept (white_test color pos) n i white e some (white_unasked color pos (i - 1) h)

module _ (n pos : ℕ) (active : List Bool) (color sent received pending : List ℕ) where
  -- no node is behind the walk, and nothing but nodes before it
  pub going_none : {i : ℕ} → n ≤ i → i ≤ n → Going n pos active color sent received pending 0 0 0 0 0 true true i
  going_none {i} none_missed nodes_alone =
      let all : i ≡ n = omega arith in
      rw all
      (record {
        left = omega arith;
        sends = behind_none sent n;
        receipts = behind_none received n;
        transit = behind_none pending n;
        higher = record { sends = above_none sent n pos; receipts = above_none received n pos; passive = refl };
        lower = refl;
      })

  -- none is before it
  pub going_all :
      (w : Seen) {i : ℕ} → pos < n → n ≤ 96
      → Going n pos active color sent received pending w.sent w.received w.pending w.above.sent w.above.received w.above.passive w.white i
      → i ≡ 0 → Walked n pos active color sent received pending w
  going_all w holder most so_far end =
      record {
        sends = behind_all sent n all.sends;
        receipts = behind_all received n all.receipts;
        transit = behind_all pending n all.transit;
        sends_above = above_all sent n pos all.higher.sends;
        receipts_above = above_all received n pos all.higher.receipts;
        passive = asked_all _ n _ all.higher.passive ∙ passive_is active n pos;
        white = asked_all _ n _ all.lower ∙ white_is color n pos holder;
        bounded =
            record {
              sends = omega (arith, all.sends.few);
              receipts = omega (arith, all.receipts.few);
              transit = omega (arith, all.transit.few);
              sends_above = all.higher.sends.part;
              receipts_above = all.higher.receipts.part;
            };
      }
    where
      all : Going n pos active color sent received pending w.sent w.received w.pending w.above.sent w.above.received w.above.passive w.white 0
      all =
          subst
          (Going n pos active color sent received pending w.sent w.received w.pending w.above.sent w.above.received w.above.passive w.white)
          end so_far
