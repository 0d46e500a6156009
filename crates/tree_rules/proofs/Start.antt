-- An accepted start is open. A refused start's blank is not sound. Assumes nothing.
use Prim.Native.Nat.{◌*◌, ◌+◌, ◌<◌, ◌≤◌, suc, zero, ℕ}
use borrow.Author.Tests.{eq-eqb, le-leb, le-ltb, leb-false, leb-true, lt-leb, lt-ltb, ltb-true, not-false}
use lib.ListN.{get_or, length-replicate, length-set, replicate, set}
use lib.Seq.{get_or-set_other, get_or-set_same}
use mathlib.Core.Bool.{false, not, true}
use mathlib.Core.List.{List}
use mathlib.Core.Logic.{◌≢◌, inl, inr}
use mathlib.Core.Path.{◌∙◌, ◌≡◌, ap, refl}
use native.Mathlib.Decide.{ℕ_discrete}
use native.Mathlib.Omega.{arith}
use Rattle.laws.proofs.Sums.{count_zero, sum_zero}
use Rattle.laws.proofs.Tests.{both, both_true, false_true, split}
use Rattle.refusal.proofs.Table.{accepts, none_holds}
use Rattle.refusal.specs.Table.{NoneHolds, also, none}
use Rattle.refusal.specs.declared.Refusal.TheVariants.{NodeCount, UnknownNode}
use Rattle.refusal.specs.Table.{Accepted, Refused}
use Rattle.tree_rules.proofs.Chains.{climb_any}
use Rattle.tree_rules.proofs.Facts.{Facts, sound}
use Rattle.tree_rules.proofs.Soundness.{sound_true}
use Rattle.tree_rules.proofs.Sums.{no_child}
use Rattle.tree_rules.specs.Soundness.{Open, sound_test}
use Rattle.tree_rules.specs.Start.{blank, first_state, start_of, start_table, start_verdict}
use Rattle.tree_rules.specs.State.{children, climb, is_child, messages_from}

-- a column of equal values has that value at each place, also where the default is read
pub all_same : {A : Type 0} (n i : ℕ) (a : A) → get_or (replicate n a) i a ≡ a
all_same zero i a = refl
all_same (suc n) zero a = refl
all_same (suc n) (suc i) a = all_same n i a

pub record Fits (n root : ℕ) : Type 0 where
  pub some_node : 0 < n
  pub nodes : n ≤ 16
  pub root_in : root < n

pub fits : (n root : ℕ) → start_verdict n root ≡ Accepted → Fits n root
unfolding start_verdict
fits n root e = go (none_holds (start_table n root) e)
  where
    go : NoneHolds (start_table n root) → Fits n root
    go (also p (also q none)) =
        let range = both _ _ (not-false _ p) in
        record { some_node = ltb-true 0 n range.0; nodes = leb-true n 16 range.1; root_in = leb-false n root q }

pub accepted_start : (n root : ℕ) → Fits n root → start_verdict n root ≡ Accepted
unfolding start_verdict
accepted_start n root f =
    accepts (start_table n root)
    (also (ap not (both_true (lt-ltb 0 n f.some_node) (le-leb n 16 f.nodes))) (also (lt-leb n root f.root_in) none))

module _ (n root : ℕ) (f : Fits n root) where
  column : List ℕ
  column = set (replicate 16 16) root root

  engager_root : get_or column root 16 ≡ root
  unfolding column
  engager_root = get_or-set_same (replicate 16 16) root root 16 (omega (arith, length-replicate {A = ℕ} 16 16, f.nodes, f.root_in))

  engager_other : (i : ℕ) → i ≢ root → get_or column i 16 ≡ 16
  unfolding column
  engager_other i ne = get_or-set_other (replicate 16 16) root i root 16 ne ∙ all_same 16 i 16

  only_root : (i : ℕ) → get_or column i 16 ≢ 16 → i ≡ root
  only_root i e = elim (ℕ_discrete i root) [ yes p ↦ p | no q ↦ absurd (e (engager_other i q)) ]

  not_root : (i : ℕ) → get_or column i 16 ≡ 16 → i ≢ root
  not_root i e p = omega (arith, engager_root, ap (λ (x : ℕ). get_or column x 16) p, f.nodes, f.root_in)

  childless : (j i : ℕ) → j < 16 → is_child root column j i ≡ false
  childless j i h =
      elim (ℕ_discrete i root) [
        | yes p ↦ rw (eq-eqb i root p)
        | no q ↦ no_child root column j i (λ e. omega (arith, engager_other i q))
      ]

  first_facts : Facts (first_state n root)
  unfolding first_state column messages_from children climb
  first_facts =
      record {
        shape =
            record {
              active_places = simp (length-set, length-replicate);
              engager_places = simp (length-set, length-replicate);
              unacked_places = length-replicate {A = ℕ} 16 0;
              transit_places = length-replicate {A = ℕ} 256 0;
              acks_places = length-replicate {A = ℕ} 16 0;
            };
        nodes = f.nodes;
        root_in = f.root_in;
        root_own = engager_root;
        engagers =
            λ i _ e.
            omega (arith, f.root_in, only_root i e, engager_root, ap (λ (x : ℕ). get_or column x 16) (only_root i e));
        chained =
            λ i _ e.
            climb_any column root (simp (length-set, length-replicate)) (omega (arith, f.nodes, f.root_in)) engager_root 0 i (only_root i e);
        balance =
            λ j h.
            omega (
              arith,
              all_same {A = ℕ} 16 j 0,
              sum_zero 16 (λ k. get_or (replicate 256 0) (j * 16 + k) 0) (λ k _. all_same 256 (j * 16 + k) 0),
              count_zero 16 (is_child root column j) (λ i _. childless j i h),
            );
        resting =
            λ i _ e.
            record {
              passive = get_or-set_other (replicate 16 false) root i true false (not_root i e) ∙ all_same 16 i false;
              settled = all_same 16 i 0;
            };
        messages = λ i k _ _ has. absurd (omega (arith, all_same {A = ℕ} 256 (i * 16 + k) 0));
        spent = omega (arith, sum_zero 16 (λ i. get_or (replicate 16 0) i 0) (λ i _. all_same 16 i 0));
        limit = omega arith;
        announced = λ c. absurd (false_true c);
      }

pub first_open : (n root : ℕ) → Fits n root → Open (first_state n root)
unfolding first_state
first_open n root f = record { sound = sound (first_state n root) (first_facts n root f); running = refl }

pub blank_unsound : sound_test blank ≡ false
unfolding blank
blank_unsound =
    elim (split (sound_test blank)) [
      | inl e ↦ absurd (omega (arith, (sound_true blank e).some_node))
      | inr e ↦ e
    ]

-- ---- what the code of a start has to show

module _ (n root : ℕ) where
  pub no_nodes : n ≡ 0 → start_of n root ≡ record { verdict = Refused NodeCount; state = blank }
  unfolding start_of start_verdict
  no_nodes e = rw (le-ltb 0 n (omega arith))

  pub many_nodes : 16 < n → start_of n root ≡ record { verdict = Refused NodeCount; state = blank }
  unfolding start_of start_verdict
  many_nodes h = rw (lt-ltb 0 n (omega arith), lt-leb n 16 h)

  pub no_root : 0 < n → n ≤ 16 → n ≤ root → start_of n root ≡ record { verdict = Refused UnknownNode; state = blank }
  unfolding start_of start_verdict
  no_root lo hi h = rw (lt-ltb 0 n lo, le-leb n 16 hi, le-leb n root h)

  pub good_root : 0 < n → n ≤ 16 → root < n → start_of n root ≡ record { verdict = Accepted; state = first_state n root }
  unfolding start_of start_verdict
  good_root lo hi h = rw (lt-ltb 0 n lo, le-leb n 16 hi, lt-leb n root h)
