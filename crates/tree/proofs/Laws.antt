-- The parts of the soundness test. Assumes nothing.
use Prim.Native.Nat.{◌+◌, ◌-◌, ◌*◌, ◌<◌, ℕ}
use borrow.Author.Tests.{eq-eqb, ne_eqb}
use lib.Dec.{eqb, ltb}
use lib.ListN.{length, length-drop}
use lib.Seq.{get_or-drop}
use mathlib.Core.Bool.{Bool, ◌&&◌, ◌||◌, cond, false, not, true}
use mathlib.Core.List.{List}
use mathlib.Core.Path.{◌∙◌, ◌≡◌, ap, fun_ext, refl, sym}
use native.Mathlib.Omega.{arith}
use native.Mathlib.Decide.{ℕ_discrete}
use Rattle.std.specs.Option.{unwrap_or}
use Rattle.tree.specs.View.{engager_told}
use Rattle.std.proofs.Common.{drop, take, sum}
use Rattle.columns.proofs.Totals.{total-take}
use Rattle.laws.specs.Places.{all_to}
use Rattle.laws.specs.Sums.{sum_to}
use Rattle.tree_rules.specs.Soundness.{balance_test, chain_test, engager_test, pair_test, place_test, rest_test}
use Rattle.tree_rules.specs.State.{State, active_at, climb, engaged, engager_at, messages_from, unacked_at}
use Rattle.tree.specs.Settled.{settled_test}

-- a place by its three parts
pub place_is : (t : State) (i : ℕ) (settled balanced pairs : Bool) → settled ≡ settled_test t i → balanced ≡ balance_test t i → pairs ≡ all_to 16 (pair_test t i) → (settled && (balanced && pairs)) ≡ place_test t i
unfolding place_test settled_test engager_test chain_test rest_test
place_is t i settled balanced pairs e f g =
    rw (e, f, g)
    (parts (engaged t i) (ltb i t.n) (ltb (engager_at t i) t.n) (eqb (climb t.engager 16 i) t.root) (not (active_at t i) && eqb (unacked_at t i) 0)
    (balance_test t i) (all_to 16 (pair_test t i)))
  where
    parts :
        (x a b c d f g : Bool)
        → (cond x (a && (b && c)) d && (f && g)) ≡ ((not x || (a && b)) && ((not x || c) && (f && ((x || d) && g))))
    parts true true true c d f g = refl
    parts true true false c d f g = refl
    parts true false b c d f g = refl
    parts false a b c true f g = refl
    parts false a b c false true g = refl
    parts false a b c false false g = refl

-- the messages from a node, as a sum of its row
pub messages_is : (l : List ℕ) (i : ℕ) → i < 16 → length l ≡ 256 → sum (take (i * 16 + 16 - i * 16) (drop (i * 16) l)) ≡ messages_from l i
unfolding messages_from
messages_is l i h n =
    ap (λ (m : ℕ). sum (take m (drop (i * 16) l))) (let e : i * 16 + 16 - i * 16 ≡ 16 = omega arith in e)
    ∙ (sym (total-take (drop (i * 16) l) 16 (omega (arith, length-drop (i * 16) l)))
    ∙ ap (sum_to 16) (fun_ext (λ j. get_or-drop (i * 16) l j 0)))

-- one link of engagers
pub linked : (t : State) (i : ℕ) → unwrap_or (engager_told t i) 16 ≡ engager_at t i
linked t i = elim (ℕ_discrete (engager_at t i) 16) [ yes e ↦ rw (eq-eqb (engager_at t i) 16 e) (sym e) | no e ↦ rw (ne_eqb (engager_at t i) 16 e) refl ]
