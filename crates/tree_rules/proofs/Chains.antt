-- Chains of engagers: 16 links are enough, and what engaging and leaving do to them. Assumes nothing.
use Prim.Native.Nat.{◌+◌, ◌-◌, ◌<◌, ◌≤◌, suc, zero, ℕ}
use borrow.Author.Tests.{eq-eqb, ne_eqb}
use lib.ListN.{get_or-eq_default, get_or, length, set}
use lib.Seq.{get_or-set_other}
use mathlib.Core.List.{List}
use mathlib.Core.Logic.{◌≢◌, ◌⊎◌, inl, inr}
use mathlib.Core.Path.{◌∙◌, ◌≡◌, ap, refl, sym}
use native.Mathlib.Decide.{dec_lt, ℕ_discrete}
use native.Mathlib.Omega.{arith}
use Rattle.laws.proofs.Indicators.{ind, ind_eq, ind_le, ind_ne, ind_one}
use Rattle.laws.proofs.Sums.{count_some, count_zero_at, sum_bound, sum_term, sum_tight}
use Rattle.laws.proofs.Tests.{both_true, false_true, not_eq}
use Rattle.laws.specs.Sums.{sum_to}
use Rattle.tree_rules.proofs.Sums.{child_of}
use Rattle.tree_rules.specs.State.{children, climb, is_child}

-- for the loop that climbs: one link, then the rest
pub climb_link : (l : List ℕ) (n k at : ℕ) → k < n → climb l (n - k) at ≡ climb l (n - (k + 1)) (get_or l at 16)
unfolding climb
climb_link l n k at h = let e : n - k ≡ suc (n - (k + 1)) = omega arith in ap (λ (x : ℕ). climb l x at) e

-- where nobody but the root has the root for an engager, every chain that reaches it starts there
pub lonely : (l : List ℕ) (root : ℕ) → ((j : ℕ) → j ≢ root → get_or l j 16 ≢ root) → (m i : ℕ) → climb l m i ≡ root → i ≡ root
unfolding climb
lonely l root bare zero i e = e
lonely l root bare (suc m) i e =
    elim (ℕ_discrete i root) [ yes p ↦ p | no q ↦ absurd (bare i q (lonely l root bare m (get_or l i 16) e)) ]

-- an engaged node besides the root that has no children
pub record Leaf (l : List ℕ) (root : ℕ) : Type 0 where
  pub at : ℕ
  pub inside : at < 16
  pub engaged : get_or l at 16 ≢ 16
  pub no_root : at ≢ root
  pub no_children : children root l at ≡ 0

-- the columns that chains are about: 16 places, a root that is its own engager
module _ (l : List ℕ) (root : ℕ) (size : length l ≡ 16) (root_in : root < 16) (own : get_or l root 16 ≡ root) where
  none_above : (i : ℕ) → 16 ≤ i → get_or l i 16 ≡ 16
  none_above i h = get_or-eq_default l 16 (omega arith)

  -- from outside the places no chain reaches the root
  pub climb_outside : (m i : ℕ) → 16 ≤ i → climb l m i ≢ root
  unfolding climb
  climb_outside zero i h e = omega arith
  climb_outside (suc m) i h e = climb_outside m (get_or l i 16) (omega (arith, none_above i h)) e

  climb_more : (m i : ℕ) → climb l m i ≡ root → climb l (suc m) i ≡ root
  unfolding climb
  climb_more zero i e = ap (λ (x : ℕ). get_or l x 16) e ∙ own
  climb_more (suc m) i e = climb_more m (get_or l i 16) e

  climb_stay : (m : ℕ) → climb l m root ≡ root
  unfolding climb
  climb_stay zero = refl
  climb_stay (suc m) = ap (climb l m) own ∙ climb_stay m

  -- ---- 16 links are enough: the number of nodes that reach the root by m links grows with m, or stands still from there on

  count : ℕ → ℕ
  count m = sum_to 16 (λ i. ind (climb l m i) root)

  Stable : ℕ → Type 0
  Stable m = (i : ℕ) → climb l (suc m) i ≡ root → climb l m i ≡ root

  stable_next : (m : ℕ) → Stable m → Stable (suc m)
  unfolding climb Stable
  stable_next m s i e = s (get_or l i 16) e

  more : (m i : ℕ) → ind (climb l m i) root ≤ ind (climb l (suc m) i) root
  more m i =
      elim (ℕ_discrete (climb l m i) root) [
        | yes e ↦ omega (arith, ind_le (climb l m i) root, ind_eq (climb l (suc m) i) root (climb_more m i e))
        | no e ↦ omega (arith, ind_ne (climb l m i) root e)
      ]

  tight : (m : ℕ) → count (suc m) ≤ count m → Stable m
  unfolding count Stable
  tight m h i e =
      elim (dec_lt i 16) [
        | yes hi ↦
            ind_one (climb l m i) root
            (omega (
              arith,
              sum_tight 16 (λ j. ind (climb l m j) root) (λ j. ind (climb l (suc m) j) root) (λ j _. more m j) h i hi,
              ind_eq (climb l (suc m) i) root e,
            ))
        | no hi ↦ absurd (climb_outside (suc m) i (omega arith) e)
      ]

  first : 0 < count zero
  unfolding count climb
  first = omega (arith, sum_term 16 root (λ i. ind (climb l zero i) root) root_in, ind_eq root root refl)

  grows : (m : ℕ) → (m < count m) ⊎ Stable m
  grows zero = inl first
  grows (suc m) =
      elim (grows m) [
        | inl h ↦ elim (dec_lt (count m) (count (suc m))) [ yes p ↦ inl (omega arith) | no q ↦ inr (stable_next m (tight m (omega arith))) ]
        | inr s ↦ inr (stable_next m s)
      ]

  climb_enough : (i : ℕ) → climb l 17 i ≡ root → climb l 16 i ≡ root
  unfolding count Stable
  climb_enough =
      elim (grows 16) [
        | inl h ↦ absurd (omega (arith, sum_bound 16 (λ i. ind (climb l 16 i) root) (λ i _. ind_le (climb l 16 i) root)))
        | inr s ↦ s
      ]

  -- what any number of links reaches, 16 do
  pub climb_any : (m i : ℕ) → climb l m i ≡ root → climb l 16 i ≡ root
  unfolding climb
  climb_any zero i e = ap (climb l 16) e ∙ climb_stay 16
  climb_any (suc m) i e = climb_enough i (climb_any m (get_or l i 16) e)

  -- ---- steps

  -- node i, which has no engager, gets one: whoever reached the root still does
  pub climb_engage : (i k : ℕ) → get_or l i 16 ≡ 16 → (m j : ℕ) → climb l m j ≡ root → climb (set l i k) m j ≡ root
  unfolding climb
  climb_engage i k free zero j e = e
  climb_engage i k free (suc m) j e =
      elim (ℕ_discrete j i) [
        | yes p ↦ absurd (climb_outside m (get_or l j 16) (omega (arith, ap (λ (x : ℕ). get_or l x 16) p)) e)
        | no q ↦ rw (get_or-set_other l i j k 16 q) (climb_engage i k free m (get_or l j 16) e)
      ]

  -- node i, which nobody has for an engager, leaves: the others' chains stay
  pub climb_leave : (i : ℕ) → ((j : ℕ) → get_or l j 16 ≢ i) → (m j : ℕ) → j ≢ i → climb (set l i 16) m j ≡ climb l m j
  unfolding climb
  climb_leave i free zero j ne = refl
  climb_leave i free (suc m) j ne = rw (get_or-set_other l i j 16 16 ne) (climb_leave i free m (get_or l j 16) (free j))

  -- ---- nodes without children

  pub under_nobody : (i : ℕ) → i < 16 → children root l i ≡ 0 → (j : ℕ) → j ≢ root → get_or l j 16 ≢ i
  unfolding children
  under_nobody i hi bare j q e =
      elim (dec_lt j 16) [
        | yes hj ↦
            false_true
            (sym (count_zero_at 16 j (is_child root l i) bare hj) ∙ both_true (not_eq (ne_eqb j root q)) (eq-eqb (get_or l j 16) i e))
        | no hj ↦ omega (arith, none_above j (omega arith))
      ]

  pub childless : (i : ℕ) → i < 16 → i ≢ root → children root l i ≡ 0 → (j : ℕ) → get_or l j 16 ≢ i
  childless i hi ne bare j e =
      elim (ℕ_discrete j root) [
        | yes p ↦ ne (sym e ∙ ap (λ (x : ℕ). get_or l x 16) p ∙ own)
        | no q ↦ under_nobody i hi bare j q e
      ]

  -- down from child to child: after 16 links the chain of the last one would have to lead both to the root and to i
  descend :
      ((i : ℕ) → i < 16 → get_or l i 16 ≢ 16 → climb l 16 i ≡ root)
      → (i : ℕ) → i ≢ root → (fuel m j : ℕ) → m + fuel ≡ 16 → climb l m j ≡ i → j < 16 → get_or l j 16 ≢ 16 → j ≢ root → Leaf l root
  unfolding climb children
  descend chained i ne zero m j f c hj ej nj =
      let w : m ≡ 16 = omega arith in
      absurd (ne (sym c ∙ ap (λ (x : ℕ). climb l x j) w ∙ chained j hj ej))
  descend chained i ne (suc fuel) m j f c hj ej nj =
      elim (dec_lt 0 (children root l j)) [
        | yes p ↦
            let s = count_some 16 (is_child root l j) p in
            let d = child_of root l j s.0 s.2 in
            descend chained i ne fuel (suc m) s.0 (omega arith) (ap (climb l m) d.1 ∙ c) s.1 (omega (arith, d.1)) d.0
        | no q ↦ record { at = j; inside = hj; engaged = ej; no_root = nj; no_children = omega arith }
      ]

  pub leaf :
      ((i : ℕ) → i < 16 → get_or l i 16 ≢ 16 → climb l 16 i ≡ root)
      → (i : ℕ) → i < 16 → get_or l i 16 ≢ 16 → i ≢ root → Leaf l root
  unfolding climb
  leaf chained i hi ei ne = descend chained i ne 16 0 i refl refl hi ei ne
