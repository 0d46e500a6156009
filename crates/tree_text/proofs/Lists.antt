-- `Lists n k low e e' t`: t is a list of nodes below n, each of them and its own list as the text has it, the nodes of t itself in ascending
-- order from `low` on and under node k. None of them is in the tree e; with them it becomes e'. Both directions of reading and writing
-- go by this relation. Assumes nothing.
use Prim.Native.Nat.{◌+◌, ◌<◌, ◌≤◌, ℕ}
use borrow.Author.Tests.{eq-eqb, ne_eqb}
use lib.Dec.{eqb}
use lib.ListN.{get_or-eq_default, get_or, get_or-replicate, length, length-append, length-set, replicate, set}
use lib.Seq.{get_or-set_other, get_or-set_same}
use mathlib.Core.Bool.{cond, false}
use mathlib.Core.List.{List, [], ◌++◌, ◌∷◌}
use mathlib.Core.Logic.{◌≢◌, ◌⊎◌, inl, inr}
use mathlib.Core.Path.{◌∙◌, ◌≡◌, ap, refl, subst, sym}
use native.Mathlib.Decide.{dec_lt, ℕ_discrete}
use native.Mathlib.Nat.{le_trans}
use native.Mathlib.Omega.{arith}
use Rattle.decimal.specs.Number.{digit_b}
use Rattle.decimal.specs.Text.{decimal}
use Rattle.laws.proofs.Indicators.{ind, ind_eq, ind_le, ind_ne}
use Rattle.laws.proofs.Sums.{sum_at, sum_bound, sum_term, sum_zero}
use Rattle.laws.specs.Sums.{sum_to}
use Rattle.tree_text.specs.Text.{closing, opening, share, space}

pub data Lists (n : ℕ) : ℕ → ℕ → List ℕ → List ℕ → List ℕ → Type 0 where
  none : {k low : ℕ} {e : List ℕ} → Lists n k low e e []
  more :
      {k low : ℕ} {e e₁ e₂ t u : List ℕ} (c : ℕ) → low ≤ c → c < n → get_or e c 16 ≡ 16
      → Lists n c 0 (set e c k) e₁ t → Lists n k (c + 1) e₁ e₂ u
      → Lists n k low e e₂ (space ∷ (opening ∷ (decimal c ++ (t ++ (closing ∷ u)))))

-- node d came in between e and e'
pub record New (e e' : List ℕ) (d : ℕ) : Type 0 where
  pub was : get_or e d 16 ≡ 16
  pub is : get_or e' d 16 ≢ 16

pub lower : {n k low low' : ℕ} {e e' t : List ℕ} → low' ≤ low → Lists n k low e e' t → Lists n k low' e e' t
lower h none = none
lower h (more c l cn f a b) = let l' = le_trans h l in more c l' cn f a b

-- ---- the first byte after a number

pub no_digit : {n k low : ℕ} {e e' t : List ℕ} (u : List ℕ) → Lists n k low e e' t → digit_b (get_or (t ++ (closing ∷ u)) 0 0) ≡ false
no_digit u none = refl
no_digit u (more c l cn f a b) = refl

-- ---- sums over the places, after a node came in

module _ (g : ℕ → ℕ → ℕ) (e : List ℕ) (c k : ℕ) (places : length e ≡ 16) (c16 : c < 16) where
  pub sum_set :
      sum_to 16 (λ i. g i (get_or (set e c k) i 16)) + g c (get_or e c 16) ≡ sum_to 16 (λ i. g i (get_or e i 16)) + g c k
  sum_set =
      let here : g c (get_or (set e c k) c 16) ≡ g c k = ap (g c) (get_or-set_same e c k 16 (omega arith)) in
      omega (
        arith,
        sum_at 16 c (λ i. g i (get_or e i 16)) (λ i. g i (get_or (set e c k) i 16)) c16 (λ j _ ne. ap (g j) (sym (get_or-set_other e c j k 16 ne))),
      )

-- how many places have no engager
unfoldable pub free : List ℕ → ℕ
free e = sum_to 16 (λ i. ind (get_or e i 16) 16)

pub free-set : (e : List ℕ) (c k : ℕ) → length e ≡ 16 → c < 16 → k < 16 → get_or e c 16 ≡ 16 → free (set e c k) + 1 ≡ free e
unfolding free
free-set e c k l h hk f =
    omega (arith, sum_set (λ i v. ind v 16) e c k l h, ind_eq (get_or e c 16) 16 f, ind_ne k 16 (omega arith))

pub free_some : (e : List ℕ) (c : ℕ) → c < 16 → get_or e c 16 ≡ 16 → 0 < free e
unfolding free
free_some e c h f = omega (arith, sum_term 16 c (λ i. ind (get_or e i 16) 16) h, ind_eq (get_or e c 16) 16 f)

share-set : (e : List ℕ) (c k : ℕ) → length e ≡ 16 → c < 16 → k < 16 → get_or e c 16 ≡ 16
    → sum_to 16 (share (set e c k)) ≡ sum_to 16 (share e) + (3 + length (decimal c))
unfolding share
share-set e c k l h hk f =
    let one : cond (eqb k 16) 0 (3 + length (decimal c)) ≡ 3 + length (decimal c) = rw (ne_eqb k 16 (omega arith)) in
    let no : cond (eqb (get_or e c 16) 16) 0 (3 + length (decimal c)) ≡ 0 = rw (eq-eqb _ _ f) in
    omega (arith, sum_set (λ i v. cond (eqb v 16) 0 (3 + length (decimal i))) e c k l h)

-- ---- what a list leaves as it was, and what it brings

pub sized : {n k low : ℕ} {e e' t : List ℕ} → Lists n k low e e' t → length e ≡ 16 → length e' ≡ 16
sized none l = l
sized (more {k} {low} {e} c _ cn f a b) l = sized b (sized a (length-set e c k ∙ l))

pub keeps : {n k low : ℕ} {e e' t : List ℕ} → Lists n k low e e' t → (d : ℕ) → get_or e d 16 ≢ 16 → get_or e' d 16 ≡ get_or e d 16
keeps none d h = refl
keeps (more {k} {low} {e} c _ cn f a b) d h =
    let other : get_or (set e c k) d 16 ≡ get_or e d 16 = get_or-set_other e c d k 16 (λ p. h (ap (λ (x : ℕ). get_or e x 16) p ∙ f)) in
    let first = keeps a d (λ p. h (sym other ∙ p)) ∙ other in
    keeps b d (λ p. h (sym first ∙ p)) ∙ first

-- what has no engager afterwards had none before
pub free_before : {n k low : ℕ} {e e' t : List ℕ} → Lists n k low e e' t → (d : ℕ) → get_or e' d 16 ≡ 16 → get_or e d 16 ≡ 16
free_before {e = e} a d h = elim (ℕ_discrete (get_or e d 16) 16) [ yes p ↦ p | no q ↦ absurd (q (sym (keeps a d q) ∙ h)) ]

-- the three parts of a list that is not empty: its first node c, the nodes under c, the rest
pub record Parts (n k c low : ℕ) (e e₁ e₂ t u : List ℕ) : Type 0 where
  pub places : length e ≡ 16
  pub inside : c < 16
  pub under : k < 16
  pub entry : get_or e c 16 ≡ 16
  pub nodes : Lists n c 0 (set e c k) e₁ t
  pub rest : Lists n k low e₁ e₂ u

module _ {n k c low : ℕ} {e e₁ e₂ t u : List ℕ} (p : Parts n k c low e e₁ e₂ t u) where
  pub set_mid : get_or (set e c k) c 16 ≡ k
  set_mid = get_or-set_same e c k 16 (omega (arith, p.places, p.inside))

  pub mid₁ : get_or e₁ c 16 ≡ k
  mid₁ = keeps p.nodes c (omega (arith, set_mid, p.under)) ∙ set_mid

  pub mid : get_or e₂ c 16 ≡ k
  mid = keeps p.rest c (omega (arith, mid₁, p.under)) ∙ mid₁

  pub mid_new : New e e₂ c
  mid_new = record { was = p.entry; is = omega (arith, mid, p.under) }

  pub unset : (d : ℕ) → d ≢ c → get_or (set e c k) d 16 ≡ get_or e d 16
  unset d ne = get_or-set_other e c d k 16 ne

  pub not_first : {d : ℕ} → New (set e c k) e₁ d → d ≢ c
  not_first w q = omega (arith, w.was, ap (λ (x : ℕ). get_or (set e c k) x 16) q, set_mid, p.under)

  pub not_second : {d : ℕ} → New e₁ e₂ d → d ≢ c
  not_second w q = omega (arith, w.was, ap (λ (x : ℕ). get_or e₁ x 16) q, mid₁, p.under)

  pub wide_first : {d : ℕ} → New (set e c k) e₁ d → New e e₂ d
  wide_first {d} w =
      record { was = sym (unset d (not_first w)) ∙ w.was; is = λ q. w.is (sym (keeps p.rest d w.is) ∙ q) }

  pub wide_second : {d : ℕ} → New e₁ e₂ d → New e e₂ d
  wide_second {d} w = record { was = sym (unset d (not_second w)) ∙ free_before p.nodes d w.was; is = w.is }

  pub parts : (d : ℕ) → New e e₂ d → d ≢ c → New (set e c k) e₁ d ⊎ New e₁ e₂ d
  parts d w ne =
      elim (ℕ_discrete (get_or e₁ d 16) 16) [
        | yes q ↦ inr (record { was = q; is = w.is })
        | no q ↦ inl (record { was = unset d ne ∙ w.was; is = q })
      ]

pub nothing_new : {e : List ℕ} {d : ℕ} → New e e d → ⊥
nothing_new w = w.is w.was

-- a node that came in is under k and no lower than `low`, or under another that came in
pub parent :
    {n k low : ℕ} {e e' t : List ℕ} → n ≤ 16 → k < 16 → length e ≡ 16 → Lists n k low e e' t → (d : ℕ) → New e e' d
    → ((get_or e' d 16 ≡ k) × (low ≤ d)) ⊎ New e e' (get_or e' d 16)
parent n16 k16 l none d w = absurd (nothing_new w)
parent {n} {k} {low} n16 k16 l (more {e = e} {e₁ = e₁} {e₂ = e₂} {t = t} {u = u} c lc cn f a b) d w =
    elim (ℕ_discrete d c) [
      | yes q ↦ inl (ap (λ (x : ℕ). get_or e₂ x 16) q ∙ mid p, omega arith)
      | no q ↦
          elim (parts p d w q) [
            | inl v ↦ first v (parent n16 p.inside (length-set e c k ∙ l) a d v)
            | inr v ↦ second v (parent n16 k16 (sized a (length-set e c k ∙ l)) b d v)
          ]
    ]
  where
    p : Parts n k c (c + 1) e e₁ e₂ t u
    p = record { places = l; inside = omega arith; under = k16; entry = f; nodes = a; rest = b }

    first :
        New (set e c k) e₁ d → ((get_or e₁ d 16 ≡ c) × (0 ≤ d)) ⊎ New (set e c k) e₁ (get_or e₁ d 16)
        → ((get_or e₂ d 16 ≡ k) × (low ≤ d)) ⊎ New e e₂ (get_or e₂ d 16)
    first v (inl q) = inr (subst (New e e₂) (sym (keeps b d v.is ∙ q.0)) (mid_new p))
    first v (inr x) = inr (subst (New e e₂) (sym (keeps b d v.is)) (wide_first p x))

    second :
        New e₁ e₂ d → ((get_or e₂ d 16 ≡ k) × (c + 1 ≤ d)) ⊎ New e₁ e₂ (get_or e₂ d 16)
        → ((get_or e₂ d 16 ≡ k) × (low ≤ d)) ⊎ New e e₂ (get_or e₂ d 16)
    second v (inl q) = inl (q.0, omega (arith, q.1))
    second v (inr x) = inr (wide_second p x)

-- a node that came in is below n, and so is its engager
pub in_range_lem :
    {n k low : ℕ} {e e' t : List ℕ} → n ≤ 16 → k < n → length e ≡ 16 → Lists n k low e e' t → (d : ℕ) → New e e' d
    → (d < n) × (get_or e' d 16 < n)
in_range_lem n16 kn l none d w = absurd (nothing_new w)
in_range_lem {n} {k} {low} n16 kn l (more {e = e} {e₁ = e₁} {e₂ = e₂} {t = t} {u = u} c lc cn f a b) d w =
    elim (ℕ_discrete d c) [
      | yes q ↦ (omega arith, omega (arith, ap (λ (x : ℕ). get_or e₂ x 16) q ∙ mid p))
      | no q ↦
          elim (parts p d w q) [
            | inl v ↦ let r = in_range_lem n16 cn (length-set e c k ∙ l) a d v in (r.0, omega (arith, r.1, keeps b d v.is))
            | inr v ↦ in_range_lem n16 kn (sized a (length-set e c k ∙ l)) b d v
          ]
    ]
  where
    p : Parts n k c (c + 1) e e₁ e₂ t u
    p = record { places = l; inside = omega arith; under = omega arith; entry = f; nodes = a; rest = b }

-- ---- sums of a list

pub free_falls : {n k low : ℕ} {e e' t : List ℕ} → n ≤ 16 → k < 16 → length e ≡ 16 → Lists n k low e e' t → free e' ≤ free e
free_falls n16 k16 l none = omega arith
free_falls {n} {k} n16 k16 l (more {e = e} c lc cn f a b) =
    omega (
      arith,
      free-set e c k l (omega arith) k16 f,
      free_falls n16 (omega arith) (length-set e c k ∙ l) a,
      free_falls n16 k16 (sized a (length-set e c k ∙ l)) b,
    )

-- the length of the list is the shares of its nodes
pub list_length : {n k low : ℕ} {e e' t : List ℕ} → n ≤ 16 → k < 16 → length e ≡ 16 → Lists n k low e e' t
    → length t + sum_to 16 (share e) ≡ sum_to 16 (share e')
list_length n16 k16 l none = omega arith
list_length {n} {k} n16 k16 l (more {e = e} {t = t} {u = u} c lc cn f a b) =
    simp length-append
    (omega (
      arith,
      share-set e c k l (omega arith) k16 f,
      list_length n16 (omega arith) (length-set e c k ∙ l) a,
      list_length n16 k16 (sized a (length-set e c k ∙ l)) b,
    ))

-- ---- the first node of a tree

abbrev pub blank : List ℕ
blank = replicate 16 16

pub bare : (d : ℕ) → get_or blank d 16 ≡ 16
bare d =
    elim (dec_lt d 16) [
      | yes l ↦ get_or-replicate {A = ℕ} 16 d 16 16 l
      | no g ↦ let h : 16 ≤ d = omega arith in get_or-eq_default blank 16 h
    ]

-- the root is its own engager
abbrev pub alone : ℕ → List ℕ
alone root = set blank root root

pub alone_places : (root : ℕ) → length (alone root) ≡ 16
alone_places root = length-set blank root root

pub root_there : (root : ℕ) → root < 16 → get_or (alone root) root 16 ≡ root
root_there root h = get_or-set_same blank root root 16 h

pub others : (root d : ℕ) → d ≢ root → get_or (alone root) d 16 ≡ 16
others root d ne = get_or-set_other blank root d root 16 ne ∙ bare d

pub free_most : (e : List ℕ) → free e ≤ 16
unfolding free
free_most e = sum_bound 16 (λ i. ind (get_or e i 16) 16) (λ j _. ind_le (get_or e j 16) 16)

pub few_left : (root : ℕ) → root < 16 → free (alone root) ≤ 15
few_left root h = omega (arith, free-set blank root root refl h h (bare root), free_most blank)

-- the shares of the root alone
pub root_share : (root : ℕ) → root < 16 → sum_to 16 (share (alone root)) ≡ 3 + length (decimal root)
unfolding share
root_share root h =
    omega (arith, share-set blank root root refl h h (bare root), sum_zero 16 (share blank) (λ j _. rw (eq-eqb _ _ (bare j))))
