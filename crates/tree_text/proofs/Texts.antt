-- What a list brought in is printed as that list, and its nodes' chains lead to the node it is under. Assumes nothing.
use Prim.Native.Nat.{◌+◌, ◌-◌, ◌<◌, ◌≤◌, suc, zero, ℕ}
use borrow.Author.Tests.{eq-eqb, eqb-false, eqb-true, ne_eqb, not-true}
use lib.ListN.{get_or, length, length-set, set}
use mathlib.Core.Bool.{false, true}
use mathlib.Core.List.{List, [], ◌++◌, ◌∷◌, append_assoc}
use mathlib.Core.Logic.{◌≢◌, inl, inr}
use mathlib.Core.Path.{◌∙◌, ◌≡◌, ap, refl, subst, sym}
use native.Mathlib.Decide.{ℕ_discrete}
use native.Mathlib.Omega.{arith}
use Rattle.decimal.specs.Text.{decimal}
use Rattle.laws.proofs.Tests.{both, both_true, not_eq, split}
use Rattle.tree_rules.specs.State.{climb}
use Rattle.tree_text.proofs.Lists.{Lists, New, Parts, free, free_before, free_falls, free-set, free_some, keeps, mid, mid_new, mid₁, more, none, not_second, nothing_new, parent, parts, set_mid, sized, unset, wide_first, wide_second}
use Rattle.tree_text.proofs.Printed.{list_end, list_other, list_under, node_next}
use Rattle.tree_text.specs.Text.{closing, is_under, list_text, opening, space}

-- ---- children

pub under_true : (e : List ℕ) (k d : ℕ) → get_or e d 16 ≡ k → d ≢ k → is_under e k d ≡ true
under_true e k d p q = both_true (eq-eqb _ _ p) (not_eq (ne_eqb _ _ q))

pub true_under : (e : List ℕ) (k d : ℕ) → is_under e k d ≡ true → (get_or e d 16 ≡ k) × (d ≢ k)
true_under e k d h =
    let p = both _ _ h in
    (eqb-true _ _ p.0, eqb-false _ _ (not-true _ p.1))

pub under_false : (e : List ℕ) (k d : ℕ) → (get_or e d 16 ≡ k → d ≢ k → ⊥) → is_under e k d ≡ false
under_false e k d f =
    elim (split (is_under e k d)) [ inl p ↦ absurd (let w = true_under e k d p in f w.0 w.1) | inr q ↦ q ]

-- nodes that are no children are passed over
pub skip : (f : ℕ) (e : List ℕ) (k gap low c : ℕ) → low + gap ≡ c → c ≤ 16
    → ((d : ℕ) → low ≤ d → d < c → is_under e k d ≡ false) → list_text f e k low ≡ list_text f e k c
skip f e k zero low c s h out = let p : low ≡ c = omega arith in ap (list_text f e k) p
skip f e k (suc gap) low c s h out =
    list_other f e k low (omega arith) (out low (omega arith) (omega arith))
    ∙ skip f e k gap (low + 1) c (omega arith) h (λ d l. out d (omega arith))

-- ---- a list in a whole tree

-- the tree E has what the list brought, and in E nothing else is under k from `low` on, or under what the list brought
pub record Owns (E : List ℕ) (k low : ℕ) (e e' : List ℕ) : Type 0 where
  pub extends : (d : ℕ) → get_or e' d 16 ≢ 16 → get_or E d 16 ≡ get_or e' d 16
  pub there : get_or e k 16 ≢ 16
  pub children : (d : ℕ) → low ≤ d → get_or E d 16 ≡ k → d ≢ k → New e e' d
  pub inner : (d j : ℕ) → New e e' j → get_or E d 16 ≡ j → New e e' d

module _
    {n k c low : ℕ} {e e₁ e₂ t u : List ℕ} (E : List ℕ) (n16 : n ≤ 16) (low_c : low ≤ c)
    (p : Parts n k c (c + 1) e e₁ e₂ t u) (o : Owns E k low e e₂)
  where
    long : length (set e c k) ≡ 16
    long = length-set e c k ∙ p.places

    apart : c ≢ k
    apart q = o.there (ap (λ (x : ℕ). get_or e x 16) (sym q) ∙ p.entry)

    engager_of : {d j : ℕ} → New e e₂ d → get_or E d 16 ≡ j → get_or e₂ d 16 ≡ j
    engager_of {d} w q = sym (o.extends d w.is) ∙ q

    -- k is older than the list
    old : New (set e c k) e₁ k → ⊥
    old w = o.there (sym (unset p k (λ q. apart (sym q))) ∙ w.was)

    old₂ : New e₁ e₂ k → ⊥
    old₂ w = o.there (wide_second p w).was

    -- what came in with the first node is not directly under k, what came in with the rest is not under the first part
    first_not_k : {d : ℕ} → New (set e c k) e₁ d → get_or E d 16 ≢ k
    first_not_k {d} w q =
        let here : get_or e₁ d 16 ≡ k = sym (keeps p.rest d w.is) ∙ engager_of (wide_first p w) q in
        elim (parent n16 p.inside long p.nodes d w) [
          | inl v ↦ apart (sym v.0 ∙ here)
          | inr v ↦ old (subst (New (set e c k) e₁) here v)
        ]

    second_not_first : {d j : ℕ} → New e₁ e₂ d → get_or E d 16 ≡ j → get_or e₁ j 16 ≢ 16 → j ≡ k
    second_not_first {d} {j} w q set_j =
        let here : get_or e₂ d 16 ≡ j = engager_of (wide_second p w) q in
        elim (parent n16 p.under (sized p.nodes long) p.rest d w) [
          | inl v ↦ sym here ∙ v.0
          | inr v ↦ absurd (set_j (subst (New e₁ e₂) here v).was)
        ]

    pub owns_first : Owns E c 0 (set e c k) e₁
    owns_first = record {
      extends = λ d h. o.extends d (λ q. h (sym (keeps p.rest d h) ∙ q)) ∙ keeps p.rest d h;
      there = omega (arith, set_mid p, p.under);
      children = λ d _ q ne. go c (o.inner d c (mid_new p) q) q ne (λ z. apart z) (omega (arith, mid₁ p, p.under));
      inner = λ d j w q.
          go j (o.inner d j (wide_first p w) q) q
          (λ z. old (subst (New (set e c k) e₁) (sym q ∙ ap (λ (x : ℕ). get_or E x 16) z ∙ (o.extends c (mid_new p).is ∙ mid p)) w))
          (λ z. old (subst (New (set e c k) e₁) z w)) w.is;
    }
      where
        go : {d : ℕ} (j : ℕ) → New e e₂ d → get_or E d 16 ≡ j → d ≢ c → j ≢ k → get_or e₁ j 16 ≢ 16 → New (set e c k) e₁ d
        go {d} j w q ne nk set_j = elim (parts p d w ne) [ inl v ↦ v | inr v ↦ absurd (nk (second_not_first v q set_j)) ]

    pub owns_rest : Owns E k (c + 1) e₁ e₂
    owns_rest = record {
      extends = o.extends;
      there = λ q. o.there (sym (unset p k (λ z. apart (sym z))) ∙ free_before p.nodes k q);
      children = λ d l q ne.
          elim (parts p d (o.children d (omega (arith, l, low_c)) q ne) (omega (arith, l))) [ inl v ↦ absurd (first_not_k v q) | inr v ↦ v ];
      inner = λ d j w q. elim (parts p d (o.inner d j (wide_second p w) q) (not_c d j w q)) [ inl v ↦ absurd (not_inside v w q) | inr v ↦ v ];
    }
      where
        not_c : (d j : ℕ) → New e₁ e₂ j → get_or E d 16 ≡ j → d ≢ c
        not_c d j w q z = old₂ (subst (New e₁ e₂) (sym q ∙ ap (λ (x : ℕ). get_or E x 16) z ∙ (o.extends c (mid_new p).is ∙ mid p)) w)

        not_inside : {d j : ℕ} → New (set e c k) e₁ d → New e₁ e₂ j → get_or E d 16 ≡ j → ⊥
        not_inside {d} {j} v w q =
            let here : get_or e₁ d 16 ≡ j = sym (keeps p.rest d v.is) ∙ engager_of (wide_first p v) q in
            elim (parent n16 p.inside long p.nodes d v) [
              | inl x ↦ not_second p w (sym here ∙ x.0)
              | inr x ↦ (subst (New (set e c k) e₁) here x).is w.was
            ]

    -- before c there is no child of k
    pub none_before : (d : ℕ) → low ≤ d → d < c → is_under E k d ≡ false
    none_before d l h = under_false E k d bad
      where
        bad : get_or E d 16 ≡ k → d ≢ k → ⊥
        bad q ne =
            let w = o.children d l q ne in
            elim (parts p d w (omega arith)) [
              | inl v ↦ first_not_k v q
              | inr v ↦
                  elim (parent n16 p.under (sized p.nodes long) p.rest d v) [
                    | inl x ↦ omega (arith, x.1)
                    | inr x ↦ old₂ (subst (New e₁ e₂) (engager_of w q) x)
                  ]
            ]

    pub c_under : is_under E k c ≡ true
    c_under = under_true E k c (o.extends c (mid_new p).is ∙ mid p) apart

-- ---- the list is the text of the children of k

pub bracketed : (d t u : List ℕ) → space ∷ (opening ∷ ((d ++ (t ++ (closing ∷ []))) ++ u)) ≡ space ∷ (opening ∷ (d ++ (t ++ (closing ∷ u))))
bracketed d t u =
    ap (λ (l : List ℕ). space ∷ (opening ∷ l))
    (append_assoc d (t ++ (closing ∷ [])) u ∙ ap (λ (l : List ℕ). d ++ l) (append_assoc t (closing ∷ []) u))

pub text_is :
    {n k low : ℕ} {e e' t : List ℕ} (E : List ℕ) (f : ℕ) → n ≤ 16 → k < 16 → low ≤ 16 → length e ≡ 16 → free e ≤ f → Owns E k low e e'
    → Lists n k low e e' t → list_text f E k low ≡ t
text_is {n} {k} {low} {e} E f n16 k16 l16 l fr o none =
    skip f E k (16 - low) low 16 (omega arith) (omega arith) (λ d h _. under_false E k d (λ q ne. nothing_new (o.children d h q ne)))
    ∙ list_end f E k 16 (omega arith)
text_is {n} {k} {low} E zero n16 k16 l16 l fr o (more {e = e} c lc cn h a b) =
    absurd (let y : ⊥ = omega (arith, free_some e c (omega arith) h) in y)
text_is {n} {k} {low} E (suc f) n16 k16 l16 l fr o (more {e = e} {e₁ = e₁} {e₂ = e₂} {t = t} {u = u} c lc cn h a b) =
    let p : Parts n k c (c + 1) e e₁ e₂ t u = record { places = l; inside = omega arith; under = k16; entry = h; nodes = a; rest = b } in
    let l' : length (set e c k) ≡ 16 = length-set e c k ∙ l in
    let fr₁ : free (set e c k) ≤ f = omega (arith, free-set e c k l (omega arith) k16 h) in
    let fr₂ : free e₁ ≤ suc f = omega (arith, free-set e c k l (omega arith) k16 h, free_falls n16 p.inside l' a) in
    let first : list_text f E c 0 ≡ t = text_is E f n16 p.inside (omega arith) l' fr₁ (owns_first E n16 lc p o) a in
    let rest : list_text (suc f) E k (c + 1) ≡ u = text_is E (suc f) n16 k16 (omega arith) (sized a l') fr₂ (owns_rest E n16 lc p o) b in
    skip (suc f) E k (c - low) low c (omega arith) (omega arith) (none_before E n16 lc p o)
    ∙ (list_under (suc f) E k c (omega arith) (c_under E n16 lc p o)
    ∙ rw (node_next f E c, first, rest) (bracketed (decimal c) t u))

-- ---- chains

climb_last : (E : List ℕ) (m d : ℕ) → climb E (suc m) d ≡ get_or E (climb E m d) 16
unfolding climb
climb_last E zero d = refl
climb_last E (suc m) d = climb_last E m (get_or E d 16)

climb_one : (E : List ℕ) (d : ℕ) → climb E 1 d ≡ get_or E d 16
unfolding climb
climb_one E d = refl

-- the chain of a node that came in leads to k
pub chain :
    {n k low : ℕ} {e e' t : List ℕ} (E : List ℕ) → n ≤ 16 → k < 16 → length e ≡ 16
    → ((d : ℕ) → get_or e' d 16 ≢ 16 → get_or E d 16 ≡ get_or e' d 16)
    → Lists n k low e e' t → (d : ℕ) → New e e' d → (m : ℕ) × (climb E m d ≡ k)
chain E n16 k16 l x none d w = absurd (nothing_new w)
chain {n} {k} E n16 k16 l x (more {e = e} {e₁ = e₁} {e₂ = e₂} {t = t} {u = u} c lc cn h a b) d w =
    elim (ℕ_discrete d c) [
      | yes q ↦ (1, climb_one E d ∙ ap (λ (y : ℕ). get_or E y 16) q ∙ c_engager)
      | no q ↦
          elim (parts p d w q) [
            | inl v ↦ first (chain E n16 p.inside l' x₁ a d v)
            | inr v ↦ chain E n16 k16 (sized a l') x b d v
          ]
    ]
  where
    p : Parts n k c (c + 1) e e₁ e₂ t u
    p = record { places = l; inside = omega arith; under = k16; entry = h; nodes = a; rest = b }

    l' : length (set e c k) ≡ 16
    l' = length-set e c k ∙ l

    x₁ : (d : ℕ) → get_or e₁ d 16 ≢ 16 → get_or E d 16 ≡ get_or e₁ d 16
    x₁ d s = x d (λ q. s (sym (keeps b d s) ∙ q)) ∙ keeps b d s

    c_engager : get_or E c 16 ≡ k
    c_engager = x c (mid_new p).is ∙ mid p

    first : (m : ℕ) × (climb E m d ≡ c) → (m : ℕ) × (climb E m d ≡ k)
    first (m, q) = (suc m, climb_last E m d ∙ ap (λ (y : ℕ). get_or E y 16) q ∙ c_engager)
