-- The text of a tree is a list of its nodes: with them the tree comes about, node by node. Assumes nothing.
use Prim.Native.Nat.{◌+◌, ◌<◌, ◌≤◌, suc, zero, ℕ}
use lib.ListN.{get_or-eq_default, get_or, length, length-set, set}
use lib.Seq.{ext_get_or, get_or-set_other, get_or-set_same}
use mathlib.Core.Bool.{false}
use mathlib.Core.List.{List, ◌++◌, ◌∷◌}
use mathlib.Core.Logic.{◌≢◌, inl, inr}
use mathlib.Core.Path.{◌∙◌, ◌≡◌, ap, refl, subst, sym}
use native.Mathlib.Decide.{dec_lt, ℕ_discrete}
use native.Mathlib.Omega.{arith}
use Rattle.decimal.specs.Text.{decimal}
use Rattle.laws.proofs.Tests.{false_true, split}
use Rattle.tree_rules.specs.State.{climb}
use Rattle.tree_text.proofs.Lists.{Lists, New, Parts, alone, alone_places, few_left, free, free_before, free_falls, free-set, free_some, keeps, lower, mid_new, more, none, nothing_new, others, parent, parts, root_there}
use Rattle.tree_text.proofs.Printed.{list_end, list_other, list_under, node_next}
use Rattle.tree_text.proofs.Texts.{bracketed, true_under, under_true}
use Rattle.tree_text.specs.Text.{closing, is_under, list_text, opening, space}
use Rattle.tree_text.specs.Theorems.{EngagementTree}

module _ (n : ℕ) (E : List ℕ) (root : ℕ) (T : EngagementTree n E root) where
  outside : (d : ℕ) → n ≤ d → get_or E d 16 ≡ 16
  outside d h =
      elim (dec_lt d 16) [ yes l ↦ T.unused d h l | no g ↦ get_or-eq_default E 16 (omega (arith, T.places)) ]

  -- an engaged node is below n, and so is its engager
  in_range_lem : (d : ℕ) → get_or E d 16 ≢ 16 → (d < n) × (get_or E d 16 < n)
  in_range_lem d h =
      elim (dec_lt d n) [
        | yes l ↦ elim (T.engagers d l) [ inl p ↦ (l, p) | inr q ↦ absurd (h q) ]
        | no g ↦ absurd (h (outside d (omega arith)))
      ]

  -- a part of the tree: each node's engager is in it too
  record Part (e : List ℕ) : Type 0 where
    places : length e ≡ 16
    same : (d : ℕ) → get_or e d 16 ≢ 16 → get_or e d 16 ≡ get_or E d 16
    up : (d : ℕ) → get_or e d 16 ≢ 16 → get_or e (get_or E d 16) 16 ≢ 16

  -- the list of the children of k from c on, with what it brings
  record Runs (f k c : ℕ) (e : List ℕ) : Type 0 where
    last : List ℕ
    reads : Lists n k c e last (list_text f E k c)
    part : Part last
    children : (d : ℕ) → c ≤ d → d < 16 → get_or E d 16 ≡ k → d ≢ k → get_or last d 16 ≢ 16
    inner : (d j : ℕ) → New e last j → get_or E d 16 ≡ j → get_or last d 16 ≢ 16

  abbrev Before : ℕ → ℕ → ℕ → List ℕ → Type 0
  Before f k c e =
      Part e × (get_or e k 16 ≢ 16) × ((d : ℕ) → c ≤ d → get_or E d 16 ≡ k → d ≢ k → get_or e d 16 ≡ 16) × (free e ≤ f)

  abbrev Run : ℕ → ℕ → ℕ → Type 0
  Run f k c = (e : List ℕ) → Before f k c e → Runs f k c e

  set_part : (k c : ℕ) (e : List ℕ) → k < n → Part e → get_or e k 16 ≢ 16 → get_or e c 16 ≡ 16 → get_or E c 16 ≡ k → Part (set e c k)
  set_part k c e kn P there h is = record { places = length-set e c k ∙ P.places; same = same; up = up }
    where
      c16 : c < 16
      c16 = omega (arith, (in_range_lem c (omega (arith, T.nodes))).0, T.nodes)

      here : get_or (set e c k) c 16 ≡ k
      here = get_or-set_same e c k 16 (omega (arith, c16, P.places))

      stays : (d : ℕ) → get_or e d 16 ≢ 16 → get_or (set e c k) d 16 ≢ 16
      stays d s q = s (sym (get_or-set_other e c d k 16 (λ z. s (ap (λ (x : ℕ). get_or e x 16) z ∙ h))) ∙ q)

      same : (d : ℕ) → get_or (set e c k) d 16 ≢ 16 → get_or (set e c k) d 16 ≡ get_or E d 16
      same d s =
          elim (ℕ_discrete d c) [
            | yes q ↦ ap (λ (x : ℕ). get_or (set e c k) x 16) q ∙ (here ∙ sym is) ∙ ap (λ (x : ℕ). get_or E x 16) (sym q)
            | no q ↦ let o = get_or-set_other e c d k 16 q in o ∙ P.same d (λ z. s (o ∙ z))
          ]

      up : (d : ℕ) → get_or (set e c k) d 16 ≢ 16 → get_or (set e c k) (get_or E d 16) 16 ≢ 16
      up d s =
          elim (ℕ_discrete d c) [
            | yes q ↦ stays (get_or E d 16) (λ z. there (ap (λ (x : ℕ). get_or e x 16) (sym is ∙ ap (λ (x : ℕ). get_or E x 16) (sym q)) ∙ z))
            | no q ↦ stays (get_or E d 16) (P.up d (λ z. s (get_or-set_other e c d k 16 q ∙ z)))
          ]

  -- a node that is no child of k is passed over
  pass : (f k c : ℕ) → c ≤ 15 → is_under E k c ≡ false → Run f k (c + 1) → Run f k c
  pass f k c h no_child run e B =
      let R = run e (B.0, B.1, (λ d l. B.2 d (omega arith)), B.3) in
      record {
        last = R.last;
        reads = subst (Lists n k c e R.last) (sym (list_other f E k c h no_child)) (lower (omega arith) R.reads);
        part = R.part;
        children = λ d l d16 q ne. elim (ℕ_discrete d c) [
          | yes z ↦ absurd (false_true (sym no_child ∙ under_true E k c (ap (λ (x : ℕ). get_or E x 16) (sym z) ∙ q) (λ y. ne (z ∙ y))))
          | no z ↦ R.children d (omega arith) d16 q ne
        ];
        inner = R.inner;
      }

  -- a child of k: its own list, then the rest
  child : (f k c : ℕ) → k < n → c ≤ 15 → get_or E c 16 ≡ k → c ≢ k → Run f c 0 → Run (suc f) k (c + 1) → Run (suc f) k c
  child f k c kn h is ne inside after e B = record {
    last = e₂;
    reads = subst (Lists n k c e e₂) text (more c (omega arith) cn entry R₁.reads R₂.reads);
    part = R₂.part;
    children = λ d l d16 q nk. elim (ℕ_discrete d c) [
      | yes z ↦ λ y. (mid_new p).is (ap (λ (x : ℕ). get_or e₂ x 16) (sym z) ∙ y)
      | no z ↦ R₂.children d (omega arith) d16 q nk
    ];
    inner = inner;
  }
    where
      cn : c < n
      cn = (in_range_lem c (omega (arith, T.nodes))).0

      k16 : k < 16
      k16 = omega (arith, T.nodes)

      entry : get_or e c 16 ≡ 16
      entry = B.2 c (omega arith) is ne

      l : length e ≡ 16
      l = B.0.places

      fewer : free (set e c k) + 1 ≡ free e
      fewer = free-set e c k l (omega arith) k16 entry

      Q : Part (set e c k)
      Q = set_part k c e kn B.0 B.1 entry is

      unread : (d : ℕ) → 0 ≤ d → get_or E d 16 ≡ c → d ≢ c → get_or (set e c k) d 16 ≡ 16
      unread d _ q nc =
          elim (ℕ_discrete (get_or e d 16) 16) [
            | yes z ↦ get_or-set_other e c d k 16 nc ∙ z
            | no z ↦ absurd (B.0.up d z (ap (λ (x : ℕ). get_or e x 16) q ∙ entry))
          ]

      mid_there : get_or (set e c k) c 16 ≢ 16
      mid_there q = omega (arith, sym (get_or-set_same e c k 16 (omega arith)) ∙ q)

      R₁ : Runs f c 0 (set e c k)
      R₁ = inside (set e c k) (Q, mid_there, unread, omega (arith, fewer, B.3))

      later : (d : ℕ) → c + 1 ≤ d → get_or E d 16 ≡ k → d ≢ k → get_or R₁.last d 16 ≡ 16
      later d l₁ q nk =
          elim (ℕ_discrete (get_or R₁.last d 16) 16) [
            | yes z ↦ z
            | no z ↦
                let w : New (set e c k) R₁.last d =
                record { was = get_or-set_other e c d k 16 (omega arith) ∙ B.2 d (omega arith) q nk; is = z } in
                let s : get_or R₁.last d 16 ≡ k = R₁.part.same d z ∙ q in
                elim (parent T.nodes (omega arith) Q.places R₁.reads d w) [
                  | inl v ↦ absurd (ne (sym v.0 ∙ s))
                  | inr v ↦
                      absurd
                      (B.1 (sym (get_or-set_other e c k k 16 (λ y. ne (sym y))) ∙ (subst (New (set e c k) R₁.last) s v).was))
                ]
          ]

      stays : get_or R₁.last k 16 ≢ 16
      stays q = B.1 (sym (get_or-set_other e c k k 16 (λ y. ne (sym y))) ∙ free_before R₁.reads k q)

      R₂ : Runs (suc f) k (c + 1) R₁.last
      R₂ =
          after R₁.last
          (R₁.part, stays, later, omega (arith, fewer, B.3, free_falls T.nodes (omega arith) Q.places R₁.reads))

      e₂ : List ℕ
      e₂ = R₂.last

      p : Parts n k c (c + 1) e R₁.last R₂.last (list_text f E c 0) (list_text (suc f) E k (c + 1))
      p = record { places = l; inside = omega arith; under = k16; entry = entry; nodes = R₁.reads; rest = R₂.reads }

      text : space ∷ (opening ∷ (decimal c ++ (list_text f E c 0 ++ (closing ∷ list_text (suc f) E k (c + 1))))) ≡ list_text (suc f) E k c
      text =
          sym (list_under (suc f) E k c h (under_true E k c is ne)
          ∙ rw (node_next f E c) (bracketed (decimal c) (list_text f E c 0) (list_text (suc f) E k (c + 1))))

      kept : (d : ℕ) → get_or R₁.last d 16 ≢ 16 → get_or e₂ d 16 ≢ 16
      kept d s q = s (sym (keeps R₂.reads d s) ∙ q)

      inner : (d j : ℕ) → New e R₂.last j → get_or E d 16 ≡ j → get_or R₂.last d 16 ≢ 16
      inner d j w q =
          elim (ℕ_discrete j c) [
            | yes z ↦ kept d (under_c (q ∙ z))
            | no z ↦ elim (parts p j w z) [ inl v ↦ kept d (R₁.inner d j v q) | inr v ↦ R₂.inner d j v q ]
          ]
        where
          under_c : get_or E d 16 ≡ c → get_or R₁.last d 16 ≢ 16
          under_c y =
              R₁.children d (omega arith) (omega (arith, (in_range_lem d (omega arith)).0, T.nodes)) y
              (λ x. ne (sym y ∙ ap (λ (i : ℕ). get_or E i 16) x ∙ is))

  finish : (f k : ℕ) → Run f k 16
  finish f k e B = record {
    last = e;
    reads = subst (Lists n k 16 e e) (sym (list_end f E k 16 (omega arith))) none;
    part = B.0;
    children = λ d l d16. absurd (let y : ⊥ = omega arith in y);
    inner = λ d j w. absurd (nothing_new w);
  }

  -- where every node is in the tree, nothing is under k any more
  run_none : (m c k : ℕ) → c + m ≡ 16 → Run zero k c
  run_none zero c k s = let z : 16 ≡ c = omega arith in subst (λ (x : ℕ). Run zero k x) z (finish zero k)
  run_none (suc m) c k s =
      elim (split (is_under E k c)) [
        | inl u ↦ λ e B. absurd (full e B (true_under E k c u))
        | inr u ↦ pass zero k c (omega arith) u (run_none m (c + 1) k (omega arith))
      ]
    where
      full : (e : List ℕ) → Before zero k c e → (get_or E c 16 ≡ k) × (c ≢ k) → ⊥
      full e B w = omega (arith, B.3, free_some e c (omega arith) (B.2 c (omega arith) w.0 w.1))

  along : (f : ℕ) → ((c : ℕ) → c < n → Run f c 0) → (m c k : ℕ) → c + m ≡ 16 → k < n → Run (suc f) k c
  along f inside zero c k s kn = let z : 16 ≡ c = omega arith in subst (λ (x : ℕ). Run (suc f) k x) z (finish (suc f) k)
  along f inside (suc m) c k s kn =
      elim (split (is_under E k c)) [
        | inl u ↦
            let w = true_under E k c u in
            child f k c kn (omega arith) w.0 w.1
            (inside c (in_range_lem c (omega (arith, w.0, T.nodes))).0) (along f inside m (c + 1) k (omega arith) kn)
        | inr u ↦ pass (suc f) k c (omega arith) u (along f inside m (c + 1) k (omega arith) kn)
      ]

  run : (f k : ℕ) → k < n → Run f k 0
  run zero k kn = run_none 16 0 k refl
  run (suc f) k kn = along f (run f) 16 0 k refl kn

  -- ---- the whole tree

  r16 : root < 16
  r16 = omega (arith, T.root_in, T.nodes)

  only_root : (d : ℕ) → get_or (alone root) d 16 ≢ 16 → d ≡ root
  only_root d h = elim (ℕ_discrete d root) [ yes p ↦ p | no q ↦ absurd (h (others root d q)) ]

  root_set : get_or (alone root) root 16 ≢ 16
  root_set q = omega (arith, r16, sym (root_there root r16) ∙ q)

  -- of the root alone
  alone_part : Part (alone root)
  alone_part = record { places = alone_places root; same = same; up = up }
    where
      same : (d : ℕ) → get_or (alone root) d 16 ≢ 16 → get_or (alone root) d 16 ≡ get_or E d 16
      same d h =
          let p = only_root d h in
          ap (λ (x : ℕ). get_or (alone root) x 16) p
          ∙ (root_there root r16 ∙ sym T.root_own ∙ ap (λ (x : ℕ). get_or E x 16) (sym p))

      up : (d : ℕ) → get_or (alone root) d 16 ≢ 16 → get_or (alone root) (get_or E d 16) 16 ≢ 16
      up d h q =
          let p : get_or E d 16 ≡ root = ap (λ (x : ℕ). get_or E x 16) (only_root d h) ∙ T.root_own in
          root_set (ap (λ (x : ℕ). get_or (alone root) x 16) (sym p) ∙ q)

  whole : Runs 15 root 0 (alone root)
  whole = run 15 root T.root_in (alone root) (alone_part, root_set, (λ d _ _ ne. others root d ne), few_left root r16)

  root_in_it : get_or whole.last root 16 ≢ 16
  root_in_it q =
      let p = keeps whole.reads root root_set ∙ root_there root r16 in
      omega (arith, r16, sym p ∙ q)

  reached : (m d : ℕ) → climb E m d ≡ root → get_or whole.last d 16 ≢ 16
  unfolding climb
  reached zero d p q = root_in_it (ap (λ (x : ℕ). get_or whole.last x 16) (sym p) ∙ q)
  reached (suc m) d p q = next (reached m (get_or E d 16) p) q
    where
      next : get_or whole.last (get_or E d 16) 16 ≢ 16 → get_or whole.last d 16 ≢ 16
      next there q' =
          elim (ℕ_discrete d root) [
            | yes z ↦ root_in_it (ap (λ (x : ℕ). get_or whole.last x 16) (sym z) ∙ q')
            | no z ↦
                elim (ℕ_discrete (get_or E d 16) root) [
                  | yes y ↦ whole.children d (omega arith) (omega (arith, T.nodes, (in_range_lem d (omega (arith, y, r16))).0)) y z q'
                  | no y ↦ whole.inner d (get_or E d 16) (record { was = others root (get_or E d 16) y; is = there }) refl q'
                ]
          ]

  all : whole.last ≡ E
  all = ext_get_or 16 whole.last E (whole.part.places ∙ sym T.places) (λ d _. each d)
    where
      each : (d : ℕ) → get_or whole.last d 16 ≡ get_or E d 16
      each d =
          elim (ℕ_discrete (get_or whole.last d 16) 16) [
            | no z ↦ whole.part.same d z
            | yes z ↦
                elim (ℕ_discrete (get_or E d 16) 16) [
                  | yes y ↦ z ∙ sym y
                  | no y ↦ let w = T.chains d (in_range_lem d y).0 y in absurd (reached w.0 d w.1 z)
                ]
          ]

  pub tree_lists : Lists n root 0 (alone root) E (list_text 15 E root 0)
  tree_lists = subst (λ (x : List ℕ). Lists n root 0 (alone root) x (list_text 15 E root 0)) all whole.reads
