-- Lists of nodes: a text is that of one list only, and the reader's lists are such lists. Assumes nothing.
use Prim.Native.Nat.{◌+◌, ◌<◌, ◌≤◌, ℕ}
use borrow.Author.Tests.{eq-eqb, ne_eqb}
use lib.Dec.{eqb}
use lib.ListN.{get_or-eq_default, drop, get_or, length, length-append, length-set, set}
use lib.Seq.{get_or-set_other, get_or-set_same}
use mathlib.Core.Bool.{cond, false}
use mathlib.Core.List.{List, [], ◌++◌, ◌∷◌, append_assoc}
use mathlib.Core.Logic.{◌≢◌}
use mathlib.Core.Path.{◌∙◌, ◌≡◌, ap, refl, subst, sym}
use native.Mathlib.Decide.{dec_lt, ℕ_discrete}
use native.Mathlib.Omega.{arith}
use Rattle.decimal.proofs.Cases.{advance, first_of, take_head}
use Rattle.decimal.specs.Exact.{Stands}
use Rattle.decimal.specs.Number.{digit_b}
use Rattle.decimal.specs.Text.{decimal}
use Rattle.laws.proofs.Tests.{false_true}
use Rattle.tree_faults.proofs.Numbers.{digit_inside, heads, number_once, opening_no_digit, some_digit, stands_once}
use Rattle.tree_faults.specs.Theorems.{NumberTo}
use Rattle.tree_faults.specs.Trees.{AllBelow, Ascends, Nodes, node, nodes_text, none, times}
use Rattle.tree_text.proofs.Lists.{Lists, more, none as nothing, sized}
use Rattle.tree_text.specs.Text.{closing, opening, space}

-- ---- a text is that of one list only

pub no_digit : (x : Nodes) (z : List ℕ) → digit_b (get_or (nodes_text x ++ (closing ∷ z)) 0 0) ≡ false
no_digit none z = refl
no_digit (node k x y) z = refl

-- a node with what follows it, and a list that is not empty
pub node_then : (d t w : List ℕ) → (opening ∷ (d ++ (t ++ (closing ∷ [])))) ++ w ≡ opening ∷ (d ++ (t ++ (closing ∷ w)))
node_then d t w = ap (λ (l : List ℕ). opening ∷ l) (simp append_assoc)

pub opened : (k : ℕ) (x y : Nodes) (w : List ℕ)
    → nodes_text (node k x y) ++ w ≡ space ∷ (opening ∷ (decimal k ++ (nodes_text x ++ (closing ∷ (nodes_text y ++ w)))))
opened k x y w = simp append_assoc

pub node_size : (k : ℕ) (x y : Nodes)
    → length (nodes_text (node k x y)) ≡ 1 + 1 + length (decimal k) + length (nodes_text x) + 1 + length (nodes_text y)
node_size k x y = simp length-append (omega arith)

pub no_list : {A : Type 0} (x y : List ℕ) → closing ∷ x ≡ space ∷ y → A
no_list x y e = absurd (let w : ◌≡◌ {A = ℕ} 41 32 = (heads closing space x y e).0 in let z : ⊥ = omega arith in z)

numbers_alike : (c k : ℕ) (x y : Nodes) (X Y : List ℕ)
    → space ∷ (opening ∷ (decimal c ++ (nodes_text x ++ (closing ∷ X)))) ≡ space ∷ (opening ∷ (decimal k ++ (nodes_text y ++ (closing ∷ Y))))
    → (c ≡ k) × (nodes_text x ++ (closing ∷ X) ≡ nodes_text y ++ (closing ∷ Y))
numbers_alike c k x y X Y e =
    number_once c k (nodes_text x ++ (closing ∷ X)) (nodes_text y ++ (closing ∷ Y)) (no_digit x X) (no_digit y Y)
    (heads opening opening _ _ (heads space space _ _ e).1).1

pub alike : (x y : Nodes) (z q : List ℕ) → get_or q 0 0 ≢ space → nodes_text x ++ (closing ∷ z) ≡ nodes_text y ++ q → (x ≡ y) × (closing ∷ z ≡ q)
alike none none z q h e = (refl, e)
alike none (node k y y₂) z q h e = no_list z _ e
alike (node c x x₂) none z q h e = absurd (h (ap (λ (l : List ℕ). get_or l 0 0) (sym e)))
alike (node c x x₂) (node k y y₂) z q h e =
    let X = nodes_text x₂ ++ (closing ∷ z) in
    let Y = nodes_text y₂ ++ q in
    let w = numbers_alike c k x y X Y (sym (opened c x x₂ (closing ∷ z)) ∙ (e ∙ opened k y y₂ q)) in
    let first = alike x y X (closing ∷ Y) (omega arith) w.1 in
    let after = alike x₂ y₂ z q h (heads closing closing X Y first.1).1 in
    let same : node c x x₂ ≡ node k y y₂ = cc (w.0, first.0, after.0) in
    (same, after.1)

pub first_alike : (c k : ℕ) (x y : Nodes) (X Y : List ℕ)
    → space ∷ (opening ∷ (decimal c ++ (nodes_text x ++ (closing ∷ X)))) ≡ space ∷ (opening ∷ (decimal k ++ (nodes_text y ++ (closing ∷ Y))))
    → (c ≡ k) × (x ≡ y) × (X ≡ Y)
first_alike c k x y X Y e =
    let w = numbers_alike c k x y X Y e in
    let list = alike x y X (closing ∷ Y) (omega arith) w.1 in
    (w.0, list.0, (heads closing closing X Y list.1).1)

-- ---- which numbers are taken

unfoldable pub used : List ℕ → ℕ → ℕ
used e d = cond (eqb (get_or e d 16) 16) 0 1

pub used_none : (e : List ℕ) (d : ℕ) → get_or e d 16 ≡ 16 → used e d ≡ 0
unfolding used
used_none e d h = rw (eq-eqb (get_or e d 16) 16 h)

pub used_some : (e : List ℕ) (d : ℕ) → get_or e d 16 ≢ 16 → used e d ≡ 1
unfolding used
used_some e d h = rw (ne_eqb (get_or e d 16) 16 h)

pub none_used : (e : List ℕ) (d : ℕ) → used e d ≡ 0 → get_or e d 16 ≡ 16
none_used e d h =
    elim (ℕ_discrete (get_or e d 16) 16) [ yes p ↦ p | no q ↦ absurd (let y : ⊥ = omega (arith, used_some e d q) in y) ]

pub used_most : (e : List ℕ) (d : ℕ) → used e d ≤ 1
used_most e d = elim (ℕ_discrete (get_or e d 16) 16) [ yes p ↦ omega (arith, used_none e d p) | no q ↦ omega (arith, used_some e d q) ]

pub used_past : (e : List ℕ) (d : ℕ) → length e ≡ 16 → 16 ≤ d → used e d ≡ 0
used_past e d l h = used_none e d (get_or-eq_default e 16 (omega arith))

pub here : (d c : ℕ) → d ≡ c → ◌≡◌ {A = ℕ} (cond (eqb d c) 1 0) 1
here d c h = rw (eq-eqb d c h)

pub elsewhere : (d c : ℕ) → d ≢ c → ◌≡◌ {A = ℕ} (cond (eqb d c) 1 0) 0
elsewhere d c h = rw (ne_eqb d c h)

alike_used : (e f : List ℕ) (d : ℕ) → get_or e d 16 ≡ get_or f d 16 → used e d ≡ used f d
unfolding used
alike_used e f d p = rw p

pub used-set : (e : List ℕ) (c k d : ℕ) → length e ≡ 16 → c < 16 → k < 16 → get_or e c 16 ≡ 16 → used (set e c k) d ≡ used e d + cond (eqb d c) 1 0
used-set e c k d l c16 k16 f =
    elim (ℕ_discrete d c) [
      | yes p ↦
          let is : get_or (set e c k) d 16 ≡ k = ap (λ (x : ℕ). get_or (set e c k) x 16) p ∙ get_or-set_same e c k 16 (omega arith) in
          let was : get_or e d 16 ≡ 16 = ap (λ (x : ℕ). get_or e x 16) p ∙ f in
          omega (arith, used_some (set e c k) d (omega arith), used_none e d was, here d c p)
      | no q ↦
          let same : used (set e c k) d ≡ used e d = alike_used (set e c k) e d (get_or-set_other e c d k 16 q) in
          omega (arith, elsewhere d c q)
    ]

-- ---- the reader's lists

pub record ListOf (n low : ℕ) (e e' t : List ℕ) : Type 0 where
  pub nodes : Nodes
  pub text : t ≡ nodes_text nodes
  pub ascends : Ascends low nodes
  pub below : AllBelow n nodes
  pub uses : (d : ℕ) → used e' d ≡ used e d + times d nodes

pub list_of_lem : {n k low : ℕ} {e e' t : List ℕ} → n ≤ 16 → k < 16 → length e ≡ 16 → Lists n k low e e' t → ListOf n low e e' t
list_of_lem {e = e} n16 k16 l nothing = record { nodes = none; text = refl; ascends = tt; below = tt; uses = λ d. omega arith }
list_of_lem {k = k} {e = e} n16 k16 l (more {t = t} {u = u} c lc cn f a b) =
    let l' = length-set e c k ∙ l in
    let A = list_of_lem n16 (omega arith) l' a in
    let B = list_of_lem n16 k16 (sized a l') b in
    record {
      nodes = node c A.nodes B.nodes;
      text = ap (λ (x : List ℕ). space ∷ (opening ∷ (decimal c ++ (x ++ (closing ∷ u))))) A.text
          ∙ ap (λ (x : List ℕ). space ∷ (opening ∷ (decimal c ++ (nodes_text A.nodes ++ (closing ∷ x))))) B.text;
      ascends = (omega arith, A.ascends, B.ascends);
      below = (cn, A.below, B.below);
      uses = λ d. omega (arith, A.uses d, B.uses d, used-set e c k d l (omega arith) k16 f);
    }

-- and each list of such nodes is one that the reader takes
pub record Listed (n k low : ℕ) (e : List ℕ) (x : Nodes) : Type 0 where
  pub last : List ℕ
  pub lists : Lists n k low e last (nodes_text x)
  pub uses : (d : ℕ) → used last d ≡ used e d + times d x

pub listed : (n k low : ℕ) (e : List ℕ) (x : Nodes) → n ≤ 16 → k < 16 → length e ≡ 16 → Ascends low x → AllBelow n x
    → ((d : ℕ) → used e d + times d x ≤ 1) → Listed n k low e x
listed n k low e none n16 k16 l o b u = record { last = e; lists = nothing; uses = λ d. omega arith }
listed n k low e (node c x y) n16 k16 l o b u =
    let c16 : c < 16 = omega (arith, b.0) in
    let order : low ≤ c = omega (arith, o.0) in
    let f : get_or e c 16 ≡ 16 = none_used e c (omega (arith, u c, here c c refl)) in
    let l' = length-set e c k ∙ l in
    let set_uses : (d : ℕ) → used (set e c k) d ≡ used e d + cond (eqb d c) 1 0 = λ d. used-set e c k d l c16 k16 f in
    let A = listed n c 0 (set e c k) x n16 c16 l' o.1 b.1 (λ d. omega (arith, u d, set_uses d)) in
    let B = listed n k (c + 1) A.last y n16 k16 (sized A.lists l') o.2 b.2 (λ d. omega (arith, u d, set_uses d, A.uses d)) in
    record {
      last = B.last;
      lists = more c order b.0 f A.lists B.lists;
      uses = λ d. omega (arith, set_uses d, A.uses d, B.uses d);
    }

-- ---- numbers in the text of a list that stands in s

module _ (s : List ℕ) where
  -- a byte that is no digit ends no number
  pub no_number_to : (p : ℕ) → digit_b (get_or s p 0) ≡ false → (v : ℕ) → NumberTo s v (p + 1) → ⊥
  no_number_to p h v w =
      let d = digit_inside s (w.at + 1) v (p + 1) w.number p (omega (arith, some_digit s (w.at + 1) v (p + 1) w.number)) (omega arith) in
      false_true (sym h ∙ d)

  pub stands_from : (at k : ℕ) (X : List ℕ) → drop at s ≡ decimal k ++ X → digit_b (get_or X 0 0) ≡ false
      → Stands s at k (at + length (decimal k))
  stands_from at k X h d =
      let e = at + length (decimal k) in
      let left : drop e s ≡ X = advance s (decimal k) X at h in
      record {
        text = h ∙ ap (λ (l : List ℕ). decimal k ++ l) (sym left);
        ends = refl;
        last = ap digit_b (first_of s X e left) ∙ d;
      }

  -- the parts of a list that is not empty: its first number, its children, its closing bracket, the nodes after it
  pub record Parts (at k : ℕ) (x y : Nodes) (D : List ℕ) : Type 0 where
    pub gap : get_or s at 0 ≡ space
    pub bracket : get_or s (at + 1) 0 ≡ opening
    pub number : Stands s (at + 1 + 1) k (at + 1 + 1 + length (decimal k))
    pub children : drop (at + 1 + 1 + length (decimal k)) s ≡ nodes_text x ++ (closing ∷ (nodes_text y ++ D))
    pub end : get_or s (at + 1 + 1 + length (decimal k) + length (nodes_text x)) 0 ≡ closing
    pub after : drop (at + 1 + 1 + length (decimal k) + length (nodes_text x) + 1) s ≡ nodes_text y ++ D

  pub parts : (at k : ℕ) (x y : Nodes) (D : List ℕ) → drop at s ≡ nodes_text (node k x y) ++ D → Parts at k x y D
  parts at k x y D h =
      let after_list = closing ∷ (nodes_text y ++ D) in
      let first = take_head s at space _ (h ∙ opened k x y D) in
      let second = take_head s (at + 1) opening _ first.1 in
      let p = at + 1 + 1 + length (decimal k) in
      let list : drop p s ≡ nodes_text x ++ after_list = advance s (decimal k) (nodes_text x ++ after_list) (at + 1 + 1) second.1 in
      let last = take_head s (p + length (nodes_text x)) closing (nodes_text y ++ D) (advance s (nodes_text x) after_list p list) in
      record {
        gap = first.0;
        bracket = second.0;
        number = stands_from (at + 1 + 1) k (nodes_text x ++ after_list) second.1 (no_digit x (nodes_text y ++ D));
        children = list;
        end = last.0;
        after = last.1;
      }

  -- after a list ends no number that did not end where the list begins
  pub quiet : (y : Nodes) (at : ℕ) (D : List ℕ) → drop at s ≡ nodes_text y ++ D → (v : ℕ) → NumberTo s v (at + length (nodes_text y))
      → NumberTo s v at
  quiet none at D h v w = let z : at + 0 ≡ at = omega arith in subst (NumberTo s v) z w
  quiet (node k x y) at D h v w =
      let P = parts at k x y D h in
      let q = at + 1 + 1 + length (decimal k) + length (nodes_text x) in
      let z : at + length (nodes_text (node k x y)) ≡ q + 1 + length (nodes_text y) = omega (arith, node_size k x y) in
      absurd (no_number_to q (ap digit_b P.end) v (quiet y (q + 1) D P.after v (subst (NumberTo s v) z w)))

  module _ (n : ℕ) where
    -- the numbers whose bracket stands from i to j
    abbrev pub Below : ℕ → ℕ → Type 0
    Below i j = (v e : ℕ) (w : NumberTo s v e) → i ≤ w.at → w.at < j → v < n

    not_opening : {A : Type 0} (a b : ℕ) → get_or s a 0 ≡ b → b ≢ opening → get_or s a 0 ≡ opening → A
    not_opening a b p h q = absurd (h (sym p ∙ q))

    pub number_below : (at k e : ℕ) → Stands s (at + 1) k e → k < n → Below at e
    number_below at k e st kn v f w i j =
        elim (ℕ_discrete w.at at) [
          | yes p ↦ omega (arith, (stands_once s (at + 1) k e st v f (subst (λ (x : ℕ). Stands s (x + 1) v f) p w.number)).0)
          | no q ↦ absurd (opening_no_digit s w.at w.bracket (digit_inside s (at + 1) k e st w.at (omega arith) j))
        ]

    pub list_below : (y : Nodes) (at : ℕ) (D : List ℕ) → AllBelow n y → drop at s ≡ nodes_text y ++ D → Below at (at + length (nodes_text y))
    list_below none at D b h v e w i j = absurd (let y : ⊥ = omega arith in y)
    list_below (node k x y) at D b h v e w i j =
        let P = parts at k x y D h in
        let p = at + 1 + 1 + length (decimal k) in
        let q = p + length (nodes_text x) in
        elim (ℕ_discrete w.at at) [
          | yes z ↦ not_opening w.at space (ap (λ (a : ℕ). get_or s a 0) z ∙ P.gap) (omega arith) w.bracket
          | no z ↦
              elim (dec_lt w.at p) [
                | yes l ↦ number_below (at + 1) k p P.number b.0 v e w (omega arith) l
                | no g ↦
                    elim (dec_lt w.at q) [
                      | yes l ↦ list_below x p (closing ∷ (nodes_text y ++ D)) b.1 P.children v e w (omega arith) l
                      | no g₂ ↦
                          elim (ℕ_discrete w.at q) [
                            | yes c ↦ not_opening w.at closing (ap (λ (a : ℕ). get_or s a 0) c ∙ P.end) (omega arith) w.bracket
                            | no c ↦ list_below y (q + 1) D b.2 P.after v e w (omega arith) (omega (arith, node_size k x y))
                          ]
                    ]
              ]
        ]
