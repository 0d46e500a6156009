-- The place of a fault, in the text of a node or of a list with its closing bracket. Assumes nothing.
use Prim.Native.Nat.{◌*◌, ◌+◌, ◌<◌, ◌≤◌, ℕ}
use lib.Dec.{eqb}
use lib.ListN.{drop, get_or, length, length-append}
use mathlib.Core.Bool.{cond, true}
use mathlib.Core.List.{List, [], ◌++◌, ◌∷◌, append_assoc, append-nil}
use mathlib.Core.Logic.{◌↔◌, ◌≢◌, ◌⊎◌, inl, inr}
use mathlib.Core.Path.{◌∙◌, ◌≡◌, ap, refl, subst, sym}
use native.Mathlib.Decide.{dec_lt, ℕ_discrete}
use native.Mathlib.Omega.{arith}
use Rattle.decimal.proofs.Cases.{first_of, in_text, rest}
use Rattle.decimal.specs.Exact.{Stands}
use Rattle.decimal.specs.Number.{digit_b}
use Rattle.decimal.specs.Text.{decimal}
use Rattle.refusal.specs.declared.Refusal.{Refusal}
use Rattle.refusal.specs.declared.Refusal.TheVariants.{NotAForm, UnknownNode}
use Rattle.laws.proofs.Tests.{false_true}
use Rattle.tree_faults.proofs.Nodes.{Below, alike, elsewhere, first_alike, here, list_below, no_digit, no_list, no_number_to, node_then, number_below, opened, quiet, used, used_most, used_past}
use Rattle.tree_faults.proofs.Numbers.{digit_inside, first, heads, hundred, longer, number_once, opening_no_digit, some_digit, stands_once, zero_only, zero_text}
use Rattle.tree_faults.specs.Theorems.{LargeTo, NumberTo}
use Rattle.tree_faults.specs.Trees.{AllBelow, Ascends, Nodes, node, nodes_text, none, times, tree_text}
use Rattle.tree_text.specs.Text.{closing, opening, space}

-- ---- what may stand at a place

-- a node from `low` on, none of whose numbers is in the tree e
pub record NodeText (e : List ℕ) (low : ℕ) (t : List ℕ) : Type 0 where
  pub k : ℕ
  pub children : Nodes
  pub is : t ≡ tree_text k children
  pub order : low ≤ k
  pub ascends : Ascends 0 children
  pub fresh : (d : ℕ) → used e d + times d (node k children none) ≤ 1

-- a list from `low` on, none of whose numbers is in the tree e, with the bracket that closes it
pub record ListText (e : List ℕ) (low : ℕ) (t : List ℕ) : Type 0 where
  pub nodes : Nodes
  pub is : t ≡ nodes_text nodes ++ (closing ∷ [])
  pub ascends : Ascends low nodes
  pub fresh : (d : ℕ) → used e d + times d nodes ≤ 1

first_byte : (w p v : List ℕ) → 0 < length w → get_or (w ++ p) 0 0 ≡ get_or (w ++ v) 0 0
first_byte [] p v h = absurd (let y : ⊥ = omega arith in y)
first_byte (b ∷ w) p v h = refl

module _ (s : List ℕ) (n : ℕ) where
  -- the numbers that are complete before p
  abbrev pub Complete : ℕ → Type 0
  Complete p = (v e : ℕ) → NumberTo s v e → e < p → v < n

  abbrev pub Large : ℕ → Type 0
  Large = LargeTo n s

  -- what stands from `at` to `place` is the longest that a text of the form T begins with
  pub record FaultTo (at place : ℕ) (T : List ℕ → Type 0) (f : Refusal) : Type 0 where
    pub upto : List ℕ
    pub ends : place ≡ at + length upto
    pub beyond : List ℕ
    pub split : drop at s ≡ upto ++ beyond
    pub text : List ℕ
    pub rest : List ℕ
    pub fits : T text
    pub begins : text ≡ upto ++ rest
    pub below : (v e : ℕ) (w : NumberTo s v e) → at ≤ w.at → e < place → v < n
    pub longest : (t z u v p : List ℕ) → T t → drop at s ≡ u ++ v → t ++ z ≡ u ++ p → Complete (at + length u) → at + length u ≤ place
    pub six : (f ≡ UnknownNode) ↔ Large place
    pub ten : (f ≡ UnknownNode) ⊎ (f ≡ NotAForm)

  abbrev pub FaultAt : ℕ → (List ℕ → Type 0) → Refusal → Type 0
  FaultAt at T f = (place : ℕ) × FaultTo at place T f

  -- ---- after the text `pre`

  module _ (at at' : ℕ) (pre : List ℕ) (is : drop at s ≡ pre ++ drop at' s) (there : at' ≡ at + length pre) where
    -- a longer beginning has the byte after it
    past : (t z u v p : List ℕ) → drop at s ≡ u ++ v → t ++ z ≡ u ++ p → length pre < length u
        → (w : List ℕ) × (u ≡ pre ++ w) × (drop at' s ≡ w ++ v) × (t ++ z ≡ pre ++ (w ++ p)) × (get_or (w ++ p) 0 0 ≡ get_or s at' 0)
    past t z u v p d h l =
        let L = longer pre (drop at' s) u v (sym is ∙ d) (omega arith) in
        let w = L.0 in
        let some : 0 < length w = omega (arith, simp length-append at (ap length L.1)) in (
          w,
          L.1,
          L.2,
          h ∙ (ap (λ (l : List ℕ). l ++ p) L.1 ∙ append_assoc pre w p),
          first_byte w p v some ∙ sym (first_of s (w ++ v) at' L.2),
        )

    -- a fault right there: no text of the form T goes on with that byte
    pub stop : {T : List ℕ → Type 0} {f : Refusal} (text left : List ℕ) → T text → text ≡ pre ++ left
        → ((v e : ℕ) (w : NumberTo s v e) → at ≤ w.at → e < at' → v < n)
        → ((t z q : List ℕ) → T t → t ++ z ≡ pre ++ q → get_or q 0 0 ≡ get_or s at' 0 → Complete (at' + 1) → ⊥)
        → ((f ≡ UnknownNode) ↔ Large at') → (f ≡ UnknownNode) ⊎ (f ≡ NotAForm) → FaultTo at at' T f
    stop {T} {f} text left fits begins below no_more six ten = record {
      upto = pre;
      ends = there;
      beyond = drop at' s;
      split = is;
      text = text;
      rest = left;
      fits = fits;
      begins = begins;
      below = below;
      longest = λ t z u v p g d h c. elim (dec_lt (length pre) (length u)) [
        | no g₂ ↦ omega arith
        | yes l ↦
            let P = past t z u v p d h l in
            absurd (no_more t z (P.0 ++ p) g P.3 P.4 (λ a b k j. c a b k (omega arith)))
      ];
      six = six;
      ten = ten;
    }

    -- a fault further on
    module _ (T T' : List ℕ → Type 0) where
      abbrev pub Wraps : Type 0
      Wraps = (t : List ℕ) → T t → (post : List ℕ) × T' (pre ++ (t ++ post))

      abbrev pub Unwraps : Type 0
      Unwraps = (t z q : List ℕ) → T' t → t ++ z ≡ pre ++ q → get_or q 0 0 ≡ get_or s at' 0 → (u y : List ℕ) × T u × (u ++ y ≡ q)

      pub lift : {place : ℕ} {f : Refusal} → Wraps → Unwraps → Below s n at at' → FaultTo at' place T f → FaultTo at place T' f
      lift {place} {f} wrap unwrap below F =
          let W = wrap F.text F.fits in
          record {
            upto = pre ++ F.upto;
            ends = simp length-append (omega (arith, F.ends));
            beyond = F.beyond;
            split = is ∙ (ap (λ (l : List ℕ). pre ++ l) F.split ∙ sym (append_assoc pre F.upto F.beyond));
            text = pre ++ (F.text ++ W.0);
            rest = F.rest ++ W.0;
            fits = W.1;
            begins = ap (λ (l : List ℕ). pre ++ (l ++ W.0)) F.begins ∙ simp append_assoc;
            below = λ v e w i j.
                elim (dec_lt w.at at') [ yes l ↦ below v e w i l | no g ↦ F.below v e w (omega arith) j ];
            longest = λ t z u v p g d h c.
                elim (dec_lt (length pre) (length u)) [ no g₂ ↦ omega (arith, F.ends) | yes l ↦ further t z u v p g d h c l ];
            six = F.six;
            ten = F.ten;
          }
        where
          further : (t z u v p : List ℕ) → T' t → drop at s ≡ u ++ v → t ++ z ≡ u ++ p → Complete (at + length u) → length pre < length u
              → at + length u ≤ place
          further t z u v p g d h c l =
              let P = past t z u v p d h l in
              let w = P.0 in
              let size : length u ≡ length pre + length w = simp length-append at (ap length P.1) in
              let U = unwrap t z (w ++ p) g P.3 P.4 in
              let inner = F.longest U.0 U.1 w v p U.2 P.2 U.3 (λ a b k j. c a b k (omega (arith, size))) in
              omega (arith, inner, size)

-- ---- faults at a node

apart : NotAForm ≡ UnknownNode → ⊥
apart p = let z : ◌≡◌ {A = ℕ} 0 1 = cc in omega arith

-- 10 is all but 6
pub ten_of : (s : List ℕ) (n p : ℕ) {f : Refusal} → (f ≡ UnknownNode) ↔ Large s n p → (f ≡ UnknownNode) ⊎ (f ≡ NotAForm)
    → (f ≡ NotAForm) ↔ (Large s n p → ⊥)
ten_of s n p six (inl u) = (λ t. absurd (apart (sym t ∙ u)), λ h. absurd (h (six.0 u)))
ten_of s n p six (inr t) = (λ _ w. apart (sym t ∙ six.1 w), λ _. t)

-- not 6
pub never : (s : List ℕ) (n p : ℕ) → (Large s n p → ⊥) → (NotAForm ≡ UnknownNode) ↔ Large s n p
never s n p h = (λ z. absurd (apart z), λ w. absurd (h w))

module _ (s : List ℕ) (n at : ℕ) (e : List ℕ) (low : ℕ) (places : length e ≡ 16) (lows : low ≤ 16) where
  lone : (k : ℕ) → low ≤ k → used e k ≡ 0 → NodeText e low (tree_text k none)
  lone k o f = record {
    k = k;
    children = none;
    is = refl;
    order = o;
    ascends = tt;
    fresh = λ d. elim (ℕ_discrete d k) [
      | yes p ↦ omega (arith, here d k p, ap (used e) p)
      | no q ↦ omega (arith, elsewhere d k q, used_most e d)
    ];
  }

  -- a number that no tree has yet
  new : (k : ℕ) → 16 ≤ k → NodeText e low (tree_text k none)
  new k h = lone k (omega arith) (used_past e k places h)

  unused : {t : List ℕ} (g : NodeText e low t) → used e g.k ≡ 0
  unused g = omega (arith, g.fresh g.k, here g.k g.k refl)

  too_soon : (p v f : ℕ) (w : NumberTo s v f) → at ≤ w.at → f < p → p ≤ at + 2 → v < n
  too_soon p v f w i j h = absurd (let y : ⊥ = omega (arith, some_digit s (w.at + 1) v f w.number) in y)

  -- no opening bracket
  pub no_bracket : get_or s at 0 ≢ opening → (Large s n at → ⊥) → FaultTo s n at at (NodeText e low) NotAForm
  no_bracket h quiet =
      stop s n at at [] refl (omega arith) (tree_text 100 none) (tree_text 100 none) (new 100 (omega arith)) refl
      (λ v f w i j. too_soon at v f w i j (omega arith)) no_more (never s n at quiet) (inr refl)
    where
      no_more : (t z q : List ℕ) → NodeText e low t → t ++ z ≡ q → get_or q 0 0 ≡ get_or s at 0 → Complete s n (at + 1) → ⊥
      no_more t z q g is byte c = h (sym byte ∙ ap (λ (l : List ℕ). get_or l 0 0) (sym is ∙ ap (λ (l : List ℕ). l ++ z) g.is))

  module _ (bracket : get_or s at 0 ≡ opening) where
    after_bracket : drop at s ≡ opening ∷ drop (at + 1) s
    after_bracket = rest s at (in_text s at (omega arith)) ∙ ap (λ (b : ℕ). b ∷ drop (at + 1) s) bracket

    -- a node's text after its bracket
    inside : {t : List ℕ} (z q : List ℕ) (g : NodeText e low t) → t ++ z ≡ opening ∷ q
        → decimal g.k ++ (nodes_text g.children ++ (closing ∷ z)) ≡ q
    inside z q g is =
        (heads opening opening _ q
        (sym (node_then (decimal g.k) (nodes_text g.children) z) ∙ (ap (λ (l : List ℕ). l ++ z) (sym g.is) ∙ is))).1

    -- no digit of a number that may stand there
    pub no_number : ((k : ℕ) → low ≤ k → used e k ≡ 0 → (first k).byte ≢ get_or s (at + 1) 0)
        → FaultTo s n at (at + 1) (NodeText e low) NotAForm
    no_number h =
        stop s n at (at + 1) (opening ∷ []) after_bracket refl (tree_text 100 none) (decimal 100 ++ (closing ∷ [])) (new 100 (omega arith)) refl
        (λ v f w i j. too_soon (at + 1) v f w i j (omega arith)) no_more
        (never s n (at + 1) (λ w. no_number_to s at (ap digit_b bracket) w.0 w.1)) (inr refl)
      where
        no_more : (t z q : List ℕ) → NodeText e low t → t ++ z ≡ opening ∷ q → get_or q 0 0 ≡ get_or s (at + 1) 0 → Complete s n (at + 1 + 1) → ⊥
        no_more t z q g is byte c =
            let F = first g.k in
            h g.k g.order (unused g)
            (ap (λ (l : List ℕ). get_or (l ++ (nodes_text g.children ++ (closing ∷ z))) 0 0) (sym F.text)
            ∙ (ap (λ (l : List ℕ). get_or l 0 0) (inside z q g is) ∙ byte))

    -- a digit after 0
    pub zero_led : get_or s (at + 1) 0 ≡ 48 → digit_b (get_or s (at + 1 + 1) 0) ≡ true → low ≤ 0 → used e 0 ≡ 0
        → FaultTo s n at (at + 1 + 1) (NodeText e low) NotAForm
    zero_led zero_there digit o f =
        stop s n at (at + 1 + 1) (opening ∷ (48 ∷ [])) (after_bracket ∙ ap (λ (l : List ℕ). opening ∷ l) after_zero) (omega arith)
        (tree_text 0 none) (closing ∷ []) (lone 0 o f) (ap (λ (l : List ℕ). opening ∷ (l ++ (closing ∷ []))) zero_text)
        (λ v g w i j. too_soon (at + 1 + 1) v g w i j (omega arith)) no_more
        (never s n (at + 1 + 1) (λ w. false_true (sym w.1.number.last ∙ digit))) (inr refl)
      where
        after_zero : drop (at + 1) s ≡ 48 ∷ drop (at + 1 + 1) s
        after_zero = rest s (at + 1) (in_text s (at + 1) (omega arith)) ∙ ap (λ (b : ℕ). b ∷ drop (at + 1 + 1) s) zero_there

        no_more : (t z q : List ℕ) → NodeText e low t → t ++ z ≡ opening ∷ (48 ∷ q) → get_or q 0 0 ≡ get_or s (at + 1 + 1) 0
            → Complete s n (at + 1 + 1 + 1) → ⊥
        no_more t z q g is byte c =
            let F = first g.k in
            let more = nodes_text g.children ++ (closing ∷ z) in
            let one = inside z (48 ∷ q) g is in
            let b = (heads F.byte 48 _ q (ap (λ (l : List ℕ). l ++ more) (sym F.text) ∙ one)).0 in
            let none_left = zero_only g.k F.more (F.text ∙ ap (λ (x : ℕ). x ∷ F.more) b) in
            let zero_first = ap (λ (l : List ℕ). l ++ more) (sym zero_text) ∙ (ap (λ (x : ℕ). decimal x ++ more) (sym none_left) ∙ one) in
            let two = (heads 48 48 more q zero_first).1 in
            false_true (sym (ap (λ (l : List ℕ). digit_b (get_or l 0 0)) (sym two) ∙ no_digit g.children z) ∙ (ap digit_b byte ∙ digit))

    module _ (v end : ℕ) (number : Stands s (at + 1) v end) where
      after_number : drop at s ≡ (opening ∷ decimal v) ++ drop end s
      after_number = after_bracket ∙ ap (λ (l : List ℕ). opening ∷ l) number.text

      ends : end ≡ at + length (opening ∷ decimal v)
      ends = omega (arith, number.ends)

      -- a node with this number goes on with its list
      same_number : {t : List ℕ} (z q : List ℕ) (g : NodeText e low t) → t ++ z ≡ opening ∷ (decimal v ++ q) → get_or q 0 0 ≡ get_or s end 0
          → (g.k ≡ v) × (nodes_text g.children ++ (closing ∷ z) ≡ q)
      same_number z q g is byte =
          number_once g.k v (nodes_text g.children ++ (closing ∷ z)) q (no_digit g.children z) (ap digit_b byte ∙ number.last)
          (inside z (decimal v ++ q) g is)

      -- a number that may not stand there
      pub number_refused :
          (f : Refusal) → 0 < v → (low ≤ v → used e v ≡ 0 → Complete s n (end + 1) → ⊥)
          → ((f ≡ UnknownNode) ↔ Large s n end) → (f ≡ UnknownNode) ⊎ (f ≡ NotAForm) → FaultTo s n at end (NodeText e low) f
      number_refused f pos h six ten =
          stop s n at end (opening ∷ decimal v) after_number ends (tree_text (v * 100) none) (48 ∷ (48 ∷ (closing ∷ []))) (new (v * 100) (omega arith))
          (ap (λ (l : List ℕ). opening ∷ l)
          (ap (λ (l : List ℕ). l ++ (closing ∷ [])) (hundred v pos) ∙ append_assoc (decimal v) (48 ∷ (48 ∷ [])) (closing ∷ [])))
          below no_more six ten
        where
          below : (w g : ℕ) (x : NumberTo s w g) → at ≤ x.at → g < end → w < n
          below w g x i j =
              elim (ℕ_discrete x.at at) [
                | yes p ↦
                    let y : ⊥ = omega (arith, (stands_once s (at + 1) v end number w g (subst (λ (a : ℕ). Stands s (a + 1) w g) p x.number)).1) in
                    absurd y
                | no q ↦
                    let some = some_digit s (x.at + 1) w g x.number in
                    let digit = digit_inside s (at + 1) v end number x.at (omega arith) (omega arith) in
                    absurd (opening_no_digit s x.at x.bracket digit)
              ]

          no_more : (t z q : List ℕ) → NodeText e low t → t ++ z ≡ opening ∷ (decimal v ++ q) → get_or q 0 0 ≡ get_or s end 0 → Complete s n (end + 1) → ⊥
          no_more t z q g is byte c =
              let w = (same_number z q g is byte).0 in
              h (omega (arith, g.order)) (ap (used e) (sym w) ∙ unused g) c

      -- a fault in its list
      pub in_list : {place : ℕ} {f : Refusal} (e' : List ℕ) → v < n → low ≤ v → ((d : ℕ) → used e' d ≡ used e d + cond (eqb d v) 1 0)
          → FaultTo s n end place (ListText e' 0) f → FaultTo s n at place (NodeText e low) f
      in_list {place} {f} e' vn o adds =
          lift s n at end (opening ∷ decimal v) after_number ends (ListText e' 0) (NodeText e low) wrap unwrap
          (number_below s n at v end number vn)
        where
          wrap : (t : List ℕ) → ListText e' 0 t → (post : List ℕ) × NodeText e low (opening ∷ (decimal v ++ (t ++ post)))
          wrap t g = (
            [],
            record {
              k = v;
              children = g.nodes;
              is = ap (λ (l : List ℕ). opening ∷ (decimal v ++ l)) (append-nil t ∙ g.is);
              order = o;
              ascends = g.ascends;
              fresh = λ d. omega (arith, g.fresh d, adds d);
            },
          )

          unwrap : (t z q : List ℕ) → NodeText e low t → t ++ z ≡ opening ∷ (decimal v ++ q) → get_or q 0 0 ≡ get_or s end 0
              → (u y : List ℕ) × ListText e' 0 u × (u ++ y ≡ q)
          unwrap t z q g is byte =
              let S = same_number z q g is byte in (
                nodes_text g.children ++ (closing ∷ []),
                z,
                record {
                  nodes = g.children;
                  is = refl;
                  ascends = g.ascends;
                  fresh = λ d. omega (arith, g.fresh d, adds d, ap {B = ℕ} (λ x. cond (eqb d x) 1 0) S.0);
                },
                append_assoc (nodes_text g.children) (closing ∷ []) z ∙ S.1,
              )

-- ---- faults in a list

with_list : (x : Nodes) (t z q : List ℕ) → t ≡ nodes_text x ++ (closing ∷ []) → t ++ z ≡ q → nodes_text x ++ (closing ∷ z) ≡ q
with_list x t z q g h = sym (append_assoc (nodes_text x) (closing ∷ []) z) ∙ (ap (λ (l : List ℕ). l ++ z) (sym g) ∙ h)

-- no number of n or more ends after a list, where none does before it
pub calm : (s : List ℕ) (n : ℕ) (x : Nodes) (at end : ℕ) → drop at s ≡ nodes_text x ++ drop end s → end ≡ at + length (nodes_text x)
    → (Large s n at → ⊥) → Large s n end → ⊥
calm s n x at end is ends before w = before (w.0, quiet s x at (drop end s) is w.0 (subst (NumberTo s w.0) ends w.1), w.2)

module _ (s : List ℕ) (n at : ℕ) (e : List ℕ) (low : ℕ) where
  -- at its first node
  pub in_node : {place : ℕ} {f : Refusal} → get_or s at 0 ≡ space → FaultTo s n (at + 1) place (NodeText e low) f
      → FaultTo s n at place (ListText e low) f
  in_node {place} {f} gap =
      lift s n at (at + 1) (space ∷ []) (rest s at (in_text s at (omega arith)) ∙ ap (λ (b : ℕ). b ∷ drop (at + 1) s) gap) refl
      (NodeText e low) (ListText e low) wrap (λ t z q g is byte. unwrap g.nodes t z q g.is g.ascends g.fresh is) below
    where
      wrap : (t : List ℕ) → NodeText e low t → (post : List ℕ) × ListText e low (space ∷ (t ++ post))
      wrap t g = (
        closing ∷ [],
        record {
          nodes = node g.k g.children none;
          is = ap (λ (l : List ℕ). space ∷ (l ++ (closing ∷ []))) g.is;
          ascends = (g.order, g.ascends, tt);
          fresh = g.fresh;
        },
      )

      unwrap : (x : Nodes) (t z q : List ℕ) → t ≡ nodes_text x ++ (closing ∷ []) → Ascends low x → ((d : ℕ) → used e d + times d x ≤ 1)
          → t ++ z ≡ space ∷ q → (u y : List ℕ) × NodeText e low u × (u ++ y ≡ q)
      unwrap none t z q g a fresh is = no_list z q (ap (λ (l : List ℕ). l ++ z) (sym g) ∙ is)
      unwrap (node k x x₂) t z q g a fresh is =
          let after = nodes_text x₂ ++ (closing ∷ z) in
          let all = sym (opened k x x₂ (closing ∷ z)) ∙ with_list (node k x x₂) t z (space ∷ q) g is in (
            tree_text k x,
            after,
            record {
              k = k;
              children = x;
              is = refl;
              order = a.0;
              ascends = a.1;
              fresh = λ d. omega (arith, fresh d);
            },
            node_then (decimal k) (nodes_text x) after ∙ (heads space space _ q all).1,
          )

      below : Below s n at (at + 1)
      below v f w i j =
          let p : w.at ≡ at = omega arith in
          absurd (let y : ⊥ = omega (arith, w.bracket, ap (λ (a : ℕ). get_or s a 0) p) in y)

  -- after its first node
  pub in_rest : {place : ℕ} {f : Refusal} (e₁ : List ℕ) (k end : ℕ) (x : Nodes) → k < n → AllBelow n x → low ≤ k → Ascends 0 x
      → ((d : ℕ) → used e₁ d ≡ used e d + times d (node k x none))
      → drop at s ≡ nodes_text (node k x none) ++ drop end s → end ≡ at + length (nodes_text (node k x none))
      → FaultTo s n end place (ListText e₁ (k + 1)) f → FaultTo s n at place (ListText e low) f
  in_rest {place} {f} e₁ k end x kn b o a adds is ends =
      lift s n at end (nodes_text (node k x none)) is ends (ListText e₁ (k + 1)) (ListText e low) wrap
      (λ t z q g h byte. unwrap g.nodes t z q g.is g.ascends g.fresh h) below
    where
      wrap : (t : List ℕ) → ListText e₁ (k + 1) t → (post : List ℕ) × ListText e low (nodes_text (node k x none) ++ (t ++ post))
      wrap t g = (
        [],
        record {
          nodes = node k x g.nodes;
          is = ap (λ (l : List ℕ). nodes_text (node k x none) ++ l) (append-nil t ∙ g.is)
              ∙ (opened k x none (nodes_text g.nodes ++ (closing ∷ [])) ∙ sym (opened k x g.nodes (closing ∷ [])));
          ascends = (o, a, g.ascends);
          fresh = λ d. omega (arith, g.fresh d, adds d);
        },
      )

      unwrap : (y : Nodes) (t z q : List ℕ) → t ≡ nodes_text y ++ (closing ∷ []) → Ascends low y → ((d : ℕ) → used e d + times d y ≤ 1)
          → t ++ z ≡ nodes_text (node k x none) ++ q → (u v : List ℕ) × ListText e₁ (k + 1) u × (u ++ v ≡ q)
      unwrap none t z q g c fresh h = no_list z _ (ap (λ (l : List ℕ). l ++ z) (sym g) ∙ h)
      unwrap (node j y y₂) t z q g c fresh h =
          let X = nodes_text y₂ ++ (closing ∷ z) in
          let all = with_list (node j y y₂) t z (nodes_text (node k x none) ++ q) g h in
          let S = first_alike j k y x X q (sym (opened j y y₂ (closing ∷ z)) ∙ (all ∙ opened k x none q)) in (
            nodes_text y₂ ++ (closing ∷ []),
            z,
            record {
              nodes = y₂;
              is = refl;
              ascends = subst (λ (i : ℕ). Ascends (i + 1) y₂) S.0 c.2;
              fresh = λ d. omega (arith, fresh d, adds d, ap {B = ℕ} (λ i. cond (eqb d i) 1 0) S.0, ap (times d) S.1);
            },
            append_assoc (nodes_text y₂) (closing ∷ []) z ∙ S.2,
          )

      below : Below s n at end
      below v f w i j = list_below s n (node k x none) at (drop end s) (kn, b, tt) is v f w i (omega arith)

  -- no closing bracket after it
  pub not_closed : (x : Nodes) (end : ℕ) → AllBelow n x → Ascends low x → ((d : ℕ) → used e d + times d x ≤ 1)
      → drop at s ≡ nodes_text x ++ drop end s → end ≡ at + length (nodes_text x) → get_or s end 0 ≢ space → get_or s end 0 ≢ closing
      → (Large s n at → ⊥) → FaultTo s n at end (ListText e low) NotAForm
  not_closed x end b a fresh is ends ns nc before =
      stop s n at end (nodes_text x) is ends (nodes_text x ++ (closing ∷ [])) (closing ∷ [])
      (record { nodes = x; is = refl; ascends = a; fresh = fresh }) refl
      (λ v f w i j. list_below s n x at (drop end s) b is v f w i (omega (arith, some_digit s (w.at + 1) v f w.number)))
      no_more (never s n end (calm s n x at end is ends before)) (inr refl)
    where
      no_more : (t z q : List ℕ) → ListText e low t → t ++ z ≡ nodes_text x ++ q → get_or q 0 0 ≡ get_or s end 0 → Complete s n (end + 1) → ⊥
      no_more t z q g h byte c =
          let A = alike g.nodes x z q (λ p. ns (sym byte ∙ p)) (with_list g.nodes t z (nodes_text x ++ q) g.is h) in
          nc (sym byte ∙ ap (λ (l : List ℕ). get_or l 0 0) (sym A.1))
