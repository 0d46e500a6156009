-- The text of a tree that breaks off: without the node that is opened there, and with what is open closed, it is the text of a tree again.
-- Assumes nothing.
use Prim.Native.Nat.{◌+◌, ◌<◌, ◌≤◌, ℕ}
use lib.ListN.{drop, get_or, length, length-append}
use mathlib.Core.List.{List, [], ◌++◌, ◌∷◌, append_assoc, append-nil}
use mathlib.Core.Path.{◌∙◌, ◌≡◌, ap, refl, subst, sym}
use native.Mathlib.Decide.{dec_lt}
use native.Mathlib.Omega.{arith}
use Rattle.decimal.proofs.Cases.{advance, take_head}
use Rattle.decimal.specs.Text.{decimal}
use Rattle.tree_faults.proofs.Nodes.{no_digit, node_size, node_then, opened, parts, stands_from}
use Rattle.tree_faults.proofs.Numbers.{heads, longer}
use Rattle.tree_faults.proofs.Places.{Complete}
use Rattle.tree_faults.specs.Theorems.{NumberTo}
use Rattle.tree_faults.specs.Trees.{AllBelow, Ascends, Nodes, node, nodes_text, none, times, tree_text}
use Rattle.tree_text.specs.Text.{closing, opening, space}

-- u, the beginning of the text of x: what is kept of it, and what is opened after that
pub record Cut (n : ℕ) (text : Nodes → List ℕ) (x : Nodes) (u : List ℕ) : Type 0 where
  pub kept : List ℕ
  pub opened : List ℕ
  pub split : u ≡ kept ++ opened
  pub number : ℕ
  pub more : List ℕ
  pub opens : space ∷ (opening ∷ decimal number) ≡ opened ++ more
  pub nodes : Nodes
  pub rest : List ℕ
  pub is : text nodes ≡ kept ++ rest
  pub below : AllBelow n nodes
  pub ascends : (low : ℕ) → Ascends low x → Ascends low nodes
  pub fewer : (d : ℕ) → times d nodes ≤ times d x

-- the numbers of s that are complete before p are below n
module _ (s : List ℕ) (n p : ℕ) (complete : Complete s n p) where
  -- so are those of a list that ends there
  all_below : (x : Nodes) (at : ℕ) (D : List ℕ) → drop at s ≡ nodes_text x ++ D → at + length (nodes_text x) ≤ p → AllBelow n x
  all_below none at D h l = tt
  all_below (node k x y) at D h l =
      let P = parts s at k x y D h in
      let q = at + 1 + 1 + length (decimal k) in
      let number : NumberTo s k q = record { at = at + 1; bracket = P.bracket; number = P.number } in (
        complete k q number (omega (arith, node_size k x y)),
        all_below x q (closing ∷ (nodes_text y ++ D)) P.children (omega (arith, node_size k x y)),
        all_below y (q + length (nodes_text x) + 1) D P.after (omega (arith, node_size k x y)),
      )

  abbrev Cuts : Nodes → Type 0
  Cuts x = (at : ℕ) (D u rest : List ℕ) → drop at s ≡ nodes_text x ++ D → nodes_text x ≡ u ++ rest → p ≡ at + length u → Cut n nodes_text x u

  -- ---- a node

  module _ (k at : ℕ) (x : Nodes) (D : List ℕ) (stands : drop at s ≡ tree_text k x ++ D) where
    after_bracket : (get_or s at 0 ≡ opening) × (drop (at + 1) s ≡ decimal k ++ (nodes_text x ++ (closing ∷ D)))
    after_bracket = take_head s at opening _ (stands ∙ node_then (decimal k) (nodes_text x) D)

    -- its number is complete
    pub inside : at + 1 + length (decimal k) < p → k < n
    inside h =
        complete k (at + 1 + length (decimal k))
        (record {
          at = at;
          bracket = after_bracket.0;
          number = stands_from s (at + 1) k (nodes_text x ++ (closing ∷ D)) after_bracket.1 (no_digit x D);
        }) h

    list_stands : drop (at + 1 + length (decimal k)) s ≡ nodes_text x ++ (closing ∷ D)
    list_stands = advance s (decimal k) (nodes_text x ++ (closing ∷ D)) (at + 1) after_bracket.1

    pub list_below : at + 1 + length (decimal k) + length (nodes_text x) ≤ p → AllBelow n x
    list_below = all_below x (at + 1 + length (decimal k)) (closing ∷ D) list_stands

    -- the text breaks off after its number
    pub cut_node : Cuts x → (u rest : List ℕ) → tree_text k x ≡ u ++ rest → p ≡ at + length u → 1 + length (decimal k) < length u
        → (C : Cut n (tree_text k) x u) × (0 < length C.kept)
    cut_node cuts u rest is ends l =
        elim (dec_lt (length (nodes_text x)) (length u₁)) [
          | yes g ↦ (whole (omega arith), omega arith)
          | no g ↦ (in_list (omega arith), omega arith)
        ]
      where
        pre : List ℕ
        pre = opening ∷ decimal k

        L : (w : List ℕ) × (u ≡ pre ++ w) × (nodes_text x ++ (closing ∷ []) ≡ w ++ rest)
        L = longer pre (nodes_text x ++ (closing ∷ [])) u rest is (omega arith)

        u₁ : List ℕ
        u₁ = L.0

        size : length u ≡ 1 + length (decimal k) + length u₁
        size = omega (arith, simp length-append at (ap length L.1))

        whole : length (nodes_text x) < length u₁ → Cut n (tree_text k) x u
        whole g = record {
          kept = u;
          opened = [];
          split = sym (append-nil u);
          number = k;
          more = space ∷ pre;
          opens = refl;
          nodes = x;
          rest = rest;
          is = is;
          below = list_below (omega (arith, size));
          ascends = λ low a. a;
          fewer = λ d. omega arith;
        }

        in_list : length u₁ ≤ length (nodes_text x) → Cut n (tree_text k) x u
        in_list g =
            let R = longer u₁ rest (nodes_text x) (closing ∷ []) (sym L.2) g in
            let C = cuts (at + 1 + length (decimal k)) (closing ∷ D) u₁ R.0 list_stands R.1 (omega (arith, size)) in
            record {
              kept = pre ++ C.kept;
              opened = C.opened;
              split = L.1 ∙ (ap (λ (l : List ℕ). pre ++ l) C.split ∙ sym (append_assoc pre C.kept C.opened));
              number = C.number;
              more = C.more;
              opens = C.opens;
              nodes = C.nodes;
              rest = C.rest ++ (closing ∷ []);
              is = ap (λ (l : List ℕ). pre ++ (l ++ (closing ∷ []))) C.is ∙ simp append_assoc;
              below = C.below;
              ascends = C.ascends;
              fewer = C.fewer;
            }

  -- ---- a list

  -- in what its first node begins with
  nothing_kept : (x : Nodes) (u : List ℕ) (k : ℕ) (more : List ℕ) → space ∷ (opening ∷ decimal k) ≡ u ++ more → Cut n nodes_text x u
  nothing_kept x u k more h = record {
    kept = [];
    opened = u;
    split = refl;
    number = k;
    more = more;
    opens = h;
    nodes = none;
    rest = [];
    is = refl;
    below = tt;
    ascends = λ low a. tt;
    fewer = λ d. omega arith;
  }

  module _ (k : ℕ) (x y : Nodes) (cuts_x : Cuts x) (cuts_y : Cuts y) (at : ℕ) (D u rest : List ℕ)
      (stands : drop at s ≡ nodes_text (node k x y) ++ D) (is : tree_text k x ++ nodes_text y ≡ u ++ rest) (ends : p ≡ at + 1 + length u)
    where
      abbrev one : List ℕ
      one = tree_text k x

      node_stands : drop (at + 1) s ≡ one ++ (nodes_text y ++ D)
      node_stands = (take_head s at space _ (stands ∙ opened k x y D)).1 ∙ sym (node_then (decimal k) (nodes_text x) (nodes_text y ++ D))

      one_size : length one ≡ 1 + length (decimal k) + length (nodes_text x) + 1
      one_size = simp length-append (omega arith)

      kn : 1 + length (decimal k) < length u → k < n
      kn l = inside k (at + 1) x (nodes_text y ++ D) node_stands (omega arith)

      -- in its first node
      first_node : 1 + length (decimal k) < length u → length u ≤ length one → Cut n nodes_text (node k x y) (space ∷ u)
      first_node l g =
          let R = longer u rest one (nodes_text y) (sym is) g in
          let C = (cut_node k (at + 1) x (nodes_text y ++ D) node_stands cuts_x u R.0 R.1 ends l).0 in
          record {
            kept = space ∷ C.kept;
            opened = C.opened;
            split = ap (λ (l : List ℕ). space ∷ l) C.split;
            number = C.number;
            more = C.more;
            opens = C.opens;
            nodes = node k C.nodes none;
            rest = C.rest;
            is = ap (λ (l : List ℕ). space ∷ l) C.is;
            below = (kn l, C.below, tt);
            ascends = λ low a. (a.0, C.ascends 0 a.1, tt);
            fewer = λ d. omega (arith, C.fewer d);
          }

      -- after it
      nodes_after : length one < length u → Cut n nodes_text (node k x y) (space ∷ u)
      nodes_after g =
          let M = longer one (nodes_text y) u rest is (omega arith) in
          let size = ap length M.1 ∙ length-append one M.0 in
          let C = cuts_y (at + 1 + length one) D M.0 rest (advance s one (nodes_text y ++ D) (at + 1) node_stands) M.2
          (omega (arith, size)) in
          record {
            kept = space ∷ (one ++ C.kept);
            opened = C.opened;
            split = ap (λ (l : List ℕ). space ∷ l)
                (M.1 ∙ (ap (λ (l : List ℕ). one ++ l) C.split ∙ sym (append_assoc one C.kept C.opened)));
            number = C.number;
            more = C.more;
            opens = C.opens;
            nodes = node k x C.nodes;
            rest = C.rest;
            is = ap (λ (l : List ℕ). space ∷ l)
                (sym (node_then (decimal k) (nodes_text x) (nodes_text C.nodes))
                ∙ (ap (λ (l : List ℕ). one ++ l) C.is ∙ sym (append_assoc one C.kept C.rest)));
            below = (
              kn (omega (arith, one_size)),
              list_below k (at + 1) x (nodes_text y ++ D) node_stands (omega (arith, one_size)),
              C.below,
            );
            ascends = λ low a. (a.0, a.1, C.ascends (k + 1) a.2);
            fewer = λ d. omega (arith, C.fewer d);
          }

      cut_nodes : Cut n nodes_text (node k x y) (space ∷ u)
      cut_nodes =
          elim (dec_lt (1 + length (decimal k)) (length u)) [
            | no g ↦
                let pre = opening ∷ decimal k in
                let more = nodes_text x ++ (closing ∷ nodes_text y) in
                let R = longer u rest pre more (sym is ∙ node_then (decimal k) (nodes_text x) (nodes_text y)) (omega arith) in
                nothing_kept (node k x y) (space ∷ u) k R.0 (ap (λ (l : List ℕ). space ∷ l) R.1)
            | yes l ↦ elim (dec_lt (length one) (length u)) [ no g ↦ first_node l (omega arith) | yes g ↦ nodes_after g ]
          ]

  cut_more : (k : ℕ) (x y : Nodes) → Cuts x → Cuts y → Cuts (node k x y)
  cut_more k x y cuts_x cuts_y at D [] rest stands is ends = nothing_kept (node k x y) [] k _ refl
  cut_more k x y cuts_x cuts_y at D (b ∷ u) rest stands is ends =
      let h = heads space b _ (u ++ rest) is in
      subst (λ (c : ℕ). Cut n nodes_text (node k x y) (c ∷ u)) h.0
      (cut_nodes k x y cuts_x cuts_y at D u rest stands (node_then (decimal k) (nodes_text x) (nodes_text y) ∙ h.1) (omega arith))

  cut_none : Cuts none
  cut_none at D [] rest stands is ends = nothing_kept none [] 0 _ refl
  cut_none at D (b ∷ u) rest stands is ends = absurd (let z : ⊥ = omega (arith, ap length is) in z)

  pub cut_list : (x : Nodes) → Cuts x
  cut_list none = cut_none
  cut_list (node k x y) = cut_more k x y (cut_list x) (cut_list y)
