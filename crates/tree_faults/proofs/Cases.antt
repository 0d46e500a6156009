-- The cases: the reader's answer computed, the place by the parts of the text. Assumes nothing.
use Prim.Native.Nat.{◌+◌, ◌<◌, ◌≤◌, ℕ}
use lib.ListN.{drop, get_or, length, length-append, set, take, take-append-drop}
use lib.Seq.{length-take-le, take-append_seam}
use mathlib.Core.List.{List, [], ◌++◌, ◌∷◌, append_assoc}
use mathlib.Core.Path.{◌∙◌, ◌≡◌, ap, refl, subst, sym}
use native.Mathlib.Decide.{dec_lt, ℕ_discrete}
use native.Mathlib.Omega.{arith}
use Rattle.decimal.specs.Bytes.{bytes}
use Rattle.decimal.specs.Exact.{Stands}
use Rattle.decimal.specs.Number.{checked, number_at, scan_of}
use Rattle.decimal.specs.Text.{decimal, digits}
use Rattle.refusal.specs.declared.Refusal.{Refusal}
use Rattle.refusal.specs.declared.Refusal.TheVariants.{NotAForm, UnknownNode}
use Rattle.tree_faults.proofs.Nodes.{elsewhere, first_alike, here, no_digit, no_list, opened, used_most, used_none, used-set}
use Rattle.tree_faults.proofs.Numbers.{heads, longer, number_once, some_digit}
use Rattle.tree_faults.proofs.Places.{FaultTo, NodeText, in_list, in_node, in_rest, no_bracket, not_closed, zero_led}
use Rattle.tree_faults.proofs.Reader.{large, not_there, small}
use Rattle.tree_faults.proofs.Searches.{written_from}
use Rattle.tree_faults.proofs.Theorems.{place_after, place_is, tree_of}
use Rattle.tree_faults.specs.Cases.{AllCases}
use Rattle.tree_faults.specs.Theorems.{BeginsWritten, Near, WholeText}
use Rattle.tree_faults.specs.Trees.{AllBelow, Ascends, Nodes, node, nodes_text, none}
use Rattle.tree_text.proofs.Lists.{alone, blank}
use Rattle.tree_text.specs.Read.{and_then, body_of, closed, entered, list_of, node_by, node_of, read_of}
use Rattle.tree_text.specs.Text.{closing, opening, space, text_of}

-- ---- a fault under the root 0

module _ (s : List ℕ) (n p : ℕ) (f : Refusal) (some : 0 < n) (bracket : get_or s 0 0 ≡ opening) (number : Stands s 1 0 2) where
  -- in its first child
  first_child : get_or s 2 0 ≡ space → FaultTo s n 3 p (NodeText (alone 0) 0) f → FaultTo s n 0 p (NodeText blank 0) f
  first_child gap F =
      in_list s n 0 blank 0 refl (omega arith) bracket 0 2 number (alone 0) some (omega arith)
      (λ d. used-set blank 0 0 d refl (omega arith) (omega arith) refl) (in_node s n 2 (alone 0) 0 gap F)

  -- in the child after k, which has none
  second_child : (k : ℕ) → k < n → k < 16 → get_or (alone 0) k 16 ≡ 16 → drop 2 s ≡ nodes_text (node k none none) ++ drop 6 s
      → 6 ≡ 2 + length (nodes_text (node k none none)) → get_or s 6 0 ≡ space
      → FaultTo s n 7 p (NodeText (set (alone 0) k 0) (k + 1)) f → FaultTo s n 0 p (NodeText blank 0) f
  second_child k kn k16 entry is ends gap F =
      in_list s n 0 blank 0 refl (omega arith) bracket 0 2 number (alone 0) some (omega arith)
      (λ d. used-set blank 0 0 d refl (omega arith) (omega arith) refl)
      (in_rest s n 2 (alone 0) 0 (set (alone 0) k 0) k 6 none kn tt (omega arith) tt
      (λ d. omega (arith, used-set (alone 0) k 0 d refl k16 (omega arith) entry)) is ends
      (in_node s n 6 (set (alone 0) k 0) (k + 1) gap F))

-- ---- the places

empty : FaultTo [] 4 0 0 (NodeText blank 0) NotAForm
empty = no_bracket [] 4 0 blank 0 refl (omega arith) (omega arith) (λ w. omega (arith, some_digit [] (w.1.at + 1) w.0 0 w.1.number))

zero_alone : WholeText 4 (bytes "(0)")
unfolding decimal digits
zero_alone = record {
  root = 0;
  children = none;
  tree = record {
    ascends = tt;
    once = λ d. elim (ℕ_discrete d 0) [ yes p ↦ omega (arith, here d 0 p) | no q ↦ omega (arith, elsewhere d 0 q) ];
  };
  numbers = (omega arith, tt, tt);
  text = refl;
}

cut_off : FaultTo (bytes "(0 (1") 4 0 5 (NodeText blank 0) NotAForm
unfolding decimal digits
cut_off =
    let s = bytes "(0 (1" in
    let one : Stands s 4 1 5 = record { text = refl; ends = refl; last = refl } in
    first_child s 4 5 NotAForm (omega arith) refl (record { text = refl; ends = refl; last = refl }) refl
    (in_list s 4 3 (alone 0) 0 refl (omega arith) refl 1 5 one (set (alone 0) 1 0) (omega arith) (omega arith)
    (λ d. used-set (alone 0) 1 0 d refl (omega arith) (omega arith) refl)
    (not_closed s 4 5 (set (alone 0) 1 0) 0 none 5 tt tt (λ d. omega (arith, used_most (set (alone 0) 1 0) d)) refl refl (omega arith) (omega arith)
    (small s 4 (omega arith) (omega arith) 3 (alone 0) 0 refl (omega arith) refl 1 5 one (omega arith))))

leading_zero : FaultTo (bytes "(3 (03))") 4 0 5 (NodeText blank 0) NotAForm
unfolding decimal digits
leading_zero =
    let s = bytes "(3 (03))" in
    in_list s 4 0 blank 0 refl (omega arith) refl 3 2 (record { text = refl; ends = refl; last = refl }) (alone 3) (omega arith) (omega arith)
    (λ d. used-set blank 3 3 d refl (omega arith) (omega arith) refl)
    (in_node s 4 2 (alone 3) 0 refl
    (zero_led s 4 3 (alone 3) 0 refl (omega arith) refl refl refl (omega arith) (used_none (alone 3) 0 refl)))

falling : FaultTo (bytes "(0 (2) (1))") 4 0 9 (NodeText blank 0) NotAForm
unfolding decimal digits
falling =
    let s = bytes "(0 (2) (1))" in
    second_child s 4 9 NotAForm (omega arith) refl (record { text = refl; ends = refl; last = refl })
    2 (omega arith) (omega arith) refl refl refl refl
    (not_there s 4 (omega arith) (omega arith) 7 (set (alone 0) 2 0) 3 refl (omega arith) refl 1 9 (record { text = refl; ends = refl; last = refl })
    (omega arith) (omega arith) (λ o u. omega arith))

twelve : FaultTo (bytes "(0 (12))") 4 0 6 (NodeText blank 0) UnknownNode
unfolding decimal digits
twelve =
    let s = bytes "(0 (12))" in
    first_child s 4 6 UnknownNode (omega arith) refl (record { text = refl; ends = refl; last = refl }) refl
    (large s 4 (omega arith) (omega arith) 3 (alone 0) 0 refl (omega arith) refl 12 6 (record { text = refl; ends = refl; last = refl }) (omega arith))

five : FaultTo (bytes "(0 (1) (5))") 2 0 9 (NodeText blank 0) UnknownNode
unfolding decimal digits
five =
    let s = bytes "(0 (1) (5))" in
    second_child s 2 9 UnknownNode (omega arith) refl (record { text = refl; ends = refl; last = refl })
    1 (omega arith) (omega arith) refl refl refl refl
    (large s 2 (omega arith) (omega arith) 7 (set (alone 0) 1 0) 2 refl (omega arith) refl 5 9 (record { text = refl; ends = refl; last = refl })
    (omega arith))

five_of_four : FaultTo (bytes "(0 (3) (5))") 4 0 9 (NodeText blank 0) UnknownNode
unfolding decimal digits
five_of_four =
    let s = bytes "(0 (3) (5))" in
    second_child s 4 9 UnknownNode (omega arith) refl (record { text = refl; ends = refl; last = refl })
    3 (omega arith) (omega arith) refl refl refl refl
    (large s 4 (omega arith) (omega arith) 7 (set (alone 0) 3 0) 4 refl (omega arith) refl 5 9 (record { text = refl; ends = refl; last = refl })
    (omega arith))

-- ---- by the texts of trees of n nodes

-- after child k of the root 0
module _ (n k : ℕ) (last_number : n ≤ k + 1) where
  abbrev upto : List ℕ
  upto = opening ∷ (decimal 0 ++ nodes_text (node k none none))

  no_node : (y : Nodes) (x : List ℕ) → Ascends (k + 1) y → AllBelow n y → nodes_text y ++ (closing ∷ []) ≡ space ∷ x → ⊥
  no_node none x a b e = no_list [] x e
  no_node (node d y z) x a b e = omega (arith, a.0, b.0)

  no_child : (c : Nodes) (x : List ℕ) → Ascends 0 c → AllBelow n c → nodes_text c ++ (closing ∷ []) ≡ nodes_text (node k none none) ++ (space ∷ x) → ⊥
  no_child none x a b e = no_list [] _ e
  no_child (node d c y) x a b e =
      let S = first_alike d k c none (nodes_text y ++ (closing ∷ [])) (space ∷ x)
      (sym (opened d c y (closing ∷ [])) ∙ (e ∙ opened k none none (space ∷ x))) in
      no_node y x (subst (λ (i : ℕ). Ascends (i + 1) y) S.0 a.2) b.2 S.2

  no_text : (t x : List ℕ) → WholeText n t → t ≡ upto ++ (space ∷ x) → ⊥
  no_text t x W e =
      let rest = nodes_text (node k none none) ++ (space ∷ x) in
      let all : opening ∷ (decimal W.root ++ (nodes_text W.children ++ (closing ∷ []))) ≡ opening ∷ (decimal 0 ++ rest) =
      sym W.text ∙ (e ∙ ap (λ (l : List ℕ). opening ∷ l) (append_assoc (decimal 0) (nodes_text (node k none none)) (space ∷ x))) in
      let R = number_once W.root 0 (nodes_text W.children ++ (closing ∷ [])) rest (no_digit W.children []) refl
      (heads opening opening _ _ all).1 in
      no_child W.children x W.tree.ascends W.numbers.1 R.1

  module _ (s z : List ℕ) (place : ℕ) (is : s ≡ upto ++ (space ∷ z)) (fits : place ≤ length s) (N : Near n s place) where
    no_further : length upto < N.last → ⊥
    no_further l =
        let u = take N.last s in
        let W = N.written in
        let size : length u ≡ N.last = length-take-le N.last s (omega (arith, N.after)) in
        let gap = upto ++ (space ∷ []) in
        let L = longer gap z u (drop N.last s) (append_assoc upto (space ∷ []) z ∙ (sym is ∙ sym (take-append-drop N.last s)))
        (omega (arith, size, length-append upto (space ∷ []))) in
        no_text (text_of W.engagers W.root) (L.0 ++ W.rest) (tree_of n W.engagers W.root W.tree)
        (W.text
        ∙ (ap (λ (l : List ℕ). l ++ W.rest) L.1 ∙ (append_assoc gap L.0 W.rest ∙ append_assoc upto (space ∷ []) (L.0 ++ W.rest))))

    last_is : BeginsWritten n upto → N.last ≡ length upto
    last_is here =
        let front : take (length upto) s ≡ upto = ap (take (length upto)) is ∙ take-append_seam upto (space ∷ z) in
        let least = N.longest (length upto) (omega (arith, ap length is, length-append upto (space ∷ z))) (subst (BeginsWritten n) (sym front) here) in
        elim (dec_lt (length upto) N.last) [ yes l ↦ absurd (no_further l) | no g ↦ omega (arith, least) ]

pub all_cases : AllCases
unfolding decimal digits scan_of checked number_at and_then entered closed body_of node_by list_of node_of read_of
all_cases = record {
  empty = (NotAForm, refl, refl, place_is empty);
  after_the_end = (NotAForm, refl, refl, place_after (space ∷ []) zero_alone refl);
  cut_off = (NotAForm, refl, refl, place_is cut_off);
  leading_zero = (NotAForm, refl, refl, place_is leading_zero);
  falling = (NotAForm, refl, refl, place_is falling);
  twelve_of_four = (UnknownNode, refl, refl, place_is twelve);
  five_of_two = (UnknownNode, refl, refl, place_is five);
  two_by_trees = λ N. last_is 2 1 (omega arith) (bytes "(0 (1) (5))") (bytes "(5))") 9 refl (omega arith) N
      (written_from 2 (bytes "(0 (1))") (bytes "(0 (1)") (bytes ")") refl refl);
  five_of_four = (UnknownNode, refl, refl, place_is five_of_four);
  four_by_trees = λ N. last_is 4 3 (omega arith) (bytes "(0 (3) (5))") (bytes "(5))") 9 refl (omega arith) N
      (written_from 4 (bytes "(0 (3))") (bytes "(0 (3)") (bytes ")") refl refl);
}
