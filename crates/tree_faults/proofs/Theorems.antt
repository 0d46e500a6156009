-- `FirstFault`. Assumes nothing.
use Prim.Native.Nat.{◌+◌, ◌<◌, ◌≤◌, ℕ}
use borrow.Author.Tests.{ne_eqb}
use lib.Dec.{eqb}
use lib.ListN.{get_or-append, drop, get_or, length, length-append, length-drop, take, take-append-drop}
use lib.Seq.{drop-append-le, length-take-le, take-append_seam}
use mathlib.Core.Bool.{Bool, cond}
use mathlib.Core.List.{List, [], ◌++◌, ◌∷◌, append_assoc, append-nil}
use mathlib.Core.Logic.{◌↔◌, inl, inr}
use mathlib.Core.Path.{◌∙◌, ◌≡◌, ap, refl, subst, sym}
use native.Mathlib.Decide.{dec_lt, ℕ_discrete}
use native.Mathlib.Omega.{arith}
use Rattle.decimal.proofs.Cases.{advance, take_head}
use Rattle.decimal.proofs.Decimal.{decimal_some}
use Rattle.decimal.specs.Exact.{Stands}
use Rattle.decimal.specs.Number.{digit_b}
use Rattle.decimal.specs.Text.{decimal}
use Rattle.refusal.proofs.Table.{not_both}
use Rattle.refusal.specs.declared.Refusal.{Refusal}
use Rattle.refusal.specs.declared.Refusal.TheVariants.{NotAForm, UnknownNode}
use Rattle.refusal.specs.Table.{Accepted, Refused}
use Rattle.tree_faults.proofs.Cuts.{Cut, cut_list, cut_node, inside}
use Rattle.tree_faults.proofs.Nodes.{first_alike, list_below, list_of_lem, listed, no_digit, no_number_to, node_then, number_below, stands_from, used, used_most, used_none, used-set}
use Rattle.tree_faults.proofs.Numbers.{longer, same_front, some_digit}
use Rattle.tree_faults.proofs.Places.{Complete, FaultAt, FaultTo, Large, NodeText, never, ten_of}
use Rattle.tree_faults.proofs.Reader.{root_fault, same_refusal}
use Rattle.tree_faults.proofs.Searches.{greatest, written_from, written_or_not}
use Rattle.tree_faults.specs.Theorems.{BeginsText, BeginsWritten, Fault, FirstFault, Near, NumberTo, OpenedTo, WholeText}
use Rattle.tree_faults.specs.Trees.{nodes_text, none, tree_text}
use Rattle.tree_text.proofs.Given.{node_read}
use Rattle.tree_text.proofs.Lists.{Lists, alone, alone_places, bare, blank, none as no_more}
use Rattle.tree_text.proofs.Printed.{node_next}
use Rattle.tree_text.proofs.Steps.{verdict_of}
use Rattle.tree_text.proofs.Taken.{taken}
use Rattle.tree_text.proofs.Theorems.{end_fine, end_refused, end_short, read_end, read_exact}
use Rattle.tree_text.proofs.Trees.{tree_lists}
use Rattle.tree_text.specs.Read.{end_of, fresh, node_of, nothing, read_of}
use Rattle.tree_text.specs.Text.{closing, opening, space, text_of}
use Rattle.tree_text.specs.Theorems.{EngagementTree}
use Rattle.tree_text.specs.Read.{Found}
use Rattle.tree_text.specs.Read.{Reading}

-- ---- a number in a beginning, and in the whole text

module _ (s u v : List ℕ) (is : s ≡ u ++ v) where
  byte_same : (i : ℕ) → i < length u → get_or s i 0 ≡ get_or u i 0
  byte_same i h = ap (λ (l : List ℕ). get_or l i 0) is ∙ get_or-append u v 0 i h

  left_over : (i : ℕ) → i ≤ length u → drop i s ≡ drop i u ++ v
  left_over i h = ap (drop i) is ∙ drop-append-le i u v h

  widen : (x e : ℕ) → e < length u → NumberTo u x e → NumberTo s x e
  widen x e h w =
      let d = some_digit u (w.at + 1) x e w.number in
      record {
        at = w.at;
        bracket = byte_same w.at (omega arith) ∙ w.bracket;
        number = record {
          text = left_over (w.at + 1) (omega arith)
              ∙ (ap (λ (l : List ℕ). l ++ v) w.number.text
              ∙ (append_assoc (decimal x) (drop e u) v ∙ ap (λ (l : List ℕ). decimal x ++ l) (sym (left_over e (omega arith)))));
          ends = w.number.ends;
          last = ap digit_b (byte_same e h) ∙ w.number.last;
        };
      }

  narrow : (x e : ℕ) → e < length u → NumberTo s x e → NumberTo u x e
  narrow x e h w =
      let d = some_digit s (w.at + 1) x e w.number in
      let both : drop (w.at + 1) u ++ v ≡ (decimal x ++ drop e u) ++ v =
      sym (left_over (w.at + 1) (omega arith))
      ∙ (w.number.text ∙ (ap (λ (l : List ℕ). decimal x ++ l) (left_over e (omega arith)) ∙ sym (append_assoc (decimal x) (drop e u) v))) in
      let size : length (drop (w.at + 1) u) ≡ length (decimal x ++ drop e u) =
      simp (length-drop, length-append) (omega (arith, w.number.ends)) in
      record {
        at = w.at;
        bracket = sym (byte_same w.at (omega arith)) ∙ w.bracket;
        number = record {
          text = same_front (drop (w.at + 1) u) v (decimal x ++ drop e u) v both size;
          ends = w.number.ends;
          last = ap digit_b (sym (byte_same e h)) ∙ w.number.last;
        };
      }

-- ---- a fault of the root is one of the text

none_yet : (d : ℕ) → used blank d ≡ 0
none_yet d = used_none blank d (bare d)

fault_to : (n : ℕ) (s : List ℕ) (f : Refusal) (place : ℕ) → FaultTo s n 0 place (NodeText blank 0) f → Fault n s f
fault_to n s f place F = record {
  place = place;
  inside = omega (arith, F.ends, simp length-append at (ap length F.split));
  begins = subst (BeginsText n) (sym front) whole;
  longest = longest;
  six = F.six;
  ten = ten_of s n place F.six F.ten;
}
  where
    size : place ≡ length F.upto
    size = omega (arith, F.ends)

    front : take place s ≡ F.upto
    front = ap (take place) F.split ∙ (ap (λ (i : ℕ). take i (F.upto ++ F.beyond)) size ∙ take-append_seam F.upto F.beyond)

    whole : BeginsText n F.upto
    whole = record {
      root = F.fits.k;
      children = F.fits.children;
      rest = F.rest;
      tree = record { ascends = F.fits.ascends; once = λ d. omega (arith, F.fits.fresh d) };
      text = sym F.fits.is ∙ F.begins;
      below = λ v e w h. omega (arith, F.below v e (widen s F.upto F.beyond F.split v e (omega arith) w) (omega arith) (omega arith));
    }

    longest : (p : ℕ) → p ≤ length s → BeginsText n (take p s) → p ≤ place
    longest p h B =
        let u = take p s in
        let is : s ≡ u ++ drop p s = sym (take-append-drop p s) in
        let size : length u ≡ p = length-take-le p s h in
        let T : NodeText blank 0 (tree_text B.root B.children) = record {
          k = B.root;
          children = B.children;
          is = refl;
          order = omega arith;
          ascends = B.tree.ascends;
          fresh = λ d. omega (arith, B.tree.once d, none_yet d);
        } in
        let most = F.longest (tree_text B.root B.children) [] u (drop p s) B.rest T is (append-nil _ ∙ B.text)
        (λ v e w j. omega (arith, B.below v e (narrow s u (drop p s) is v e (omega arith) w) (omega arith))) in
        omega (arith, most)

-- ---- the text of a tree, and its beginnings

root_used : (root d : ℕ) → root < 16 → used (alone root) d ≡ cond (eqb d root) 1 0
root_used root d h = used-set blank root root d refl h h (bare root) ∙ omega (arith, none_yet d)

whole_from : {n root : ℕ} {e t : List ℕ} → n ≤ 16 → root < n → Lists n root 0 (alone root) e t
    → WholeText n (opening ∷ (decimal root ++ (t ++ (closing ∷ []))))
whole_from {root = root} {e = e} n16 h lists =
    let r16 : root < 16 = omega arith in
    let Y = list_of_lem n16 r16 (alone_places root) lists in
    record {
      root = root;
      children = Y.nodes;
      tree = record { ascends = Y.ascends; once = λ d. omega (arith, Y.uses d, root_used root d r16, used_most e d) };
      numbers = (h, Y.below, tt);
      text = ap (λ (l : List ℕ). opening ∷ (decimal root ++ (l ++ (closing ∷ [])))) Y.text;
    }

pub tree_of : (n : ℕ) (e : List ℕ) (root : ℕ) → EngagementTree n e root → WholeText n (text_of e root)
tree_of n e root T = subst (WholeText n) (sym (node_next 15 e root)) (whole_from T.nodes T.root_in (tree_lists n e root T))

module _ (n : ℕ) (s : List ℕ) (W : WholeText n s) where
  number_in : (v e : ℕ) → NumberTo s v e → v < n
  number_in v e w =
      elim (dec_lt w.at p) [
        | yes l ↦ number_below s n 0 k p number W.numbers.0 v e w (omega arith) l
        | no g ↦
            elim (dec_lt w.at (p + length list)) [
              | yes l ↦ list_below s n W.children p (closing ∷ []) W.numbers.1 stands v e w (omega arith) l
              | no g₂ ↦ absurd (past (omega arith))
            ]
      ]
    where
      k : ℕ
      k = W.root

      p : ℕ
      p = 1 + length (decimal k)

      list : List ℕ
      list = nodes_text W.children

      after : drop 1 s ≡ decimal k ++ (list ++ (closing ∷ []))
      after = ap (drop 1) W.text

      number : Stands s 1 k p
      number = stands_from s 1 k (list ++ (closing ∷ [])) after (no_digit W.children [])

      stands : drop p s ≡ list ++ (closing ∷ [])
      stands = advance s (decimal k) (list ++ (closing ∷ [])) 1 after

      past : p + length list ≤ w.at → ⊥
      past h =
          let size : length s ≡ p + length list + 1 = ap length W.text ∙ simp length-append (omega arith) in
          let left = simp (length-drop, length-append) at (ap length w.number.text) in
          omega (arith, decimal_some v, left)

  begins_with : (u rest : List ℕ) → s ≡ u ++ rest → BeginsText n u
  begins_with u rest is = record {
    root = W.root;
    children = W.children;
    rest = rest;
    tree = W.tree;
    text = sym W.text ∙ is;
    below = λ v e w h. omega (arith, number_in v e (widen s u rest is v e (omega arith) w));
  }

  whole_read : 0 < n → n ≤ 16 → (read_of n s).verdict ≡ Accepted
  whole_read h k =
      let root16 : W.root < 16 = omega (arith, W.numbers.0) in
      let L = listed n W.root 0 (alone W.root) W.children k root16 (alone_places W.root) W.tree.ascends W.numbers.1
      (λ d. omega (arith, W.tree.once d, root_used W.root d root16)) in
      let m : Reading = record { verdict = Accepted; engager = L.last; at = length s; node = W.root } in
      let read : node_of 16 s n fresh 16 0 ≡ m = node_read s n k 16 W.root L.lists W.numbers.0 (omega arith) W.text in
      ap (λ (x : Found). x.verdict) (read_end n s h k ∙ (ap (end_of s) read ∙ end_fine s m refl refl))

-- something stands after the whole text of a tree
too_long : (n : ℕ) (s w D : List ℕ) → WholeText n w → s ≡ w ++ D → Fault n s NotAForm
too_long n s w D W is = record {
  place = length w;
  inside = omega (arith, simp length-append at (ap length is));
  begins = subst (BeginsText n) (sym (ap (take (length w)) is ∙ take-append_seam w D)) (begins_with n w W w [] (sym (append-nil w)));
  longest = λ p h B. elim (dec_lt (length w) p) [ no g ↦ omega arith | yes l ↦ absurd (longer_still p h B l) ];
  six = six;
  ten = ten_of s n (length w) six (inr refl);
}
  where
    k : ℕ
    k = W.root

    list : List ℕ
    list = nodes_text W.children

    q : ℕ
    q = 1 + length (decimal k) + length list

    last : length w ≡ q + 1
    last = ap length W.text ∙ simp length-append (omega arith)

    goes_on : (l : List ℕ) → w ++ l ≡ opening ∷ (decimal k ++ (list ++ (closing ∷ l)))
    goes_on l = ap (λ (x : List ℕ). x ++ l) W.text ∙ node_then (decimal k) list l

    bracket : get_or s q 0 ≡ closing
    bracket =
        let first : drop 1 s ≡ decimal k ++ (list ++ (closing ∷ D)) = ap (drop 1) (is ∙ goes_on D) in
        (take_head s q closing D
        (advance s list (closing ∷ D) (1 + length (decimal k)) (advance s (decimal k) (list ++ (closing ∷ D)) 1 first))).0

    six : (NotAForm ≡ UnknownNode) ↔ Large s n (length w)
    six = never s n (length w) (λ x. no_number_to s q (ap digit_b bracket) x.0 (subst (NumberTo s x.0) last x.1))

    longer_still : (p : ℕ) → p ≤ length s → BeginsText n (take p s) → length w < p → ⊥
    longer_still p h B l =
        let size : length (take p s) ≡ p = length-take-le p s h in
        let L = longer w D (take p s) (drop p s) (sym is ∙ sym (take-append-drop p s)) (omega arith) in
        let more : length (take p s) ≡ length w + length L.0 = simp length-append at (ap length L.1) in
        let same : tree_text B.root B.children ≡ w ++ (L.0 ++ B.rest) =
        B.text ∙ (ap (λ (x : List ℕ). x ++ B.rest) L.1 ∙ append_assoc w L.0 B.rest) in
        let A = first_alike B.root k B.children W.children [] (L.0 ++ B.rest)
        (ap (λ (x : List ℕ). space ∷ x) (same ∙ goes_on (L.0 ++ B.rest))) in
        omega (arith, simp length-append at (ap length A.2))

-- ---- a text has one place of fault

one_place : {n : ℕ} {s : List ℕ} {f : Refusal} (F G : Fault n s f) → F.place ≡ G.place
one_place F G = omega (arith, F.longest G.place G.inside G.begins, G.longest F.place F.inside F.begins)

pub place_is : {n : ℕ} {s : List ℕ} {f : Refusal} {p : ℕ} → FaultTo s n 0 p (NodeText blank 0) f → (F : Fault n s f) → F.place ≡ p
unfolding fault_to
place_is {n} {s} {f} {p} G F = one_place F (fault_to n s f p G)

pub place_after : {n : ℕ} {s w : List ℕ} (D : List ℕ) → WholeText n w → s ≡ w ++ D → (F : Fault n s NotAForm) → F.place ≡ length w
unfolding too_long
place_after {n} {s} {w} D W is F = one_place F (too_long n s w D W is)

refused_at : (n : ℕ) (s : List ℕ) (e : Refusal) → 0 < n → n ≤ 16 → (read_of n s).verdict ≡ Refused e → Fault n s e
refused_at n s e h n16 r =
    elim (verdict_of m.verdict) [
      | inr q ↦ subst (Fault n s) (so q.0 (end_refused s m q.0 q.1)) (root_of q.0 (root_fault s n h n16 q.0 q.1))
      | inl a ↦
          elim (ℕ_discrete m.at (length s)) [
            | yes q ↦
                absurd (not_both (ap (λ (x : Found). x.verdict) (read_end n s h n16 ∙ end_fine s m a q)) r)
            | no q ↦
                let T = taken s n n16 16 fresh m 16 0 refl a in
                let D = drop m.at s in
                let whole = opening ∷ (decimal T.k ++ (T.text ++ (closing ∷ []))) in
                subst (Fault n s) (so NotAForm (end_short s m a q))
                (too_long n s whole D (whole_from n16 T.inside T.nodes) (T.stands ∙ sym (node_then (decimal T.k) T.text D)))
          ]
    ]
  where
    m : Reading
    m = node_of 16 s n fresh 16 0

    root_of : (f : Refusal) → FaultAt s n 0 (NodeText blank 0) f → Fault n s f
    root_of f F = fault_to n s f F.0 F.1

    so : (f : Refusal) → end_of s m ≡ nothing f → f ≡ e
    so f p = same_refusal (ap (λ (x : Found). x.verdict) (read_end n s h n16 ∙ p)) r

-- ---- by the texts of trees of n nodes

begins_written : (n : ℕ) (u : List ℕ) → BeginsWritten n u → BeginsText n u
begins_written n u w = begins_with n (text_of w.engagers w.root) (tree_of n w.engagers w.root w.tree) u w.rest w.text

-- the node that is being opened at the place, and what stands before it
record Opening (n : ℕ) (s : List ℕ) (place : ℕ) : Type 0 where
  from : ℕ
  before : from ≤ place
  written : BeginsWritten n (take from s)
  opened : OpenedTo s from place

opening_of : (n : ℕ) (s : List ℕ) (place : ℕ) → 0 < n → n ≤ 16 → place ≤ length s → BeginsText n (take place s) → Opening n s place
opening_of n s place h n16 fits B =
    elim (dec_lt (1 + length (decimal k)) (length u)) [ no g ↦ at_root (omega arith) | yes l ↦ under_root l ]
  where
    u : List ℕ
    u = take place s

    k : ℕ
    k = B.root

    all : List ℕ
    all = tree_text k B.children

    complete : Complete all n (length u)
    complete v end w l = B.below v end (narrow all u B.rest B.text v end l w) l

    whole_written : {t : List ℕ} (v rest : List ℕ) → WholeText n t → t ≡ v ++ rest → BeginsWritten n v
    whole_written {t} v rest W = written_from n t v rest (whole_read n t W h n16)

    -- the root is
    at_root : length u ≤ 1 + length (decimal k) → Opening n s place
    at_root l =
        let R = longer u B.rest (opening ∷ decimal k) (nodes_text B.children ++ (closing ∷ [])) (sym B.text) (omega arith) in
        record {
          from = 0;
          before = omega arith;
          written = whole_written [] (tree_text 0 none) (whole_from n16 h no_more) refl;
          opened = record { part = u; is = refl; number = k; more = R.0; opens = R.1 };
        }

    -- another node is, or none
    under_root : 1 + length (decimal k) < length u → Opening n s place
    under_root l = record {
      from = length C.kept;
      before = omega (arith, length-take-le place s fits, simp length-append at (ap length C.split));
      written = subst (BeginsWritten n) (sym front) (whole_written C.kept C.rest whole C.is);
      opened = record {
        part = C.opened;
        is = C.split ∙ ap (λ (x : List ℕ). x ++ C.opened) (sym front);
        number = C.number;
        more = C.more;
        opens = ap (λ (b : Bool). cond b [] (space ∷ []) ++ (opening ∷ decimal C.number)) (ne_eqb (length C.kept) 0 (omega (arith, Q.1)))
            ∙ C.opens;
      };
    }
      where
        stands : all ≡ all ++ []
        stands = sym (append-nil all)

        Q : (C : Cut n (tree_text k) B.children u) × (0 < length C.kept)
        Q =
            cut_node all n (length u) complete k 0 B.children [] stands (cut_list all n (length u) complete B.children) u B.rest B.text
            (omega arith) l

        C : Cut n (tree_text k) B.children u
        C = Q.0

        front : take (length C.kept) s ≡ C.kept
        front =
            ap (take (length C.kept))
            (sym (take-append-drop place s)
            ∙ (ap (λ (x : List ℕ). x ++ drop place s) C.split ∙ append_assoc C.kept C.opened (drop place s)))
            ∙ take-append_seam C.kept (C.opened ++ drop place s)

        whole : WholeText n (tree_text k C.nodes)
        whole = record {
          root = k;
          children = C.nodes;
          tree = record { ascends = C.ascends 0 B.tree.ascends; once = λ d. omega (arith, B.tree.once d, C.fewer d) };
          numbers = (inside all n (length u) complete k 0 B.children [] stands (omega arith), C.below, tt);
          text = refl;
        }

near_of : (n : ℕ) (s : List ℕ) (e : Refusal) → 0 < n → n ≤ 16 → (F : Fault n s e) → Near n s F.place
near_of n s e h n16 F =
    let O = opening_of n s F.place h n16 F.inside F.begins in
    let G = greatest (λ p. BeginsWritten n (take p s)) (λ p. written_or_not n (take p s) n16) O.from F.place O.written O.before in
    record {
      last = G.last;
      written = G.holds;
      longest = λ p l w. G.most p (F.longest p l (begins_written n (take p s) w)) w;
      from = O.from;
      before = G.before;
      after = G.after;
      opened = O.opened;
    }

pub first_fault : FirstFault
first_fault = record {
  refused = refused_at;
  accepted = λ n s h n16. (
    λ a. subst (WholeText n) (sym (read_exact.is_text n s a)) (tree_of n (read_of n s).engager (read_of n s).root (read_exact.is_tree n s a)),
    λ W. whole_read n s W h n16,
  );
  written = λ n e root u rest T is. begins_written n u (record { engagers = e; root = root; rest = rest; tree = T; text = is });
  near = near_of;
}
