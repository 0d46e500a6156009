-- The theorems of specs/Theorems.antt. Assumes nothing.
use Prim.Native.Nat.{◌<◌, ◌≤◌, ℕ}
use borrow.Author.Tests.{eq-eqb, le-leb, le-ltb, leb-true, lt-leb, lt-ltb, ltb-true, ne_eqb}
use lib.Dec.{leb, ltb}
use lib.ListN.{get_or-eq_default, drop, drop_of_length-le, get_or, length}
use mathlib.Core.Bool.{◌&&◌, false}
use mathlib.Core.List.{List, [], ◌++◌, ◌∷◌}
use mathlib.Core.Logic.{◌≢◌, inl, inr}
use mathlib.Core.Path.{◌∙◌, ◌≡◌, ap, refl, subst, sym}
use native.Mathlib.Decide.{ℕ_discrete}
use native.Mathlib.Omega.{arith}
use Rattle.decimal.specs.Text.{decimal}
use Rattle.laws.proofs.Tests.{both, not_eq, split}
use Rattle.refusal.proofs.Table.{not_both}
use Rattle.refusal.specs.declared.Refusal.{Refusal}
use Rattle.refusal.specs.declared.Refusal.TheVariants.{NodeCount, NotAForm}
use Rattle.refusal.specs.Table.{Accepted, Refused}
use Rattle.tree_rules.specs.Soundness.{Sound}
use Rattle.tree_rules.specs.State.{State, climb}
use Rattle.tree_text.proofs.Depth.{depth}
use Rattle.tree_text.proofs.Given.{node_read}
use Rattle.tree_text.proofs.Lists.{Lists, New, alone, alone_places, few_left, in_range_lem, keeps, others, root_there, sized}
use Rattle.tree_text.proofs.Printed.{node_next}
use Rattle.tree_text.proofs.Steps.{verdict_of}
use Rattle.tree_text.proofs.Taken.{taken}
use Rattle.tree_text.proofs.Texts.{Owns, chain, text_is}
use Rattle.tree_text.proofs.Trees.{tree_lists}
use Rattle.tree_text.specs.Read.{end_of, fresh, node_of, nothing, read_of}
use Rattle.tree_text.specs.Text.{closing, list_text, opening, text_of}
use Rattle.tree_text.specs.Theorems.{DepthEnough, EngagementTree, NodeCountFirst, ReadBack, ReadExact, given}
use Rattle.tree_text.specs.Read.{Found}
use Rattle.tree_text.specs.Read.{Reading}

-- ---- trees

-- the text of a tree: the root with its list
text_whole : (e : List ℕ) (root : ℕ) → text_of e root ≡ opening ∷ (decimal root ++ (list_text 15 e root 0 ++ (closing ∷ [])))
text_whole e root = node_next 15 e root

pub sound_tree : (t : State) → Sound t → EngagementTree t.n t.engager t.root
sound_tree t S = record {
  places = S.shape.engager_places;
  nodes = S.nodes;
  root_in = S.root_in;
  root_own = S.root_own;
  engagers = S.engagers;
  unused = λ i l h. (S.unused i l h).no_engager;
  chains = λ i h ne. S.chains i h (not_eq (ne_eqb (get_or t.engager i 16) 16 ne));
}

climb_zero : (e : List ℕ) (i : ℕ) → climb e 0 i ≡ i
unfolding climb
climb_zero e i = refl

-- ---- what was read

-- N is in range, and the reading went well to the text's end
record Read (n : ℕ) (s : List ℕ) : Type 0 where
  some : 0 < n
  nodes : n ≤ 16
  last : Reading
  node : node_of 16 s n fresh 16 0 ≡ last
  fine : last.verdict ≡ Accepted
  end : last.at ≡ length s
  is : read_of n s ≡ given last.engager last.node

not_nothing : (f : Found) (e : Refusal) → f ≡ nothing e → f.verdict ≡ Accepted → ⊥
not_nothing f e h a = not_both a (ap (λ (x : Found). x.verdict) h)

pub read_end : (n : ℕ) (s : List ℕ) → 0 < n → n ≤ 16 → read_of n s ≡ end_of s (node_of 16 s n fresh 16 0)
unfolding read_of
read_end n s h k = rw (lt-ltb 0 n h, le-leb n 16 k)

read_none : (n : ℕ) (s : List ℕ) → (ltb 0 n && leb n 16) ≡ false → read_of n s ≡ nothing NodeCount
unfolding read_of
read_none n s h = rw h

pub read_few : (n : ℕ) (s : List ℕ) → n ≡ 0 → read_of n s ≡ nothing NodeCount
read_few n s h = read_none n s (rw (le-ltb 0 n (omega arith)))

pub read_many : (n : ℕ) (s : List ℕ) → 16 < n → read_of n s ≡ nothing NodeCount
read_many n s h = read_none n s (rw (lt-ltb 0 n (omega arith), lt-leb n 16 h))

pub end_fine : (s : List ℕ) (m : Reading) → m.verdict ≡ Accepted → m.at ≡ length s → end_of s m ≡ given m.engager m.node
end_fine s m a h = rw (a, eq-eqb m.at (length s) h)

pub end_short : (s : List ℕ) (m : Reading) → m.verdict ≡ Accepted → m.at ≢ length s → end_of s m ≡ nothing NotAForm
end_short s m a h = rw (a, ne_eqb m.at (length s) h)

pub end_refused : (s : List ℕ) (m : Reading) (e : Refusal) → m.verdict ≡ Refused e → end_of s m ≡ nothing e
end_refused s m e a = rw a

read_of_lem : (n : ℕ) (s : List ℕ) → (read_of n s).verdict ≡ Accepted → Read n s
read_of_lem n s a =
    elim (split (ltb 0 n && leb n 16)) [
      | inr q ↦ absurd (not_nothing (read_of n s) NodeCount (read_none n s q) a)
      | inl p ↦ let w = both (ltb 0 n) (leb n 16) p in inside (ltb-true 0 n w.0) (leb-true n 16 w.1)
    ]
  where
    m : Reading
    m = node_of 16 s n fresh 16 0

    inside : 0 < n → n ≤ 16 → Read n s
    inside h k =
        elim (verdict_of m.verdict) [
          | inr q ↦ absurd (not_nothing (read_of n s) q.0 (read_end n s h k ∙ end_refused s m q.0 q.1) a)
          | inl f ↦
              elim (ℕ_discrete m.at (length s)) [
                | no q ↦ absurd (not_nothing (read_of n s) NotAForm (read_end n s h k ∙ end_short s m f q) a)
                | yes q ↦ record {
                  some = h;
                  nodes = k;
                  last = m;
                  node = refl;
                  fine = f;
                  end = q;
                  is = read_end n s h k ∙ end_fine s m f q;
                }
              ]
        ]

-- the root with its list, and nothing after it
record Whole (n : ℕ) (s : List ℕ) : Type 0 where
  root : ℕ
  e : List ℕ
  text : List ℕ
  nodes : n ≤ 16
  root_in : root < n
  lists : Lists n root 0 (alone root) e text
  stands : s ≡ opening ∷ (decimal root ++ (text ++ (closing ∷ [])))
  is : read_of n s ≡ given e root

whole_of : (n : ℕ) (s : List ℕ) → (read_of n s).verdict ≡ Accepted → Whole n s
whole_of n s a =
    let R = read_of_lem n s a in
    let T = taken s n R.nodes 16 fresh R.last 16 0 R.node R.fine in
    let all : length s ≤ R.last.at = omega (arith, R.end) in
    let past : drop R.last.at s ≡ [] = drop_of_length-le s all in
    record {
      root = T.k;
      e = R.last.engager;
      text = T.text;
      nodes = R.nodes;
      root_in = T.inside;
      lists = T.nodes;
      stands = T.stands ∙ ap (λ (x : List ℕ). opening ∷ (decimal T.k ++ (T.text ++ (closing ∷ x)))) past;
      is = R.is ∙ ap (given R.last.engager) T.node;
    }

module _ {n : ℕ} {s : List ℕ} (W : Whole n s) where
  r16 : W.root < 16
  r16 = omega (arith, W.root_in, W.nodes)

  root_set : get_or (alone W.root) W.root 16 ≢ 16
  root_set q = omega (arith, r16, sym (root_there W.root r16) ∙ q)

  root_own : get_or W.e W.root 16 ≡ W.root
  root_own = keeps W.lists W.root root_set ∙ root_there W.root r16

  came : (d : ℕ) → d ≢ W.root → get_or W.e d 16 ≢ 16 → New (alone W.root) W.e d
  came d ne h = record { was = others W.root d ne; is = h }

  past_end : (d : ℕ) → 16 ≤ d → get_or W.e d 16 ≡ 16
  past_end d h = get_or-eq_default W.e 16 (omega (arith, sized W.lists (alone_places W.root)))

  owns : Owns W.e W.root 0 (alone W.root) W.e
  owns = record {
    extends = λ d h. refl;
    there = root_set;
    children = λ d _ q ne. came d ne (omega (arith, q, r16));
    inner = λ d j w q.
        came d (stray d j w q)
        (λ z. w.is (ap (λ (x : ℕ). get_or W.e x 16) (sym q ∙ z) ∙ past_end 16 (omega arith)));
  }
    where
      stray : (d j : ℕ) → New (alone W.root) W.e j → get_or W.e d 16 ≡ j → d ≡ W.root → ⊥
      stray d j w q z =
          let j_root : j ≡ W.root = sym q ∙ ap (λ (x : ℕ). get_or W.e x 16) z ∙ root_own in
          root_set (subst (λ (x : ℕ). get_or (alone W.root) x 16 ≡ 16) j_root w.was)

  is_text : s ≡ text_of W.e W.root
  is_text =
      W.stands
      ∙ sym (text_whole W.e W.root
      ∙ ap (λ (x : List ℕ). opening ∷ (decimal W.root ++ (x ++ (closing ∷ []))))
      (text_is W.e 15 W.nodes r16 (omega arith) (alone_places W.root) (few_left W.root r16) owns W.lists))

  -- an engaged node: the root, or one that came in
  engaged_in : (d : ℕ) → get_or W.e d 16 ≢ 16 → (d < n) × (get_or W.e d 16 < n)
  engaged_in d h =
      elim (ℕ_discrete d W.root) [
        | yes p ↦ (omega (arith, W.root_in), omega (arith, W.root_in, ap (λ (x : ℕ). get_or W.e x 16) p ∙ root_own))
        | no q ↦ in_range_lem W.nodes W.root_in (alone_places W.root) W.lists d (came d q h)
      ]

  is_tree : EngagementTree n W.e W.root
  is_tree = record {
    places = sized W.lists (alone_places W.root);
    nodes = W.nodes;
    root_in = W.root_in;
    root_own = root_own;
    engagers = λ i _. elim (ℕ_discrete (get_or W.e i 16) 16) [ yes p ↦ inr p | no q ↦ inl (engaged_in i q).1 ];
    unused = λ i l _. elim (ℕ_discrete (get_or W.e i 16) 16) [
      | yes p ↦ p
      | no q ↦ absurd (let y : ⊥ = omega (arith, (engaged_in i q).0) in y)
    ];
    chains = λ i _ h. elim (ℕ_discrete i W.root) [
      | yes p ↦ (0, climb_zero W.e i ∙ p)
      | no q ↦ chain W.e W.nodes r16 (alone_places W.root) (λ d _. refl) W.lists i (came i q h)
    ];
  }

pub read_exact : ReadExact
read_exact = record { is_tree = tree; is_text = text }
  where
    tree : (n : ℕ) (s : List ℕ) → (read_of n s).verdict ≡ Accepted → EngagementTree n (read_of n s).engager (read_of n s).root
    tree n s a = let W = whole_of n s a in subst (λ (f : Found). EngagementTree n f.engager f.root) (sym W.is) (is_tree W)

    text : (n : ℕ) (s : List ℕ) → (read_of n s).verdict ≡ Accepted → s ≡ text_of (read_of n s).engager (read_of n s).root
    text n s a = let W = whole_of n s a in subst (λ (f : Found). s ≡ text_of f.engager f.root) (sym W.is) (is_text W)

-- ---- reading what was written

read_tree : (n : ℕ) (e : List ℕ) (root : ℕ) → EngagementTree n e root → read_of n (text_of e root) ≡ given e root
read_tree n e root T =
    let s = text_of e root in
    let m : Reading = record { verdict = Accepted; engager = e; at = length s; node = root } in
    let read : node_of 16 s n fresh 16 0 ≡ m = node_read s n T.nodes 16 root (tree_lists n e root T) T.root_in (omega arith) (text_whole e root) in
    read_end n s (omega (arith, T.root_in)) T.nodes ∙ (ap (end_of s) read ∙ end_fine s m refl refl)

pub read_back : ReadBack
read_back = record { tree = read_tree; state = λ t S. read_tree t.n t.engager t.root (sound_tree t S) }

-- N is judged first, whatever the text
pub node_count_first : NodeCountFirst
node_count_first = record { few = λ s. read_few 0 s refl; many = read_many }

pub depth_enough : DepthEnough
depth_enough = record { any = λ n s left h. depth s n h left }
