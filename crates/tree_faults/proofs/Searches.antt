-- Trees of n nodes are finitely many: whether the text of one begins with u is decided, so that there is a longest such beginning of a text.
-- Assumes nothing.
use Prim.Native.Nat.{◌<◌, ◌≤◌, suc, zero, ℕ}
use lib.ListN.{drop, get_or, length, take, take-append-drop}
use lib.Seq.{take-append_seam}
use mathlib.Core.List.{List, [], ◌++◌, ◌∷◌}
use mathlib.Core.Logic.{inl, inr}
use mathlib.Core.Path.{◌∙◌, ◌≡◌, ap, refl, subst, sym}
use native.Mathlib.Decide.{dec_lt, map_dec, ℕ_discrete}
use native.Mathlib.Omega.{arith}
use Rattle.refusal.proofs.Table.{not_both}
use Rattle.refusal.specs.Table.{Verdict}
use Rattle.refusal.specs.Table.{Accepted}
use Rattle.tree_faults.proofs.Numbers.{heads}
use Rattle.tree_faults.specs.Theorems.{BeginsWritten}
use Rattle.tree_text.proofs.Steps.{verdict_of}
use Rattle.tree_text.proofs.Theorems.{read_back, read_exact}
use Rattle.tree_text.specs.Read.{read_of}
use Rattle.tree_text.specs.Text.{text_of}
use Rattle.tree_text.specs.Theorems.{EngagementTree}
use Rattle.tree_text.specs.Read.{Found}

-- ---- searches

some_below : (m : ℕ) (P : ℕ → Type 0) → ((i : ℕ) → Dec (P i)) → Dec ((i : ℕ) × (i < m) × P i)
some_below zero P d = no (λ w. let y : ⊥ = omega (arith, w.1) in y)
some_below (suc m) P d =
    elim (d m) [
      | yes p ↦ yes (m, omega arith, p)
      | no q ↦
          elim (some_below m P d) [
            | yes w ↦ yes (w.0, omega (arith, w.1), w.2)
            | no r ↦
                no (λ w. elim (ℕ_discrete w.0 m) [ yes z ↦ q (subst P z w.2) | no z ↦ r (w.0, omega (arith, w.1), w.2) ])
          ]
    ]

-- the greatest number to m
pub record Greatest (P : ℕ → Type 0) (from m : ℕ) : Type 0 where
  pub last : ℕ
  pub before : from ≤ last
  pub after : last ≤ m
  pub holds : P last
  pub most : (i : ℕ) → i ≤ m → P i → i ≤ last

not_last : (P : ℕ → Type 0) (m : ℕ) → (P (suc m) → ⊥) → (i : ℕ) → i ≤ suc m → P i → i ≤ m
not_last P m q i l r = elim (ℕ_discrete i (suc m)) [ yes z ↦ absurd (q (subst P z r)) | no z ↦ omega arith ]

pub greatest : (P : ℕ → Type 0) → ((i : ℕ) → Dec (P i)) → (from m : ℕ) → P from → from ≤ m → Greatest P from m
greatest P d from zero p h = record { last = from; before = omega arith; after = h; holds = p; most = λ i l q. omega arith }
greatest P d from (suc m) p h =
    elim (d (suc m)) [
      | yes q ↦ record { last = suc m; before = h; after = omega arith; holds = q; most = λ i l r. l }
      | no q ↦
          let G = greatest P d from m p (not_last P m q from h p) in
          record {
            last = G.last;
            before = G.before;
            after = omega (arith, G.after);
            holds = G.holds;
            most = λ i l r. G.most i (not_last P m q i l r) r;
          }
    ]

-- a list of m numbers of at most 16
record Small (m : ℕ) (P : List ℕ → Type 0) : Type 0 where
  list : List ℕ
  size : length list ≡ m
  small : (i : ℕ) → i < m → get_or list i 16 < 17
  holds : P list

no_tail : (P : List ℕ → Type 0) (l : List ℕ) → length l ≡ 0 → P l → P []
no_tail P [] e p = p
no_tail P (b ∷ l) e p = absurd (let y : ⊥ = omega arith in y)

abbrev Longer : ℕ → (List ℕ → Type 0) → Type 0
Longer m P = (b : ℕ) × (b < 17) × Small m (λ l. P (b ∷ l))

longer_list : (m : ℕ) (P : List ℕ → Type 0) → Longer m P → Small (suc m) P
longer_list m P (b, h, w) = record { list = b ∷ w.list; size = omega (arith, w.size); small = at; holds = w.holds }
  where
    at : (i : ℕ) → i < suc m → get_or (b ∷ w.list) i 16 < 17
    at zero l = h
    at (suc i) l = w.small i (omega arith)

head_tail : (m : ℕ) (P : List ℕ → Type 0) (l : List ℕ) → length l ≡ suc m → ((i : ℕ) → i < suc m → get_or l i 16 < 17) → P l → Longer m P
head_tail m P [] e s p = absurd (let y : ⊥ = omega arith in y)
head_tail m P (b ∷ l) e s p =
    (b, s 0 (omega arith), record { list = l; size = omega arith; small = λ i h. s (suc i) (omega arith); holds = p })

some_list : (m : ℕ) (P : List ℕ → Type 0) → ((l : List ℕ) → Dec (P l)) → Dec (Small m P)
some_list zero P d =
    elim (d []) [
      | yes p ↦ yes (record { list = []; size = refl; small = λ i h. absurd (let y : ⊥ = omega arith in y); holds = p })
      | no q ↦ no (λ w. q (no_tail P w.list w.size w.holds))
    ]
some_list (suc m) P d =
    elim (some_below 17 (λ b. Small m (λ l. P (b ∷ l))) (λ b. some_list m (λ l. P (b ∷ l)) (λ l. d (b ∷ l)))) [
      | yes w ↦ yes (longer_list m P w)
      | no q ↦ no (λ w. q (head_tail m P w.list w.size w.small w.holds))
    ]

same_list : (a b : List ℕ) → Dec (a ≡ b)
same_list [] [] = yes refl
same_list [] (y ∷ b) = no (λ e. let z : ⊥ = omega (arith, ap length e) in z)
same_list (x ∷ a) [] = no (λ e. let z : ⊥ = omega (arith, ap length e) in z)
same_list (x ∷ a) (y ∷ b) =
    elim (ℕ_discrete x y) [
      | no q ↦ no (λ e. q (heads x y a b e).0)
      | yes p ↦
          elim (same_list a b) [
            | yes q ↦ yes (ap (λ (z : ℕ). z ∷ a) p ∙ ap (λ (l : List ℕ). y ∷ l) q)
            | no q ↦ no (λ e. q (heads x y a b e).1)
          ]
    ]

accepted : (v : Verdict) → Dec (v ≡ Accepted)
accepted v = elim (verdict_of v) [ inl a ↦ yes a | inr w ↦ no (λ a. not_both a w.1) ]

-- ---- the text of a tree

pub written_from : (n : ℕ) (s u rest : List ℕ) → (read_of n s).verdict ≡ Accepted → s ≡ u ++ rest → BeginsWritten n u
written_from n s u rest a is = record {
  engagers = (read_of n s).engager;
  root = (read_of n s).root;
  rest = rest;
  tree = read_exact.is_tree n s a;
  text = sym (read_exact.is_text n s a) ∙ is;
}

module _ (n : ℕ) (u : List ℕ) (n16 : n ≤ 16) where
  -- the reader accepts the text, and u is what it begins with
  abbrev Begun : List ℕ → ℕ → Type 0
  Begun e root = ((read_of n (text_of e root)).verdict ≡ Accepted) × (take (length u) (text_of e root) ≡ u)

  begun : (e : List ℕ) (root : ℕ) → Dec (Begun e root)
  begun e root =
      elim (accepted (read_of n (text_of e root)).verdict) [
        | no q ↦ no (λ w. q w.0)
        | yes p ↦ elim (same_list (take (length u) (text_of e root)) u) [ yes r ↦ yes (p, r) | no r ↦ no (λ w. r w.1) ]
      ]

  abbrev Rooted : List ℕ → Type 0
  Rooted e = (root : ℕ) × (root < n) × Begun e root

  found : Small 16 Rooted → BeginsWritten n u
  found w =
      let R = w.holds in
      let t = text_of w.list R.0 in
      written_from n t u (drop (length u) t) R.2.0 (sym (take-append-drop (length u) t) ∙ ap (λ (l : List ℕ). l ++ drop (length u) t) R.2.1)

  engager_small : {e : List ℕ} {root : ℕ} → EngagementTree n e root → (i : ℕ) → i < 16 → get_or e i 16 < 17
  engager_small T i h =
      elim (dec_lt i n) [
        | yes l ↦ elim (T.engagers i l) [ inl a ↦ omega arith | inr a ↦ omega arith ]
        | no g ↦ omega (arith, T.unused i (omega arith) h)
      ]

  finds : BeginsWritten n u → Small 16 Rooted
  finds w =
      let T = w.tree in
      let read = ap (λ (x : Found). x.verdict) (read_back.tree n w.engagers w.root T) in
      record {
        list = w.engagers;
        size = T.places;
        small = engager_small T;
        holds = (w.root, T.root_in, (read, ap (take (length u)) w.text ∙ take-append_seam u w.rest));
      }

  pub written_or_not : Dec (BeginsWritten n u)
  written_or_not = map_dec found finds (some_list 16 Rooted (λ e. some_below n (Begun e) (begun e)))
