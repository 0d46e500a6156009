-- No text meets the bound on the depth: each node that is entered is one fewer that can be. Assumes nothing.
use Prim.Native.Nat.{◌+◌, ◌<◌, ◌≤◌, suc, zero, ℕ}
use borrow.Author.Tests.{eq-eqb, ne_eqb}
use lib.Dec.{eqb}
use lib.ListN.{get_or, length, length-set}
use mathlib.Core.Bool.{cond}
use mathlib.Core.List.{List}
use mathlib.Core.Logic.{inl, inr}
use mathlib.Core.Path.{◌∙◌, ◌≡◌, ap, refl, subst, sym}
use native.Mathlib.Decide.{ℕ_discrete}
use native.Mathlib.Omega.{arith}
use Rattle.decimal.specs.Number.{number_at}
use Rattle.refusal.specs.Table.{Accepted}
use Rattle.tree_text.proofs.Lists.{blank, free, free_falls, free_most, free-set, sized}
use Rattle.tree_text.proofs.Steps.{body_is, list_next, list_none, node_no, node_yes, then_no, then_yes, verdict_of}
use Rattle.tree_text.proofs.Taken.{enter_taken, taken}
use Rattle.tree_text.specs.Read.{and_then, body_of, closed, entered, fresh, list_of, node_of, placed, stepped}
use Rattle.tree_text.specs.Text.{opening, space}
use Rattle.tree_text.specs.Read.{Reading}

module _ (s : List ℕ) (n : ℕ) (n16 : n ≤ 16) where
  abbrev Alike : ℕ → ℕ → Type 0
  Alike f g =
      (r : Reading) (k low : ℕ) → length r.engager ≡ 16 → k < 16 → free r.engager < f → free r.engager < g
      → list_of f s n r k low ≡ list_of g s n r k low

  then_alike : (r : Reading) (F G : Reading → Reading) → (r.verdict ≡ Accepted → F r ≡ G r) → and_then r F ≡ and_then r G
  then_alike r F G h =
      elim (verdict_of r.verdict) [
        | inl p ↦ then_yes r F p ∙ (h p ∙ sym (then_yes r G p))
        | inr q ↦ then_no r F q.0 q.1 ∙ sym (then_no r G q.0 q.1)
      ]

  pub value : (k by : ℕ) → k < 16 → by ≤ 16 → cond (eqb by 16) k by < 16
  value k by hk hb =
      elim (ℕ_discrete by 16) [
        | yes p ↦ subst (λ (x : ℕ). x < 16) (sym (let z : cond (eqb by 16) k by ≡ k = rw (eq-eqb by 16 p) in z)) hk
        | no q ↦ subst (λ (x : ℕ). x < 16) (sym (let z : cond (eqb by 16) k by ≡ by = rw (ne_eqb by 16 q) in z)) (omega arith)
      ]

  node_alike : (f g : ℕ) → Alike f g → (r : Reading) (by low : ℕ) → length r.engager ≡ 16 → by ≤ 16
      → free r.engager ≤ f → free r.engager ≤ g → node_of f s n r by low ≡ node_of g s n r by low
  node_alike f g ih r by low l hb hf hg =
      elim (ℕ_discrete (get_or s r.at 0) opening) [
        | no q ↦ node_no f s n r by low q ∙ sym (node_no g s n r by low q)
        | yes q ↦ node_yes f s n r by low q ∙ (then_alike m (body_of (list_of f s n) s) (body_of (list_of g s n) s) bodies ∙ sym (node_yes g s n r by low q))
      ]
    where
      m : Reading
      m = entered n r by low (number_at s (r.at + 1))

      bodies : m.verdict ≡ Accepted → body_of (list_of f s n) s m ≡ body_of (list_of g s n) s m
      bodies a =
          let E = enter_taken n r m by low (number_at s (r.at + 1)) refl a in
          let M : Reading = placed r E.k by E.at in
          let k16 : E.k < 16 = omega (arith, E.inside) in
          let fewer = free-set r.engager E.k (cond (eqb by 16) E.k by) l k16 (value E.k by k16 hb) E.entry in
          let lists : list_of f s n M E.k 0 ≡ list_of g s n M E.k 0 =
          ih M E.k 0 (length-set r.engager E.k (cond (eqb by 16) E.k by) ∙ l) k16 (omega (arith, fewer)) (omega (arith, fewer)) in
          ap (body_of (list_of f s n) s) E.placing
          ∙ (body_is f s n M
          ∙ (ap (λ (x : Reading). and_then x (closed s E.k)) lists
          ∙ (sym (body_is g s n M) ∙ ap (body_of (list_of g s n) s) (sym E.placing))))

  list_alike : (f g : ℕ) → Alike f g → Alike (suc f) (suc g)
  list_alike f g ih r k low l k16 hf hg =
      elim (ℕ_discrete (get_or s r.at 0) space) [
        | no q ↦ list_none s n r k low (suc f) (omega arith) q ∙ sym (list_none s n r k low (suc g) (omega arith) q)
        | yes q ↦
            list_next s n r k low f q
            ∙ (ap (λ (x : Reading). and_then x (λ m. list_of f s n m k (m.node + 1))) nodes
            ∙ (then_alike N (λ m. list_of f s n m k (m.node + 1)) (λ m. list_of g s n m k (m.node + 1)) rests ∙ sym (list_next s n r k low g q)))
      ]
    where
      N : Reading
      N = node_of g s n (stepped r) k low

      nodes : node_of f s n (stepped r) k low ≡ N
      nodes = node_alike f g ih (stepped r) k low l (omega arith) (omega arith) (omega arith)

      rests : N.verdict ≡ Accepted → list_of f s n N k (N.node + 1) ≡ list_of g s n N k (N.node + 1)
      rests a =
          let T = taken s n n16 g (stepped r) N k low refl a in
          let t16 : T.k < 16 = omega (arith, T.inside) in
          let l' = length-set r.engager T.k (cond (eqb k 16) T.k k) ∙ l in
          let fewer = free-set r.engager T.k (cond (eqb k 16) T.k k) l t16 (value T.k k t16 (omega arith)) T.entry in
          let falls = free_falls n16 t16 l' T.nodes in
          ih N k (N.node + 1) (sized T.nodes l') k16 (omega (arith, fewer, falls)) (omega (arith, fewer, falls))

  alike : (f g : ℕ) → Alike f g
  alike zero g r k low l k16 hf hg = absurd (let y : ⊥ = omega arith in y)
  alike (suc f) zero r k low l k16 hf hg = absurd (let y : ⊥ = omega arith in y)
  alike (suc f) (suc g) r k low l k16 hf hg = list_alike f g (alike f g) r k low l k16 hf hg

  pub depth : (left : ℕ) → 16 ≤ left → node_of left s n fresh 16 0 ≡ node_of 16 s n fresh 16 0
  depth left h =
      node_alike left 16 (alike left 16) fresh 16 0 refl (omega arith) (omega (arith, free_most blank)) (free_most blank)
