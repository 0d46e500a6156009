-- A node, and a list of nodes, is read to its end; and no text meets the bound on the depth. Assumes nothing.
use Prim.Native.Nat.{◌+◌, ◌<◌, ◌≤◌, min, suc, zero, ℕ}
use borrow.Author.Tests.{ne_eqb}
use lib.Dec.{eqb}
use lib.ListN.{drop, get_or, length, length-append, length-set, set}
use mathlib.Core.Bool.{cond, false}
use mathlib.Core.List.{List, [], ◌++◌, ◌∷◌, append_assoc}
use mathlib.Core.Logic.{◌≢◌}
use mathlib.Core.Path.{◌∙◌, ◌≡◌, ap, refl, sym}
use native.Mathlib.Nat.{add-zero}
use native.Mathlib.Omega.{arith}
use Rattle.decimal.proofs.Cases.{advance, first_of, take_head}
use Rattle.decimal.proofs.Numbers.{number_found}
use Rattle.decimal.specs.Number.{digit_b, number_at, read}
use Rattle.decimal.specs.Text.{decimal}
use Rattle.refusal.specs.Table.{Accepted}
use Rattle.tree_text.proofs.Lists.{Lists, alone, alone_places, bare, few_left, free, free_falls, free-set, more, no_digit, none, sized}
use Rattle.tree_text.proofs.Steps.{body_is, close_yes, enter_new, list_next, list_none, node_yes, then_yes}
use Rattle.tree_text.specs.Read.{and_then, body_of, closed, entered, fresh, list_of, node_of, placed, stepped}
use Rattle.tree_text.specs.Text.{closing, opening, space}
use Rattle.tree_text.specs.Read.{Reading}

-- a reading that went well
record Got (m : Reading) (e : List ℕ) (at : ℕ) : Type 0 where
  fine : m.verdict ≡ Accepted
  same : m.engager ≡ e
  end : m.at ≡ at

abbrev after : List ℕ → ℕ → ℕ → Reading
after e at k = record { verdict = Accepted; engager = e; at = at; node = k }

module _ (s : List ℕ) (n : ℕ) (n16 : n ≤ 16) where
  number_read : (at k : ℕ) (u : List ℕ) → k < n → drop at s ≡ decimal k ++ u → digit_b (get_or u 0 0) ≡ false
      → number_at s at ≡ read k (at + length (decimal k))
  number_read at k u kn h d =
      let c : min k 100000 ≡ k = omega arith in
      number_found s at k u h d ∙ ap (λ (x : ℕ). read x (at + length (decimal k))) c

  -- a node whose list is read
  node_given :
      (left : ℕ) (r : Reading) (by low k : ℕ) {e e' t : List ℕ} (u : List ℕ) → Lists n k 0 e e' t
      → k < n → low ≤ k → get_or r.engager k 16 ≡ 16
      → drop r.at s ≡ opening ∷ (decimal k ++ (t ++ (closing ∷ u)))
      → Got (list_of left s n (placed r k by (r.at + 1 + length (decimal k))) k 0) e' (r.at + 1 + length (decimal k) + length t)
      → node_of left s n r by low ≡ after e' (r.at + 1 + length (decimal k) + length t + 1) k
  node_given left r by low k {e} {e'} {t} u a kn lk f h g =
      let th = take_head s r.at opening (decimal k ++ (t ++ (closing ∷ u))) h in
      let at = r.at + 1 + length (decimal k) in
      let num : number_at s (r.at + 1) ≡ read k at = number_read (r.at + 1) k (t ++ (closing ∷ u)) kn th.1 (no_digit u a) in
      let enter : entered n r by low (number_at s (r.at + 1)) ≡ placed r k by at = ap (entered n r by low) num ∙ enter_new n r by low k at kn lk f in
      let M : Reading = placed r k by at in
      let L : Reading = list_of left s n M k 0 in
      let stands : drop at s ≡ t ++ (closing ∷ u) = advance s (decimal k) (t ++ (closing ∷ u)) (r.at + 1) th.1 in
      let bracket : get_or s L.at 0 ≡ closing =
      ap (λ (x : ℕ). get_or s x 0) g.end ∙ first_of s (closing ∷ u) (at + length t) (advance s t (closing ∷ u) at stands) in
      node_yes left s n r by low th.0
      ∙ (ap (λ (x : Reading). and_then x (body_of (list_of left s n) s)) enter
      ∙ (then_yes M (body_of (list_of left s n) s) refl
      ∙ (body_is left s n M
      ∙ (then_yes L (closed s k) g.fine
      ∙ (close_yes s k L bracket
      ∙ (ap (λ (x : List ℕ). after x (L.at + 1) k) g.same ∙ ap (λ (x : ℕ). after e' (x + 1) k) g.end))))))

  list_given :
      {k low : ℕ} {e e' t : List ℕ} → Lists n k low e e' t → (left : ℕ) (r : Reading) (u : List ℕ) → k < 16 → length e ≡ 16
      → r.engager ≡ e → r.verdict ≡ Accepted → free e < left → drop r.at s ≡ t ++ u → get_or u 0 0 ≢ space
      → Got (list_of left s n r k low) e' (r.at + length t)
  list_given {k} {low} none left r u k16 l re fine fr h nu =
      let q = list_none s n r k low left (omega arith) (λ z. nu (sym (first_of s u r.at h) ∙ z)) in
      record {
        fine = ap (λ (x : Reading). x.verdict) q ∙ fine;
        same = ap (λ (x : Reading). x.engager) q ∙ re;
        end = ap (λ (x : Reading). x.at) q ∙ sym (add-zero r.at);
      }
  list_given {k} {low} (more c lc cn f a b) zero r u k16 l re fine fr h nu = absurd (let y : ⊥ = omega arith in y)
  list_given {k} {low} {e} {e'} (more {e₁ = e₁} {t = t} {u = t₂} c lc cn f a b) (suc left) r u k16 l re fine fr h nu =
      let th = take_head s r.at space ((opening ∷ (decimal c ++ (t ++ (closing ∷ t₂)))) ++ u) h in
      let d = decimal c in
      let h₁ : drop (r.at + 1) s ≡ opening ∷ (d ++ (t ++ (closing ∷ (t₂ ++ u)))) =
      th.1 ∙ ap (λ (x : List ℕ). opening ∷ x) (append_assoc d (t ++ (closing ∷ t₂)) u ∙ ap (λ (x : List ℕ). d ++ x) (append_assoc t (closing ∷ t₂) u)) in
      let at = r.at + 1 + 1 + length d in
      let M : Reading = placed (stepped r) c k at in
      let by_k : cond (eqb k 16) c k ≡ k = rw (ne_eqb k 16 (omega arith)) in
      let me : M.engager ≡ set e c k = ap (λ (x : List ℕ). set x c (cond (eqb k 16) c k)) re ∙ ap (set e c) by_k in
      let l' : length (set e c k) ≡ 16 = length-set e c k ∙ l in
      let c16 : c < 16 = omega arith in
      let fewer = free-set e c k l c16 k16 f in
      let tail : drop at s ≡ t ++ (closing ∷ (t₂ ++ u)) =
      advance s d (t ++ (closing ∷ (t₂ ++ u))) (r.at + 1 + 1) (take_head s (r.at + 1) opening (d ++ (t ++ (closing ∷ (t₂ ++ u)))) h₁).1 in
      let no_space : get_or (closing ∷ (t₂ ++ u)) 0 0 ≢ space = omega arith in
      let g = list_given a left M (closing ∷ (t₂ ++ u)) c16 l' me refl (omega (arith, fewer)) tail no_space in
      let node = node_given left (stepped r) k low c (t₂ ++ u) a cn lc (ap (λ (x : List ℕ). get_or x c 16) re ∙ f) h₁ g in
      let R : Reading = after e₁ (at + length t + 1) c in
      let past : drop R.at s ≡ t₂ ++ u = (take_head s (at + length t) closing (t₂ ++ u) (advance s t (closing ∷ (t₂ ++ u)) at tail)).1 in
      let g₂ = list_given b left R u k16 (sized a l') refl refl (omega (arith, fewer, free_falls n16 c16 l' a)) past nu in
      let all : list_of (suc left) s n r k low ≡ list_of left s n R k (c + 1) =
      list_next s n r k low left th.0
      ∙ (ap (λ (x : Reading). and_then x (λ m. list_of left s n m k (m.node + 1))) node ∙ then_yes R (λ m. list_of left s n m k (m.node + 1)) refl) in
      record {
        fine = ap (λ (x : Reading). x.verdict) all ∙ g₂.fine;
        same = ap (λ (x : Reading). x.engager) all ∙ g₂.same;
        end = ap (λ (x : Reading). x.at) all ∙ (g₂.end ∙ simp length-append (omega arith));
      }

  -- a whole node is read
  pub node_read : (left k : ℕ) {e t : List ℕ} → Lists n k 0 (alone k) e t → k < n → 16 ≤ left
      → s ≡ opening ∷ (decimal k ++ (t ++ (closing ∷ []))) → node_of left s n fresh 16 0 ≡ after e (length s) k
  node_read left k {e} {t} a kn hl h =
      let at = 0 + 1 + length (decimal k) in
      let k16 : k < 16 = omega arith in
      let tail : drop at s ≡ t ++ (closing ∷ []) = advance s (decimal k) (t ++ (closing ∷ [])) (0 + 1) (take_head s 0 opening (decimal k ++ (t ++ (closing ∷ []))) h).1 in
      let no_space : get_or (closing ∷ []) 0 0 ≢ space = omega arith in
      let g = list_given a left (placed fresh k 16 at) (closing ∷ []) k16 (alone_places k) refl refl (omega (arith, few_left k k16)) tail no_space in
      let size : at + length t + 1 ≡ length s = omega (arith, simp length-append at (ap length h)) in
      node_given left fresh 16 0 k [] a kn (omega arith) (bare k) h g ∙ ap (λ (x : ℕ). after e x k) size
