-- What the reader accepts is a node, and a list of nodes. Assumes nothing.
use Rattle.std.specs.Prelude.{Some, None}
use Prim.Native.Nat.{◌+◌, ◌<◌, ◌≤◌, suc, zero, ℕ}
use borrow.Author.Tests.{ne_eqb}
use lib.Dec.{eqb}
use lib.ListN.{drop, get_or, length, length-append, set}
use mathlib.Core.Bool.{cond}
use mathlib.Core.List.{List, [], ◌++◌, ◌∷◌, append_assoc}
use mathlib.Core.Logic.{◌≢◌, inl, inr}
use mathlib.Core.Path.{◌∙◌, ◌≡◌, ap, refl, subst, sym}
use native.Mathlib.Decide.{dec_lt, ℕ_discrete}
use native.Mathlib.Nat.{add-zero}
use native.Mathlib.Omega.{arith}
use Rattle.decimal.specs.Number.{number_at, Read, read}
use Rattle.decimal.proofs.Cases.{in_text, rest}
use Rattle.decimal.proofs.Numbers.{number_sound}
use Rattle.decimal.specs.Exact.{Stands}
use Rattle.decimal.specs.Text.{decimal}
use Rattle.refusal.proofs.Table.{not_both}
use Rattle.refusal.specs.declared.Refusal.{Refusal}
use Rattle.refusal.specs.declared.Refusal.TheVariants.{NotAForm, UnknownNode}
use Rattle.refusal.specs.Table.{Accepted}
use Rattle.tree_text.proofs.Lists.{Lists, more, none}
use Rattle.tree_text.proofs.Steps.{body_is, close_no, close_yes, enter_again, enter_large, enter_low, enter_new, enter_wrong, list_next, list_none, list_zero, node_no, node_yes, then_no, then_yes, verdict_of}
use Rattle.tree_text.specs.Read.{and_then, body_of, closed, entered, list_of, node_of, placed, refused, stepped}
use Rattle.tree_text.specs.Text.{closing, opening, space}
use Rattle.tree_text.specs.Read.{Reading}

-- ---- the parts of a reading that is accepted

then_accepted : (r : Reading) (f : Reading → Reading) (m : Reading) → and_then r f ≡ m → m.verdict ≡ Accepted → (r.verdict ≡ Accepted) × (f r ≡ m)
then_accepted r f m h a =
    elim (verdict_of r.verdict) [
      | inl p ↦ (p, sym (then_yes r f p) ∙ h)
      | inr q ↦ absurd (not_both a (ap (λ (x : Reading). x.verdict) (sym h ∙ then_no r f q.0 q.1) ∙ q.1))
    ]

not_refused : (r m : Reading) (e : Refusal) → refused r e ≡ m → m.verdict ≡ Accepted → ⊥
not_refused r m e h a = not_both a (ap (λ (x : Reading). x.verdict) (sym h))

pub record EnterTaken (n : ℕ) (r m : Reading) (by low : ℕ) (num : Read ℕ) : Type 0 where
  pub k : ℕ
  pub at : ℕ
  pub number : num ≡ read k at
  pub inside : k < n
  pub order : low ≤ k
  pub entry : get_or r.engager k 16 ≡ 16
  pub placing : m ≡ placed r k by at

pub enter_taken : (n : ℕ) (r m : Reading) (by low : ℕ) (num : Read ℕ) → entered n r by low num ≡ m → m.verdict ≡ Accepted → EnterTaken n r m by low num
enter_taken n r m by low None h a = absurd (not_refused r m NotAForm (sym (enter_wrong n r by low) ∙ h) a)
enter_taken n r m by low (Some (k, at)) h a =
    elim (dec_lt k n) [
      | no g ↦ absurd (not_refused r m UnknownNode (sym (enter_large n r by low k at (omega arith)) ∙ h) a)
      | yes l ↦
          elim (dec_lt k low) [
            | yes b ↦ absurd (not_refused r m NotAForm (sym (enter_low n r by low k at l b) ∙ h) a)
            | no o ↦
                elim (ℕ_discrete (get_or r.engager k 16) 16) [
                  | no f ↦ absurd (not_refused r m NotAForm (sym (enter_again n r by low k at l (omega arith) f) ∙ h) a)
                  | yes f ↦ record {
                    k = k;
                    at = at;
                    number = refl;
                    inside = l;
                    order = omega arith;
                    entry = f;
                    placing = sym h ∙ enter_new n r by low k at l (omega arith) f;
                  }
                ]
          ]
    ]

record CloseTaken (s : List ℕ) (k : ℕ) (c m : Reading) : Type 0 where
  stands : drop c.at s ≡ closing ∷ drop m.at s
  same : m.engager ≡ c.engager
  node : m.node ≡ k
  end : m.at ≡ c.at + 1

close_taken : (s : List ℕ) (k : ℕ) (c m : Reading) → closed s k c ≡ m → m.verdict ≡ Accepted → CloseTaken s k c m
close_taken s k c m h a =
    elim (ℕ_discrete (get_or s c.at 0) closing) [
      | no q ↦ absurd (not_refused c m NotAForm (sym (close_no s k c q) ∙ h) a)
      | yes q ↦
          let e = sym h ∙ close_yes s k c q in
          record {
            stands = rest s c.at (in_text s c.at (omega arith))
                ∙ (ap (λ (x : ℕ). x ∷ drop (c.at + 1) s) q ∙ ap (λ (x : Reading). closing ∷ drop x.at s) (sym e));
            same = ap (λ (x : Reading). x.engager) e;
            node = ap (λ (x : Reading). x.node) e;
            end = ap (λ (x : Reading). x.at) e;
          }
    ]

-- ---- a node and a list

pub record NodeTaken (s : List ℕ) (n : ℕ) (r m : Reading) (by low : ℕ) : Type 0 where
  pub k : ℕ
  pub inside : k < n
  pub order : low ≤ k
  pub entry : get_or r.engager k 16 ≡ 16
  pub node : m.node ≡ k
  pub text : List ℕ
  pub nodes : Lists n k 0 (set r.engager k (cond (eqb by 16) k by)) m.engager text
  pub stands : drop r.at s ≡ opening ∷ (decimal k ++ (text ++ (closing ∷ drop m.at s)))
  pub end : m.at ≡ r.at + 1 + length (decimal k) + length text + 1

pub record ListTaken (s : List ℕ) (n : ℕ) (r m : Reading) (k low : ℕ) : Type 0 where
  pub text : List ℕ
  pub nodes : Lists n k low r.engager m.engager text
  pub stands : drop r.at s ≡ text ++ drop m.at s
  pub end : m.at ≡ r.at + length text
  pub stop : get_or s m.at 0 ≢ space

module _ (s : List ℕ) (n : ℕ) (n16 : n ≤ 16) where
  abbrev pub TakesLists : ℕ → Type 0
  TakesLists left =
      (r m : Reading) (k low : ℕ) → k < 16 → list_of left s n r k low ≡ m → m.verdict ≡ Accepted → ListTaken s n r m k low

  number_stands : (at k e : ℕ) → number_at s at ≡ read k e → k < n → Stands s at k e
  number_stands at k e h kn =
      let w = number_sound s at k e h in
      let same : w.0 ≡ k = omega (arith, w.2) in
      subst (λ (x : ℕ). Stands s at x e) same w.1

  node_by : (left : ℕ) → TakesLists left → (r m : Reading) (by low : ℕ) → get_or s r.at 0 ≡ opening
      → node_of left s n r by low ≡ m → m.verdict ≡ Accepted → NodeTaken s n r m by low
  node_by left lists r m by low q h a =
      let A = then_accepted (entered n r by low (number_at s (r.at + 1))) (body_of (list_of left s n) s) m (sym (node_yes left s n r by low q) ∙ h) a in
      let E = enter_taken n r (entered n r by low (number_at s (r.at + 1))) by low (number_at s (r.at + 1)) refl A.0 in
      let M : Reading = placed r E.k by E.at in
      let body : and_then (list_of left s n M E.k 0) (closed s E.k) ≡ m =
      sym (body_is left s n M) ∙ (ap (body_of (list_of left s n) s) (sym E.placing) ∙ A.1) in
      let B = then_accepted (list_of left s n M E.k 0) (closed s E.k) m body a in
      let L = lists M (list_of left s n M E.k 0) E.k 0 (omega (arith, E.inside)) refl B.0 in
      let C = close_taken s E.k (list_of left s n M E.k 0) m B.1 a in
      let number = number_stands (r.at + 1) E.k E.at E.number E.inside in
      record {
        k = E.k;
        inside = E.inside;
        order = E.order;
        entry = E.entry;
        node = C.node;
        text = L.text;
        nodes = subst (λ (x : List ℕ). Lists n E.k 0 (set r.engager E.k (cond (eqb by 16) E.k by)) x L.text) (sym C.same) L.nodes;
        stands = rest s r.at (in_text s r.at (omega arith))
            ∙ (ap (λ (x : ℕ). x ∷ drop (r.at + 1) s) q
            ∙ ap (λ (x : List ℕ). opening ∷ x)
            (number.text
            ∙ ap (λ (x : List ℕ). decimal E.k ++ x) (L.stands ∙ ap (λ (x : List ℕ). L.text ++ x) C.stands)));
        end = omega (arith, C.end, L.end, number.ends);
      }

  node_taken : (left : ℕ) → TakesLists left → (r m : Reading) (by low : ℕ) → node_of left s n r by low ≡ m → m.verdict ≡ Accepted
      → NodeTaken s n r m by low
  node_taken left lists r m by low h a =
      elim (ℕ_discrete (get_or s r.at 0) opening) [
        | yes q ↦ node_by left lists r m by low q h a
        | no q ↦ absurd (not_refused r m NotAForm (sym (node_no left s n r by low q) ∙ h) a)
      ]

  list_by : (left : ℕ) → TakesLists left → (r m : Reading) (k low : ℕ) → k < 16 → get_or s r.at 0 ≡ space
      → list_of (suc left) s n r k low ≡ m → m.verdict ≡ Accepted → ListTaken s n r m k low
  list_by left lists r m k low k16 q h a =
      let N : Reading = node_of left s n (stepped r) k low in
      let A = then_accepted N (λ x. list_of left s n x k (x.node + 1)) m (sym (list_next s n r k low left q) ∙ h) a in
      let T = node_taken left lists (stepped r) N k low refl A.0 in
      let R = lists N m k (N.node + 1) k16 A.1 a in
      let by_k : cond (eqb k 16) T.k k ≡ k = rw (ne_eqb k 16 (omega arith)) in
      record {
        text = space ∷ (opening ∷ (decimal T.k ++ (T.text ++ (closing ∷ R.text))));
        nodes = more T.k T.order T.inside T.entry
            (subst (λ (x : ℕ). Lists n T.k 0 (set r.engager T.k x) N.engager T.text) by_k T.nodes)
            (subst (λ (x : ℕ). Lists n k (x + 1) N.engager m.engager R.text) T.node R.nodes);
        stands = rest s r.at (in_text s r.at (omega arith))
            ∙ (ap (λ (x : ℕ). x ∷ drop (r.at + 1) s) q
            ∙ ap (λ (x : List ℕ). space ∷ x)
            (T.stands
            ∙ ap (λ (x : List ℕ). opening ∷ x)
            (ap (λ (x : List ℕ). decimal T.k ++ (T.text ++ (closing ∷ x))) R.stands
            ∙ sym (append_assoc (decimal T.k) (T.text ++ (closing ∷ R.text)) (drop m.at s)
            ∙ ap (λ (x : List ℕ). decimal T.k ++ x) (append_assoc T.text (closing ∷ R.text) (drop m.at s))))));
        end = simp length-append (omega (arith, T.end, R.end));
        stop = R.stop;
      }

  pub list_taken : (left : ℕ) → TakesLists left
  list_taken zero r m k low k16 h a = absurd (not_refused r m NotAForm (sym (list_zero s n r k low) ∙ h) a)
  list_taken (suc left) r m k low k16 h a =
      elim (ℕ_discrete (get_or s r.at 0) space) [
        | yes q ↦ list_by left (list_taken left) r m k low k16 q h a
        | no q ↦ stop q (sym (list_none s n r k low (suc left) (omega arith) q) ∙ h)
      ]
    where
      stop : get_or s r.at 0 ≢ space → r ≡ m → ListTaken s n r m k low
      stop q e = record {
        text = [];
        nodes = subst (λ (x : Reading). Lists n k low r.engager x.engager []) e none;
        stands = ap (λ (x : Reading). drop x.at s) e;
        end = ap (λ (x : Reading). x.at) (sym e) ∙ sym (add-zero r.at);
        stop = λ z. q (ap (λ (x : Reading). get_or s x.at 0) e ∙ z);
      }

  -- a list, and a node, that the reader accepts
  pub taken : (left : ℕ) (r m : Reading) (by low : ℕ) → node_of left s n r by low ≡ m → m.verdict ≡ Accepted → NodeTaken s n r m by low
  taken left = node_taken left (list_taken left)
