-- A store to one node's place in a column is BUT at that address; engagers as addresses. Assumes nothing.
use Prim.Native.Nat.{◌*◌, ◌+◌, ◌<◌, ◌≤◌, ℕ}
use borrow.Author.Tests.{eq-eqb, ne_eqb}
use lib.Dec.{eqb}
use lib.ListN.{get_or, length, set}
use lib.Seq.{get_or-set_other, get_or-set_same}
use mathlib.Core.Bool.{cond}
use mathlib.Core.List.{List}
use mathlib.Core.Logic.{◌≢◌}
use mathlib.Core.Path.{◌∙◌, ◌≡◌, ap, fun_ext, sym}
use native.Mathlib.Decide.{ℕ_discrete}
use native.Mathlib.Omega.{arith}
use Rattle.laws.proofs.Indicators.{set_here}
use Rattle.tree_runs.specs.DijkstraScholten.{Addr, ◌BUT◌≔◌, addr, null}
use Rattle.tree_runs.specs.View.{engager_of}

-- a function that has v at i and f elsewhere
is_but {ℓ} :
    {N : ℕ} {A : Type ℓ} (g f : Addr N → A) (i : Addr N) (v : A) → ((k : Addr N) → k.nr ≡ i.nr → g k ≡ v)
    → ((k : Addr N) → k.nr ≢ i.nr → g k ≡ f k) → g ≡ f BUT i ≔ v
is_but {N} {A} g f i v here there = fun_ext (λ k. at k (ℕ_discrete k.nr i.nr))
  where
    at : (k : Addr N) → Dec (k.nr ≡ i.nr) → g k ≡ cond (eqb k.nr i.nr) v (f k)
    at k (yes e) = rw (eq-eqb _ _ e) (here k e)
    at k (no e) = rw (ne_eqb _ _ e) (there k e)

-- a column, seen through g
pub set_but {ℓ} :
    {N : ℕ} (i : Addr N) {A B : Type ℓ} (g : A → B) (l : List A) (v d : A) (w : B) → g v ≡ w → i.nr < length l
    → (λ (k : Addr N). g (get_or (set l i.nr v) k.nr d)) ≡ (λ k. g (get_or l k.nr d)) BUT i ≔ w
set_but i g l v d w e h =
    is_but _ _ i w
    (λ k p. ap (λ (x : ℕ). g (get_or (set l i.nr v) x d)) p ∙ (ap g (get_or-set_same l i.nr v d h) ∙ e))
    (λ k p. ap g (get_or-set_other l i.nr k.nr v d p))

-- the pairs
abbrev pub between : {N : ℕ} → List ℕ → Addr N → Addr N → ℕ
between l a b = get_or l (a.nr * 16 + b.nr) 0

module _ {N : ℕ} (small : N ≤ 16) (i j : Addr N) (l : List ℕ) (v : ℕ) (h : i.nr * 16 + j.nr < length l) where
  abbrev changed : List ℕ
  changed = set l (i.nr * 16 + j.nr) v

  same_row : (a : Addr N) → a.nr ≡ i.nr → between changed a ≡ between l i BUT j ≔ v
  same_row a p =
      is_but _ _ j v
      (λ b q. set_here l (i.nr * 16 + j.nr) (a.nr * 16 + b.nr) v 0 h (omega arith))
      (λ b q.
      get_or-set_other l (i.nr * 16 + j.nr) (a.nr * 16 + b.nr) v 0 (omega arith) ∙ ap (λ (x : ℕ). get_or l (x * 16 + b.nr) 0) p)

  other_row : (a : Addr N) → a.nr ≢ i.nr → (b : Addr N) → between changed a b ≡ between l a b
  other_row a p b =
      let hb = b.below in
      let hj = j.below in
      get_or-set_other l (i.nr * 16 + j.nr) (a.nr * 16 + b.nr) v 0 (omega arith)

  pub pair_but : between {N = N} changed ≡ between l BUT i ≔ (between l i BUT j ≔ v)
  pair_but = is_but (between changed) (between l) i (between l i BUT j ≔ v) same_row (λ a p. fun_ext (other_row a p))

-- ---- engagers

not_null : {k : ℕ} → addr k ≡ null → ⊥
not_null e = let z : ◌≡◌ {A = ℕ} 0 1 = cc in omega arith

pub of_null : (e : ℕ) → e ≡ 16 → engager_of e ≡ null
of_null e p = rw (eq-eqb e 16 p)

pub of_addr : (e : ℕ) → e ≢ 16 → engager_of e ≡ addr e
of_addr e p = rw (ne_eqb e 16 p)

pub null_of : (e : ℕ) → engager_of e ≡ null → e ≡ 16
null_of e p = elim (ℕ_discrete e 16) [ yes q ↦ q | no q ↦ absurd (not_null (sym (of_addr e q) ∙ p)) ]

pub addr_of : (e k : ℕ) → engager_of e ≡ addr k → e ≡ k
addr_of e k p =
    elim (ℕ_discrete e 16) [
      | yes q ↦ absurd (not_null (sym p ∙ of_null e q))
      | no q ↦ same (sym (of_addr e q) ∙ p)
    ]
  where
    same : {a b : ℕ} → addr a ≡ addr b → a ≡ b
    same r = cc

pub null_engaged : (e : ℕ) → engager_of e ≢ null → e ≢ 16
null_engaged e p q = p (of_null e q)

pub engaged_null : (e : ℕ) → e ≢ 16 → engager_of e ≢ null
engaged_null e p q = p (null_of e q)
