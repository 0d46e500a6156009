-- What the answer's flags and top say of the lists. Assumes nothing.
use mathlib.Core.Path.{◌≡◌, refl, sym, ap, ◌∙◌}
use mathlib.Core.Bool.{Bool, cond, false, true}
use mathlib.Core.Logic.{◌↔◌}
use mathlib.Core.List.{List, [], ◌∷◌}
use Prim.Native.Nat.{ℕ, zero, suc, ◌+◌, ◌≤◌, ◌<◌, max}
use native.Mathlib.Omega.{arith}
use lib.ListN.{length, get_or, set, length-set, length-replicate, get_or-replicate}
use lib.Seq.{get_or-set_same, get_or-set_other}
use lib.Dec.{ltb, eqb}
use lib.Bits.{bit_or}
use native.Mathlib.Decide.{ℕ_discrete}
use borrow.Author.Tests.{lt-ltb, eq-eqb, ne_eqb, eqb-true, eqb-false}
use Rattle.decimal.specs.Number.{number_limit}
use Rattle.forms.specs.Form.{Ascending}
use Rattle.first_line.specs.declared.RingStart.{RingStart}
use Rattle.first_line.specs.Start.{zeros, flagged, flag_all, top_of}
use Rattle.first_line.specs.Meaning.{named, nodes_from, every_node, Below, flag_byte, Means}
use Rattle.first_line.specs.Theorems.{RingsMean}

-- 1. top is at most n exactly if every node named is below n
top_below : (ks : List ℕ) (t n : ℕ) → (top_of ks t ≤ n) ↔ ((t ≤ n) × Below n ks)
top_below [] t n = (λ h. (h, tt), λ h. h.0)
top_below (k ∷ ks) t n =
    let ih = top_below ks (max t (k + 1)) n in (
      λ h. (let r = ih.0 h in (omega (arith, r.0), (omega (arith, r.0), r.1))),
      λ h. ih.1 (omega (arith, h.0, h.1.0), h.1.1),
    )

top_mean : (active black : List ℕ) (n : ℕ) → (top_of black (top_of active 0) ≤ n) ↔ (Below n active × Below n black)
top_mean a b n = (
  λ h. (let r = (top_below b (top_of a 0) n).0 h in (((top_below a 0 n).0 r.0).1, r.1)),
  λ h. (top_below b (top_of a 0) n).1 ((top_below a 0 n).1 (omega arith, h.0), h.1),
)

-- 2. the flag of a node
other_pick : (t : Bool) (fl : List ℕ) (k i v : ℕ) → (i ≡ k → ⊥) → get_or (cond t (set fl k v) fl) i 0 ≡ get_or fl i 0
other_pick true fl k i v h = get_or-set_other fl k i v 0 h
other_pick false fl k i v h = refl

other_flag : (bit k i : ℕ) (fl : List ℕ) → (i ≡ k → ⊥) → get_or (flagged bit k fl) i 0 ≡ get_or fl i 0
other_flag bit k i fl h = other_pick (ltb k 96) fl k i (bit_or (get_or fl k 0) bit) h

same_flag : (bit k : ℕ) (fl : List ℕ) → k < 96 → length fl ≡ 96 → get_or (flagged bit k fl) k 0 ≡ bit_or (get_or fl k 0) bit
same_flag bit k fl h l = rw (lt-ltb k 96 h) (get_or-set_same fl k (bit_or (get_or fl k 0) bit) 0 (omega arith))

pick_length : (t : Bool) (fl : List ℕ) (k v : ℕ) → length (cond t (set fl k v) fl) ≡ length fl
pick_length true fl k v = length-set fl k v
pick_length false fl k v = refl

flag_length : (bit k : ℕ) (fl : List ℕ) → length (flagged bit k fl) ≡ length fl
flag_length bit k fl = pick_length (ltb k 96) fl k (bit_or (get_or fl k 0) bit)

all_length : (bit : ℕ) (ks fl : List ℕ) → length (flag_all bit ks fl) ≡ length fl
all_length bit [] fl = refl
all_length bit (k ∷ ks) fl = all_length bit ks (flagged bit k fl) ∙ flag_length bit k fl

flag_out : (bit i : ℕ) (ks : List ℕ) (low : ℕ) (fl : List ℕ) → Ascending low ks → i < low → get_or (flag_all bit ks fl) i 0 ≡ get_or fl i 0
flag_out bit i [] low fl a h = refl
flag_out bit i (k ∷ ks) low fl a h =
    let lo : low ≤ k = a.0 in
    let up : i < k + 1 = omega arith in
    let ne : i ≡ k → ⊥ = omega arith in
    flag_out bit i ks (k + 1) (flagged bit k fl) a.2 up ∙ other_flag bit k i fl ne

flag_by : (bit i k : ℕ) (ks fl : List ℕ) → i < 96 → length fl ≡ 96 → Ascending (k + 1) ks
    → (get_or (flag_all bit ks (flagged bit k fl)) i 0 ≡ cond (named ks i) (bit_or (get_or (flagged bit k fl) i 0) bit) (get_or (flagged bit k fl) i 0))
    → (t : Bool) → eqb k i ≡ t
    → get_or (flag_all bit ks (flagged bit k fl)) i 0 ≡ cond (cond t true (named ks i)) (bit_or (get_or fl i 0) bit) (get_or fl i 0)
flag_by bit i k ks fl h l a ih true e =
    let is : k ≡ i = eqb-true k i e in
    let up : i < k + 1 = omega arith in
    let hk : k < 96 = omega arith in
    flag_out bit i ks (k + 1) (flagged bit k fl) a up
    ∙ (ap (λ (j : ℕ). get_or (flagged bit k fl) j 0) (sym is) ∙ (same_flag bit k fl hk l ∙ ap (λ (j : ℕ). bit_or (get_or fl j 0) bit) is))
flag_by bit i k ks fl h l a ih false e =
    let ne : i ≡ k → ⊥ = λ q. eqb-false k i e (sym q) in
    ih ∙ ap (λ (x : ℕ). cond (named ks i) (bit_or x bit) x) (other_flag bit k i fl ne)

flag_at : (bit i : ℕ) (ks : List ℕ) (low : ℕ) (fl : List ℕ) → i < 96 → length fl ≡ 96 → Ascending low ks
    → get_or (flag_all bit ks fl) i 0 ≡ cond (named ks i) (bit_or (get_or fl i 0) bit) (get_or fl i 0)
flag_at bit i [] low fl h l a = refl
flag_at bit i (k ∷ ks) low fl h l a =
    flag_by bit i k ks fl h l a.2 (flag_at bit i ks (k + 1) (flagged bit k fl) h (flag_length bit k fl ∙ l) a.2) (eqb k i) refl

two_bits : (a b : Bool) → cond b (bit_or (cond a (bit_or 0 1) 0) 2) (cond a (bit_or 0 1) 0) ≡ flag_byte a b
two_bits false false = refl
two_bits true false = refl
two_bits false true = refl
two_bits true true = refl

flag_mean : (active black : List ℕ) (i : ℕ) → i < 96 → Ascending 0 active → Ascending 0 black
    → get_or (flag_all 2 black (flag_all 1 active zeros)) i 0 ≡ flag_byte (named active i) (named black i)
flag_mean a b i h ha hb =
    let z : get_or zeros i 0 ≡ 0 = get_or-replicate 96 i 0 0 h in
    let n : length zeros ≡ 96 = length-replicate {A = ℕ} 96 0 in
    let first : get_or (flag_all 1 a zeros) i 0 ≡ cond (named a i) (bit_or 0 1) 0 = flag_at 1 i a 0 zeros h n ha ∙ ap (λ (x : ℕ). cond (named a i) (bit_or x 1) x) z in
    flag_at 2 i b 0 (flag_all 1 a zeros) h (all_length 1 a zeros ∙ n) hb
    ∙ (ap (λ (x : ℕ). cond (named b i) (bit_or x 2) x) first ∙ two_bits (named a i) (named b i))

-- 3. all nodes of a ring
named_from : (many low i : ℕ) → low ≤ i → i < low + many → named (nodes_from low many) i ≡ true
unfolding nodes_from
named_from zero low i l h = absurd (let z : ⊥ = omega arith in z)
named_from (suc many) low i l h =
    elim (ℕ_discrete low i)
    [ yes e ↦ rw (eq-eqb low i e) | no e ↦ rw (ne_eqb low i e) (named_from many (low + 1) i (omega arith) (omega arith)) ]

from_below : (many low m : ℕ) → low ≤ m → (low + many ≤ m) ↔ Below m (nodes_from low many)
unfolding nodes_from
from_below zero low m l = (λ h. tt, λ b. omega arith)
from_below (suc many) low m l = (
  λ h. (omega arith, (from_below many (low + 1) m (omega arith)).0 (omega arith)),
  λ b. omega (arith, (from_below many (low + 1) m (omega (arith, b.0))).1 b.1),
)

from_ascends : (many low : ℕ) → low + many ≤ number_limit + 1 → Ascending low (nodes_from low many)
unfolding nodes_from
from_ascends zero low h = tt
from_ascends (suc many) low h = (omega arith, omega arith, from_ascends many (low + 1) (omega arith))

pub named_every : (n i : ℕ) → i < n → named (every_node n) i ≡ true
named_every n i h = named_from n 0 i (omega arith) (omega arith)

pub every_below : (n m : ℕ) → (n ≤ m) ↔ Below m (every_node n)
every_below n m = let w = from_below n 0 m (omega arith) in (λ h. w.0 (omega arith), λ b. omega (arith, w.1 b))

pub every_ascends : (n : ℕ) → n ≤ number_limit + 1 → Ascending 0 (every_node n)
every_ascends n h = from_ascends n 0 (omega arith)

-- 4. the answer to a ring line
pub rings_mean : RingsMean
rings_mean = record {
  both = λ n a b ha hb. record {
    many = all_length 2 b (flag_all 1 a zeros) ∙ (all_length 1 a zeros ∙ length-replicate {A = ℕ} 96 0);
    flag = λ i _ h. flag_mean a b i h ha hb;
    most = top_mean a b;
  };
  neither = λ n. record {
    many = length-replicate {A = ℕ} 96 1;
    flag = λ i h k. get_or-replicate 96 i 1 0 k ∙ sym (ap (λ (t : Bool). flag_byte t false) (named_every n i h));
    most = λ m. (λ h. ((every_below n m).0 h, tt), λ b. (every_below n m).1 b.0);
  };
}

-- as far as the nodes of the ring go
pub nodes_mean : {a b : List ℕ} {r : RingStart} (n : ℕ) → Means 96 a b r → Means n a b r
nodes_mean n m = record { many = m.many; flag = λ i _ h. m.flag i h h; most = m.most }
