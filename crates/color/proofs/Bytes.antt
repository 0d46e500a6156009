-- The nodes of one byte, by its bits. Assumes nothing.
use Prim.Native.Nat.{◌%◌, ◌*◌, ◌+◌, ◌-◌, ◌/◌, ◌<◌, ◌^◌, ◌≤◌, suc, zero, ℕ}
use borrow.Author.Tests.{eq-eqb, eqb-false, eqb-true, le-ltb, not-true}
use lib.Dec.{eqb, ltb}
use lib.ListN.{drop, get_or, length}
use lib.Pow.{shr_lt, shr-shr}
use mathlib.Core.Bool.{Bool, ◌&&◌, ◌||◌, and-true, and_assoc, not, true}
use mathlib.Core.List.{List}
use mathlib.Core.Path.{◌∙◌, ◌≡◌, ap, ap₂, sym}
use native.Mathlib.Decide.{dec_lt}
use native.Mathlib.Nat.{add-zero, div-one, zero-div}
use native.Mathlib.Numerals.{add-one}
use native.Mathlib.Omega.{arith}
use Rattle.laws.proofs.Places.{all_at, all_from, none_from}
use Rattle.std.specs.List.{list_all}
use Rattle.std.proofs.lemmas.List.{drop_all}
use Rattle.std.proofs.Math.Seq.{drop-cons}
use Rattle.laws.proofs.Tests.{both, both_true, not_eq, right_true, same_test}
use Rattle.color.specs.Between.{white_between}
use Rattle.color.specs.Colors.{bit, is_black}

pub node_bit : (c : List ℕ) (k j : ℕ) → j < 8 → is_black c (8 * k + j) ≡ eqb (bit (get_or c k 0) j) 1
unfolding is_black
node_bit c k j p =
    let q : (8 * k + j) / 8 ≡ k = omega arith in
    let r : (8 * k + j) % 8 ≡ j = omega arith in
    rw (q, r)

-- a number of m digits that are all 0 is 0, and 0 has no other digits
no_bits : (m b : ℕ) → b < 2 ^ m → ((j : ℕ) → j < m → bit b j ≡ 0) → b ≡ 0
no_bits zero b h z = omega arith
no_bits (suc m) b h z =
    let half : b / 2 ≡ 0 = no_bits m (b / 2) (shr_lt m 1 (rw add-one h))
    (λ j p. ap (λ (x : ℕ). x % 2) (shr-shr b 1 j) ∙ z (1 + j) (omega arith)) in
    let last : b % 2 ≡ 0 = ap (λ (x : ℕ). x % 2) (sym (div-one b)) ∙ z 0 (omega arith) in
    omega arith

bits_none : (b s j : ℕ) → b / 2 ^ s ≡ 0 → bit b (s + j) ≡ 0
bits_none b s j e =
    ap (λ (x : ℕ). x % 2) (sym (shr-shr b s j) ∙ ap (λ (x : ℕ). x / 2 ^ j) e ∙ zero-div (2 ^ j))

-- the nodes of byte k from bit s on, none of them below n: all at once
module _ (c : List ℕ) (n k s : ℕ) (fits : get_or c k 0 < 256) (from : n ≤ 8 * k + s) (small : s < 8) where
  -- a bit that is 0 is a white node, and the other way round
  to_white : (j : ℕ) → j < 8 → bit (get_or c k 0) j ≡ 0 → not (is_black c (8 * k + j)) ≡ true
  to_white j h e = not_eq (node_bit c k j h ∙ ap (λ (x : ℕ). eqb x 1) e)

  from_white : (j : ℕ) → j < 8 → s ≤ j → (ltb (8 * k + j) n || not (is_black c (8 * k + j))) ≡ true → bit (get_or c k 0) j ≡ 0
  from_white j h le e =
      let used = ap (λ (b : Bool). b || not (is_black c (8 * k + j))) (le-ltb (8 * k + j) n (omega arith)) in
      let other : bit (get_or c k 0) j ≡ 1 → ⊥ = eqb-false _ _ (sym (node_bit c k j h) ∙ not-true _ (sym used ∙ e)) in
      omega (arith, other)

  pub white_byte : (white_between c n (8 * k + s) && eqb (get_or c k 0 / 2 ^ s) 0) ≡ white_between c n (8 * k + 8)
  white_byte = same_test _ _ forth back
    where
      forth : (white_between c n (8 * k + s) && eqb (get_or c k 0 / 2 ^ s) 0) ≡ true → white_between c n (8 * k + 8) ≡ true
      forth e = all_from (8 * k + 8) _ (λ i h. at i h (dec_lt i (8 * k + s)))
        where
          parts : (white_between c n (8 * k + s) ≡ true) × (eqb (get_or c k 0 / 2 ^ s) 0 ≡ true)
          parts = both _ _ e

          at : (i : ℕ) → i < 8 * k + 8 → Dec (i < 8 * k + s) → (ltb i n || not (is_black c i)) ≡ true
          at i h (yes below) = all_at (8 * k + s) _ parts.0 i below
          at i h (no above) =
              let place : 8 * k + (s + (i - 8 * k - s)) ≡ i = omega arith in
              right_true (ltb i n)
              (ap (λ (x : ℕ). not (is_black c x)) (sym place)
              ∙ to_white (s + (i - 8 * k - s)) (omega arith) (bits_none (get_or c k 0) s (i - 8 * k - s) (eqb-true _ _ parts.1)))

      back : white_between c n (8 * k + 8) ≡ true → (white_between c n (8 * k + s) && eqb (get_or c k 0 / 2 ^ s) 0) ≡ true
      back e =
          both_true (all_from (8 * k + s) _ (λ i h. all_at (8 * k + 8) _ e i (omega arith)))
          (eq-eqb _ _ (no_bits (8 - s) (get_or c k 0 / 2 ^ s) (shr_lt (8 - s) s (rw fills fits)) (λ j h. zeros j h)))
        where
          fills : 8 - s + s ≡ 8
          fills = omega arith

          zeros : (j : ℕ) → j < 8 - s → bit (get_or c k 0 / 2 ^ s) j ≡ 0
          zeros j h =
              ap (λ (x : ℕ). x % 2) (shr-shr (get_or c k 0) s j)
              ∙ from_white (s + j) (omega arith) (omega arith) (all_at (8 * k + 8) _ e (8 * k + (s + j)) (omega arith))

-- the bytes from k on are looked at whole
module _ (c : List ℕ) (n : ℕ) (bytes : (k : ℕ) → get_or c k 0 < 256) where
  white_bytes : (m k : ℕ) → k + m ≡ length c → n ≤ 8 * k → (white_between c n (8 * k) && list_all (λ b. eqb b 0) (drop k c)) ≡ white_between c n (8 * length c)
  white_bytes zero k e h =
      let last : k ≡ length c = omega arith in
      rw (drop_all k c (omega arith)) (and-true _ ∙ ap (λ (x : ℕ). white_between c n (8 * x)) last)
  white_bytes (suc m) k e h =
      let next : 8 * k + 8 ≡ 8 * suc k = omega arith in
      let one : (white_between c n (8 * k) && eqb (get_or c k 0) 0) ≡ white_between c n (8 * suc k) =
      ap₂ (λ (x y : ℕ). white_between c n x && eqb y 0) (sym (add-zero (8 * k))) (sym (div-one (get_or c k 0)))
      ∙ white_byte c n k 0 (bytes k) (omega arith) (omega arith)
      ∙ ap (white_between c n) next in
      ap (λ (l : List ℕ). white_between c n (8 * k) && list_all (λ b. eqb b 0) l) (drop-cons c k 0 (omega arith))
      ∙ sym (and_assoc (white_between c n (8 * k)) (eqb (get_or c k 0) 0) (list_all (λ b. eqb b 0) (drop (suc k) c)))
      ∙ ap (λ (b : Bool). b && list_all (λ b. eqb b 0) (drop (suc k) c)) one
      ∙ white_bytes m (suc k) (omega arith) (omega arith)

  -- the first byte from its own bit on, and the others
  pub white_parts : length c ≡ 12 → n < 96 → (eqb (get_or c (n / 8) 0 / 2 ^ (n % 8)) 0 && list_all (λ b. eqb b 0) (drop (n / 8 + 1) c)) ≡ white_between c n 96
  white_parts e h =
      let here : n ≡ 8 * (n / 8) + n % 8 = omega arith in
      let next : 8 * (n / 8) + 8 ≡ 8 * (n / 8 + 1) = omega arith in
      let first : eqb (get_or c (n / 8) 0 / 2 ^ (n % 8)) 0 ≡ white_between c n (8 * (n / 8 + 1)) =
      ap (λ (b : Bool). b && eqb (get_or c (n / 8) 0 / 2 ^ (n % 8)) 0) (sym (none_from n _) ∙ ap (white_between c n) here)
      ∙ white_byte c n (n / 8) (n % 8) (bytes (n / 8)) (omega arith) (omega arith)
      ∙ ap (white_between c n) next in
      ap (λ (b : Bool). b && list_all (λ b. eqb b 0) (drop (n / 8 + 1) c)) first
      ∙ white_bytes (11 - n / 8) (n / 8 + 1) (omega arith) (omega arith)
      ∙ ap (λ (x : ℕ). white_between c n (8 * x)) e
