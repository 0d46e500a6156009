-- The readers of numbers are exact: they find a number at a place exactly where its decimal text stands. Assumes nothing.
use mathlib.Core.Path.{◌≡◌, refl, sym, ap, ◌∙◌, subst}
use mathlib.Core.Bool.{◌&&◌, Bool, cond, false, true}
use mathlib.Core.Logic.{⊎_elim, ◌↔◌}
use mathlib.Core.List.{List, [], ◌∷◌, ◌++◌, append_assoc, append-nil}
use Rattle.std.specs.Prelude.{Option, Some, None}
use Prim.Native.Nat.{ℕ, suc, ◌+◌, ◌-◌, ◌*◌, ◌/◌, ◌%◌, ◌≤◌, ◌<◌, min}
use native.Mathlib.Omega.{arith}
use native.Mathlib.Nat.{add-zero, not-suc-le-zero}
use lib.ListN.{length, get_or, drop, drop_of_length-le}
use lib.Dec.{leb, ltb, eqb}
use borrow.Author.Tests.{le-leb, lt-leb, leb-true, leb-false, le-ltb, ltb-false, eq-eqb, ne_eqb}
use Rattle.decimal.specs.Text.{decimal}
use Rattle.decimal.specs.Number.{digit_b, capped, read, scan_of, checked, number_at, kept_of, short_of}
use Rattle.decimal.specs.Exact.{Stands, NumberAt, ShortAt}
use Rattle.decimal.proofs.Cases.{both_left, both_right, both_off, split, rest, take_head, first_of, advance, same_read}
use Rattle.decimal.proofs.Decimal.{decimal_small, decimal_large, decimal_induct, decimal_some}

-- 1. digits and their value
pub digit_low : (b : ℕ) → digit_b b ≡ true → 48 ≤ b
digit_low b h = leb-true 48 b (both_left (leb 48 b) (leb b 57) h)

pub digit_high : (b : ℕ) → digit_b b ≡ true → b ≤ 57
digit_high b h = leb-true b 57 (both_right (leb 48 b) (leb b 57) h)

digit_byte : (n : ℕ) → n < 10 → digit_b (48 + n) ≡ true
digit_byte n h = rw (le-leb 48 (48 + n) (omega arith)) (le-leb (48 + n) 57 (omega arith))

abbrev pub Digits : List ℕ → Type 0
Digits [] = Unit {0}
Digits (b ∷ d) = (digit_b b ≡ true) × Digits d

digits_snoc : (d : List ℕ) (y : ℕ) → Digits d → digit_b y ≡ true → Digits (d ++ (y ∷ []))
digits_snoc [] y h k = (k, tt)
digits_snoc (b ∷ d) y h k = (h.0, digits_snoc d y h.1 k)

pub decimal_digits : (n : ℕ) → Digits (decimal n)
decimal_digits =
    decimal_induct (λ n. Digits (decimal n))
    (λ n few. rw (decimal_small n few) (digit_byte n few, tt))
    (λ n many h. rw (decimal_large n many) (digits_snoc (decimal (n / 10)) (48 + n % 10) h (digit_byte (n % 10) (omega arith))))

-- the value of digits after v
unfoldable pub value : ℕ → List ℕ → ℕ
value v [] = v
value v (b ∷ d) = value (v * 10 + (b - 48)) d

value_snoc : (d : List ℕ) (v y : ℕ) → value v (d ++ (y ∷ [])) ≡ value v d * 10 + (y - 48)
unfolding value
value_snoc [] v y = refl
value_snoc (b ∷ d) v y = value_snoc d (v * 10 + (b - 48)) y

pub decimal-value : (n : ℕ) → value 0 (decimal n) ≡ n
unfolding value
decimal-value =
    decimal_induct (λ n. value 0 (decimal n) ≡ n)
    (λ n few. rw (decimal_small n few) (omega arith))
    (λ n many h. rw (decimal_large n many) (value_snoc (decimal (n / 10)) 0 (48 + n % 10) ∙ omega (arith, h)))

-- digits after a number that is not 0 are the text of their value
pub more_digit : (v b : ℕ) → 0 < v → 48 ≤ b → b ≤ 57 → decimal (v * 10 + (b - 48)) ≡ decimal v ++ (b ∷ [])
more_digit v b h lo hi =
    let ten : 10 ≤ v * 10 + (b - 48) = omega arith in
    let q : (v * 10 + (b - 48)) / 10 ≡ v = omega arith in
    let r : 48 + (v * 10 + (b - 48)) % 10 ≡ b = omega arith in
    decimal_large (v * 10 + (b - 48)) ten
    ∙ (ap (λ (x : ℕ). decimal x ++ ((48 + (v * 10 + (b - 48)) % 10) ∷ [])) q ∙ ap (λ (x : ℕ). decimal v ++ (x ∷ [])) r)

decimal_run : (d : List ℕ) (v : ℕ) → 0 < v → Digits d → decimal v ++ d ≡ decimal (value v d)
unfolding value
decimal_run [] v h g = simp append-nil
decimal_run (b ∷ d) v h g =
    let pos : 0 < v * 10 + (b - 48) = omega arith in
    sym (append_assoc (decimal v) (b ∷ []) d)
    ∙ (ap (λ (l : List ℕ). l ++ d) (sym (more_digit v b h (digit_low b g.0) (digit_high b g.0)))
    ∙ decimal_run d (v * 10 + (b - 48)) pos g.1)

-- digits with no leading zero are the text of their value
digits_text : (b : ℕ) (d : List ℕ) → Digits (b ∷ d) → (b ≡ 48 → d ≡ []) → b ∷ d ≡ decimal (value 0 (b ∷ d))
unfolding value
digits_text b d g z =
    let lo : 48 ≤ b = digit_low b g.0 in
    let hi : b ≤ 57 = digit_high b g.0 in
    let few : b - 48 < 10 = omega arith in
    let back : 48 + (b - 48) ≡ b = omega arith in
    let one : decimal (b - 48) ≡ b ∷ [] = decimal_small (b - 48) few ∙ ap (λ (x : ℕ). x ∷ []) back in
    let zero_first : 0 * 10 + (b - 48) ≡ b - 48 = omega arith in
    rw zero_first
    (⊎_elim
    (λ lt.
    let e : b ≡ 48 = omega arith in
    let n : d ≡ [] = z e in
    rw n (sym one))
    (λ le.
    let pos : 0 < b - 48 = omega arith in
    ap (λ (l : List ℕ). l ++ d) (sym one) ∙ decimal_run d (b - 48) pos g.1)
    (split b 49))

-- 2. the scan of a text that is digits and then none
abbrev stopped : ℕ → ℕ → ℕ × ℕ
stopped v i = (v, i)

scan_stop : (u : List ℕ) (v i : ℕ) → digit_b (get_or u 0 0) ≡ false → scan_of u v i ≡ stopped v i
unfolding scan_of
scan_stop [] v i h = refl
scan_stop (b ∷ u) v i h = rw h

scan_run : (d u : List ℕ) (v i : ℕ) → Digits d → digit_b (get_or u 0 0) ≡ false
    → scan_of (d ++ u) (min v 100000) i ≡ stopped (min (value v d) 100000) (i + length d)
unfolding scan_of value
scan_run [] u v i g k = scan_stop u (min v 100000) i k ∙ ap (stopped (min v 100000)) (sym (add-zero i))
scan_run (b ∷ d) u v i g k =
    let m : i + 1 + length d ≡ i + suc (length d) = omega arith in
    let w : capped (min v 100000) b ≡ min (v * 10 + (b - 48)) 100000 = omega arith in
    rw g.0
    (ap (λ (x : ℕ). scan_of (d ++ u) x (i + 1)) w
    ∙ (scan_run d u (v * 10 + (b - 48)) (i + 1) g.1 k ∙ ap (stopped (min (value (v * 10 + (b - 48)) d) 100000)) m))

-- every text is digits and then none
record Run (l : List ℕ) : Type 0 where
  digits : List ℕ
  others : List ℕ
  is : l ≡ digits ++ others
  all : Digits digits
  end : digit_b (get_or others 0 0) ≡ false

run_by : (b : ℕ) (l : List ℕ) (t : Bool) → digit_b b ≡ t → Run l → Run (b ∷ l)
run_by b l true e r = record {
  digits = b ∷ r.digits;
  others = r.others;
  is = ap (λ (x : List ℕ). b ∷ x) r.is;
  all = (e, r.all);
  end = r.end;
}
run_by b l false e r = record { digits = []; others = b ∷ l; is = refl; all = tt; end = e }

run_of_lem : (l : List ℕ) → Run l
run_of_lem [] = record { digits = []; others = []; is = refl; all = tt; end = refl }
run_of_lem (b ∷ l) = run_by b l (digit_b b) refl (run_of_lem l)

-- 3. a number that is found stands there
pub no_number : {A : Type 0} (n e : ℕ) → None ≡ read n e → A
no_number n e h = let z : ◌≡◌ {A = ℕ} 0 1 = cc in absurd (let y : ⊥ = omega arith in y)

nil_of : (d : List ℕ) → length d ≡ 0 → d ≡ []
nil_of [] h = refl
nil_of (x ∷ d) h = absurd (let y : ⊥ = omega arith in y)

lead : (x at e k : ℕ) → x ≡ 48 → (eqb x 48 && ltb (at + 1) e) ≡ false → e ≡ at + suc k → k ≡ 0
lead x at e k is r a =
    let r2 : ltb (at + 1) e ≡ false = rw (eq-eqb x 48 is) at r in
    omega (arith, ltb-false (at + 1) e r2)

checked_by : (s : List ℕ) (at : ℕ) (d u : List ℕ) → drop at s ≡ d ++ u → Digits d → digit_b (get_or u 0 0) ≡ false
    → (w i : ℕ) → w ≡ min (value 0 d) 100000 → i ≡ at + length d
    → (none led : Bool) → leb i at ≡ none → (eqb (get_or s at 0) 48 && ltb (at + 1) i) ≡ led
    → (v e : ℕ) → cond none None (cond led None (read w i)) ≡ read v e → NumberAt s at v e
checked_by s at d u t g k w i wi ii true led p q v e h = no_number v e h
checked_by s at d u t g k w i wi ii false true p q v e h = no_number v e h
checked_by s at [] u t g k w i wi ii false false p q v e h = absurd (let y : ⊥ = omega (arith, leb-false i at p) in y)
checked_by s at (b ∷ d) u t g k w i wi ii false false p q v e h =
    let th = take_head s at b (d ++ u) t in
    let wv : w ≡ v = (same_read h).0 in
    let ie : i ≡ e = (same_read h).1 in
    let z : b ≡ 48 → d ≡ [] = λ is. nil_of d (lead (get_or s at 0) at i (length d) (th.0 ∙ is) q ii) in
    let text : b ∷ d ≡ decimal (value 0 (b ∷ d)) = digits_text b d g z in
    let ends : e ≡ at + length (b ∷ d) = sym ie ∙ ii in
    let left : drop e s ≡ u = ap (λ (x : ℕ). drop x s) ends ∙ advance s (b ∷ d) u at t in (
      value 0 (b ∷ d),
      record {
        text = t ∙ (ap (λ (x : List ℕ). x ++ u) text ∙ ap (λ (x : List ℕ). decimal (value 0 (b ∷ d)) ++ x) (sym left));
        ends = ends ∙ ap (λ (x : List ℕ). at + length x) text;
        last = ap digit_b (first_of s u e left) ∙ k;
      },
      sym wv ∙ wi,
    )

number_run : (s : List ℕ) (at : ℕ) → (r : Run (drop at s))
    → scan_of (drop at s) 0 at ≡ stopped (min (value 0 r.digits) 100000) (at + length r.digits)
number_run s at r = ap (λ (l : List ℕ). scan_of l 0 at) r.is ∙ scan_run r.digits r.others 0 at r.all r.end

pub number_sound : (s : List ℕ) (at v e : ℕ) → number_at s at ≡ read v e → NumberAt s at v e
unfolding number_at checked
number_sound s at v e h =
    let r = run_of_lem (drop at s) in
    let w = min (value 0 r.digits) 100000 in
    let i = at + length r.digits in
    let h2 : checked (get_or s at 0) at (stopped w i) ≡ read v e = ap (checked (get_or s at 0) at) (sym (number_run s at r)) ∙ h in
    checked_by s at r.digits r.others r.is r.all r.end w i refl refl
    (leb i at) (eqb (get_or s at 0) 48 && ltb (at + 1) i) refl refl v e h2

-- 4. a number that stands there is found
head_append : (a b : List ℕ) → 0 < length a → get_or (a ++ b) 0 0 ≡ get_or a 0 0
head_append [] b h = absurd (not-suc-le-zero h)
head_append (x ∷ a) b h = refl

-- a number's text begins with 0 only if it is 0
pub decimal_head : (n : ℕ) → 0 < n → 48 < get_or (decimal n) 0 0
decimal_head =
    decimal_induct (λ n. 0 < n → 48 < get_or (decimal n) 0 0)
    (λ n few k. rw (decimal_small n few) (omega arith))
    (λ n many h k.
    rw (decimal_large n many, head_append (decimal (n / 10)) ((48 + n % 10) ∷ []) (decimal_some (n / 10))) (h (omega arith)))

not_led : (s : List ℕ) (at n : ℕ) (u : List ℕ) → drop at s ≡ decimal n ++ u
    → (eqb (get_or s at 0) 48 && ltb (at + 1) (at + length (decimal n))) ≡ false
not_led s at n u h =
    ⊎_elim
    (λ few.
    let l : length (decimal n) ≡ 1 = ap length (decimal_small n few) in
    rw (le-ltb (at + 1) (at + length (decimal n)) (omega arith)) (both_off (eqb (get_or s at 0) 48)))
    (λ many.
    let b : get_or s at 0 ≡ get_or (decimal n) 0 0 = first_of s (decimal n ++ u) at h ∙ head_append (decimal n) u (decimal_some n) in
    let z : get_or s at 0 ≡ 48 → ⊥ = λ e. omega (arith, decimal_head n (omega arith)) in
    rw (ne_eqb (get_or s at 0) 48 z))
    (split n 10)

pub number_found : (s : List ℕ) (at n : ℕ) (u : List ℕ) → drop at s ≡ decimal n ++ u → digit_b (get_or u 0 0) ≡ false
    → number_at s at ≡ read (min n 100000) (at + length (decimal n))
unfolding number_at checked
number_found s at n u p k =
    let some : at < at + length (decimal n) = omega (arith, decimal_some n) in
    let run : scan_of (drop at s) 0 at ≡ stopped (min n 100000) (at + length (decimal n)) =
    ap (λ (l : List ℕ). scan_of l 0 at) p
    ∙ (scan_run (decimal n) u 0 at (decimal_digits n) k
    ∙ ap (λ (x : ℕ). stopped (min x 100000) (at + length (decimal n))) (decimal-value n)) in
    rw (run, lt-leb (at + length (decimal n)) at some, not_led s at n u p)

-- 5. exact both ways
pub after : (s : List ℕ) (e : ℕ) → digit_b (get_or s e 0) ≡ false → digit_b (get_or (drop e s) 0 0) ≡ false
after s e h = ap digit_b (sym (first_of s (drop e s) e refl)) ∙ h

number_back : (s : List ℕ) (at v e : ℕ) → NumberAt s at v e → number_at s at ≡ read v e
number_back s at v e (n, st, val) =
    number_found s at n (drop e s) st.text (after s e st.last)
    ∙ (ap (λ (x : ℕ). read x (at + length (decimal n))) (sym val) ∙ ap (read v) (sym st.ends))

pub number_exact : (s : List ℕ) (at v e : ℕ) → (number_at s at ≡ read v e) ↔ NumberAt s at v e
number_exact s at v e = (number_sound s at v e, number_back s at v e)

-- what is held at 100000 is compared with a bound as the number itself
pub cap_below : (n most : ℕ) → most ≤ 100000 → (min n 100000 < most) ↔ (n < most)
cap_below n most h = (λ k. omega arith, λ k. omega arith)

kept_by : (w i v e : ℕ) (t : Bool) → ltb 99999 w ≡ t → cond t None (read w i) ≡ read v e → (read w i ≡ read v e) × (v ≤ 99999)
kept_by w i v e true p h = no_number v e h
kept_by w i v e false p h = (h, let wv : w ≡ v = (same_read h).0 in omega (arith, ltb-false 99999 w p))

kept_sound : (m : Option (ℕ × ℕ)) (v e : ℕ) → kept_of m ≡ read v e → (m ≡ read v e) × (v ≤ 99999)
unfolding kept_of
kept_sound (Some (w, i)) v e h = kept_by w i v e (ltb 99999 w) refl h
kept_sound None v e h = no_number v e h

pub short_sound : (s : List ℕ) (at n e : ℕ) → short_of s at ≡ read n e → ShortAt s at n e
short_sound s at n e h =
    let k = kept_sound (number_at s at) n e h in
    let r = number_sound s at n e k.0 in
    let same : r.0 ≡ n = omega (arith, r.2, k.1) in
    (subst (λ (x : ℕ). Stands s at x e) same r.1, k.1)

-- the number is found, and what follows it is what is left
pub short_found : (s : List ℕ) (at n : ℕ) (u : List ℕ) → n ≤ 99999 → drop at s ≡ decimal n ++ u → digit_b (get_or u 0 0) ≡ false
    → (short_of s at ≡ read n (at + length (decimal n))) × (drop (at + length (decimal n)) s ≡ u)
unfolding kept_of
short_found s at n u h p k =
    let c : min n 100000 ≡ n = omega arith in
    let f : number_at s at ≡ read n (at + length (decimal n)) =
    number_found s at n u p k ∙ ap (λ (x : ℕ). read x (at + length (decimal n))) c in
    (rw (f, le-ltb 99999 n h), advance s (decimal n) u at p)

short_back : (s : List ℕ) (at n e : ℕ) → ShortAt s at n e → short_of s at ≡ read n e
short_back s at n e (st, h) =
    (short_found s at n (drop e s) h st.text (after s e st.last)).0 ∙ ap (read n) (sym st.ends)

pub short_exact : (s : List ℕ) (at n e : ℕ) → (short_of s at ≡ read n e) ↔ ShortAt s at n e
short_exact s at n e = (short_sound s at n e, short_back s at n e)

-- 6. the steps of the scan, as the code goes
module _ (s : List ℕ) (i v : ℕ) where
  pub scan_end : length s ≤ i → scan_of (drop i s) v i ≡ stopped v i
  unfolding scan_of
  scan_end h = rw (drop_of_length-le s h)

  pub scan_none : i < length s → digit_b (get_or s i 0) ≡ false → scan_of (drop i s) v i ≡ stopped v i
  unfolding scan_of
  scan_none h d = rw (rest s i h, d)

  pub scan_more : i < length s → digit_b (get_or s i 0) ≡ true → scan_of (drop i s) v i ≡ scan_of (drop (i + 1) s) (capped v (get_or s i 0)) (i + 1)
  unfolding scan_of
  scan_more h d = rw (rest s i h, d)
