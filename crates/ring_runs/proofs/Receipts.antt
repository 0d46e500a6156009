-- Receipts in a row of one node: n of them are possible exactly if so many messages are pending, and their end is fixed. Assumes nothing.
use Prim.Native.Nat.{◌+◌, ◌-◌, ◌<◌, suc, zero, ℕ}
use lib.IntN.{◌-ℤ◌, pos, ℤ}
use mathlib.Core.Bool.{true}
use mathlib.Core.Path.{◌∙◌, ◌≡◌, ap, refl, subst, sym}
use native.Mathlib.Omega.{arith}
use Rattle.ring_runs.proofs.Change.{except_here, except_twice, less_more}
use Rattle.ring_runs.specs.EWD998.{Node, RecvMsg, Vars, ◌EXCEPT◌≔◌, black}
use Rattle.ring_runs.specs.View.{InARow}

-- ---- steps in a row of any relation

module _ {A : Type 0} (step : A → A → Type 0) where
  pub row_append : (m n : ℕ) (s t u : A) → InARow step m s t → InARow step n t u → InARow step (m + n) s u
  row_append zero n s t u e b =
      let z : n ≡ 0 + n = omega arith in
      subst (λ (k : ℕ). InARow step k s u) z (subst (λ (x : A). InARow step n x u) (sym e) b)
  row_append (suc m) n s t u (v, a, rest) b =
      let z : suc (m + n) ≡ suc m + n = omega arith in
      subst (λ (k : ℕ). InARow step k s u) z (v, a, row_append m n v t u rest b)

  pub row_map : (next : A → A → Type 0) → ((s t : A) → step s t → next s t) → (n : ℕ) (s t : A) → InARow step n s t → InARow next n s t
  row_map next f zero s t e = e
  row_map next f (suc n) s t (u, a, rest) = (u, f s u a, row_map next f n u t rest)

-- ---- receipts

-- two states with the same variables
pub same_state :
    {N : ℕ} {a b : Vars N} → a.active ≡ b.active → a.color ≡ b.color → a.counter ≡ b.counter → a.pending ≡ b.pending → a.token ≡ b.token → a
    ≡ b
same_state e₁ e₂ e₃ e₄ e₅ = λ x. record { active = e₁ x; color = e₂ x; counter = e₃ x; pending = e₄ x; token = e₅ x }

module _ {N : ℕ} (h : 0 < N) (i : Node N) where
  -- s after n receipts of i, n above 0
  abbrev pub received : ℕ → Vars N → Vars N
  received n s =
      record {
        active = s.active EXCEPT i ≔ true;
        color = s.color EXCEPT i ≔ black;
        counter = s.counter EXCEPT i ≔ s.counter i -ℤ pos n;
        pending = s.pending EXCEPT i ≔ s.pending i - n;
        token = s.token;
      }

  -- one more, and n after it
  received_more : (n : ℕ) (s : Vars N) → received n (received 1 s) ≡ received (suc n) s
  received_more n s =
      same_state (except_twice s.active i true true) (except_twice s.color i black black)
      (except_twice s.counter i _ _
      ∙ ap (λ (z : ℤ). s.counter EXCEPT i ≔ z)
      (ap (λ (z : ℤ). z -ℤ pos n) (except_here s.counter i (s.counter i -ℤ pos 1)) ∙ less_more (s.counter i) n))
      (except_twice s.pending i _ _
      ∙ ap (λ (p : ℕ). s.pending EXCEPT i ≔ p)
      (ap (λ (p : ℕ). p - n) (except_here s.pending i (s.pending i - 1)) ∙ less))
      refl
    where
      less : s.pending i - 1 - n ≡ s.pending i - suc n
      less = omega arith

  is_received : {s t : Vars N} → RecvMsg h i s t → received 1 s ≡ t
  is_received a = same_state (sym a.active') (sym a.color') (sym a.counter') (sym a.pending') (sym a.unchanged_token)

  receives : {s : Vars N} → 0 < s.pending i → RecvMsg h i s (received 1 s)
  receives p = record { some = p; pending' = refl; counter' = refl; color' = refl; active' = refl; unchanged_token = refl }

  pub row_received : (n : ℕ) {s t : Vars N} → InARow (RecvMsg h i) (suc n) s t → (n < s.pending i) × (received (suc n) s ≡ t)
  row_received zero (u, a, e) = (a.some, is_received a ∙ e)
  row_received (suc n) {s} {t} (u, a, rest) =
      let w = subst (λ (x : Vars N). (n < x.pending i) × (received (suc n) x ≡ t)) (sym (is_received a)) (row_received n rest) in
      let left = except_here s.pending i (s.pending i - 1) in
      (omega (arith, w.0, left), sym (received_more (suc n) s) ∙ w.1)

  pub received_row : (n : ℕ) {s t : Vars N} → n < s.pending i → received (suc n) s ≡ t → InARow (RecvMsg h i) (suc n) s t
  received_row zero {s} p e = (received 1 s, receives p, e)
  received_row (suc n) {s} p e =
      let left = except_here s.pending i (s.pending i - 1) in
      (received 1 s, receives (omega arith), received_row n (omega (arith, left)) (received_more (suc n) s ∙ e))
