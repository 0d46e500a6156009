-- Lists of what lines of updates ask for, and of the requests to the table that they come to. Assumes nothing.
use Prim.Native.Nat.{◌+◌, ◌-◌, ◌≤◌, suc, zero, ℕ}
use lib.Dec.{eqb}
use lib.ListN.{length}
use mathlib.Core.Bool.{Bool, ◌||◌, cond, false, true}
use mathlib.Core.List.{List, [], ◌++◌, ◌∷◌}
use mathlib.Core.Path.{◌∙◌, ◌≡◌, ap, refl, subst, sym}
use native.Mathlib.Nat.{add-suc, add-zero}
use native.Mathlib.Omega.{arith}
use Rattle.forms.specs.Form.{Form, Says, announce, update}
use Rattle.log_rules.specs.Answers.{ring_request}
use Rattle.ring_runs.specs.Counts.{is_announce, kind}
use Rattle.runs.specs.Runs.{Request}
use Rattle.table_rules.specs.Answers.{Start, Step}
use Rattle.table_runs.specs.Counts.{starts_in, steps_in}
use Rattle.log_runs.proofs.Detectors.{ring_only}
use Rattle.log_runs.specs.Answered.{said}
use Rattle.log_runs.specs.First.{flags_to, known_by}
use Rattle.log_runs.specs.Says.{Ask, Each, cut, line, no_line, no_step, other, request, says}
use Rattle.log_runs.specs.Updates.{UpdateAsk, UpdateAsks, start, step, to_table}
use Rattle.table_rules.specs.Answers as asks
use Rattle.update_forms.specs.Wrapped as wrapped

pub each_length : {R : Type 0} {P : List ℕ → Ask R → Type 0} {ls : List (List ℕ)} {qs : List (Ask R)} → Each P ls qs → length qs ≡ length ls
each_length no_line = refl
each_length (line p c) = omega (arith, each_length c)

-- no more requests than lines
pub few_asked : (xs : List UpdateAsk) → length (to_table xs) ≤ length xs
few_asked [] = omega arith
few_asked (step u x ∷ xs) = omega (arith, few_asked xs)
few_asked (start u n a b ∷ xs) = go (known_by n a b) (few_asked xs)
  where
    go :
        (k : Bool) → length (to_table xs) ≤ length xs
        → length (cond k (Start u n (flags_to a b n) ∷ to_table xs) (to_table xs)) ≤ length (start u n a b ∷ xs)
    go true h = omega arith
    go false h = omega arith

pub few_said : (qs : List (Ask UpdateAsk)) (i : ℕ) → length (said qs i) ≤ i
few_said [] zero = omega arith
few_said [] (suc i) = omega arith
few_said (q ∷ qs) zero = omega arith
few_said (request x ∷ qs) (suc i) = omega (arith, few_said qs i)
few_said (no_step ∷ qs) (suc i) = omega (arith, few_said qs i)

pub true_unless : {b : Bool} → (b ≡ false → ⊥) → b ≡ true
true_unless {b = true} bad = refl
true_unless {b = false} bad = absurd (bad refl)

pub false_unless : {b : Bool} → (b ≡ true → ⊥) → b ≡ false
false_unless {b = true} bad = absurd (bad refl)
false_unless {b = false} bad = refl

-- ---- lists

pub to_append : (xs ys : List UpdateAsk) → to_table (xs ++ ys) ≡ to_table xs ++ to_table ys
to_append [] ys = refl
to_append (step u x ∷ xs) ys = ap (λ (l : List asks.Ask). Step u x ∷ l) (to_append xs ys)
to_append (start u n a b ∷ xs) ys = go (known_by n a b) (to_append xs ys)
  where
    go : (k : Bool) → to_table (xs ++ ys) ≡ to_table xs ++ to_table ys
        → cond k (Start u n (flags_to a b n) ∷ to_table (xs ++ ys)) (to_table (xs ++ ys))
        ≡ cond k (Start u n (flags_to a b n) ∷ to_table xs) (to_table xs) ++ to_table ys
    go true e = ap (λ (l : List asks.Ask). Start u n (flags_to a b n) ∷ l) e
    go false e = e

pub or_same : (a b c : Bool) → (a || (b || c)) ≡ ((a || b) || c)
or_same true b c = refl
or_same false b c = refl

pub starts_append : (u : ℕ) (acc more : List asks.Ask) → starts_in u (acc ++ more) ≡ (starts_in u acc || starts_in u more)
starts_append u [] more = refl
starts_append u (Start v n flags ∷ acc) more = rw (starts_append u acc more) (or_same (eqb v u) (starts_in u acc) (starts_in u more))
starts_append u (Step v x ∷ acc) more = starts_append u acc more

pub steps_append : (u : ℕ) (acc more : List asks.Ask) → steps_in u (acc ++ more) ≡ steps_in u acc ++ steps_in u more
steps_append u [] more = refl
steps_append u (Start v n flags ∷ acc) more = steps_append u acc more
steps_append u (Step v x ∷ acc) more = rw (steps_append u acc more) (go (eqb v u))
  where
    go : (b : Bool)
        → cond b (x ∷ (steps_in u acc ++ steps_in u more)) (steps_in u acc ++ steps_in u more)
        ≡ cond b (x ∷ steps_in u acc) (steps_in u acc) ++ steps_in u more
    go true = refl
    go false = refl

-- from i on
pub from : {i : ℕ} (P : ℕ → Type 0) → P i → ((j : ℕ) → i ≤ j → P j → P (suc j)) → (j : ℕ) → i ≤ j → P j
from {i} P b s j h = let e : i + (j - i) ≡ j = omega arith in subst P e (go (j - i))
  where
    go : (d : ℕ) → P (i + d)
    go zero = subst P (sym (add-zero i)) b
    go (suc d) = subst P (sym (add-suc i d)) (s (i + d) (omega arith) (go d))

-- a line that asks for an announcement of u is `(update u (announce))`
pub announce_only :
    {l : List ℕ} {q : Ask UpdateAsk} {u : ℕ} {x : Request} → UpdateAsks l q → q ≡ request (step u x) → is_announce (kind x) ≡ true
    → Says l (update u announce)
announce_only {l} {u = u} {x = x} (says (wrapped.step w f) s) e y =
    let at : w ≡ u = cc in
    let same : ring_request f ≡ x = cc in
    subst (λ (k : ℕ). Says l (update k announce)) at
    (subst (λ (g : Form). Says l (update w g)) (ring_only f (ap (λ (z : Request). is_announce (kind z)) same ∙ y)) s)
announce_only (says (wrapped.bare w n) s) e y = absurd (let z : ◌≡◌ {A = ℕ} 0 1 = cc in let w : ⊥ = omega arith in w)
announce_only (says (wrapped.lists w n a b) s) e y = absurd (let z : ◌≡◌ {A = ℕ} 0 1 = cc in let w : ⊥ = omega arith in w)
announce_only (other o h) e y = absurd (let z : ◌≡◌ {A = ℕ} 0 1 = cc in let w : ⊥ = omega arith in w)
announce_only (cut u) e y = absurd (let z : ◌≡◌ {A = ℕ} 0 1 = cc in let w : ⊥ = omega arith in w)
