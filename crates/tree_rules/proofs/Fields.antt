-- What steps leave as it was. Assumes nothing.
use Prim.Native.Nat.{ℕ}
use mathlib.Core.Path.{◌≡◌, ap, refl}
use Rattle.refusal.specs.Table.{settle}
use Rattle.refusal.specs.Table.{Verdict}
use Rattle.refusal.specs.Table.{Accepted, Refused}
use Rattle.tree_rules.proofs.Facts.{take_cases}
use Rattle.tree_rules.specs.Answers.{answer_of, step_of, verdict_of}
use Rattle.tree_rules.specs.Rules.{Ack, Announce, Idle, Kind, Leave, Send, Take, Unknown, effect, kind_of}
use Rattle.tree_rules.specs.State.{State}

-- no step changes the number of nodes or the root
abbrev fixed : State → ℕ × ℕ
fixed t = (t.n, t.root)

same_fixed : (t : State) (k : Kind) (i j : ℕ) → fixed (effect t k i j) ≡ fixed t
same_fixed t Send i j = refl
same_fixed t Take i j = take_cases (λ (s : State). fixed s ≡ fixed t) t i j (λ _. refl) (λ _. refl)
same_fixed t Idle i j = refl
same_fixed t Ack i j = refl
same_fixed t Leave i j = refl
same_fixed t Announce i j = refl
same_fixed t Unknown i j = refl

fixed_kept : (t : State) (k i j : ℕ) → fixed (step_of t k i j).state ≡ fixed t
unfolding answer_of
fixed_kept t k i j = go (verdict_of t (kind_of k) i j)
  where
    go : (v : Verdict) → fixed (settle v (effect t (kind_of k) i j) t) ≡ fixed t
    go Accepted = same_fixed t (kind_of k) i j
    go (Refused e) = refl

module _ (t : State) where
  pub same_n : (k : Kind) (i j : ℕ) → (effect t k i j).n ≡ t.n
  same_n k i j = ap (λ (p : ℕ × ℕ). p.0) (same_fixed t k i j)

  pub same_root : (k : Kind) (i j : ℕ) → (effect t k i j).root ≡ t.root
  same_root k i j = ap (λ (p : ℕ × ℕ). p.1) (same_fixed t k i j)

  pub nodes_kept : (k i j : ℕ) → (step_of t k i j).state.n ≡ t.n
  nodes_kept k i j = ap (λ (p : ℕ × ℕ). p.0) (fixed_kept t k i j)

  pub root_kept : (k i j : ℕ) → (step_of t k i j).state.root ≡ t.root
  root_kept k i j = ap (λ (p : ℕ × ℕ). p.1) (fixed_kept t k i j)
