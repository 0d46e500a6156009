-- Every accepted start is document 003's initial state, and the initial state is that start. Assumes nothing.
use Prim.Native.Nat.{◌*◌, ◌+◌, ◌<◌, ◌≤◌, ℕ}
use borrow.Author.Tests.{eq-eqb, eqb-true}
use lib.Dec.{eqb}
use lib.ListN.{get_or, get_or-replicate, length-replicate, replicate, set}
use mathlib.Core.Bool.{Bool, cond, false, true}
use mathlib.Core.Path.{◌∙◌, ◌≡◌, ap, fun_ext, refl, subst, sym}
use native.Mathlib.Omega.{arith}
use Rattle.laws.proofs.Columns.{set_at}
use Rattle.laws.proofs.Tests.{same_test}
use Rattle.refusal.specs.Table.{Accepted}
use Rattle.tree_rules.proofs.Start.{accepted_start, good_root}
use Rattle.tree_rules.specs.Answers.{Answer}
use Rattle.tree_rules.specs.Start.{first_state, start_of, start_verdict}
use Rattle.tree_runs.proofs.Change.{of_addr}
use Rattle.tree_runs.proofs.Steps.{same_systems}
use Rattle.tree_runs.specs.DijkstraScholten.{Addr, Engager, Initial, Systems, is_first, null}
use Rattle.tree_runs.specs.View.{engager_of, systems_of}

module _ {N : ℕ} (a0 : Addr N) (small : N ≤ 16) where
  good : start_of N a0.nr ≡ record { verdict = Accepted; state = first_state N a0.nr }
  good = good_root N a0.nr (omega (arith, a0.below)) small a0.below

  pub start_accepted : start_verdict N a0.nr ≡ Accepted
  start_accepted = accepted_start N a0.nr (record { some_node = omega (arith, a0.below); nodes = small; root_in = a0.below })

  flip : (a b : ℕ) → eqb a b ≡ eqb b a
  flip a b = same_test _ _ (λ e. eq-eqb b a (sym (eqb-true a b e))) (λ e. eq-eqb a b (sym (eqb-true b a e)))

  -- a column of equal values with one place set
  one_set {ℓ} : {A B : Type ℓ} (g : A → B) (v d : A) (j : Addr N) → g (get_or (set (replicate 16 d) a0.nr v) j.nr d) ≡ cond (is_first a0 j) (g v) (g d)
  one_set g v d j =
      ap g (set_at (replicate 16 d) a0.nr j.nr v d (omega (arith, length-replicate 16 d, a0.below)))
      ∙ go (eqb a0.nr j.nr) (flip a0.nr j.nr)
    where
      go : (b : Bool) → b ≡ is_first a0 j → g (cond b v (get_or (replicate 16 d) j.nr d)) ≡ cond (is_first a0 j) (g v) (g d)
      go true e = rw (← e)
      go false e = rw (← e) (ap g (get_or-replicate 16 j.nr d d (omega (arith, j.below))))

  first_initial : Initial a0 (systems_of N (first_state N a0.nr))
  unfolding first_state
  first_initial =
      record {
        active = fun_ext (λ j. one_set (λ (x : Bool). x) true false j ∙ bool (is_first a0 j));
        engager =
            fun_ext
            (λ j. one_set engager_of a0.nr 16 j ∙ ap (λ (e : Engager). cond (is_first a0 j) e null) (of_addr a0.nr (omega (arith, a0.below))));
        un_acked = fun_ext (λ j. zeros 16 j.nr (omega (arith, j.below)));
        DAT = fun_ext (λ j. fun_ext (λ k. zeros 256 (j.nr * 16 + k.nr) (omega (arith, j.below, k.below))));
        ACK = fun_ext (λ j. zeros 16 j.nr (omega (arith, j.below)));
      }
    where
      bool : (b : Bool) → cond b true false ≡ b
      bool true = refl
      bool false = refl

      zeros : (m k : ℕ) → k < m → ◌≡◌ {A = ℕ} (get_or (replicate m 0) k 0) 0
      zeros m k h = get_or-replicate {A = ℕ} m k 0 0 h

  pub start_initial : Initial a0 (systems_of N (start_of N a0.nr).state)
  start_initial = subst (λ (x : Answer). Initial a0 (systems_of N x.state)) (sym good) first_initial

  pub initial_start : (s : Systems N) → Initial a0 s → systems_of N (start_of N a0.nr).state ≡ s
  initial_start s i =
      let b = start_initial in
      same_systems (b.active ∙ sym i.active) (b.engager ∙ sym i.engager) (b.un_acked ∙ sym i.un_acked) (b.DAT ∙ sym i.DAT) (b.ACK ∙ sym i.ACK)
