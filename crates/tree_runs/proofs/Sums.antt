-- A sound state has document 003's invariants. Assumes nothing.
use Prim.Native.Nat.{◌+◌, ◌<◌, ◌≤◌, suc, zero, ℕ}
use borrow.Author.Tests.{ne_eqb}
use lib.Dec.{eqb}
use mathlib.Core.Bool.{Bool, ◌&&◌, cond, not}
use mathlib.Core.Logic.{◌≢◌}
use mathlib.Core.Path.{◌∙◌, ◌≡◌, ap, fun_ext, refl, sym}
use native.Mathlib.Decide.{ℕ_discrete}
use native.Mathlib.Nat.{le_of_suc-le, le_refl}
use native.Mathlib.Omega.{arith}
use Rattle.laws.proofs.Sums.{count_sum, sum_short, sum_zero}
use Rattle.laws.specs.Sums.{sum_to}
use Rattle.tree_rules.proofs.Chains.{climb_outside}
use Rattle.tree_rules.proofs.Facts.{Facts, facts, in_range_lem, root_16, true-engaged}
use Rattle.tree_rules.proofs.Quiet.{conclusive_quiet}
use Rattle.tree_rules.proofs.Sums.{no_child}
use Rattle.tree_rules.specs.Soundness.{Sound}
use Rattle.tree_rules.specs.State.{State, children, climb, engager_at, is_child, messages_from, transit_at}
use Rattle.tree_runs.proofs.Change.{null_engaged, null_of, of_addr, of_null}
use Rattle.tree_runs.specs.Agreement.{root_of, shown}
use Rattle.tree_runs.specs.DijkstraScholten.{A1, Addr, B1, B2, B3, Path, edge, is_addr, num_dat, one_edge, start, sum, sum_below}
use Rattle.tree_runs.specs.View.{engager_of}

-- a sum over addresses is one over numbers
sum_is : {N : ℕ} (f : ℕ → ℕ) (m : ℕ) (h : m ≤ N) → sum_below (λ (k : Addr N). f k.nr) m h ≡ sum_to m f
unfolding sum_below sum_to
sum_is f zero h = refl
sum_is f (suc m) h = ap (λ (x : ℕ). x + f m) (sum_is f m (le_of_suc-le h))

module _ (t : State) (ok : Sound t) where
  f : Facts t
  f = facts t ok

  abbrev a0 : Addr t.n
  a0 = root_of t ok

  low : (j : Addr t.n) → j.nr < 16
  low j = in_range_lem t f j.nr j.below

  -- ---- B2

  messages_are : (j : Addr t.n) → num_dat (shown t) j ≡ messages_from t.transit j.nr
  unfolding messages_from
  messages_are j =
      sum_is (λ (k : ℕ). transit_at t j.nr k) t.n (le_refl t.n)
      ∙ sym (sum_short t.n 16 (λ (k : ℕ). transit_at t j.nr k) ok.nodes (λ k lo h. ((ok.unused k lo h).no_messages j.nr (low j)).1))

  edge_is : (j : ℕ) (e : ℕ) → j < 16 → is_addr a0 j (engager_of e) ≡ eqb e j
  edge_is j e h =
      elim (ℕ_discrete e 16) [
        | yes p ↦ ap (is_addr a0 j) (of_null e p) ∙ sym (ne_eqb e j (omega arith))
        | no p ↦ ap (is_addr a0 j) (of_addr e p)
      ]

  edges_are : (j : Addr t.n) → sum (one_edge a0 (shown t) j) ≡ children t.root t.engager j.nr
  unfolding children
  edges_are j =
      ap (λ (g : Addr t.n → ℕ). sum g)
      (fun_ext (λ (k : Addr t.n). ap (λ (b : Bool). cond {A = ℕ} (not (eqb k.nr t.root) && b) 1 0) (edge_is j.nr (engager_at t k.nr) (low j))))
      ∙
      (sum_is one t.n (le_refl t.n) ∙
      (sym (sum_short t.n 16 one ok.nodes none_above) ∙ sym (count_sum 16 (is_child t.root t.engager j.nr))))
    where
      one : ℕ → ℕ
      one k = cond (is_child t.root t.engager j.nr k) 1 0

      none_above : (k : ℕ) → t.n ≤ k → k < 16 → one k ≡ 0
      none_above k lo h =
          rw (no_child t.root t.engager j.nr k (λ e. omega (arith, (ok.unused k lo h).no_engager, low j)))

  pub balance_of : B2 a0 (shown t)
  balance_of j = omega (arith, ok.balance j.nr j.below, messages_are j, edges_are j)

  -- ---- B1

  path_of : (m : ℕ) (j : Addr t.n) → climb t.engager m j.nr ≡ t.root → Path a0 (shown t) j
  unfolding climb
  path_of zero j e = start j e
  path_of (suc m) j e =
      elim (ℕ_discrete j.nr t.root) [
        | yes p ↦ start j p
        | no p ↦
            let busy : engager_at t j.nr ≢ 16 =
            λ z. climb_outside t.engager t.root ok.shape.engager_places (root_16 t f) ok.root_own m (engager_at t j.nr) (omega arith) e in
            let k : Addr t.n = record { nr = engager_at t j.nr; below = (f.engagers j.nr (low j) busy).1 } in
            edge k j p (of_addr (engager_at t j.nr) busy) (path_of m k e)
      ]

  pub tree_of : B1 a0 (shown t)
  tree_of =
      record {
        root = ap engager_of ok.root_own ∙ of_addr t.root (omega (arith, root_16 t f));
        path =
            λ j e.
            let c = ok.chains j.nr j.below (true-engaged t j.nr (null_engaged (engager_at t j.nr) e)) in
            path_of c.0 j c.1;
      }

  -- ---- B3 and A1

  pub null_of_sound : B3 a0 (shown t)
  null_of_sound j e =
      let r = f.resting j.nr (low j) (null_of (engager_at t j.nr) e) in
      (r.passive, r.settled)

  pub safe_of : A1 a0 (shown t)
  safe_of z p =
      let q = conclusive_quiet t ok (record { passive = p; settled = z }) in
      record {
        passive = λ j. q.passive j.nr j.below;
        none =
            λ j.
            sum_is (λ (k : ℕ). transit_at t j.nr k) t.n (le_refl t.n)
            ∙ sum_zero t.n (λ (k : ℕ). transit_at t j.nr k) (λ k h. q.empty j.nr k j.below h);
      }
