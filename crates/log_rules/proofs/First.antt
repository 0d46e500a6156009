-- A start's flags as a ring's start and a table's ask for them. Assumes nothing.
use Prim.Native.Nat.{◌<◌, ◌≤◌, ℕ}
use borrow.Author.Tests.{le-leb, le-ltb, lt-ltb}
use lib.Dec.{leb, ltb}
use lib.ListN.{take}
use lib.Seq.{get_or-take, length-take-le}
use mathlib.Core.Bool.{Bool, ◌&&◌, false, not, true}
use mathlib.Core.List.{List, [], ◌∷◌}
use mathlib.Core.Path.{◌∙◌, ◌≡◌, refl, subst⁻¹, sym}
use native.Mathlib.Decide.{dec_lt}
use native.Mathlib.Omega.{arith}
use Rattle.first_line.specs.Meaning.{Flags}
use Rattle.first_line.specs.declared.RingStart.{RingStart}
use Rattle.refusal.specs.Table.{◌⟶◌, first_of}
use Rattle.refusal.specs.declared.Refusal.TheVariants.{NodeCount, UnknownNode, UnknownUpdate}
use Rattle.refusal.specs.Table.{Accepted}
use Rattle.ring_rules.proofs.Start.{Fits, accepted_start}
use Rattle.ring_rules.specs.Start.{start_table, start_verdict}
use Rattle.table_rules.proofs.Theorems.{table_tested}
use Rattle.table_rules.specs.Answers.{other_nodes, verdict_on}
use Rattle.table_rules.specs.Soundness.{SoundTable}
use Rattle.table_rules.specs.Table.{Table}
use Rattle.log_rules.specs.Answers.{update_ask, update_table}

pub flags_fit : (f : RingStart) → 0 < f.n → f.n ≤ 96 → Flags f.flags → Fits f.n (take f.n f.flags)
flags_fit f lo hi g = record {
  some_node = lo;
  nodes = hi;
  each = length-take-le f.n f.flags (omega (arith, g.places));
  small = λ i h. subst⁻¹ (λ (x : ℕ). x ≤ 3) (get_or-take f.n f.flags i 0 h) (g.small i (omega arith));
}

started : (n : ℕ) (flags : List ℕ) → Fits n flags → first_of (start_table n flags) ≡ Accepted
unfolding start_verdict
started n flags fit = accepted_start n flags fit

module _ (f : RingStart) (g : Flags f.flags) (many : f.n ≤ 96) where
  abbrev flags : List ℕ
  flags = take f.n f.flags

  abbrev range : Bool
  range = not (ltb 0 f.n && leb f.n 96)

  last_rows : Dec (0 < f.n) → first_of (start_table f.n flags) ≡ first_of ((range ⟶ NodeCount) ∷ (false ⟶ UnknownNode) ∷ [])
  last_rows (yes lo) = started f.n flags (flags_fit f lo many g) ∙ sym (rw (lt-ltb 0 f.n lo, le-leb f.n 96 many))
  last_rows (no lo) = rw (le-ltb 0 f.n (omega arith))

  all_rows :
      (a b : Bool)
      → first_of ((a ⟶ UnknownUpdate) ∷ (b ⟶ NodeCount) ∷ start_table f.n flags)
      ≡ first_of ((a ⟶ UnknownUpdate) ∷ (b ⟶ NodeCount) ∷ (range ⟶ NodeCount) ∷ (false ⟶ UnknownNode) ∷ [])
  all_rows true b = refl
  all_rows false true = refl
  all_rows false false = last_rows (dec_lt 0 f.n)

  -- a start of an update whose lists name nodes that there are: the log's rows are the table's
  pub update_is_judged : (t : Table) → SoundTable t → (u : ℕ) → f.top ≤ f.n → verdict_on t (update_ask u f) ≡ first_of (update_table t u f)
  unfolding verdict_on
  update_is_judged t ok u top = rw (table_tested.tested t ok, le-ltb f.n f.top top) (all_rows (not (ltb u 8)) (other_nodes t f.n))
