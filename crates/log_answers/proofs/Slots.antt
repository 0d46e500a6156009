-- The end lines of a table, one update more at a time. Assumes nothing.
use Prim.Native.Nat.{◌*◌, ◌+◌, ◌<◌, ◌≤◌, ℕ}
use lib.ListN.{get_or, length, length-append, length-map}
use mathlib.Core.List.{List, ◌++◌, map}
use mathlib.Core.Path.{◌∙◌, ◌≡◌, ap, refl, subst, sym}
use native.Mathlib.Numerals.{add-one}
use native.Mathlib.Omega.{arith}
use borrow.Author.Tests.{ne_eqb}
use Rattle.decimal.proofs.Put.{put-length}
use Rattle.decimal.specs.Text.{put}
use Rattle.log_rules.specs.Answers.{ends_to, update_end}
use Rattle.log_answers.proofs.Texts.{wrote_then}
use Rattle.log_answers.specs.Wrote.{Wrote}
use Rattle.ring_rules.specs.State.{State}
use lib.ListN.{get_or-map}
use Rattle.laws.proofs.Columns.{any_default}
use Rattle.table.specs.View.{table_by}
use Rattle.table_rules.specs.Soundness.{SoundTable}
use Rattle.table_rules.specs.Table.{NotStarted, Slot, Started, slot_at, slot_of}
use Rattle.log_answers.specs.Slots.{SoundSlot}

-- a ring of no nodes stands for an update that is not started
pub slot_none : (r : State) → r.n ≡ 0 → slot_of r ≡ NotStarted
slot_none r e = rw e

pub slot_some : (r : State) → (r.n ≡ 0 → ⊥) → slot_of r ≡ Started r
slot_some r e = rw (ne_eqb _ _ e)

-- the end lines of updates 0 to u - 1 are written, and p is the index past them
pub record Ended (b : List ℕ) (at : ℕ) (l : List State) (ms : List ℕ) (u p : ℕ) (c : List ℕ) : Type 0 where
  pub inside : u ≤ 8
  pub wrote : Wrote b at (ends_to u (table_by l) ms) p c
  pub short : length (ends_to u (table_by l) ms) ≤ u * 300
  pub same : length c ≡ length b

module _ (b : List ℕ) (at : ℕ) (l : List State) (ms : List ℕ) where
  pub none_ended : Ended b at l ms 0 at b
  unfolding ends_to put
  none_ended = record { inside = omega arith; wrote = (omega arith, refl); short = omega arith; same = refl }

  module _ (s : SoundTable (table_by l)) (u : ℕ) (h : u < 8) (d : State) where
    at_place : slot_at (table_by l) u ≡ slot_of (get_or l u d)
    at_place = any_default (map slot_of l) u NotStarted (slot_of d) (omega (arith, length-map l slot_of, s.places)) ∙ get_or-map slot_of l u d

    pub slot_sound : SoundSlot (slot_of (get_or l u d))
    slot_sound r e = s.each u r (at_place ∙ e)

    next_end : ends_to (u + 1) (table_by l) ms ≡ ends_to u (table_by l) ms ++ update_end u (slot_of (get_or l u d)) (get_or ms u 0)
    unfolding ends_to
    next_end = rw (add-one u) (ap (λ (x : Slot). ends_to u (table_by l) ms ++ update_end u x (get_or ms u 0)) at_place)

    -- one update more
    pub next_ended :
        {p r : ℕ} {c c' : List ℕ} → Ended b at l ms u p c → Wrote c p (update_end u (slot_of (get_or l u d)) (get_or ms u 0)) r c'
        → length (update_end u (slot_of (get_or l u d)) (get_or ms u 0)) ≤ 300 → Ended b at l ms (u + 1) r c'
    next_ended {r = r} {c' = c'} e w k =
        let before = ends_to u (table_by l) ms in
        let text = update_end u (slot_of (get_or l u d)) (get_or ms u 0) in
        record {
          inside = omega arith;
          wrote = subst (λ (t : List ℕ). Wrote b at t r c') (sym next_end) (wrote_then before text b at e.wrote w);
          short = omega (arith, ap length next_end, length-append before text, e.short);
          same = ap length w.1 ∙ put-length text _ _ ∙ e.same;
        }
