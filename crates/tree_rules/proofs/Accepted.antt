-- The six rules as facts, and that a step is accepted exactly where its rule holds of an open state. Assumes nothing.
use Prim.Native.Nat.{◌<◌, ℕ}
use borrow.Author.Tests.{eq-eqb, eqb-false, eqb-true, leb-false, lt-leb, lt-ltb, ltb-true, ne_eqb, not-false, not-true}
use mathlib.Core.Bool.{false, not, true}
use mathlib.Core.Logic.{◌≢◌}
use mathlib.Core.Path.{◌≡◌, ap, refl, sym}
use Rattle.laws.proofs.Tests.{both, both_true, false_true, neither, not_eq}
use Rattle.refusal.proofs.Table.{accepts, none_holds}
use Rattle.refusal.specs.Table.{NoneHolds, also, none, send_limit}
use Rattle.refusal.specs.Table.{Accepted}
use Rattle.tree_rules.proofs.Facts.{engaged-true, true-engaged}
use Rattle.tree_rules.proofs.Soundness.{sound_true, true_sound}
use Rattle.tree_rules.specs.Answers.{outside, sends_spent, step_table, unknown, verdict_of}
use Rattle.tree_rules.specs.Rules.{Ack, Announce, Idle, Kind, Leave, Send, Take, Unknown, conclusive, guard, may_leave}
use Rattle.tree_rules.specs.Soundness.{Open, Sound}
use Rattle.tree_rules.specs.State.{State, acks_at, active_at, engager_at, transit_at, unacked_at}

-- the test of rule 6
pub record Conclusion (t : State) : Type 0 where
  pub passive : active_at t t.root ≡ false
  pub settled : unacked_at t t.root ≡ 0

-- what rule 5 asks of node i
pub record Leaver (t : State) (i : ℕ) : Type 0 where
  pub no_root : i ≢ t.root
  pub engaged : engager_at t i ≢ 16
  pub passive : active_at t i ≡ false
  pub settled : unacked_at t i ≡ 0

pub data Rule (t : State) (i j : ℕ) : Kind → Type 0 where
  sends : i < t.n → j < t.n → active_at t i ≡ true → t.sends < send_limit → Rule t i j Send
  takes : i < t.n → j < t.n → 0 < transit_at t j i → Rule t i j Take
  idles : i < t.n → active_at t i ≡ true → Rule t i j Idle
  acknowledges : i < t.n → 0 < acks_at t i → Rule t i j Ack
  leaves : i < t.n → Leaver t i → Rule t i j Leave
  announces : Conclusion t → Rule t i j Announce

-- ---- rules 5 and 6, as tests and as facts

pub conclusive-true : (t : State) → conclusive t ≡ true → Conclusion t
unfolding conclusive
conclusive-true t e = let p = both _ _ e in record { passive = not-true _ p.0; settled = eqb-true _ _ p.1 }

pub true-conclusive : (t : State) → Conclusion t → conclusive t ≡ true
unfolding conclusive
true-conclusive t c = both_true (not_eq c.passive) (eq-eqb _ _ c.settled)

pub leave_true : (t : State) (i : ℕ) → may_leave t i ≡ true → Leaver t i
unfolding may_leave
leave_true t i e =
    let p = both _ _ e in
    let p₂ = both _ _ p.1 in
    let p₃ = both _ _ p₂.1 in
    record {
      no_root = eqb-false _ _ (not-true _ p.0);
      engaged = engaged-true t i p₂.0;
      passive = not-true _ p₃.0;
      settled = eqb-true _ _ p₃.1;
    }

true_leave : (t : State) (i : ℕ) → Leaver t i → may_leave t i ≡ true
unfolding may_leave
true_leave t i l =
    both_true (not_eq (ne_eqb _ _ l.no_root))
    (both_true (true-engaged t i l.engaged) (both_true (not_eq l.passive) (eq-eqb _ _ l.settled)))

-- ---- a step that no row of the table refuses

pub record Allowed (t : State) (k : Kind) (i j : ℕ) : Type 0 where
  pub sound : Sound t
  pub running : t.closed ≡ false
  pub by : Rule t i j k

rule :
    (t : State) (k : Kind) (i j : ℕ) → unknown k ≡ false → outside t k i j ≡ false → guard t k i j ≡ true → sends_spent t k
    ≡ false → Rule t i j k
rule t Send i j u o g p =
    let q = neither _ _ o in
    sends (leb-false _ _ q.0) (leb-false _ _ q.1) g (leb-false _ _ p)
rule t Take i j u o g p = let q = neither _ _ o in takes (leb-false _ _ q.0) (leb-false _ _ q.1) (ltb-true _ _ g)
rule t Idle i j u o g p = idles (leb-false _ _ o) g
rule t Ack i j u o g p = acknowledges (leb-false _ _ o) (ltb-true _ _ g)
rule t Leave i j u o g p = leaves (leb-false _ _ o) (leave_true t i g)
rule t Announce i j u o g p = announces (conclusive-true t g)
rule t Unknown i j u o g p = absurd (false_true (sym u))

pub allowed : (t : State) (k : Kind) (i j : ℕ) → verdict_of t k i j ≡ Accepted → Allowed t k i j
unfolding verdict_of
allowed t k i j e = go (none_holds (step_table t k i j) e)
  where
    go : NoneHolds (step_table t k i j) → Allowed t k i j
    go (also s (also c (also u (also o (also g (also p none)))))) =
        record { sound = sound_true t (not-false _ s); running = c; by = rule t k i j u o (not-false _ g) p }

pub rule_guard : (t : State) (k : Kind) (i j : ℕ) → Rule t i j k → guard t k i j ≡ true
rule_guard t Send i j (sends hi hj act lim) = act
rule_guard t Take i j (takes hi hj m) = lt-ltb _ _ m
rule_guard t Idle i j (idles hi act) = act
rule_guard t Ack i j (acknowledges hi a) = lt-ltb _ _ a
rule_guard t Leave i j (leaves hi l) = true_leave t i l
rule_guard t Announce i j (announces c) = true-conclusive t c
rule_guard t Unknown i j x' = elim x' [ ]

-- the rows that the rule itself answers
record Passed (t : State) (k : Kind) (i j : ℕ) : Type 0 where
  known : unknown k ≡ false
  inside : outside t k i j ≡ false
  room : sends_spent t k ≡ false

passed : (t : State) (k : Kind) (i j : ℕ) → Rule t i j k → Passed t k i j
passed t Send i j (sends hi hj act lim) =
    record { known = refl; inside = rw (lt-leb _ _ hi, lt-leb _ _ hj); room = lt-leb _ _ lim }
passed t Take i j (takes hi hj m) = record { known = refl; inside = rw (lt-leb _ _ hi, lt-leb _ _ hj); room = refl }
passed t Idle i j (idles hi act) = record { known = refl; inside = lt-leb _ _ hi; room = refl }
passed t Ack i j (acknowledges hi a) = record { known = refl; inside = lt-leb _ _ hi; room = refl }
passed t Leave i j (leaves hi l) = record { known = refl; inside = lt-leb _ _ hi; room = refl }
passed t Announce i j (announces c) = record { known = refl; inside = refl; room = refl }
passed t Unknown i j x' = elim x' [ ]

pub accepted : (t : State) (k : Kind) (i j : ℕ) → Open t → Rule t i j k → verdict_of t k i j ≡ Accepted
unfolding verdict_of
accepted t k i j o p =
    let q = passed t k i j p in
    accepts (step_table t k i j)
    (also (ap not (true_sound t o.sound))
    (also o.running
    (also q.known (also q.inside (also (ap not (rule_guard t k i j p)) (also q.room none))))))
