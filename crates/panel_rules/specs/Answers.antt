-- The verdict on a step and on a start, and the answer, for every panel and all numbers. A step's refusals in the order 3, 4, 5, 6, 14, 8, 15, 9.
use Rattle.std.specs.Prelude.{ℕ, eqb, leb, Bool, not, List, [], ◌∷◌}
use Rattle.panel_rules.specs.Rules.{bad_word, panel_effect, restarted, second, unequal}
use Rattle.panel_rules.specs.Soundness.{sound_test}
use Rattle.panel_rules.specs.State.{Panel, entered, firmware_at, map_at, marks_number, nodes, record_number}
use Rattle.refusal.specs.Answers as answers
use Rattle.refusal.specs.Counts.{count_of}
use Rattle.refusal.specs.Table.{Row, ◌⟶◌, first_of, settle}
use Rattle.refusal.specs.Counts.{Count}
use Rattle.refusal.specs.declared.Refusal.TheVariants.{Closed, JobWord, NodeCount, RuleFails, SendLimit, UnequalMarks, UnknownKind, UnknownNode, Unsound}
use Rattle.refusal.specs.Table.{Verdict}
use Rattle.ring_rules.specs.Answers.{outside, sends_spent, unknown}
use Rattle.ring_rules.specs.Rules.{Kind, guard}
use Rattle.ring_rules.specs.Start as ring

-- the rows for a step at the station, by what is found of the request
abbrev pub panel_rows : Bool → Bool → Bool → Bool → Bool → Bool → Bool → Bool → List Row
panel_rows sound closed unknown outside bad allowed unequal spent =
    (not sound ⟶ Unsound)
    ∷ (closed ⟶ Closed)
    ∷ (unknown ⟶ UnknownKind)
    ∷ (outside ⟶ UnknownNode)
    ∷ (bad ⟶ JobWord)
    ∷ (not allowed ⟶ RuleFails)
    ∷ (unequal ⟶ UnequalMarks)
    ∷ (spent ⟶ SendLimit)
    ∷ []

abbrev pub step_table : Panel → Kind → ℕ → ℕ → List Row
step_table p k i j =
    panel_rows (sound_test p) p.ring.closed (unknown k) (outside p.ring k i (second k j)) (bad_word k j)
    (guard p.ring k i (second k j)) (unequal p k) (sends_spent p.ring k)

unfoldable pub verdict_of : Panel → Kind → ℕ → ℕ → Verdict
verdict_of p k i j = first_of (step_table p k i j)

abbrev pub Answer : Type 0
Answer = answers.Answer Panel

-- the answer of a step: the next panel where it is accepted, and else the very panel handed in
unfoldable pub answer_of : Panel → Kind → ℕ → ℕ → Answer
answer_of p k i j = record { verdict = verdict_of p k i j; state = settle (verdict_of p k i j) (panel_effect p k i j) p }

-- ---- a start on a panel: 3, then 1, for another N than the panel's too, then 2

abbrev pub start_table : Panel → ℕ → List ℕ → List Row
start_table p n flags =
    (not (sound_test p) ⟶ Unsound)
    ∷ (not (eqb n (nodes p)) ⟶ NodeCount)
    ∷ ring.start_table n flags

unfoldable pub start_verdict : Panel → ℕ → List ℕ → Verdict
start_verdict p n flags = first_of (start_table p n flags)

unfoldable pub start_of : Panel → ℕ → List ℕ → Answer
start_of p n flags = record { verdict = start_verdict p n flags; state = settle (start_verdict p n flags) (restarted p n flags) p }

-- ---- entering: the ring's start, all marks old, the record empty. A refused one yields no panel: the ring's blank stands in it, so that
-- every use of it is refused with 3.

unfoldable pub enter_of : ℕ → List ℕ → Answer
enter_of n flags = record { verdict = (ring.start_of n flags).verdict; state = entered (ring.start_of n flags).state }

-- ---- what is read of a panel: 3 where it is not sound, and of a node's marks 6 where there is no such node; 0 stands in the place of a number
-- that is refused and says nothing

abbrev pub record_answer : Panel → Count
record_answer p = count_of (sound_test p) (record_number p.recorded)

abbrev pub marks_rows : Bool → Bool → List Row
marks_rows sound outside = (not sound ⟶ Unsound) ∷ (outside ⟶ UnknownNode) ∷ []

abbrev pub marks_told : Bool → Bool → ℕ → Count
marks_told sound outside number = record { verdict = first_of (marks_rows sound outside); number = settle (first_of (marks_rows sound outside)) number 0 }

abbrev pub marks_answer : Panel → ℕ → Count
marks_answer p i = marks_told (sound_test p) (leb (nodes p) i) (marks_number (firmware_at p i) (map_at p i))
