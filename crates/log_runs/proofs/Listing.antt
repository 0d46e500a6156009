-- The listing, by computation over the definitions. Assumes nothing.
use Prim.Native.Nat.{◌<◌, suc, zero, ℕ}
use lib.ListN.{get_or}
use mathlib.Core.Bool.{false}
use mathlib.Core.List.{List, [], ◌∷◌}
use mathlib.Core.Logic.{inl}
use mathlib.Core.Path.{◌∙◌, ◌≡◌, ap, refl, subst, sym}
use native.Mathlib.Omega.{arith}
use Rattle.color.specs.Colors.{blackened, is_black, whitened}
use Rattle.decimal.specs.Bytes.{bytes}
use Rattle.decimal.specs.Text.{decimal, digits}
use Rattle.first_line.specs.Start.{lists}
use Rattle.forms.specs.Form.{Says, announce}
use Rattle.laws.specs.Sums.{count_to, sum_to}
use Rattle.log_rules.specs.Answers.{ring_request}
use Rattle.log_rules.specs.Lines.{lines_of, split}
use Rattle.laws.proofs.Tests.{false_true}
use Rattle.refusal.specs.Table.{is_accepted}
use Rattle.ring_rules.specs.Answers.{answer_of, verdict_of}
use Rattle.ring_rules.specs.Rules.{conclusive, may_pass, may_probe}
use Rattle.ring_rules.specs.Soundness.{closed_test, flow_test, gathered_test, passive_above, range_test, safra_test, shape_test, sound_test, sum_test, unused_test, white_to}
use Rattle.ring_rules.specs.Start.{active_from, color_from, first_state, flags_test, start_of, start_verdict}
use Rattle.ring_runs.specs.Counts.{active_by, ring, transit_by}
use Rattle.runs.specs.Runs.{Request, accepted_of, run_of}
use Rattle.signed.specs.Integers.{◌⊖◌, is_positive, is_same, is_zero}
use Rattle.log_runs.proofs.Theorems.{log_runs}
use Rattle.log_runs.specs.First.{flags_to}
use Rattle.log_runs.specs.Listing.{ListingWhole, first, first_line, listing, other_lines}
use Rattle.log_runs.specs.Says.{Ask, Each, RingAsks, line, list_to, no_line, request, says}
use Rattle.log_runs.specs.WholeLog.{CountsDown, NoneBefore}
use Rattle.log_runs.specs.Answered.{OkAt, oks, verdict_at}
use Rattle.forms.specs.declared.RingStep.TheVariants as step

asked : List (Ask Request)
asked =
    request (ring_request step.Announce)
    ∷ request (ring_request step.Probe)
    ∷ request (ring_request (step.Pass 1))
    ∷ request (ring_request step.Announce)
    ∷ request (ring_request step.Probe)
    ∷ request (ring_request (step.Pass 1))
    ∷ request (ring_request step.Announce)
    ∷ request (ring_request (step.Pass 1))
    ∷ []

announce_line : Says (bytes "(announce)\n") announce
announce_line = (refl, (tt, omega arith))

probe_line : RingAsks (bytes "(probe)\n") (request (ring_request step.Probe))
probe_line = says step.Probe (refl, (tt, omega arith))

pass_line : RingAsks (bytes "(pass 1)\n") (request (ring_request (step.Pass 1)))
unfolding decimal digits
pass_line = says (step.Pass 1) (refl, (omega arith, omega arith))

each_asked : Each RingAsks other_lines asked
unfolding asked
each_asked =
    line (says step.Announce announce_line)
    (line probe_line
    (line pass_line
    (line (says step.Announce announce_line)
    (line probe_line (line pass_line (line (says step.Announce announce_line) (line pass_line no_line)))))))

lines : lines_of listing ≡ first_line ∷ other_lines
unfolding split
lines = refl

two : first.n ≡ 2
unfolding start_of start_verdict flags_test first_state
two = refl

passive : (b : ℕ) → b < first.n → active_by first [] b ≡ false
unfolding start_of start_verdict flags_test first_state active_from accepted_of
passive zero h = refl
passive (suc zero) h = refl
passive (suc (suc b)) h = absurd (let z : ⊥ = omega (arith, two) in z)

empty : (b : ℕ) → b < first.n → transit_by first [] b ≡ 0
unfolding start_of start_verdict flags_test first_state accepted_of
empty zero h = refl
empty (suc zero) h = refl
empty (suc (suc b)) h = absurd (let z : ⊥ = omega (arith, two) in z)

-- lines 2 and 5 are refused, and line 8 is accepted, after four others
computed :
    (is_accepted (verdict_at ring first asked 0) ≡ false) × (is_accepted (verdict_at ring first asked 3) ≡ false)
    × OkAt ring first asked 6 × (oks ring first asked 6 ≡ 4)
unfolding asked run_of verdict_of answer_of conclusive may_probe may_pass shape_test range_test flow_test sum_test passive_above white_to gathered_test safra_test unused_test closed_test sound_test active_from color_from first_state start_of start_verdict flags_test is_black blackened whitened ◌⊖◌ is_positive is_zero is_same count_to sum_to
computed = (refl, refl, refl, refl)

-- the second letter tells `(probe)` and `(pass 1)` from `(announce)`
not_announce : (l : List ℕ) → get_or l 1 0 ≡ 112 → Says l announce → ⊥
not_announce l p q =
    let z : ◌≡◌ {A = ℕ} 112 97 = sym p ∙ ap (λ (x : List ℕ). get_or x 1 0) q.0 in let y : ⊥ = omega arith in y

none_before : NoneBefore ring first asked other_lines 6
none_before zero h a = false_true (sym computed.0 ∙ ap is_accepted a.1)
none_before (suc zero) h a = not_announce (bytes "(probe)\n") refl a.0
none_before (suc (suc zero)) h a = not_announce (bytes "(pass 1)\n") refl a.0
none_before (suc (suc (suc zero))) h a = false_true (sym computed.1 ∙ ap is_accepted a.1)
none_before (suc (suc (suc (suc zero)))) h a = not_announce (bytes "(probe)\n") refl a.0
none_before (suc (suc (suc (suc (suc zero))))) h a = not_announce (bytes "(pass 1)\n") refl a.0
none_before (suc (suc (suc (suc (suc (suc i)))))) h a = let z : ⊥ = omega arith in z

four :
    {K : ℕ} {qs : List (Ask Request)} {Step : Request → Type 0} → Each RingAsks other_lines qs → CountsDown ring first qs other_lines Step 0 K → K ≡ 4
four {K} {qs} {Step} c d =
    let e = subst (λ (ps : List (Ask Request)). CountsDown ring first ps other_lines Step 0 K) (log_runs.ring_once c each_asked) d in
    let k = (e.exactly 6 (omega arith) none_before announce_line).0 computed.2 in
    omega (arith, computed.3, k)

pub listing_whole : ListingWhole
unfolding flags_to list_to decimal digits
listing_whole = record {
  lines = lines;
  asks = says (inl (lists 2 [] (1 ∷ []))) (refl, ((omega arith, tt, (omega arith, omega arith, tt)), omega arith));
  accepted = refl;
  begins = refl;
  quiet = record { passive = passive; empty = empty };
  four = λ log q none. four log.says (log.countdown 0 q none).2;
}
