-- What ends a run and what starts one is a close or a start among the requests accepted. Assumes nothing.
use Prim.Native.Nat.{ℕ}
use mathlib.Core.Bool.{true}
use mathlib.Core.List.{List, [], ◌++◌, ◌∷◌}
use mathlib.Core.Logic.{⊎_elim}
use mathlib.Core.Path.{◌∙◌, ◌≡◌, ap, refl}
use Rattle.laws.proofs.Tests.{false_true, left_true, one_of, right_true}
use Rattle.panel_rules.specs.Asks.{Ask, Start, Step}
use Rattle.panel_runs.specs.Counts.{ended_in, started_in}
use Rattle.panel_runs.specs.WholeRun.{Ends, EndsMean, by_close, by_start}
use Rattle.ring_rules.specs.Rules.{Announce, Idle, Kind, Pass, Probe, Send, Take, Unknown}
use Rattle.ring_runs.specs.Counts.{is_announce, kind}

is_close : (k : Kind) → is_announce k ≡ true → k ≡ Announce
is_close Send e = absurd (false_true e)
is_close Take e = absurd (false_true e)
is_close Idle e = absurd (false_true e)
is_close Probe e = absurd (false_true e)
is_close Pass e = absurd (false_true e)
is_close Announce e = refl
is_close Unknown e = absurd (false_true e)

abbrev Ended : List Ask → Type 0
Ended acc = (us : List Ask) × (a : Ask) × (vs : List Ask) × (acc ≡ us ++ (a ∷ vs)) × Ends a

abbrev Begun : List Ask → Type 0
Begun acc = (us : List Ask) × (n : ℕ) × (flags : List ℕ) × (vs : List Ask) × (acc ≡ us ++ (Start n flags ∷ vs))

ended : (acc : List Ask) → ended_in acc ≡ true → Ended acc
ended [] e = absurd (false_true e)
ended (Step x ∷ acc) e =
    ⊎_elim
    (λ h. ([], Step x, acc, refl, by_close (is_close (kind x) h)))
    (λ h. let w = ended acc h in (Step x ∷ w.0, w.1, w.2, ap (λ (l : List Ask). Step x ∷ l) w.3, w.4))
    (one_of (is_announce (kind x)) (ended_in acc) e)
ended (Start n flags ∷ acc) e = ([], Start n flags, acc, refl, by_start)

ends : (us : List Ask) (a : Ask) (vs : List Ask) → Ends a → ended_in (us ++ (a ∷ vs)) ≡ true
ends [] (Step x) vs (by_close e) = left_true (ended_in vs) (ap is_announce e)
ends [] (Start n flags) vs by_start = refl
ends (Step x ∷ us) a vs h = right_true (is_announce (kind x)) (ends us a vs h)
ends (Start n flags ∷ us) a vs h = refl

begun : (acc : List Ask) → started_in acc ≡ true → Begun acc
begun [] e = absurd (false_true e)
begun (Step x ∷ acc) e = let w = begun acc e in (Step x ∷ w.0, w.1, w.2, w.3, ap (λ (l : List Ask). Step x ∷ l) w.4)
begun (Start n flags ∷ acc) e = ([], n, flags, acc, refl)

begins : (us : List Ask) (n : ℕ) (flags : List ℕ) (vs : List Ask) → started_in (us ++ (Start n flags ∷ vs)) ≡ true
begins [] n flags vs = refl
begins (Step x ∷ us) n flags vs = begins us n flags vs
begins (Start m fs ∷ us) n flags vs = refl

pub ends_mean : EndsMean
ends_mean =
    record {
      ended = λ acc. (ended acc, λ w. ap ended_in w.3 ∙ ends w.0 w.1 w.2 w.4);
      started = λ acc. (begun acc, λ w. ap started_in w.4 ∙ begins w.0 w.1 w.2 w.3);
    }
