-- What a panel accepts next, from what its ring does. Assumes nothing.
use borrow.Author.Tests.{not-false}
use mathlib.Core.Bool.{false, not, true}
use mathlib.Core.Logic.{◌↔◌, ◌⊎◌, inl, inr}
use mathlib.Core.Path.{◌∙◌, ◌≡◌, ap, refl, subst, sym}
use Rattle.laws.proofs.Tests.{false_true, split}
use Rattle.panel_rules.proofs.Accepted.{panel_accepts, passed, ring_accepts}
use Rattle.panel_rules.proofs.Answers.{ring_verdict}
use Rattle.panel_rules.proofs.Numbers.{close_15}
use Rattle.panel_rules.specs.Answers.{verdict_of}
use Rattle.panel_rules.specs.Rules.{bad_word, unequal}
use Rattle.panel_rules.specs.Soundness.{Sound}
use Rattle.panel_rules.specs.State.{Panel, agreed}
use Rattle.panel_runs.specs.Counts.{to_ring}
use Rattle.panel_rules.specs.Asks.{Step, panel}
use Rattle.runs.specs.Runs.{Accepts, Request}
use Rattle.panel_runs.specs.WholeRun.{OneOfThree, close, stuck, token_moves}
use Rattle.refusal.specs.Table.{code_of}
use Rattle.ring_rules.proofs.Accepted.{Rule, accepted, allowed, announces, conclusive-true, true-conclusive}
use Rattle.ring_rules.proofs.Driver.{never}
use Rattle.ring_rules.specs.Answers as ring_answers
use Rattle.ring_rules.specs.Rules.{Announce, Kind, Pass, Probe, conclusive}
use Rattle.ring_rules.specs.Soundness as ring_sound
use Rattle.ring_rules.specs.State.{State}
use Rattle.ring_rules.specs.Theorems.{TokenMove, passing, probing}
use Rattle.ring_runs.specs.Counts.{kind, ring}
use Rattle.ring_runs.specs.Requests.{announce}
use Rattle.ring_runs.specs.WholeRun as ring_runs
use Rattle.ring_rules.specs.Rules.{Idle}
use Rattle.ring_rules.specs.Rules.{Send}
use Rattle.ring_rules.specs.Rules.{Take}
use Rattle.ring_rules.specs.Rules.{Unknown}

-- an open sound ring takes an announcement exactly where the announce test holds
pub announce_test : (r : State) → ring_sound.Open r → (x : Request) → kind x ≡ Announce → Accepts ring r x ↔ (conclusive r ≡ true)
announce_test r o x e = (
  λ a. go (subst (Rule r x.i x.j) e (allowed r (kind x) x.i x.j a).by),
  λ c. ap (λ (k : Kind). ring_answers.verdict_of r k x.i x.j) e ∙ accepted r Announce x.i x.j o (announces (conclusive-true r c)),
)
  where
    go : Rule r x.i x.j Announce → conclusive r ≡ true
    go (announces c) = true-conclusive r c

module _ (p : Panel) (s : Sound p) (open_ring : p.ring.closed ≡ false) where
  abbrev running : ring_sound.Open p.ring
  running = record { sound = s.ring; running = open_ring }

  -- a token move of the ring is accepted at the station
  moves : (x : Request) → Accepts ring p.ring x → TokenMove (kind x) → Accepts panel p (Step x)
  moves x a m = go (kind x) m ∙ a
    where
      go : (k : Kind) → TokenMove k → verdict_of p k x.i x.j ≡ ring_answers.verdict_of p.ring k x.i x.j
      go Probe probing = ring_verdict p s Probe x.i x.j refl refl
      go Pass passing = ring_verdict p s Pass x.i x.j refl refl
      go Send x'' = elim x'' [ ]
      go Take x3 = elim x3 [ ]
      go Idle x4 = elim x4 [ ]
      go Announce x5 = elim x5 [ ]
      go Unknown x6 = elim x6 [ ]

  ring_takes : (y : Request) → Accepts panel p (Step y) → Accepts ring p.ring (to_ring y)
  ring_takes y a = ring_accepts p (kind y) y.i y.j a

  as_close : (x : Request) → kind x ≡ Announce → bad_word (kind x) x.j ≡ false
  as_close x e = ap (λ (k : Kind). bad_word k x.j) e

  pub one_of_three : ring_runs.OneOfTwo p.ring → OneOfThree p
  one_of_three (ring_runs.token_moves x a only) = token_moves (go (split (conclusive p.ring))) x (moves x a (only x a)) (λ y b. only (to_ring y) (ring_takes y b))
    where
      go : (conclusive p.ring ≡ true) ⊎ (conclusive p.ring ≡ false) → conclusive p.ring ≡ false
      go (inr f) = f
      go (inl t) = absurd (never (kind announce) (only announce ((announce_test p.ring running announce refl).1 t)) refl)
  one_of_three (ring_runs.announcement every only) = go (split (agreed p))
    where
      test : conclusive p.ring ≡ true
      test = (announce_test p.ring running announce refl).0 (every announce refl)

      go : (agreed p ≡ true) ⊎ (agreed p ≡ false) → OneOfThree p
      go (inl t) =
          close test t
          (λ x e. panel_accepts p (kind x) x.i x.j s (as_close x e) (ap (unequal p) e ∙ ap not t) (every (to_ring x) e))
          (λ y a. only (to_ring y) (ring_takes y a))
      go (inr f) =
          stuck test f
          (λ x e. ap (λ (k : Kind). code_of (verdict_of p k x.i x.j)) e ∙ (close_15 p x.i x.j).1 (s, open_ring, test, f))
          (λ y a. false_true (sym f ∙ not-false (agreed p) (ap (unequal p) (sym (only (to_ring y) (ring_takes y a))) ∙ (passed p (kind y) y.i y.j a).equal)))
