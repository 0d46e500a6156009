-- Demand 3 for the tree. Assumes nothing.
use Prim.Native.Nat.{◌+◌, ◌<◌, ℕ}
use lib.ListN.{length}
use mathlib.Core.Bool.{Bool, ◌||◌, false, true}
use mathlib.Core.List.{List, [], ◌++◌, ◌∷◌}
use mathlib.Core.Logic.{◌⊎◌, inl, inr}
use mathlib.Core.Path.{◌∙◌, ◌≡◌, ap, refl, subst, sym}
use native.Mathlib.Decide.{dec_lt}
use native.Mathlib.Omega.{arith}
use Rattle.laws.proofs.Tests.{false_true, neither}
use Rattle.runs.proofs.Runs.{Run, accepted_append, kept, run_append, run_of_lem, stop, took}
use Rattle.runs.specs.Runs.{Accepts, Request, accepted_of, run_of}
use Rattle.tree_rules.proofs.Accepted.{Conclusion, Rule, accepted, announces}
use Rattle.tree_rules.proofs.Quiet.{conclusive_left, conclusive_quiet, quiet_last, quiet_next, quiet_only, quiet_stays}
use Rattle.tree_rules.proofs.Theorems.{sound_kept}
use Rattle.tree_rules.specs.Answers.{answer_of, verdict_of}
use Rattle.tree_rules.specs.Rules.{Ack, Announce, Kind, Leave}
use Rattle.tree_rules.specs.Soundness.{Open}
use Rattle.tree_rules.specs.Start.{start_of}
use Rattle.tree_rules.specs.State.{State}
use Rattle.tree_rules.specs.Termination.{Closing, Quiet, acknowledging, leaving, steps_left}
use Rattle.tree_runs.proofs.Trace.{closed_step}
use Rattle.tree_runs.proofs.Traced.{Traced, acks_is, closed_none, may, quiet_here, quiet_there, sound_after, steps_is, traced, transit_is}
use Rattle.tree_runs.specs.Counts.{AllClosing, Announced, QuietBy, Unannounced, announced_in, closing_first, is_announce, kind, no_request, tree}
use Rattle.tree_runs.specs.WholeRun.{Counted, OneOfTwo, Point, WholeRuns, announcement, closing_steps, steps_by}
use Rattle.tree_rules.specs.Rules.{Idle}
use Rattle.tree_rules.specs.Rules.{Send}
use Rattle.tree_rules.specs.Rules.{Take}
use Rattle.tree_rules.specs.Rules.{Unknown}

-- an acknowledgement or a leaving is no announcement
closing_other {ℓ} : {A : Type ℓ} (k : Kind) → Closing k → k ≡ Announce → A
closing_other Ack acknowledging e = absurd (false_true (ap is_announce e))
closing_other Leave leaving e = absurd (false_true (ap is_announce e))
closing_other {A = A} Send x'' e = elim x'' [ ]
closing_other {A = A} Take x3 e = elim x3 [ ]
closing_other {A = A} Idle x4 e = elim x4 [ ]
closing_other {A = A} Announce x5 e = elim x5 [ ]
closing_other {A = A} Unknown x6 e = elim x6 [ ]

closing_quiet : (k : Kind) → Closing k → is_announce k ≡ false
closing_quiet Ack acknowledging = refl
closing_quiet Leave leaving = refl
closing_quiet Send x' = elim x' [ ]
closing_quiet Take x'' = elim x'' [ ]
closing_quiet Idle x3 = elim x3 [ ]
closing_quiet Announce x4 = elim x4 [ ]
closing_quiet Unknown x5 = elim x5 [ ]

-- an accepted announcement passed its test
conclusion : (s : State) (k : Kind) (i j : ℕ) → k ≡ Announce → Rule s i j k → Conclusion s
conclusion s k i j e r = go (subst (λ (c : Kind). Rule s i j c) e r)
  where
    go : Rule s i j Announce → Conclusion s
    go (announces c) = c

-- ---- what a quiet open state accepts

module _ (s : State) (o : Open s) (q : Quiet s) where
  cases : (y : Request) → Accepts tree s y → (Closing (kind y) × (0 < steps_left s)) ⊎ ((kind y ≡ Announce) × (steps_left s ≡ 0))
  cases y a =
      let r = (may s y a).by in
      elim (quiet_only s o.sound q (kind y) y.i y.j r) [
        | inl c ↦ inl (c, omega (arith, (quiet_stays s o.sound q o.running (kind y) y.i y.j c r).1))
        | inr e ↦ inr (e, conclusive_left s o.sound (conclusion s (kind y) y.i y.j e r))
      ]

  accepts_kind : (x : Request) (k : Kind) → kind x ≡ k → Rule s x.i x.j k → Accepts tree s x
  accepts_kind x k e p = ap (λ (c : Kind). verdict_of s c x.i x.j) e ∙ accepted s k x.i x.j o p

  next_step : 0 < steps_left s → (x : Request) × Closing (kind x) × Accepts tree s x
  next_step h = go (quiet_next s o.sound q h)
    where
      request : ℕ → ℕ → Request
      request k i = record { kind = k; i = i; j = 0 }

      go : ((k : Kind) × (i : ℕ) × Closing k × Rule s i 0 k) → (x : Request) × Closing (kind x) × Accepts tree s x
      go (Ack, i, acknowledging, r) = (request 4 i, acknowledging, accepts_kind (request 4 i) Ack refl r)
      go (Leave, i, leaving, r) = (request 5 i, leaving, accepts_kind (request 5 i) Leave refl r)
      go (Send, i, x, r) = elim x [ ]
      go (Take, i, x, r) = elim x [ ]
      go (Idle, i, x, r) = elim x [ ]
      go (Announce, i, x, r) = elim x [ ]
      go (Unknown, i, x, r) = elim x [ ]

  announced_last : steps_left s ≡ 0 → (x : Request) → kind x ≡ Announce → Accepts tree s x
  announced_last z x e = accepts_kind x Announce e (announces (quiet_last s o.sound q z))

  one_of_two : OneOfTwo s
  one_of_two =
      elim (dec_lt 0 (steps_left s)) [
        | yes h ↦
            let w = next_step h in
            closing_steps w.0 w.2 (λ y a. elim (cases y a) [ inl c ↦ c.0 | inr e ↦ absurd (omega (arith, e.1)) ])
        | no h ↦
            announcement (announced_last (omega arith))
            (λ y a. elim (cases y a) [ inl c ↦ absurd (omega (arith, c.1)) | inr e ↦ e.0 ])
      ]

-- ---- further requests without an announcement

record Later (s : State) (acc : List Request) (u : State) : Type 0 where
  alone : AllClosing acc
  running : Open u
  quiet : Quiet u
  left : steps_left u + length acc ≡ steps_left s

later : {s u : State} {ys acc : List Request} → Run tree s ys u acc → Open s → Quiet s → announced_in acc ≡ false → Later s acc u
later (stop {s}) o q mute = record { alone = no_request; running = o; quiet = q; left = omega arith }
later (kept c) o q mute = later c o q mute
later (took {s} {x = x} {acc = acc} a c) o q mute =
    let quietly = neither (is_announce (kind x)) (announced_in acc) mute in
    elim (cases s o q x a) [
      | inl k ↦
          let w = quiet_stays s o.sound q o.running (kind x) x.i x.j k.0 (may s x a).by in
          let running : (tree.effect s x).closed ≡ false =
          closed_step s (kind x) x.i x.j ∙ rw (closing_quiet (kind x) k.0, o.running) in
          let rest = later c (record { sound = sound_after s x a; running = running }) w.0 quietly.1 in
          record {
            alone = closing_first k.0 rest.alone;
            running = rest.running;
            quiet = rest.quiet;
            left = omega (arith, rest.left, w.1);
          }
      | inr e ↦ absurd (false_true (sym quietly.0 ∙ ap is_announce e.0))
    ]

counted : (s : State) → Open s → Quiet s → (ys : List Request) → Unannounced s ys → Counted s (steps_left s) ys
counted s o q ys mute =
    let l = later (run_of_lem tree s ys) o q mute in
    let u = run_of tree s ys in
    record {
      closing_alone = l.alone;
      at_most = omega (arith, l.left);
      at_least_one = λ h. next_step u l.running l.quiet (omega (arith, l.left));
      exactly =
          λ x e. (
            λ a. elim (cases u l.running l.quiet x a) [ inl k ↦ closing_other (kind x) k.0 e | inr z ↦ omega (arith, l.left, z.1) ],
            λ h. announced_last u l.running l.quiet (omega (arith, l.left)) x e,
          );
      then = one_of_two u l.running l.quiet;
    }

-- ---- a point of a run

or-append : (xs ys : List Request) → announced_in (xs ++ ys) ≡ (announced_in xs || announced_in ys)
or-append [] ys = refl
or-append (x ∷ xs) ys = ap (λ (b : Bool). is_announce (kind x) || b) (or-append xs ys) ∙ assoc (is_announce (kind x)) (announced_in xs) (announced_in ys)
  where
    assoc : (a b c : Bool) → (a || (b || c)) ≡ ((a || b) || c)
    assoc true b c = refl
    assoc false b c = refl

module _ (t : State) (o : Open t) (xs : List Request) where
  s : State
  s = run_of tree t xs

  trace : Traced t (accepted_of tree t xs) s
  unfolding s
  trace = traced t o.sound xs

  open_here : Unannounced t xs → Open s
  open_here n = record { sound = trace.sound; running = trace.closing ∙ rw (n, o.running) }

  quiet_safe : (x : Request) → kind x ≡ Announce → Accepts tree s x → QuietBy t xs
  unfolding s
  quiet_safe x e a =
      quiet_there t o.sound xs
      (conclusive_quiet s trace.sound (conclusion s (kind x) x.i x.j e (may s x a).by))

  nothing_after : Announced t xs → (ys : List Request) → accepted_of tree s ys ≡ []
  nothing_after e ys = closed_none (run_of_lem tree s ys) (trace.closing ∙ rw (e, o.running))

  halves : (ys : List Request) → Unannounced t (xs ++ ys) → (Unannounced t xs) × (Unannounced s ys)
  unfolding s
  halves ys n =
      neither (announced_in (accepted_of tree t xs)) (announced_in (accepted_of tree s ys))
      (sym (or-append (accepted_of tree t xs) (accepted_of tree s ys)) ∙ ap announced_in (sym (accepted_append tree t xs ys)) ∙ n)

  still_quiet : QuietBy t xs → (ys : List Request) → Unannounced t (xs ++ ys) → QuietBy t (xs ++ ys)
  unfolding s
  still_quiet q ys n =
      let p = halves ys n in
      let l = later (run_of_lem tree s ys) (open_here p.0) (quiet_here t o.sound xs q) p.1 in
      quiet_there t o.sound (xs ++ ys) (rw (run_append tree t xs ys) l.quiet)

  countdown : QuietBy t xs → Unannounced t xs → (ys : List Request) → Unannounced s ys → Counted s (steps_by t xs) ys
  unfolding s
  countdown q n ys m =
      subst (λ (K : ℕ). Counted s K ys) (steps_is t o.sound xs) (counted s (open_here n) (quiet_here t o.sound xs q) ys m)

  point_of : Point t xs
  unfolding s
  point_of =
      record {
        activity = λ b _. trace.active b;
        transit = λ b c _ h. transit_is t o.sound xs b c h;
        enough = λ b c _ h. omega (arith, trace.transit b c (omega (arith, o.sound.nodes)));
        engagement = λ b _. trace.engagement b;
        acknowledgements = acks_is t o.sound xs;
        enough_acks = omega (arith, trace.acks);
        quiet = quiet_safe;
        last = nothing_after;
        still = still_quiet;
        countdown = countdown;
      }

pub whole_runs : WholeRuns
unfolding answer_of
whole_runs =
    record {
      point = point_of;
      from_start = λ n root e. point_of (start_of n root).state (sound_kept.start n root e);
      answers = λ t x. refl;
    }
