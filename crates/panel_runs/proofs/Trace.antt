-- What each accepted request does to the panel, and so whole lists. Assumes nothing.
use Prim.Native.Nat.{ℕ}
use borrow.Author.Tests.{eqb-true}
use lib.Dec.{eqb}
use mathlib.Core.Bool.{Bool, ◌||◌, cond, false, true}
use mathlib.Core.List.{List, [], ◌∷◌}
use mathlib.Core.Path.{◌∙◌, ◌≡◌, ap, refl, sym}
use native.Mathlib.Omega.{arith}
use Rattle.laws.proofs.Columns.{set_at}
use Rattle.laws.proofs.Tests.{false_true, neither}
use Rattle.panel_rules.proofs.Accepted.{ring_accepts}
use Rattle.panel_rules.proofs.Keeps.{first_n, starts}
use Rattle.panel_rules.proofs.Theorems.{after_sound}
use Rattle.panel_rules.specs.Rules.{firmware_said, map_said, panel_effect, second}
use Rattle.panel_rules.specs.Soundness.{Sound}
use Rattle.panel_rules.specs.State.{Panel, firmware_at, map_at, nodes}
use Rattle.runs.proofs.Runs.{Run, kept, run_keeps, stop, took}
use Rattle.panel_runs.specs.Counts.{AllMoves, ended_in, firmware_after, firmware_told, map_after, map_told, move_first, released_after, started_in}
use Rattle.panel_rules.specs.Asks.{Ask, Start, Step, after, panel}
use Rattle.runs.specs.Runs.{Accepts, Request}
use Rattle.ring_rules.proofs.Accepted.{Rule, allowed, takes}
use Rattle.ring_rules.proofs.Fields.{same_n}
use Rattle.ring_rules.specs.Rules.{Announce, Idle, Kind, Pass, Probe, Send, Take, Unknown, effect}
use Rattle.ring_rules.specs.Start as ring_start
use Rattle.ring_rules.specs.State.{State}
use Rattle.ring_rules.specs.Theorems.{TokenMove, passing, probing}
use Rattle.ring_runs.specs.Counts.{is_announce, kind}

-- ---- one accepted request

pub first_closed : (n : ℕ) (flags : List ℕ) → (ring_start.first_state n flags).closed ≡ false
unfolding ring_start.first_state
first_closed n flags = refl

pub n_after : (p : Panel) (o : Ask) → Accepts panel p o → nodes (after p o) ≡ nodes p
n_after p (Step x) a = same_n p.ring (kind x) x.i (second (kind x) x.j)
n_after p (Start n flags) a = first_n n flags ∙ (starts p n flags a).same_n

pub effect-closed : (r : State) (k : Kind) (i j : ℕ) → (effect r k i j).closed ≡ (is_announce k || r.closed)
effect-closed r Send i j = refl
effect-closed r Take i j = refl
effect-closed r Idle i j = refl
effect-closed r Probe i j = refl
effect-closed r Pass i j = refl
effect-closed r Announce i j = refl
effect-closed r Unknown i j = refl

module _ (p : Panel) (s : Sound p) (b : ℕ) where
  firmware_told_lem : (k : Kind) (i j : ℕ) → Rule p.ring i (second k j) k → firmware_at (panel_effect p k i j) b ≡ firmware_told k i j (firmware_at p b) b
  firmware_told_lem Send i j r = refl
  firmware_told_lem Take i j (takes hi _ _ _) =
      set_at p.firmware i b (firmware_said j (firmware_at p i)) false (omega (arith, s.ring.nodes, s.firmware_places)) ∙ same_place (eqb i b) refl
    where
      same_place : (t : Bool) → eqb i b ≡ t → cond t (firmware_said j (firmware_at p i)) (firmware_at p b) ≡ cond t (firmware_said j (firmware_at p b)) (firmware_at p b)
      same_place true e = ap (λ (x : ℕ). firmware_said j (firmware_at p x)) (eqb-true i b e)
      same_place false e = refl
  firmware_told_lem Idle i j r = refl
  firmware_told_lem Probe i j r = refl
  firmware_told_lem Pass i j r = refl
  firmware_told_lem Announce i j r = refl
  firmware_told_lem Unknown i j r = elim r [ ]

  map_told_lem : (k : Kind) (i j : ℕ) → Rule p.ring i (second k j) k → map_at (panel_effect p k i j) b ≡ map_told k i j (map_at p b) b
  map_told_lem Send i j r = refl
  map_told_lem Take i j (takes hi _ _ _) =
      set_at p.map i b (map_said j (map_at p i)) false (omega (arith, s.ring.nodes, s.map_places)) ∙ same_place (eqb i b) refl
    where
      same_place : (t : Bool) → eqb i b ≡ t → cond t (map_said j (map_at p i)) (map_at p b) ≡ cond t (map_said j (map_at p b)) (map_at p b)
      same_place true e = ap (λ (x : ℕ). map_said j (map_at p x)) (eqb-true i b e)
      same_place false e = refl
  map_told_lem Idle i j r = refl
  map_told_lem Probe i j r = refl
  map_told_lem Pass i j r = refl
  map_told_lem Announce i j r = refl
  map_told_lem Unknown i j r = elim r [ ]

-- ---- whole chains

pub run_sound : {p t : Panel} {ls acc : List Ask} → Run panel p ls t acc → Sound p → Sound t
run_sound = run_keeps panel Sound (λ q a _ e. after_sound q a e)

pub run_n : {p t : Panel} {ls acc : List Ask} → Run panel p ls t acc → nodes t ≡ nodes p
run_n stop = refl
run_n (took {s = p} {x = o} a c) = run_n c ∙ n_after p o a
run_n (kept c) = run_n c

pub run_closed : {p t : Panel} {ls acc : List Ask} → Run panel p ls t acc → t.ring.closed ≡ released_after p.ring.closed acc
run_closed stop = refl
run_closed (took {s = p} {x = Step x} {acc = acc} a c) =
    run_closed c ∙ ap (λ (b : Bool). released_after b acc) (effect-closed p.ring (kind x) x.i (second (kind x) x.j))
run_closed (took {s = p} {x = Start n flags} {acc = acc} a c) = run_closed c ∙ ap (λ (b : Bool). released_after b acc) (first_closed n flags)
run_closed (kept c) = run_closed c

pub run_firmware : {p t : Panel} {ls acc : List Ask} → Run panel p ls t acc → Sound p → (b : ℕ) → firmware_at t b ≡ firmware_after (firmware_at p b) acc b
run_firmware stop s b = refl
run_firmware (took {s = p} {x = Step x} {acc = acc} a c) s b =
    run_firmware c (after_sound p (Step x) a) b
    ∙ ap (λ (m : Bool). firmware_after m acc b)
    (firmware_told_lem p s b (kind x) x.i x.j (allowed p.ring (kind x) x.i (second (kind x) x.j) (ring_accepts p (kind x) x.i x.j a)).by)
run_firmware (took {s = p} {x = Start n flags} a c) s b = run_firmware c (after_sound p (Start n flags) a) b
run_firmware (kept c) s b = run_firmware c s b

pub run_map : {p t : Panel} {ls acc : List Ask} → Run panel p ls t acc → Sound p → (b : ℕ) → map_at t b ≡ map_after (map_at p b) acc b
run_map stop s b = refl
run_map (took {s = p} {x = Step x} {acc = acc} a c) s b =
    run_map c (after_sound p (Step x) a) b
    ∙ ap (λ (m : Bool). map_after m acc b)
    (map_told_lem p s b (kind x) x.i x.j (allowed p.ring (kind x) x.i (second (kind x) x.j) (ring_accepts p (kind x) x.i x.j a)).by)
run_map (took {s = p} {x = Start n flags} a c) s b = run_map c (after_sound p (Start n flags) a) b
run_map (kept c) s b = run_map c s b

-- with no close and no start, what was open or released stays so
pub not_ended : (b : Bool) (acc : List Ask) → ended_in acc ≡ false → released_after b acc ≡ b
not_ended b [] e = refl
not_ended b (Step x ∷ acc) e =
    let n = neither (is_announce (kind x)) (ended_in acc) e in
    not_ended (is_announce (kind x) || b) acc n.1 ∙ ap (λ (a : Bool). a || b) n.0
not_ended b (Start n flags ∷ acc) e = absurd (false_true (sym e))

-- a panel that takes no step takes none of any list, until a start
pub none_taken :
    {p t : Panel} {ls acc : List Ask} → Run panel p ls t acc → ((x : Request) → Accepts panel p (Step x) → ⊥) → started_in acc ≡ false → acc ≡ []
none_taken stop h e = refl
none_taken (took {x = Step x} a r) h e = absurd (h x a)
none_taken (took {x = Start n flags} a r) h e = absurd (false_true (sym e))
none_taken (kept r) h e = none_taken r h e

-- token moves leave every mark
pub moves_keep : {p t : Panel} {ls acc : List Ask} → Run panel p ls t acc → AllMoves acc → (t.firmware ≡ p.firmware) × (t.map ≡ p.map)
moves_keep stop m = (refl, refl)
moves_keep (took {s = p} {x = Step x} a r) (move_first m ms) =
    let w = moves_keep r ms in
    let k = kept_marks p (kind x) x.i x.j m in (w.0 ∙ k.0, w.1 ∙ k.1)
  where
    kept_marks : (p : Panel) (k : Kind) (i j : ℕ) → TokenMove k → ((panel_effect p k i j).firmware ≡ p.firmware) × ((panel_effect p k i j).map ≡ p.map)
    kept_marks p Probe i j probing = (refl, refl)
    kept_marks p Pass i j passing = (refl, refl)
    kept_marks p Send i j x6 = elim x6 [ ]
    kept_marks p Take i j x7 = elim x7 [ ]
    kept_marks p Idle i j x8 = elim x8 [ ]
    kept_marks p Announce i j x9 = elim x9 [ ]
    kept_marks p Unknown i j x10 = elim x10 [ ]
moves_keep (kept r) m = moves_keep r m
moves_keep (took {s = p} {t = t} {x = Start _ _} {xs = xs} {acc = acc} a r) m = elim m [ ]
