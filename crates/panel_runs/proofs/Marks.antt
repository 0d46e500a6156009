-- What the counted marks are, by the last accepted take that speaks of them. Assumes nothing.
use Prim.Native.Nat.{ℕ}
use borrow.Author.Tests.{eq-eqb}
use lib.Dec.{eqb}
use mathlib.Core.Bool.{Bool, ◌&&◌, ◌||◌, cond, false, true}
use mathlib.Core.List.{List, [], ◌++◌, ◌∷◌}
use mathlib.Core.Logic.{◌⊎◌, inl, inr}
use mathlib.Core.Path.{◌∙◌, ◌≡◌, ap, refl}
use Rattle.laws.proofs.Tests.{neither}
use Rattle.panel_rules.specs.Asks.{Ask, Start, Step, panel}
use Rattle.panel_rules.specs.Rules.{firmware_said, map_said}
use Rattle.panel_rules.specs.State.{Panel, firmware_at, map_at}
use Rattle.panel_runs.specs.Counts.{Silent, firmware_after, firmware_by, firmware_told, is_take, map_after, map_by, map_told, nothing, other}
use Rattle.panel_runs.specs.WholeRun.{MarksTold}
use Rattle.ring_rules.specs.Rules.{Announce, Idle, Kind, Pass, Probe, Send, Take, Unknown}
use Rattle.ring_runs.specs.Counts.{kind}
use Rattle.ring_runs.specs.Requests.{take}
use Rattle.runs.specs.Runs.{accepted_of}

-- a node's mark where the word says nothing of it, or another node takes
kept_by :
    (v w i j b : ℕ) (m said : Bool) → (eqb j v ≡ false → eqb j w ≡ false → said ≡ m) → (eqb i b && (eqb j v || eqb j w)) ≡ false
    → cond (eqb i b) said m ≡ m
kept_by v w i j b m said h = go (eqb i b)
  where
    go : (t : Bool) → (t && (eqb j v || eqb j w)) ≡ false → cond t said m ≡ m
    go true e = let n = neither (eqb j v) (eqb j w) e in h n.0 n.1
    go false e = refl

-- ---- firmware

firmware_kept : (j : ℕ) (m : Bool) → eqb j 1 ≡ false → eqb j 3 ≡ false → firmware_said j m ≡ m
firmware_kept j m e f = rw (e, f)

firmware_silent : (k : Kind) (i j : ℕ) (m : Bool) (b : ℕ) → (is_take k && (eqb i b && (eqb j 1 || eqb j 3))) ≡ false → firmware_told k i j m b ≡ m
firmware_silent Send i j m b e = refl
firmware_silent Take i j m b e = kept_by 1 3 i j b m (firmware_said j m) (firmware_kept j m) e
firmware_silent Idle i j m b e = refl
firmware_silent Probe i j m b e = refl
firmware_silent Pass i j m b e = refl
firmware_silent Announce i j m b e = refl
firmware_silent Unknown i j m b e = refl

firmware_stays : (m : Bool) (b : ℕ) (acc : List Ask) → Silent 1 3 b acc → firmware_after m acc b ≡ m
firmware_stays m b [] nothing = refl
firmware_stays m b (Step x ∷ acc) (other e s) =
    ap (λ (t : Bool). firmware_after t acc b) (firmware_silent (kind x) x.i x.j m b e) ∙ firmware_stays m b acc s
firmware_stays m b (Start n flags ∷ acc) (other e s) = firmware_stays m b acc s

firmware_append : (m : Bool) (us vs : List Ask) (b : ℕ) → firmware_after m (us ++ vs) b ≡ firmware_after (firmware_after m us b) vs b
firmware_append m [] vs b = refl
firmware_append m (Step x ∷ us) vs b = firmware_append (firmware_told (kind x) x.i x.j m b) us vs b
firmware_append m (Start n flags ∷ us) vs b = firmware_append m us vs b

firmware_said_lem : (word : ℕ) (m : Bool) → (word ≡ 1) ⊎ (word ≡ 3) → firmware_said word m ≡ eqb word 1
firmware_said_lem word m (inl e) = rw e
firmware_said_lem word m (inr e) = rw e

firmware_last :
    (p : Panel) (ls : List Ask) (b word : ℕ) (us vs : List Ask) → accepted_of panel p ls ≡ us ++ (Step (take b word) ∷ vs)
    → (word ≡ 1) ⊎ (word ≡ 3) → Silent 1 3 b vs → firmware_by p ls b ≡ eqb word 1
firmware_last p ls b word us vs e h s =
    let before = firmware_after (firmware_at p b) us b in
    ap (λ (acc : List Ask). firmware_after (firmware_at p b) acc b) e
    ∙ firmware_append (firmware_at p b) us (Step (take b word) ∷ vs) b
    ∙ firmware_stays (cond (eqb b b) (firmware_said word before) before) b vs s
    ∙ ap (λ (t : Bool). cond t (firmware_said word before) before) (eq-eqb b b refl)
    ∙ firmware_said_lem word before h

-- ---- map

map_kept : (j : ℕ) (m : Bool) → eqb j 2 ≡ false → eqb j 4 ≡ false → map_said j m ≡ m
map_kept j m e f = rw (e, f)

map_silent : (k : Kind) (i j : ℕ) (m : Bool) (b : ℕ) → (is_take k && (eqb i b && (eqb j 2 || eqb j 4))) ≡ false → map_told k i j m b ≡ m
map_silent Send i j m b e = refl
map_silent Take i j m b e = kept_by 2 4 i j b m (map_said j m) (map_kept j m) e
map_silent Idle i j m b e = refl
map_silent Probe i j m b e = refl
map_silent Pass i j m b e = refl
map_silent Announce i j m b e = refl
map_silent Unknown i j m b e = refl

map_stays : (m : Bool) (b : ℕ) (acc : List Ask) → Silent 2 4 b acc → map_after m acc b ≡ m
map_stays m b [] nothing = refl
map_stays m b (Step x ∷ acc) (other e s) =
    ap (λ (t : Bool). map_after t acc b) (map_silent (kind x) x.i x.j m b e) ∙ map_stays m b acc s
map_stays m b (Start n flags ∷ acc) (other e s) = map_stays m b acc s

map_append : (m : Bool) (us vs : List Ask) (b : ℕ) → map_after m (us ++ vs) b ≡ map_after (map_after m us b) vs b
map_append m [] vs b = refl
map_append m (Step x ∷ us) vs b = map_append (map_told (kind x) x.i x.j m b) us vs b
map_append m (Start n flags ∷ us) vs b = map_append m us vs b

map_said_lem : (word : ℕ) (m : Bool) → (word ≡ 2) ⊎ (word ≡ 4) → map_said word m ≡ eqb word 2
map_said_lem word m (inl e) = rw e
map_said_lem word m (inr e) = rw e

map_last :
    (p : Panel) (ls : List Ask) (b word : ℕ) (us vs : List Ask) → accepted_of panel p ls ≡ us ++ (Step (take b word) ∷ vs)
    → (word ≡ 2) ⊎ (word ≡ 4) → Silent 2 4 b vs → map_by p ls b ≡ eqb word 2
map_last p ls b word us vs e h s =
    let before = map_after (map_at p b) us b in
    ap (λ (acc : List Ask). map_after (map_at p b) acc b) e
    ∙ map_append (map_at p b) us (Step (take b word) ∷ vs) b
    ∙ map_stays (cond (eqb b b) (map_said word before) before) b vs s
    ∙ ap (λ (t : Bool). cond t (map_said word before) before) (eq-eqb b b refl)
    ∙ map_said_lem word before h

pub marks_told : MarksTold
marks_told =
    record {
      firmware_first = λ p ls b s. firmware_stays (firmware_at p b) b (accepted_of panel p ls) s;
      firmware_last = firmware_last;
      map_first = λ p ls b s. map_stays (map_at p b) b (accepted_of panel p ls) s;
      map_last = map_last;
    }
