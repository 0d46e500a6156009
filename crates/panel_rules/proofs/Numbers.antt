-- Which requests meet 14, 15, 8, 1 and 2. Assumes nothing.
use Prim.Native.Nat.{◌<◌, ℕ}
use borrow.Author.Tests.{eq-eqb, eqb-false, eqb-true, le-leb, leb-false, lt-leb, lt-ltb, ltb-false, ne_eqb, not-false, not-true}
use lib.Dec.{eqb, leb, ltb}
use mathlib.Core.Bool.{Bool, ◌&&◌, false, not, true}
use mathlib.Core.List.{List, [], ◌∷◌}
use mathlib.Core.Logic.{◌↔◌, ◌≢◌, ◌⊎◌, inl, inr}
use mathlib.Core.Path.{◌∙◌, ◌≡◌, ap, refl, sym}
use native.Mathlib.Omega.{arith}
use Rattle.laws.proofs.Tests.{false_true}
use Rattle.panel_rules.proofs.Accepted.{passed}
use Rattle.panel_rules.proofs.Answers.{by_tests}
use Rattle.panel_rules.proofs.Soundness.{sound_true, true_sound}
use Rattle.panel_rules.specs.Answers.{panel_rows, start_verdict, verdict_of}
use Rattle.panel_rules.specs.Rules.{bad_word, is_word, second, unequal}
use Rattle.panel_rules.specs.Soundness.{Sound, sound_test}
use Rattle.panel_rules.specs.State.{Panel, agreed, nodes}
use Rattle.refusal.specs.Table.{◌⟶◌, code_of, first_of}
use Rattle.refusal.specs.declared.Refusal.TheVariants.{NodeCount, StartFlags, Unsound}
use Rattle.refusal.specs.Table.{Accepted}
use Rattle.ring_rules.specs.Answers as ring
use Rattle.ring_rules.specs.Rules.{Announce, Idle, Kind, Pass, Probe, Send, Take, Unknown, conclusive, guard}
use Rattle.ring_rules.specs.Start.{flags_test}

-- ---- the rows of a step

abbrev row_code : Bool → Bool → Bool → Bool → Bool → Bool → Bool → Bool → ℕ
row_code s c u o b g q l = code_of (first_of (panel_rows s c u o b g q l))

-- what the rows above 14 leave
record Reached (s c u o : Bool) : Type 0 where
  sound : s ≡ true
  running : c ≡ false
  known : u ≡ false
  inside : o ≡ false

row_14 : (s c u o b g q l : Bool) → row_code s c u o b g q l ≡ 14 → Reached s c u o × (b ≡ true)
row_14 false c u o b g q l e = absurd (omega arith)
row_14 true true u o b g q l e = absurd (omega arith)
row_14 true false true o b g q l e = absurd (omega arith)
row_14 true false false true b g q l e = absurd (omega arith)
row_14 true false false false true g q l e = (record { sound = refl; running = refl; known = refl; inside = refl }, refl)
row_14 true false false false false false q l e = absurd (omega arith)
row_14 true false false false false true true l e = absurd (omega arith)
row_14 true false false false false true false true e = absurd (omega arith)
row_14 true false false false false true false false e = absurd (omega arith)

row_8 : (s c u o b g q l : Bool) → row_code s c u o b g q l ≡ 8 → Reached s c u o × (g ≡ false)
row_8 false c u o b g q l e = absurd (omega arith)
row_8 true true u o b g q l e = absurd (omega arith)
row_8 true false true o b g q l e = absurd (omega arith)
row_8 true false false true b g q l e = absurd (omega arith)
row_8 true false false false true g q l e = absurd (omega arith)
row_8 true false false false false false q l e = (record { sound = refl; running = refl; known = refl; inside = refl }, refl)
row_8 true false false false false true true l e = absurd (omega arith)
row_8 true false false false false true false true e = absurd (omega arith)
row_8 true false false false false true false false e = absurd (omega arith)

row_15 : (s c u o b g q l : Bool) → row_code s c u o b g q l ≡ 15 → Reached s c u o × (g ≡ true) × (q ≡ true)
row_15 false c u o b g q l e = absurd (omega arith)
row_15 true true u o b g q l e = absurd (omega arith)
row_15 true false true o b g q l e = absurd (omega arith)
row_15 true false false true b g q l e = absurd (omega arith)
row_15 true false false false true g q l e = absurd (omega arith)
row_15 true false false false false false q l e = absurd (omega arith)
row_15 true false false false false true true l e = (record { sound = refl; running = refl; known = refl; inside = refl }, refl, refl)
row_15 true false false false false true false true e = absurd (omega arith)
row_15 true false false false false true false false e = absurd (omega arith)

row_9 : (s c u o b g q l : Bool) → row_code s c u o b g q l ≡ 9 → Reached s c u o × (l ≡ true)
row_9 false c u o b g q l e = absurd (omega arith)
row_9 true true u o b g q l e = absurd (omega arith)
row_9 true false true o b g q l e = absurd (omega arith)
row_9 true false false true b g q l e = absurd (omega arith)
row_9 true false false false true g q l e = absurd (omega arith)
row_9 true false false false false false q l e = absurd (omega arith)
row_9 true false false false false true true l e = absurd (omega arith)
row_9 true false false false false true false true e = (record { sound = refl; running = refl; known = refl; inside = refl }, refl)
row_9 true false false false false true false false e = absurd (omega arith)

module _ (p : Panel) where
  module _ (k : Kind) (i j : ℕ) where
    told :
        code_of (verdict_of p k i j)
        ≡ row_code (sound_test p) p.ring.closed (ring.unknown k) (ring.outside p.ring k i (second k j)) (bad_word k j)
        (guard p.ring k i (second k j)) (unequal p k) (ring.sends_spent p.ring k)
    unfolding verdict_of
    told = refl

    abbrev Past : Type 0
    Past = Reached (sound_test p) p.ring.closed (ring.unknown k) (ring.outside p.ring k i (second k j))

    at_14 : code_of (verdict_of p k i j) ≡ 14 → Past × (bad_word k j ≡ true)
    at_14 e = row_14 (sound_test p) p.ring.closed (ring.unknown k) (ring.outside p.ring k i (second k j)) (bad_word k j) (guard p.ring k i (second k j)) (unequal p k) (ring.sends_spent p.ring k) (sym told ∙ e)

    at_9 : code_of (verdict_of p k i j) ≡ 9 → Past × (ring.sends_spent p.ring k ≡ true)
    at_9 e = row_9 (sound_test p) p.ring.closed (ring.unknown k) (ring.outside p.ring k i (second k j)) (bad_word k j) (guard p.ring k i (second k j)) (unequal p k) (ring.sends_spent p.ring k) (sym told ∙ e)

    at_8 : code_of (verdict_of p k i j) ≡ 8 → Past × (guard p.ring k i (second k j) ≡ false)
    at_8 e = row_8 (sound_test p) p.ring.closed (ring.unknown k) (ring.outside p.ring k i (second k j)) (bad_word k j) (guard p.ring k i (second k j)) (unequal p k) (ring.sends_spent p.ring k) (sym told ∙ e)

    at_15 : code_of (verdict_of p k i j) ≡ 15 → Past × (guard p.ring k i (second k j) ≡ true) × (unequal p k ≡ true)
    at_15 e = row_15 (sound_test p) p.ring.closed (ring.unknown k) (ring.outside p.ring k i (second k j)) (bad_word k j) (guard p.ring k i (second k j)) (unequal p k) (ring.sends_spent p.ring k) (sym told ∙ e)

  no_word : (j : ℕ) → not (is_word j) ≡ true → (j ≡ 0) ⊎ (4 < j)
  no_word j e = go (leb 1 j) (leb j 4) refl refl (not-true _ e)
    where
      go : (a b : Bool) → leb 1 j ≡ a → leb j 4 ≡ b → (a && b) ≡ false → (j ≡ 0) ⊎ (4 < j)
      go false b x y z = let h = leb-false 1 j x in inl (omega arith)
      go true false x y z = inr (leb-false j 4 y)
      go true true x y z = absurd (false_true (sym z))

  word_none : (j : ℕ) → (j ≡ 0) ⊎ (4 < j) → is_word j ≡ false
  word_none j (inl e) = rw e
  word_none j (inr h) = rw (lt-leb j 4 h, le-leb 1 j (omega arith))

  pub take_14 : (i j : ℕ) → (code_of (verdict_of p Take i j) ≡ 14) ↔ (Sound p × (p.ring.closed ≡ false) × (i < nodes p) × ((j ≡ 0) ⊎ (4 < j)))
  take_14 i j = (
    λ e.
        let w = at_14 Take i j e in
        (sound_true p w.0.sound, w.0.running, leb-false _ _ w.0.inside, no_word j w.1),
    λ h.
        ap code_of
        (by_tests p Take i j _ _ _ _ _ _ _ _ (true_sound p h.0) h.1 refl (lt-leb _ _ h.2) (ap not (word_none j h.3)) refl refl refl),
  )

  module _ (i j : ℕ) where
    pub close_15 :
        (code_of (verdict_of p Announce i j) ≡ 15) ↔ (Sound p × (p.ring.closed ≡ false) × (conclusive p.ring ≡ true) × (agreed p ≡ false))
    close_15 = (
      λ e.
          let w = at_15 Announce i j e in
          (sound_true p w.0.sound, w.0.running, w.1, not-true _ w.2),
      λ h. ap code_of (by_tests p Announce i j _ _ _ _ _ _ _ _ (true_sound p h.0) h.1 refl refl refl h.2 (ap not h.3) refl),
    )

    pub close_8 : (code_of (verdict_of p Announce i j) ≡ 8) ↔ (Sound p × (p.ring.closed ≡ false) × (conclusive p.ring ≡ false))
    close_8 = (
      λ e.
          let w = at_8 Announce i j e in (sound_true p w.0.sound, w.0.running, w.1),
      λ h. ap code_of (by_tests p Announce i j _ _ _ _ _ _ _ _ (true_sound p h.0) h.1 refl refl refl h.2 refl refl),
    )

    pub close_accepted :
        (verdict_of p Announce i j ≡ Accepted) ↔ (Sound p × (p.ring.closed ≡ false) × (conclusive p.ring ≡ true) × (agreed p ≡ true))
    close_accepted = (
      λ e. let a = passed p Announce i j e in (a.sound, a.running, a.allowed, not-false _ a.equal),
      λ h. by_tests p Announce i j _ _ _ _ _ _ _ _ (true_sound p h.0) h.1 refl refl refl h.2 (ap not h.3) refl,
    )

  -- every step of a closed panel is 4
  pub closed_4 : Sound p → p.ring.closed ≡ true → (k : Kind) (i j : ℕ) → code_of (verdict_of p k i j) ≡ 4
  closed_4 s c k i j = ap code_of (by_tests p k i j _ _ _ _ _ _ _ _ (true_sound p s) c refl refl refl refl refl refl)

  -- 14 and 15 by kind
  pub kind_14 : (k : Kind) (i j : ℕ) → code_of (verdict_of p k i j) ≡ 14 → k ≡ Take
  kind_14 k i j e = go k (at_14 k i j e).1
    where
      go : (k : Kind) → bad_word k j ≡ true → k ≡ Take
      go Send h = absurd (false_true h)
      go Take h = refl
      go Idle h = absurd (false_true h)
      go Probe h = absurd (false_true h)
      go Pass h = absurd (false_true h)
      go Announce h = absurd (false_true h)
      go Unknown h = absurd (false_true h)

  pub kind_15 : (k : Kind) (i j : ℕ) → code_of (verdict_of p k i j) ≡ 15 → k ≡ Announce
  kind_15 k i j e = go k (at_15 k i j e).2
    where
      go : (k : Kind) → unequal p k ≡ true → k ≡ Announce
      go Send h = absurd (false_true h)
      go Take h = absurd (false_true h)
      go Idle h = absurd (false_true h)
      go Probe h = absurd (false_true h)
      go Pass h = absurd (false_true h)
      go Announce h = refl
      go Unknown h = absurd (false_true h)

  -- 9 is a send's, of an open panel
  pub kind_9 : (k : Kind) (i j : ℕ) → code_of (verdict_of p k i j) ≡ 9 → (k ≡ Send) × (p.ring.closed ≡ false)
  kind_9 k i j e = (go k (at_9 k i j e).1, (at_9 k i j e).0.running)
    where
      go : (k : Kind) → ring.sends_spent p.ring k ≡ true → k ≡ Send
      go Send h = refl
      go Take h = absurd (false_true h)
      go Idle h = absurd (false_true h)
      go Probe h = absurd (false_true h)
      go Pass h = absurd (false_true h)
      go Announce h = absurd (false_true h)
      go Unknown h = absurd (false_true h)

-- ---- the rows of a start

abbrev start_code : Bool → Bool → Bool → Bool → ℕ
start_code s m r f = code_of (first_of ((not s ⟶ Unsound) ∷ (not m ⟶ NodeCount) ∷ (not r ⟶ NodeCount) ∷ (not f ⟶ StartFlags) ∷ []))

start_1 : (s m r f : Bool) → start_code s m r f ≡ 1 → (s ≡ true) × ((m ≡ false) ⊎ (r ≡ false))
start_1 false m r f e = absurd (omega arith)
start_1 true false r f e = (refl, inl refl)
start_1 true true false f e = (refl, inr refl)
start_1 true true true false e = absurd (omega arith)
start_1 true true true true e = absurd (omega arith)

start_2 : (s m r f : Bool) → start_code s m r f ≡ 2 → (s ≡ true) × (m ≡ true) × (f ≡ false)
start_2 false m r f e = absurd (omega arith)
start_2 true false r f e = absurd (omega arith)
start_2 true true false f e = absurd (omega arith)
start_2 true true true false e = (refl, refl, refl)
start_2 true true true true e = absurd (omega arith)

start_low : (s m r f : Bool) (c : ℕ) → start_code s m r f ≡ c → c < 4
start_low false m r f c e = omega arith
start_low true false r f c e = omega arith
start_low true true false f c e = omega arith
start_low true true true false c e = omega arith
start_low true true true true c e = omega arith

module _ (p : Panel) (n : ℕ) (flags : List ℕ) where
  start_told : code_of (start_verdict p n flags) ≡ start_code (sound_test p) (eqb n (nodes p)) (ltb 0 n && leb n 96) (flags_test n flags)
  unfolding start_verdict
  start_told = refl

  -- no start meets 14 or 15
  pub start_small : (c : ℕ) → code_of (start_verdict p n flags) ≡ c → c < 4
  start_small c e = start_low (sound_test p) (eqb n (nodes p)) (ltb 0 n && leb n 96) (flags_test n flags) c (sym start_told ∙ e)

  -- in range where n is the panel's
  in_range_lem : Sound p → n ≡ nodes p → (ltb 0 n && leb n 96) ≡ true
  in_range_lem s e = let lo = s.ring.some_node in let hi = s.ring.nodes in rw (lt-ltb 0 n (omega arith), le-leb n 96 (omega arith))

  pub node_count : (code_of (start_verdict p n flags) ≡ 1) ↔ (Sound p × ((n ≡ 0) ⊎ ((96 < n) ⊎ (n ≢ nodes p))))
  node_count = (
    λ e. let w = start_1 (sound_test p) (eqb n (nodes p)) (ltb 0 n && leb n 96) (flags_test n flags) (sym start_told ∙ e) in (sound_true p w.0, why w.1),
    λ h. start_told ∙ meets h.0 (other h.0 h.1),
  )
    where
      why : (eqb n (nodes p) ≡ false) ⊎ ((ltb 0 n && leb n 96) ≡ false) → (n ≡ 0) ⊎ ((96 < n) ⊎ (n ≢ nodes p))
      why (inl e) = inr (inr (eqb-false n (nodes p) e))
      why (inr e) = go (ltb 0 n) (leb n 96) refl refl e
        where
          go : (a b : Bool) → ltb 0 n ≡ a → leb n 96 ≡ b → (a && b) ≡ false → (n ≡ 0) ⊎ ((96 < n) ⊎ (n ≢ nodes p))
          go true true x y z = absurd (false_true (sym z))
          go true false x y z = inr (inl (leb-false n 96 y))
          go false b x y z = inl (zero n x)
            where
              zero : (m : ℕ) → ltb 0 m ≡ false → m ≡ 0
              zero m w = let h = ltb-false 0 m w in omega arith

      other : Sound p → (n ≡ 0) ⊎ ((96 < n) ⊎ (n ≢ nodes p)) → n ≢ nodes p
      other s (inl e) z = let lo = s.ring.some_node in omega arith
      other s (inr (inl h)) z = let hi = s.ring.nodes in omega arith
      other s (inr (inr h)) z = h z

      meets : Sound p → n ≢ nodes p → start_code (sound_test p) (eqb n (nodes p)) (ltb 0 n && leb n 96) (flags_test n flags) ≡ 1
      meets s h = rw (true_sound p s, ne_eqb n (nodes p) h)

  pub start_flags : (code_of (start_verdict p n flags) ≡ 2) ↔ (Sound p × (n ≡ nodes p) × (flags_test n flags ≡ false))
  start_flags = (
    λ e. let w = start_2 (sound_test p) (eqb n (nodes p)) (ltb 0 n && leb n 96) (flags_test n flags) (sym start_told ∙ e) in (sound_true p w.0, eqb-true _ _ w.1, w.2),
    λ h. start_told ∙ rw (true_sound p h.0, eq-eqb n (nodes p) h.1, in_range_lem h.0 h.1, h.2),
  )

  pub start_unsound : sound_test p ≡ false → code_of (start_verdict p n flags) ≡ 3
  start_unsound e = start_told ∙ ap (λ (b : Bool). start_code b (eqb n (nodes p)) (ltb 0 n && leb n 96) (flags_test n flags)) e
