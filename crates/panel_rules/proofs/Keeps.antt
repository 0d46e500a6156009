-- Entering, starts and accepted steps give sound panels. Assumes nothing.
use Prim.Native.Nat.{◌<◌, ◌≤◌, ℕ}
use borrow.Author.Tests.{eqb-true, not-false}
use lib.ListN.{get_or, get_or-replicate, length, length-replicate, length-set, replicate, set}
use lib.Seq.{get_or-set_other}
use mathlib.Core.Bool.{Bool, false, true}
use mathlib.Core.List.{List}
use mathlib.Core.Path.{◌∙◌, ◌≡◌, ap, refl, subst, sym}
use native.Mathlib.Omega.{arith}
use Rattle.laws.proofs.Tests.{false_true}
use Rattle.panel_rules.proofs.Accepted.{Passed, passed, ring_accepts}
use Rattle.panel_rules.proofs.Marks.{one_word}
use Rattle.panel_rules.proofs.Soundness.{sound_true}
use Rattle.panel_rules.specs.Answers.{start_table, start_verdict, verdict_of}
use Rattle.panel_rules.specs.Rules.{panel_effect, restarted, second}
use Rattle.panel_rules.specs.Soundness.{Matches, Sound}
use Rattle.panel_rules.specs.State.{Panel, agreed, agreed_word, entered, nodes, word_of}
use Rattle.panel_rules.specs.declared.record.Record.{Record}
use Rattle.panel_rules.specs.declared.record.Record.TheVariants.{Empty}
use Rattle.refusal.proofs.Table.{accepts, none_holds}
use Rattle.refusal.specs.Table.{NoneHolds, also}
use Rattle.refusal.specs.Table.{Accepted}
use Rattle.ring_rules.proofs.Accepted.{Allowed, Rule, allowed, takes}
use Rattle.ring_rules.proofs.Keeps.{keeps}
use Rattle.ring_rules.proofs.Start.{first_open, fits}
use Rattle.ring_rules.specs.Rules.{Announce, Idle, Kind, Pass, Probe, Send, Take, Unknown, effect}
use Rattle.ring_rules.specs.Soundness as ring
use Rattle.ring_rules.specs.Start as ring_start
use Rattle.ring_rules.specs.State.{State}

abbrev OldFrom : ℕ → List Bool → Type 0
OldFrom n l = (i : ℕ) → n ≤ i → i < 96 → get_or l i false ≡ false

-- an open ring with marks in order and an empty record
open_panel :
    (r : State) (f m : List Bool) (w : Record) → ring.Sound r → r.closed ≡ false → length f ≡ 96 → length m ≡ 96 → OldFrom r.n f
    → OldFrom r.n m → w ≡ Empty → Sound (record { ring = r; firmware = f; map = m; recorded = w })
open_panel r f m w s o lf lm uf um e =
    record {
      ring = s;
      firmware_places = lf;
      map_places = lm;
      unused_firmware = uf;
      unused_map = um;
      empty = λ c. e;
      matches = λ c. absurd (false_true (sym o ∙ c));
    }

set_old : (n : ℕ) (l : List Bool) (i : ℕ) (v : Bool) → i < n → OldFrom n l → OldFrom n (set l i v)
set_old n l i v h o k lo hi = get_or-set_other l i k v false (omega arith) ∙ o k lo hi

pub close_matches : (p : Panel) (r : State) → r.n ≡ nodes p → agreed p ≡ true → Matches (record { ring = r; firmware = p.firmware; map = p.map; recorded = agreed_word p })
close_matches p r e a =
    let w = one_word p a in
    record {
      firmware = λ i h. ap word_of (w.each.firmware i (subst (λ (n : ℕ). i < n) e h)) ∙ sym w.written;
      map = λ i h. ap word_of (w.each.map i (subst (λ (n : ℕ). i < n) e h)) ∙ sym w.written;
    }

-- ---- steps

pub step_keeps : (p : Panel) (k : Kind) (i j : ℕ) → verdict_of p k i j ≡ Accepted → Sound (panel_effect p k i j)
step_keeps p k i j e = go k (passed p k i j e) (allowed p.ring k i (second k j) (ring_accepts p k i j e))
  where
    go : (k : Kind) → Passed p k i j → Allowed p.ring k i (second k j) → Sound (panel_effect p k i j)
    go k a r = at k a r.by (keeps p.ring r.sound r.running k i (second k j) r.by)
      where
        at : (k : Kind) → Passed p k i j → Rule p.ring i (second k j) k → ring.Sound (effect p.ring k i (second k j)) → Sound (panel_effect p k i j)
        at Send a r s = let z = a.sound in
            open_panel _ p.firmware p.map p.recorded s a.running z.firmware_places z.map_places z.unused_firmware z.unused_map (z.empty a.running)
        at Take a (takes hi _ _ _) s = let z = a.sound in
            open_panel _ (set p.firmware i _) (set p.map i _) p.recorded s a.running
            (length-set p.firmware i _ ∙ z.firmware_places)
            (length-set p.map i _ ∙ z.map_places)
            (set_old (nodes p) p.firmware i _ hi z.unused_firmware)
            (set_old (nodes p) p.map i _ hi z.unused_map)
            (z.empty a.running)
        at Idle a r s = let z = a.sound in
            open_panel _ p.firmware p.map p.recorded s a.running z.firmware_places z.map_places z.unused_firmware z.unused_map (z.empty a.running)
        at Probe a r s = let z = a.sound in
            open_panel _ p.firmware p.map p.recorded s a.running z.firmware_places z.map_places z.unused_firmware z.unused_map (z.empty a.running)
        at Pass a r s = let z = a.sound in
            open_panel _ p.firmware p.map p.recorded s a.running z.firmware_places z.map_places z.unused_firmware z.unused_map (z.empty a.running)
        at Announce a r s = let z = a.sound in
            record {
              ring = s;
              firmware_places = z.firmware_places;
              map_places = z.map_places;
              unused_firmware = z.unused_firmware;
              unused_map = z.unused_map;
              empty = λ c. absurd (false_true (sym c));
              matches = λ c. close_matches p _ refl (not-false _ a.equal);
            }
        at Unknown a r s = absurd (false_true (sym a.known))

-- ---- starts

pub record Starts (p : Panel) (n : ℕ) (flags : List ℕ) : Type 0 where
  pub sound : Sound p
  pub same_n : n ≡ nodes p
  pub accepted : ring_start.start_verdict n flags ≡ Accepted

pub starts : (p : Panel) (n : ℕ) (flags : List ℕ) → start_verdict p n flags ≡ Accepted → Starts p n flags
unfolding start_verdict ring_start.start_verdict
starts p n flags e = go (none_holds (start_table p n flags) e)
  where
    go : NoneHolds (start_table p n flags) → Starts p n flags
    go (also s (also m rest)) =
        record {
          sound = sound_true p (not-false _ s);
          same_n = eqb-true _ _ (not-false _ m);
          accepted = accepts (ring_start.start_table n flags) rest;
        }

pub first_n : (n : ℕ) (flags : List ℕ) → (ring_start.first_state n flags).n ≡ n
unfolding ring_start.first_state
first_n n flags = refl

pub start_keeps : (p : Panel) (n : ℕ) (flags : List ℕ) → start_verdict p n flags ≡ Accepted → Sound (restarted p n flags)
start_keeps p n flags e =
    let a = starts p n flags e in
    let z = a.sound in
    let o = first_open n flags (fits n flags a.accepted) in
    let m : nodes p ≡ (ring_start.first_state n flags).n = sym (first_n n flags ∙ a.same_n) in
    open_panel _ p.firmware p.map Empty o.sound o.running z.firmware_places z.map_places
    (subst (λ (n : ℕ). OldFrom n p.firmware) m z.unused_firmware)
    (subst (λ (n : ℕ). OldFrom n p.map) m z.unused_map)
    refl

pub enter_keeps : (r : State) → ring.Open r → Sound (entered r)
enter_keeps r o =
    open_panel r (replicate 96 false) (replicate 96 false) Empty o.sound o.running (length-replicate 96 false) (length-replicate 96 false)
    (λ i lo hi. get_or-replicate 96 i false false hi)
    (λ i lo hi. get_or-replicate 96 i false false hi)
    refl
