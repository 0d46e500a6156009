-- What the tests of marks say. Assumes nothing.
use Prim.Native.Nat.{◌<◌, ℕ}
use borrow.Author.Tests.{not-true}
use lib.ListN.{get_or}
use mathlib.Core.Bool.{Bool, ◌&&◌, false, true}
use mathlib.Core.List.{List}
use mathlib.Core.Logic.{◌⊎◌, inl, inr}
use mathlib.Core.Path.{◌∙◌, ◌≡◌, ap, refl, sym}
use native.Mathlib.Omega.{arith}
use Rattle.laws.proofs.Places.{all_at, all_from}
use Rattle.laws.proofs.Tests.{both, both_true, false_true, left_true, not_eq, one_of, right_true, split}
use Rattle.panel_rules.specs.State.{AllAre, Panel, agreed, agreed_word, all_say_word, nodes, says, word_of}
use Rattle.panel_rules.specs.declared.record.Record.TheVariants.{Empty}

says-true : (word mark : Bool) → says word mark ≡ true → mark ≡ word
says-true true mark e = e
says-true false mark e = not-true mark e

true-says : (word mark : Bool) → mark ≡ word → says word mark ≡ true
true-says true mark e = e
true-says false mark e = not_eq e

-- each node's two marks
pub record Each (word : Bool) (n : ℕ) (f m : List Bool) : Type 0 where
  pub firmware : (i : ℕ) → i < n → get_or f i false ≡ word
  pub map : (i : ℕ) → i < n → get_or m i false ≡ word

pub all_say : (word : Bool) (n : ℕ) (firmware map : List Bool) → all_say_word word n firmware map ≡ true → Each word n firmware map
unfolding all_say_word
all_say word n firmware map e =
    record {
      firmware = λ i h. says-true word _ (at i h).0;
      map = λ i h. says-true word _ (at i h).1;
    }
  where
    at : (i : ℕ) → i < n → (says word (get_or firmware i false) ≡ true) × (says word (get_or map i false) ≡ true)
    at i h = both _ _ (all_at n (λ i. says word (get_or firmware i false) && says word (get_or map i false)) e i h)

pub say_all : (word : Bool) (n : ℕ) (firmware map : List Bool) → Each word n firmware map → all_say_word word n firmware map ≡ true
unfolding all_say_word
say_all word n firmware map e =
    all_from n _ (λ i h. both_true (true-says word _ (e.firmware i h)) (true-says word _ (e.map i h)))

-- the one word that agreeing marks say
pub record OneWord (p : Panel) : Type 0 where
  pub word : Bool
  pub each : Each word (nodes p) p.firmware p.map
  pub written : agreed_word p ≡ word_of word

pub one_word : (p : Panel) → agreed p ≡ true → OneWord p
unfolding agreed
one_word p e = go (split (all_say_word true (nodes p) p.firmware p.map)) (one_of _ _ e)
  where
    go :
        (all_say_word true (nodes p) p.firmware p.map ≡ true) ⊎ (all_say_word true (nodes p) p.firmware p.map ≡ false)
        → (all_say_word true (nodes p) p.firmware p.map ≡ true) ⊎ (all_say_word false (nodes p) p.firmware p.map ≡ true) → OneWord p
    go (inl t) w = record { word = true; each = all_say true _ _ _ t; written = ap word_of t }
    go (inr f) (inl t) = absurd (false_true (sym f ∙ t))
    go (inr f) (inr t) = record { word = false; each = all_say false _ _ _ t; written = ap word_of f }

-- marks that are each one word agree
pub agree_from : (p : Panel) (word : Bool) → AllAre word p → agreed p ≡ true
unfolding agreed
agree_from p true e = left_true _ (say_all true _ _ _ (record { firmware = e.firmware; map = e.map }))
agree_from p false e =
    right_true (all_say_word true (nodes p) p.firmware p.map) (say_all false _ _ _ (record { firmware = e.firmware; map = e.map }))

pub all_are : (p : Panel) → agreed p ≡ true → (word : Bool) × AllAre word p
all_are p e = let w = one_word p e in (w.word, record { firmware = w.each.firmware; map = w.each.map })

-- a mark's word is never empty
pub word_some : (mark : Bool) → word_of mark ≡ Empty → ⊥
word_some true e = let z : ◌≡◌ {A = ℕ} 0 1 = cc in omega arith
word_some false e = let z : ◌≡◌ {A = ℕ} 0 1 = cc in omega arith

-- and tells the mark
pub word_once : (a b : Bool) → word_of a ≡ word_of b → a ≡ b
word_once true true e = refl
word_once true false e = let z : ◌≡◌ {A = ℕ} 0 1 = cc in absurd (omega arith)
word_once false true e = let z : ◌≡◌ {A = ℕ} 0 1 = cc in absurd (omega arith)
word_once false false e = refl
