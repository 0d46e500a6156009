-- A table of shapes reads exactly the forms that it makes, if its words differ from each other. Assumes nothing.
use mathlib.Core.Path.{◌≡◌, refl, sym, ap, ◌∙◌, subst}
use mathlib.Core.Bool.{◌&&◌, Bool, cond, false, true}
use mathlib.Core.Logic.{◌↔◌}
use mathlib.Core.List.{List, [], ◌∷◌, ◌++◌, append_assoc}
use Prim.Native.Nat.{ℕ, ◌+◌, ◌≤◌, ◌<◌}
use native.Mathlib.Omega.{arith}
use lib.ListN.{length, drop, length-append}
use lib.Dec.{eqb}
use Rattle.decimal.specs.Word.{starts}
use Rattle.decimal.proofs.Cases.{both_left, both_right, advance}
use Rattle.decimal.proofs.Words.{word_sound, word_back}
use Rattle.forms.specs.Form.{Form, written, SmallForm, SaysAt}
use Rattle.std.specs.Prelude.{Some, None}
use Rattle.decimal.proofs.Cases.{same_read}
use Rattle.forms.specs.Read.{Args, args_of, Read, read, made_of, StepShape, read_by, lined, ended}
use Rattle.forms.proofs.Arguments.{args_text, SmallArgs, args_short, args_sound, args_found}
use Rattle.forms.proofs.Reading.{no_read, ends_short, Stood, Reader, line_exact, line_inside}

-- 1. words that differ at a byte which both have
abbrev clash : List ℕ → List ℕ → Bool
clash [] w = false
clash (x ∷ v) [] = false
clash (x ∷ v) (y ∷ w) = cond (eqb y x) (clash v w) true

pub clash_by : (t a b : Bool) → cond t a true ≡ true → (a ≡ true → b ≡ false) → (t && b) ≡ false
clash_by true a b h f = f h
clash_by false a b h f = refl

pub clash_off : (v w u : List ℕ) → clash v w ≡ true → starts v (w ++ u) ≡ false
unfolding starts
clash_off [] w u h = let z : false ≡ true = h in cc
clash_off (x ∷ v) [] u h = let z : false ≡ true = h in cc
clash_off (x ∷ v) (y ∷ w) u h = clash_by (eqb y x) (clash v w) (starts v (w ++ u)) h (clash_off v w u)

-- a shape of the table
pub data In {A : Type 0} (h : StepShape A) : List (StepShape A) → Type 0 where
  here : {hs : List (StepShape A)} → In h (h ∷ hs)
  there : {g : StepShape A} {hs : List (StepShape A)} → In h hs → In h (g ∷ hs)

abbrev clashes : {A : Type 0} → List ℕ → List (StepShape A) → Bool
clashes v [] = true
clashes v (h ∷ hs) = clash v h.word && clashes v hs

clashes_in : {A : Type 0} (v : List ℕ) {h : StepShape A} {hs : List (StepShape A)} → In h hs → clashes v hs ≡ true → clash v h.word ≡ true
clashes_in v {h} (here {hs}) e = both_left (clash v h.word) (clashes v hs) e
clashes_in v (there {g} {hs} m) e = clashes_in v m (both_right (clash v g.word) (clashes v hs) e)

-- each word of the table differs from those after it
abbrev pub apart : {A : Type 0} → List (StepShape A) → Bool
apart [] = true
apart (h ∷ hs) = clashes h.word hs && apart hs

-- each word of the table differs from another word
abbrev pub differs : {A : Type 0} → List (StepShape A) → List ℕ → Bool
differs [] w = true
differs (h ∷ hs) w = clash h.word w && differs hs w

-- 2. a form that stands there is read
pub read_found : {A : Type 0} {h : StepShape A} {hs : List (StepShape A)} → In h hs → apart hs ≡ true
    → (s : List ℕ) (at i j : ℕ) (u : List ℕ) → SmallArgs h.count i j → drop at s ≡ h.word ++ (args_text h.count i j ++ u)
    → read_by hs s at ≡ read (h.made i j) (at + length h.word + length (args_text h.count i j))
unfolding read_by made_of
read_found {h = h} (here {hs}) e s at i j u small p =
    let q : drop (at + length h.word) s ≡ args_text h.count i j ++ u = advance s h.word (args_text h.count i j ++ u) at p in
    rw (word_back s at h.word (args_text h.count i j ++ u) p, args_found h.count s (at + length h.word) i j u small q)
read_found {h = h} (there {g} {hs} m) e s at i j u small p =
    let c : clash g.word h.word ≡ true = clashes_in g.word m (both_left (clashes g.word hs) (apart hs) e) in
    let off : starts g.word (drop at s) ≡ false = ap (starts g.word) p ∙ clash_off g.word h.word (args_text h.count i j ++ u) c in
    rw off (read_found m (both_right (clashes g.word hs) (apart hs) e) s at i j u small p)

-- more than a step has
abbrev pub step_bytes : ℕ
step_bytes = 614

-- no shape is read where another word stands
pub read_none : {A : Type 0} (hs : List (StepShape A)) (w : List ℕ) → differs hs w ≡ true
    → (s : List ℕ) (at : ℕ) (u : List ℕ) → drop at s ≡ w ++ u → read_by hs s at ≡ None
unfolding read_by
read_none [] w e s at u p = refl
read_none (h ∷ hs) w e s at u p =
    let c : clash h.word w ≡ true = both_left (clash h.word w) (differs hs w) e in
    let off : starts h.word (drop at s) ≡ false = ap (starts h.word) p ∙ clash_off h.word w u c in
    rw off (read_none hs w (both_right (clash h.word w) (differs hs w) e) s at u p)

-- 3. what is read stands there
module _ {A : Type 0} (form : A → Form) where
  -- the shape spells its forms
  pub record Spells (h : StepShape A) : Type 0 where
    pub short : length h.word ≤ 600
    pub spelled : (i j : ℕ) → SmallArgs h.count i j → written (form (h.made i j)) ≡ h.word ++ args_text h.count i j
    pub fits : (i j : ℕ) → SmallArgs h.count i j → SmallForm (form (h.made i j))

  abbrev pub Spelled : List (StepShape A) → Type 0
  Spelled [] = Unit {0}
  Spelled (h ∷ hs) = Spells h × Spelled hs

  spells_in : {h : StepShape A} {hs : List (StepShape A)} → In h hs → Spelled hs → Spells h
  spells_in here p = p.0
  spells_in (there m) p = spells_in m p.1

  -- a form that was read, and how long it is at most
  abbrev Sound : List ℕ → ℕ → Read A → Type 0
  Sound s at (Some (a, e)) = Stood form s at a e × (e ≤ at + step_bytes)
  Sound s at None = Unit {0}

  made_sound : (h : StepShape A) → Spells h → (s : List ℕ) (at : ℕ) → drop at s ≡ h.word ++ drop (at + length h.word) s
      → (r : Args) → args_of h.count s (at + length h.word) ≡ r → Sound s at (made_of h.made r)
  unfolding made_of
  made_sound h p s at w None q = tt
  made_sound h p s at w (Some (i, j, e)) q =
      let r = args_sound h.count s (at + length h.word) i j e q in
      let t = p.spelled i j r.small in
      let args = args_text h.count i j in
      let small = args_short h.count i j r.small in (
        record {
          text = w
              ∙ (ap (λ (l : List ℕ). h.word ++ l) r.text
              ∙ (sym (append_assoc h.word args (drop e s)) ∙ ap (λ (l : List ℕ). l ++ drop e s) (sym t)));
          inside = r.inside;
          small = p.fits i j r.small;
        },
        omega (arith, r.ends, p.short, small),
      )

  pick_sound : (s : List ℕ) (at : ℕ) (t : Bool) (a b : Read A) → (t ≡ true → Sound s at a) → Sound s at b → Sound s at (cond t a b)
  pick_sound s at true a b f g = f refl
  pick_sound s at false a b f g = g

  read_sound : (hs : List (StepShape A)) → Spelled hs → (s : List ℕ) (at : ℕ) → Sound s at (read_by hs s at)
  unfolding read_by
  read_sound [] p s at = tt
  read_sound (h ∷ hs) p s at =
      pick_sound s at (starts h.word (drop at s)) _ _
      (λ w. made_sound h p.0 s at (word_sound s at h.word w) (args_of h.count s (at + length h.word)) refl)
      (read_sound hs p.1 s at)

  stood_by : (s : List ℕ) (at : ℕ) (r : Read A) → Sound s at r → (a : A) (e : ℕ) → r ≡ read a e → Sound s at (read a e)
  stood_by s at None h a e q = no_read q
  stood_by s at (Some (b, d)) h a e q =
      let p : b ≡ a = (same_read q).0 in
      let x : d ≡ e = (same_read q).1 in
      rw (p, x) at h

  -- 4. exact both ways, if every form is one of the table's
  pub record Entry (hs : List (StepShape A)) (a : A) : Type 0 where
    pub of : StepShape A
    pub among : In of hs
    pub first : ℕ
    pub second : ℕ
    pub makes : of.made first second ≡ a
    pub needs : SmallForm (form a) → SmallArgs of.count first second

  module _ (hs : List (StepShape A)) (spelled : Spelled hs) (differ : apart hs ≡ true) (entry : (a : A) → Entry hs a) where
    table_stood : (s : List ℕ) (at : ℕ) (a : A) (e : ℕ) → read_by hs s at ≡ read a e → Sound s at (read a e)
    table_stood s at a e h = stood_by s at (read_by hs s at) (read_sound hs spelled s at) a e h

    table_found : (s : List ℕ) (at : ℕ) (a : A) (u : List ℕ) → SmallForm (form a) → drop at s ≡ written (form a) ++ u
        → read_by hs s at ≡ read a (at + length (written (form a)))
    table_found s at a u small p =
        let y = entry a in
        let g = y.of in
        let args = args_text g.count y.first y.second in
        let ok = y.needs small in
        let t : written (form a) ≡ g.word ++ args =
        ap (λ (x : A). written (form x)) (sym y.makes) ∙ (spells_in y.among spelled).spelled y.first y.second ok in
        let q : drop at s ≡ g.word ++ (args ++ u) = p ∙ (ap (λ (l : List ℕ). l ++ u) t ∙ append_assoc g.word args u) in
        let long : length (written (form a)) ≡ length g.word + length args = ap length t ∙ length-append g.word args in
        let e : at + length g.word + length args ≡ at + length (written (form a)) = omega (arith, long) in
        read_found y.among differ s at y.first y.second u ok q
        ∙ (ap (λ (x : A). read x (at + length g.word + length args)) y.makes ∙ ap (read a) e)

    pub table_reader : Reader form (read_by hs)
    table_reader = record { stood = λ s at a e h. (table_stood s at a e h).0; found = table_found }

    -- a step with its byte 10 is a line: it is not too long
    ended_by : (s : List ℕ) (at : ℕ) (r : Read A) → read_by hs s at ≡ r → ended s r ≡ lined s at r
    unfolding ended lined
    ended_by s at None h = refl
    ended_by s at (Some (a, e)) h = rw (ends_short s at e (omega (arith, (table_stood s at a e h).1)))

    pub table_ended : (s : List ℕ) (at : ℕ) → ended s (read_by hs s at) ≡ lined s at (read_by hs s at)
    table_ended s at = ended_by s at (read_by hs s at) refl

    pub table_short : (s : List ℕ) (at : ℕ) (a : A) (e : ℕ) → read_by hs s at ≡ read a e → e ≤ at + step_bytes
    table_short s at a e h = (table_stood s at a e h).1

    -- 5. the answer to a line
    pub table_exact : (s : List ℕ) (at : ℕ) (a : A) (e : ℕ) → (lined s at (read_by hs s at) ≡ read a e) ↔ SaysAt s at (form a) e
    table_exact = line_exact form table_reader

    -- a contract, from its equation
    pub table_told : (s : List ℕ) (at : ℕ) (r : Read A) → r ≡ lined s at (read_by hs s at)
        → (r ≡ lined s at (read_by hs s at)) × ((a : A) (e : ℕ) → (r ≡ read a e) ↔ SaysAt s at (form a) e)
    table_told s at r h = (h, subst (λ (x : Read A). (a : A) (e : ℕ) → (x ≡ read a e) ↔ SaysAt s at (form a) e) (sym h) (table_exact s at))

    -- what was read lies inside
    pub table_inside : (s : List ℕ) (at : ℕ) (a : A) (e : ℕ) → lined s at (read_by hs s at) ≡ read a e → (at < e) × (e ≤ length s)
    table_inside = line_inside form table_reader
