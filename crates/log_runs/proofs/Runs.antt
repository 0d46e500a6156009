-- The lines of a run, one after another, over any machine: what is printed of them, and what is accepted between two of them.
-- Assumes nothing.
use Prim.Native.Nat.{◌+◌, ◌-◌, ◌<◌, ◌≤◌, suc, zero, ℕ}
use lib.ListN.{drop, get_or, length, length-append, take}
use lib.Seq.{get_or-drop, take-add}
use mathlib.Core.Bool.{Bool, ◌||◌, cond, false, true}
use mathlib.Core.List.{List, [], ◌++◌, ◌∷◌, append_assoc}
use mathlib.Core.Logic.{◌↔◌, ◌⊎◌, inl, inr}
use mathlib.Core.Path.{◌∙◌, ◌≡◌, ap, fun_ext, refl, subst, sym}
use native.Mathlib.Nat.{add-zero}
use native.Mathlib.Omega.{arith}
use Rattle.forms.specs.Form.{Form, Says, announce}
use Rattle.laws.proofs.Tests.{neither, right_true}
use Rattle.log_rules.specs.Answers.{Stage, answer_text, end_text, line_told}
use Rattle.log_rules.specs.Output.{lines_told}
use Rattle.log_rules.specs.Pieces.{OneLine, empty}
use Rattle.log_rules.specs.Theorems.{LinesOf}
use Rattle.refusal.proofs.Table.{not_both}
use Rattle.refusal.specs.Table.{is_accepted, settle}
use Rattle.refusal.specs.Table.{Verdict}
use Rattle.refusal.specs.Table.{Accepted, Refused}
use Rattle.runs.proofs.Runs.{accepted_append, run_append}
use Rattle.runs.specs.Runs.{Accepts, Machine, Request, accepted_of, next, run_of}
use Rattle.log_runs.proofs.First.{asks_once}
use Rattle.log_runs.specs.Says.{Ask, Asks, Each, cut, line, no_line, no_step, other, printed, request, requests_in, says, stage_after}
use Rattle.log_runs.specs.Answered.{OkAt, oks, said, texts_to, verdict_at, verdict_on}
use Rattle.log_runs.specs.WholeLog.{AnnouncedAt, CountsDown, NoneBefore}
use Rattle.log_rules.specs.Theorems as lines

-- ---- what is printed

pub told_printed : (s : Stage) (k : ℕ) (ls : List (List ℕ)) → lines_told s k ls ≡ printed s k ls ++ end_text (stage_after s k ls)
unfolding lines_told printed stage_after
told_printed s k [] = refl
told_printed s k (l ∷ ls) =
    let t = line_told s k l in
    ap (λ (w : List ℕ). t.text ++ w) (told_printed t.stage (k + 1) ls)
    ∙ sym (append_assoc t.text (printed t.stage (k + 1) ls) (end_text (stage_after t.stage (k + 1) ls)))

texts_same : {f : ℕ → List ℕ} (g : ℕ → List ℕ) → ((i : ℕ) → f i ≡ g i) → (n : ℕ) → texts_to f n ≡ texts_to g n
texts_same g e n = ap (λ (h : ℕ → List ℕ). texts_to h n) (fun_ext e)

-- the state after what a line asks for
abbrev pub after : {S R : Type 0} → Machine S R → S → Ask R → S
after m s (request x) = next m s x
after m s no_step = s

module _ {S R : Type 0} (m : Machine S R) where
  verdict_next : (s : S) (a : Ask R) (qs : List (Ask R)) (i : ℕ) → verdict_at m (after m s a) qs i ≡ verdict_at m s (a ∷ qs) (suc i)
  unfolding run_of
  verdict_next s (request x) qs i = refl
  verdict_next s no_step qs i = refl

  verdict_first : (s : S) (a : Ask R) (qs : List (Ask R)) → verdict_on m s a ≡ verdict_at m s (a ∷ qs) 0
  unfolding run_of
  verdict_first s a qs = refl

  number :
      (s : S) (a : Ask R) (qs : List (Ask R)) (k i : ℕ)
      → answer_text (k + 1 + i) (verdict_at m (after m s a) qs i) ≡ answer_text (k + suc i) (verdict_at m s (a ∷ qs) (suc i))
  number s a qs k i =
      let e : k + 1 + i ≡ k + suc i = omega arith in
      ap (λ (n : ℕ). answer_text n (verdict_at m (after m s a) qs i)) e ∙ ap (answer_text (k + suc i)) (verdict_next s a qs i)

  -- a line that asks for a is answered with the verdict on it, and the run goes on
  pub record Answers {M : Type 0} (stage : S → M → Stage) (s : S) (moves : M) (k : ℕ) (l : List ℕ) (a : Ask R) : Type 0 where
    pub text : (line_told (stage s moves) k l).text ≡ answer_text k (verdict_on m s a)
    pub moves' : M
    pub there : (line_told (stage s moves) k l).stage ≡ stage (after m s a) moves'

  pub lines_printed :
      {P : List ℕ → Ask R → Type 0} {M : Type 0} {stage : S → M → Stage}
      → ((s : S) (moves : M) (k : ℕ) (l : List ℕ) (a : Ask R) → P l a → Answers stage s moves k l a)
      → (s : S) (moves : M) (k : ℕ) {ls : List (List ℕ)} {qs : List (Ask R)} → Each P ls qs
      → printed (stage s moves) k ls ≡ texts_to (λ i. answer_text (k + i) (verdict_at m s qs i)) (length qs)
  unfolding printed texts_to
  lines_printed h s moves k no_line = refl
  lines_printed {stage = stage} h s moves k (line {l} {ls} {a} {qs} p c) =
      let w = h s moves k l a p in
      let rest = lines_printed h (after m s a) w.moves' (k + 1) c in
      let x = answer_text k (verdict_on m s a) in
      let later : ℕ → List ℕ = λ i. answer_text (k + suc i) (verdict_at m s (a ∷ qs) (suc i)) in
      ap (λ (t : List ℕ). t ++ printed (line_told (stage s moves) k l).stage (k + 1) ls) w.text
      ∙ (ap (λ (g : Stage). x ++ printed g (k + 1) ls) w.there
      ∙ (ap (λ (t : List ℕ). x ++ t) (rest ∙ texts_same later (number s a qs k) (length qs))
      ∙ (ap (λ (v : Verdict). answer_text k v ++ texts_to later (length qs)) (verdict_first s a qs)
      ∙ ap (λ (n : ℕ). answer_text n (verdict_at m s (a ∷ qs) 0) ++ texts_to later (length qs)) (sym (add-zero k)))))

-- ---- the requests of lines

requests_append : {R : Type 0} (ps qs : List (Ask R)) → requests_in (ps ++ qs) ≡ requests_in ps ++ requests_in qs
requests_append [] qs = refl
requests_append (request x ∷ ps) qs = ap (λ (l : List _). x ∷ l) (requests_append ps qs)
requests_append (no_step ∷ ps) qs = requests_append ps qs

said_next : {R : Type 0} (qs : List (Ask R)) (i : ℕ) → said qs (suc i) ≡ said qs i ++ requests_in (get_or qs i no_step ∷ [])
said_next [] zero = refl
said_next [] (suc i) = refl
said_next (request x ∷ qs) zero = refl
said_next (request x ∷ qs) (suc i) = ap (λ (l : List _). x ∷ l) (said_next qs i)
said_next (no_step ∷ qs) zero = refl
said_next (no_step ∷ qs) (suc i) = said_next qs i

-- those of lines 2 + i to 1 + j
pub between : {R : Type 0} → List (Ask R) → ℕ → ℕ → List R
between qs i j = requests_in (take (j - i) (drop i qs))

pub said_later : {R : Type 0} (qs : List (Ask R)) (i j : ℕ) → i ≤ j → said qs j ≡ said qs i ++ between qs i j
unfolding between
said_later qs i j h =
    let e : j ≡ i + (j - i) = omega arith in
    ap (said qs) e ∙ (ap requests_in (take-add i (j - i) qs) ∙ requests_append (take i qs) (take (j - i) (drop i qs)))

pub between_none : {R : Type 0} (qs : List (Ask R)) (i : ℕ) → between qs i i ≡ []
unfolding between
between_none qs i = let e : i - i ≡ 0 = omega arith in rw e

pub between_next :
    {R : Type 0} (qs : List (Ask R)) (i j : ℕ) → i ≤ j → between qs i (suc j) ≡ between qs i j ++ requests_in (get_or qs j no_step ∷ [])
unfolding between
between_next qs i j h =
    let e : suc j - i ≡ suc (j - i) = omega arith in
    let f : i + (j - i) ≡ j = omega arith in
    ap (said (drop i qs)) e
    ∙ (said_next (drop i qs) (j - i)
    ∙ ap (λ (a : Ask _). said (drop i qs) (j - i) ++ requests_in (a ∷ []))
    (get_or-drop i qs (j - i) no_step ∙ ap (λ (k : ℕ). get_or qs k no_step) f))

-- ---- how many are accepted

module _ {S R : Type 0} (m : Machine S R) (s : S) (qs : List (Ask R)) where
  accepted_later :
      (i j : ℕ) → i ≤ j
      → accepted_of m s (said qs j) ≡ accepted_of m s (said qs i) ++ accepted_of m (run_of m s (said qs i)) (between qs i j)
  accepted_later i j h = ap (accepted_of m s) (said_later qs i j h) ∙ accepted_append m s (said qs i) (between qs i j)

  accepted_next :
      (i : ℕ)
      → accepted_of m s (said qs (suc i))
      ≡ accepted_of m s (said qs i) ++ accepted_of m (run_of m s (said qs i)) (requests_in (get_or qs i no_step ∷ []))
  accepted_next i = ap (accepted_of m s) (said_next qs i) ∙ accepted_append m s (said qs i) (requests_in (get_or qs i no_step ∷ []))

  one_more : (t : S) (a : Ask R) → length (accepted_of m t (requests_in (a ∷ []))) ≡ cond (is_accepted (verdict_on m t a)) 1 0
  unfolding accepted_of
  one_more t no_step = refl
  one_more t (request x) = go (m.verdict t x)
    where
      go : (v : Verdict) → length (settle v (x ∷ []) []) ≡ cond (is_accepted v) 1 0
      go Accepted = refl
      go (Refused e) = refl

  oks_accepted : (i : ℕ) → oks m s qs i ≡ length (accepted_of m s (said qs i))
  unfolding accepted_of
  oks_accepted zero = refl
  oks_accepted (suc i) =
      let t = run_of m s (said qs i) in
      let a = get_or qs i no_step in
      omega (
        arith,
        oks_accepted i,
        one_more t a,
        length-append (accepted_of m s (said qs i)) (accepted_of m t (requests_in (a ∷ []))),
        ap length (accepted_next i),
      )

  oks_later : (i j : ℕ) → i ≤ j → oks m s qs j ≡ oks m s qs i + length (accepted_of m (run_of m s (said qs i)) (between qs i j))
  oks_later i j h =
      omega (
        arith,
        oks_accepted i,
        oks_accepted j,
        length-append (accepted_of m s (said qs i)) (accepted_of m (run_of m s (said qs i)) (between qs i j)),
        ap length (accepted_later i j h),
      )

  -- where nothing more is accepted, no line is answered with ok
  none_ok : (i : ℕ) → ((ys : List R) → accepted_of m (run_of m s (said qs i)) ys ≡ []) → (j : ℕ) → i ≤ j → OkAt m s qs j → ⊥
  none_ok i none j h ok =
      let still = oks_later i j h in
      let again = oks_later i (suc j) (omega arith) in
      let one : ◌≡◌ {A = ℕ} (cond (is_accepted (verdict_at m s qs j)) 1 0) 1 = ap {B = ℕ} (λ (v : Verdict). cond (is_accepted v) 1 0) ok in
      let z : ⊥ = omega (arith, ap length (none (between qs i j)), ap length (none (between qs i (suc j))), one) in z

  -- a line is answered with ok if it asks for a request that is accepted there
  ok_request : (i : ℕ) → OkAt m s qs i → (x : R) × (get_or qs i no_step ≡ request x) × Accepts m (run_of m s (said qs i)) x
  ok_request i = go (get_or qs i no_step) refl
    where
      go :
          (a : Ask R) → get_or qs i no_step ≡ a → verdict_on m (run_of m s (said qs i)) a ≡ Accepted
          → (x : R) × (get_or qs i no_step ≡ request x) × Accepts m (run_of m s (said qs i)) x
      go (request x) e ok = (x, e, ok)
      go no_step e ok = absurd (not_both ok refl)

-- ---- what lines ask for

-- the lines of a run: what they say, and what they ask for
pub record Reads (F R : Type 0) : Type 1 where
  pub form : F → Form
  pub asked : F → R
  pub once : (l : List ℕ) (f g : F) → Says l (form f) → Says l (form g) → f ≡ g
  pub told : (l : List ℕ) → OneLine l → ((f : F) × Says l (form f)) ⊎ ((f : F) → Says l (form f) → ⊥)

module _ {F R : Type 0} (d : Reads F R) where
  abbrev pub LineAsks : List ℕ → Ask R → Type 0
  LineAsks = Asks d.form (λ f. request (d.asked f)) no_step

  -- the lines of a text ask for something each
  pub each_asks : {s : List ℕ} {ls : List (List ℕ)} → LinesOf s ls → (qs : List (Ask R)) × Each LineAsks ls qs
  each_asks lines.no_line = ([], no_line)
  each_asks (lines.last u h) = (no_step ∷ [], line (cut u) no_line)
  each_asks (lines.another {l} {ls = ls} o c) = go (d.told l o) (each_asks c)
    where
      go :
          ((f : F) × Says l (d.form f)) ⊎ ((f : F) → Says l (d.form f) → ⊥) → (qs : List (Ask R)) × Each LineAsks ls qs
          → (qs : List (Ask R)) × Each LineAsks (l ∷ ls) qs
      go (inl (f, s)) w = (request (d.asked f) ∷ w.0, line (says f s) w.1)
      go (inr h) w = (no_step ∷ w.0, line (other o h) w.1)

  -- and for that alone
  pub each_once : {ls : List (List ℕ)} {ps qs : List (Ask R)} → Each LineAsks ls ps → Each LineAsks ls qs → ps ≡ qs
  each_once no_line no_line = refl
  each_once (line {l} p c) (line q e) = λ i. asks_once (d.once l) p q i ∷ each_once c e i

  pub each_at : {ls : List (List ℕ)} {qs : List (Ask R)} → Each LineAsks ls qs → (i : ℕ) → LineAsks (get_or ls i []) (get_or qs i no_step)
  each_at no_line i = cut empty
  each_at (line p c) zero = p
  each_at (line p c) (suc i) = each_at c i

-- ---- the announcement

module _ (p : Request → Bool) where
  -- is one of the requests such a one
  abbrev pub any : List Request → Bool
  any [] = false
  any (x ∷ xs) = p x || any xs

  any_append : (xs ys : List Request) → any (xs ++ ys) ≡ (any xs || any ys)
  any_append [] ys = refl
  any_append (x ∷ xs) ys = rw (any_append xs ys) (go (p x))
    where
      go : (b : Bool) → (b || (any xs || any ys)) ≡ ((b || any xs) || any ys)
      go true = refl
      go false = refl

-- the steps of a detector: what they say, what they ask for, and that one of them alone is the announcement
pub record Steps (F : Type 0) : Type 1 where
  pub read : Reads F Request
  pub announces : Request → Bool
  pub last : F
  pub is : read.form last ≡ announce
  pub does : announces (read.asked last) ≡ true
  pub only : (f : F) → announces (read.asked f) ≡ true → read.form f ≡ announce

module _ {F : Type 0} (d : Steps F) where
  -- a line `(announce)` asks for the announcement
  announce_asks :
      {ls : List (List ℕ)} {qs : List (Ask Request)} → Each (LineAsks d.read) ls qs → (i : ℕ) → Says (get_or ls i []) announce
      → get_or qs i no_step ≡ request (d.read.asked d.last)
  announce_asks {ls} c i q =
      asks_once (d.read.once (get_or ls i [])) (each_at d.read c i) (says d.last (subst (Says (get_or ls i [])) (sym d.is) q))

  -- and no other line does
  announce_only : {l : List ℕ} {a : Ask Request} {x : Request} → LineAsks d.read l a → a ≡ request x → d.announces x ≡ true → Says l announce
  announce_only {l} {x = x} (says f s) e y =
      let same : d.read.asked f ≡ x = cc in subst (Says l) (d.only f (ap d.announces same ∙ y)) s
  announce_only (other o h) e y = absurd (let z : ◌≡◌ {A = ℕ} 0 1 = cc in let w : ⊥ = omega arith in w)
  announce_only (cut u) e y = absurd (let z : ◌≡◌ {A = ℕ} 0 1 = cc in let w : ⊥ = omega arith in w)

  -- what the countdown of a whole run says after ys, where it was in t and K steps were left
  pub record Left {S : Type 0} (m : Machine S Request) (Step : Request → Type 0) (t : S) (K : ℕ) (ys : List Request) : Type 0 where
    pub one_of : (x : Request) → Accepts m (run_of m t ys) x → Step x ⊎ (d.announces x ≡ true)
    pub at_most : length (accepted_of m t ys) ≤ K
    pub exactly : Accepts m (run_of m t ys) (d.read.asked d.last) ↔ (length (accepted_of m t ys) ≡ K)

  module _ {S : Type 0} (m : Machine S Request) (s : S) {ls : List (List ℕ)} {qs : List (Ask Request)} (c : Each (LineAsks d.read) ls qs) where
    pub announce_ok : (i : ℕ) → AnnouncedAt m s qs ls i → Accepts m (run_of m s (said qs i)) (d.read.asked d.last)
    announce_ok i a = subst (λ (b : Ask Request). verdict_on m (run_of m s (said qs i)) b ≡ Accepted) (announce_asks c i a.0) a.1

    -- an announcement that is accepted is among the requests that are
    announced : (i : ℕ) → AnnouncedAt m s qs ls i → any d.announces (accepted_of m s (said qs (suc i))) ≡ true
    unfolding accepted_of
    announced i a =
        let t = run_of m s (said qs i) in
        let x = d.read.asked d.last in
        let early = accepted_of m s (said qs i) in
        let here = accepted_of m t (requests_in (get_or qs i no_step ∷ [])) in
        let asks : here ≡ accepted_of m t (x ∷ []) = ap (λ (b : Ask Request). accepted_of m t (requests_in (b ∷ []))) (announce_asks c i a.0) in
        let one : here ≡ x ∷ [] = asks ∙ ap (λ (v : Verdict). settle v (x ∷ []) []) (announce_ok i a) in
        ap (any d.announces) (accepted_next m s qs i)
        ∙ (any_append d.announces early here
        ∙ right_true (any d.announces early) (ap (any d.announces) one ∙ ap (λ (b : Bool). b || false) d.does))

    -- nothing is accepted after it
    pub none_after :
        ((i : ℕ) → any d.announces (accepted_of m s (said qs i)) ≡ true → (ys : List Request) → accepted_of m (run_of m s (said qs i)) ys ≡ [])
        → (i j : ℕ) → i < j → AnnouncedAt m s qs ls i → OkAt m s qs j → ⊥
    none_after last i j h a = none_ok m s qs (suc i) (last (suc i) (announced i a)) j (omega arith)

    -- with none before a line, none is among the requests accepted before it
    pub unannounced : (j : ℕ) → NoneBefore m s qs ls j → any d.announces (accepted_of m s (said qs j)) ≡ false
    unfolding accepted_of
    unannounced zero h = refl
    unannounced (suc j) h =
        let one = accepted_of m (run_of m s (said qs j)) (requests_in (get_or qs j no_step ∷ [])) in
        ap (any d.announces) (accepted_next m s qs j)
        ∙ (any_append d.announces (accepted_of m s (said qs j)) one
        ∙ (ap (λ (b : Bool). b || any d.announces one) (unannounced j (λ i k. h i (omega arith))) ∙ here (get_or qs j no_step) refl))
      where
        here : (a : Ask Request) → get_or qs j no_step ≡ a → any d.announces (accepted_of m (run_of m s (said qs j)) (requests_in (a ∷ []))) ≡ false
        here no_step e = refl
        here (request x) e = go (m.verdict (run_of m s (said qs j)) x) refl (d.announces x) refl
          where
            go :
                (v : Verdict) → m.verdict (run_of m s (said qs j)) x ≡ v → (b : Bool) → d.announces x ≡ b
                → any d.announces (settle v (x ∷ []) []) ≡ false
            go (Refused f) p b y = refl
            go Accepted p false y = rw y
            go Accepted p true y = absurd (h j (omega arith) (announce_only (each_at d.read c j) e y, ap (verdict_on m (run_of m s (said qs j))) e ∙ p))

    -- so the later ones say no more
    unannounced_between :
        (i j : ℕ) → i ≤ j → NoneBefore m s qs ls j
        → any d.announces (accepted_of m (run_of m s (said qs i)) (between qs i j)) ≡ false
    unannounced_between i j h none =
        let early = accepted_of m s (said qs i) in
        let late = accepted_of m (run_of m s (said qs i)) (between qs i j) in
        (neither (any d.announces early) (any d.announces late)
        (sym (any_append d.announces early late) ∙ (ap (any d.announces) (sym (accepted_later m s qs i j h)) ∙ unannounced j none))).1

    pub counts_down :
        {Step : Request → Type 0} (i K : ℕ)
        → ((ys : List Request) → any d.announces (accepted_of m (run_of m s (said qs i)) ys) ≡ false → Left m Step (run_of m s (said qs i)) K ys)
        → CountsDown m s qs ls Step i K
    counts_down {Step} i K left =
        record {
          alone = λ j h none ok.
              let w = ok_request m s qs j ok in
              one j w.0 w.1 ((at j h none).one_of w.0 (subst (λ (t : S). Accepts m t w.0) (there j h) w.2));
          at_most = λ j h none. omega (arith, oks_later m s qs i j h, (at j h none).at_most);
          exactly = λ j h none q.
              let e = (at j h none).exactly in
              let w = same j h (announce_asks c j q) in
              let n = oks_later m s qs i j h in (
                λ ok. omega (arith, n, e.0 (w.0 ok)),
                λ k. w.1 (e.1 (omega (arith, n))),
              );
        }
      where
        at : (j : ℕ) → i ≤ j → NoneBefore m s qs ls j → Left m Step (run_of m s (said qs i)) K (between qs i j)
        at j h none = left (between qs i j) (unannounced_between i j h none)

        there : (j : ℕ) → i ≤ j → run_of m s (said qs j) ≡ run_of m (run_of m s (said qs i)) (between qs i j)
        there j h = ap (run_of m s) (said_later qs i j h) ∙ run_append m s (said qs i) (between qs i j)

        same : (j : ℕ) → i ≤ j → {x : Request} → get_or qs j no_step ≡ request x
            → OkAt m s qs j ↔ Accepts m (run_of m (run_of m s (said qs i)) (between qs i j)) x
        same j h {x} is = (
          λ ok. subst (λ (t : S). Accepts m t x) (there j h) (subst (λ (b : Ask Request). verdict_on m (run_of m s (said qs j)) b ≡ Accepted) is ok),
          λ a. ap (verdict_on m (run_of m s (said qs j))) is ∙ subst (λ (t : S). Accepts m t x) (sym (there j h)) a,
        )

        one : (j : ℕ) (x : Request) → get_or qs j no_step ≡ request x → Step x ⊎ (d.announces x ≡ true)
            → ((x : Request) × (get_or qs j no_step ≡ request x) × Step x) ⊎ Says (get_or ls j []) announce
        one j x e (inl p) = inl (x, e, p)
        one j x e (inr y) = inr (announce_only (each_at d.read c j) e y)
