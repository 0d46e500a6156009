-- The statements of specs/Theorems.antt, proved. Assumes nothing.
use Prim.Native.Nat.{◌<◌, ◌≤◌, suc, zero, ℕ}
use borrow.Author.Tests.{eq-eqb, le-leb, leb-false, lt-leb, not-false}
use lib.Dec.{leb}
use lib.ListN.{get_or, replicate}
use lib.Seq.{get_or-set_other, get_or-set_same}
use mathlib.Core.Bool.{Bool, false, not, true}
use mathlib.Core.List.{List}
use mathlib.Core.Logic.{◌≢◌, ◌⊎◌, inl, inr, ⊎_elim}
use mathlib.Core.Path.{◌∙◌, ◌≡◌, ap, refl, subst, sym}
use native.Mathlib.Omega.{arith}
use Rattle.laws.proofs.Tests.{split}
use Rattle.panel_rules.proofs.Accepted.{passed, ring_accepts}
use Rattle.panel_rules.proofs.Answers.{ring_verdict, unsound_verdict}
use Rattle.panel_rules.proofs.Keeps.{close_matches, enter_keeps, start_keeps, starts, step_keeps}
use Rattle.panel_rules.proofs.Marks.{agree_from, all_are}
use Rattle.panel_rules.proofs.Numbers.{close_15, close_8, close_accepted, closed_4, kind_14, kind_15, node_count, start_flags, start_small, start_unsound, take_14}
use Rattle.panel_rules.proofs.Soundness.{sound_true, true_sound}
use Rattle.panel_rules.specs.Answers.{Answer, answer_of, enter_of, marks_answer, marks_told, start_of, start_table, start_verdict, verdict_of}
use Rattle.panel_rules.specs.Asks.{Ask, Start, Step, after, answer_on, panel, rows_of, verdict_on}
use Rattle.panel_rules.specs.Rules.{firmware_said, is_word, map_said, panel_effect, restarted, second}
use Rattle.panel_rules.specs.Soundness.{Matches, Sound, sound_test}
use Rattle.panel_rules.specs.State.{Panel, entered, firmware_at, map_at, marks_number, nodes, record_number}
use Rattle.panel_rules.specs.Theorems.{CloseAnswered, EnterAnswered, NumbersAlone, PanelAnswered, PanelKept, PanelRead, PanelTested, PanelUnread, RingsOwn, SoundSentence, StartAnswered, TakeAnswered, WordsMean}
use Rattle.refusal.proofs.Table.{accepts, first_row, none_holds, numbered, other_kind}
use Rattle.refusal.proofs.Theorems.{count_refused, count_told}
use Rattle.refusal.specs.Table.{Numbered, also, code_of, first_of, settle}
use Rattle.refusal.specs.Counts.{Count}
use Rattle.refusal.specs.Table.{Verdict}
use Rattle.refusal.specs.Table.{Accepted, Refused}
use Rattle.ring_rules.proofs.Theorems as ring
use Rattle.ring_rules.specs.Answers as ring_answers
use Rattle.ring_rules.specs.Rules.{Announce, Idle, Kind, Pass, Probe, Send, Take, Unknown, kind_of}
use Rattle.ring_rules.specs.Soundness as ring_sound
use Rattle.ring_rules.specs.Start as ring_start
use Rattle.ring_rules.specs.State.{State}
use Rattle.runs.proofs.Runs.{run_keeps, run_of_lem}
use Rattle.runs.specs.Runs.{next}

pub panel_tested : PanelTested
panel_tested =
    record {
      holds = sound_true;
      tested = true_sound;
      agreed = λ p. (all_are p, λ w. agree_from p w.0 w.1);
    }

pub sound_sentence : SoundSentence
sound_sentence =
    record {
      exactly =
          λ p lf lm. (
            λ e.
                let s = sound_true p e in (
                  s.ring,
                  λ i lo hi. (s.unused_firmware i lo hi, s.unused_map i lo hi),
                  s.empty,
                  λ c i h. ((s.matches c).firmware i h, (s.matches c).map i h),
                ),
            λ w.
                true_sound p
                (record {
                  ring = w.0;
                  firmware_places = lf;
                  map_places = lm;
                  unused_firmware = λ i lo hi. (w.1 i lo hi).0;
                  unused_map = λ i lo hi. (w.1 i lo hi).1;
                  empty = w.2;
                  matches = λ c. record { firmware = λ i h. (w.3 c i h).0; map = λ i h. (w.3 c i h).1 };
                }),
          );
    }

-- ---- answers

pub verdict_is : (p : Panel) (a : Ask) → verdict_on p a ≡ first_of (rows_of p a)
unfolding verdict_of start_verdict
verdict_is p (Step x) = refl
verdict_is p (Start n flags) = refl

-- an answer by its verdict
pub answer_is : (p : Panel) (a : Ask) → answer_on p a ≡ record { verdict = verdict_on p a; state = next panel p a }
unfolding answer_of start_of
answer_is p (Step x) = refl
answer_is p (Start n flags) = refl

panel_by : (p : Panel) (a : Ask) (v : Verdict) → verdict_on p a ≡ v → (answer_on p a).state ≡ settle v (after p a) p
panel_by p a v e = ap (λ (x : Answer). x.state) (answer_is p a) ∙ ap (λ (v : Verdict). settle v (after p a) p) e

unsound_3 : (p : Panel) → (Sound p → ⊥) → (a : Ask) → code_of (verdict_on p a) ≡ 3
unsound_3 p h a = go (split (sound_test p)) a
  where
    go : (sound_test p ≡ true) ⊎ (sound_test p ≡ false) → (a : Ask) → code_of (verdict_on p a) ≡ 3
    go (inl t) a = absurd (h (sound_true p t))
    go (inr f) (Step x) = ap code_of (unsound_verdict p (kind_of x.kind) x.i x.j f)
    go (inr f) (Start n flags) = start_unsound p n flags f

pub panel_answered : PanelAnswered
panel_answered =
    record {
      number =
          λ p a.
          subst (λ (v : Verdict). Numbered (rows_of p a) (code_of v)) (sym (ap (λ (x : Answer). x.verdict) (answer_is p a) ∙ verdict_is p a))
          (numbered (rows_of p a));
      accepted = λ p a. (λ e. none_holds (rows_of p a) (sym (verdict_is p a) ∙ e), λ h. verdict_is p a ∙ accepts (rows_of p a) h);
      next = λ p a. panel_by p a Accepted;
      refused = λ p a x e. first_row (rows_of p a) x (sym (verdict_is p a) ∙ e);
      same = λ p a x. panel_by p a (Refused x);
      unsound = unsound_3;
    }

-- a column of old marks, at any place
get_d_all : (n i : ℕ) → get_or (replicate n false) i false ≡ false
get_d_all zero i = refl
get_d_all (suc n) zero = refl
get_d_all (suc n) (suc i) = get_d_all n i

refused_unsound : (r : State) → ring_sound.sound_test r ≡ false → sound_test (entered r) ≡ false
unfolding sound_test
refused_unsound r e = rw e

pub enter_answered : EnterAnswered
unfolding enter_of ring_start.start_of
enter_answered =
    record {
      number = (ring.start_answered).number;
      verdict = λ n flags. refl;
      first = λ n flags e. ap entered ((ring.start_answered).first n flags e);
      old = λ n flags i. (old_at i, old_at i);
      none = λ n flags x e. refused_unsound _ ((ring.start_answered).none n flags x e);
    }
  where
    old_at : (i : ℕ) → get_or (replicate 96 false) i false ≡ false
    old_at i = get_d_all 96 i

-- ---- soundness kept

enter_sound : (n : ℕ) (flags : List ℕ) → (enter_of n flags).verdict ≡ Accepted → Sound (enter_of n flags).state
unfolding enter_of ring_start.start_of
enter_sound n flags e = enter_keeps _ ((ring.sound_kept).start n flags e)

pub after_sound : (p : Panel) (a : Ask) → verdict_on p a ≡ Accepted → Sound (after p a)
after_sound p (Step x) e = step_keeps p (kind_of x.kind) x.i x.j e
after_sound p (Start n flags) e = start_keeps p n flags e

accepted_sound : (p : Panel) (a : Ask) → verdict_on p a ≡ Accepted → Sound (answer_on p a).state
accepted_sound p a e = subst Sound (sym (panel_answered.next p a e)) (after_sound p a e)

pub panel_kept : PanelKept
panel_kept =
    record {
      enter = enter_sound;
      accepted = accepted_sound;
      any = λ p a s. any p a s (verdict_on p a) refl;
      run = λ p s ls. run_keeps panel Sound (λ q a _ e. after_sound q a e) (run_of_lem panel p ls) s;
    }
  where
    any : (p : Panel) (a : Ask) → Sound p → (v : Verdict) → verdict_on p a ≡ v → Sound (answer_on p a).state
    any p a s Accepted e = accepted_sound p a e
    any p a s (Refused x) e = subst Sound (sym (panel_answered.same p a x e)) s

-- ---- steps

module _ (p : Panel) (k : Kind) (i j : ℕ) where
  step_by : (v : Verdict) → verdict_of p k i j ≡ v → (answer_of p k i j).state ≡ settle v (panel_effect p k i j) p
  unfolding answer_of
  step_by v e = ap (λ (v : Verdict). settle v (panel_effect p k i j) p) e

  -- what a step's effect keeps, its answer does
  kept_by : {A : Type 0} (f : Panel → A) → f (panel_effect p k i j) ≡ f p → f (answer_of p k i j).state ≡ f p
  kept_by f e = go (verdict_of p k i j) refl
    where
      go : (v : Verdict) → verdict_of p k i j ≡ v → f (answer_of p k i j).state ≡ f p
      go Accepted h = ap f (step_by Accepted h) ∙ e
      go (Refused x) h = ap f (step_by (Refused x) h)

-- kinds but take and close
pub data Plain : Kind → Type 0 where
  send : Plain Send
  idle : Plain Idle
  probe : Plain Probe
  pass : Plain Pass
  none : Plain Unknown

pub plain : (k : Kind) → k ≢ Take → k ≢ Announce → Plain k
plain Send a b = send
plain Take a b = absurd (a refl)
plain Idle a b = idle
plain Probe a b = probe
plain Pass a b = pass
plain Announce a b = absurd (b refl)
plain Unknown a b = none

plain_verdict : (p : Panel) → Sound p → (k : Kind) → Plain k → (i j : ℕ) → verdict_of p k i j ≡ ring_answers.verdict_of p.ring k i j
plain_verdict p s Send send i j = ring_verdict p s Send i j refl refl
plain_verdict p s Idle idle i j = ring_verdict p s Idle i j refl refl
plain_verdict p s Probe probe i j = ring_verdict p s Probe i j refl refl
plain_verdict p s Pass pass i j = ring_verdict p s Pass i j refl refl
plain_verdict p s Unknown none i j = ring_verdict p s Unknown i j refl refl
plain_verdict p s Take x' i j = elim x' [ ]
plain_verdict p s Announce x'' i j = elim x'' [ ]

plain_kept :
    (p : Panel) (k : Kind) → Plain k → (i j : ℕ)
    → ((panel_effect p k i j).firmware ≡ p.firmware) × ((panel_effect p k i j).map ≡ p.map) × ((panel_effect p k i j).recorded ≡ p.recorded)
plain_kept p Send send i j = (refl, refl, refl)
plain_kept p Idle idle i j = (refl, refl, refl)
plain_kept p Probe probe i j = (refl, refl, refl)
plain_kept p Pass pass i j = (refl, refl, refl)
plain_kept p Unknown none i j = (refl, refl, refl)
plain_kept p Take x' i j = elim x' [ ]
plain_kept p Announce x'' i j = elim x'' [ ]

pub rings_own : RingsOwn
rings_own =
    record {
      accepted = ring_accepts;
      effect = λ p k i j. refl;
      next =
          λ p k i j e.
          ap (λ (q : Panel). q.ring) (step_by p k i j Accepted e)
          ∙ sym ((ring.step_answered).next p.ring k i (second k j) (ring_accepts p k i j e));
      close = λ p s e i j. ring_verdict p s Announce i j refl (ap not e);
      verdict = λ p s k a b. plain_verdict p s k (plain k a b);
      kept =
          λ p k a b i j.
          let w = plain_kept p k (plain k a b) i j in (
            kept_by p k i j (λ (q : Panel). q.firmware) w.0,
            kept_by p k i j (λ (q : Panel). q.map) w.1,
            kept_by p k i j (λ (q : Panel). q.recorded) w.2,
          );
    }

-- ---- takes

-- a node that takes is in range
pub take_inside : (p : Panel) (i j : ℕ) → verdict_of p Take i j ≡ Accepted → i < 96
take_inside p i j e =
    let a = passed p Take i j e in
    let h : i < nodes p = leb-false (nodes p) i a.inside in
    let n : nodes p ≤ 96 = a.sound.ring.nodes in
    omega arith

module _ (p : Panel) (i j : ℕ) where
  other_firmware : (b : ℕ) → b ≢ i → firmware_at (answer_of p Take i j).state b ≡ firmware_at p b
  other_firmware b h =
      kept_by p Take i j (λ (q : Panel). firmware_at q b) (get_or-set_other p.firmware i b _ false h)

  other_map : (b : ℕ) → b ≢ i → map_at (answer_of p Take i j).state b ≡ map_at p b
  other_map b h = kept_by p Take i j (λ (q : Panel). map_at q b) (get_or-set_other p.map i b _ false h)

  module _ (e : verdict_of p Take i j ≡ Accepted) where
    own_firmware : firmware_at (answer_of p Take i j).state i ≡ firmware_said j (firmware_at p i)
    own_firmware =
        ap (λ (q : Panel). firmware_at q i) (step_by p Take i j Accepted e)
        ∙ get_or-set_same p.firmware i _ false (inside (passed p Take i j e).sound.firmware_places)
      where
        inside : {l : ℕ} → l ≡ 96 → i < l
        inside q = let h = take_inside p i j e in omega arith

    own_map : map_at (answer_of p Take i j).state i ≡ map_said j (map_at p i)
    own_map =
        ap (λ (q : Panel). map_at q i) (step_by p Take i j Accepted e)
        ∙ get_or-set_same p.map i _ false (inside (passed p Take i j e).sound.map_places)
      where
        inside : {l : ℕ} → l ≡ 96 → i < l
        inside q = let h = take_inside p i j e in omega arith

pub take_answered : TakeAnswered
take_answered =
    record {
      word = λ p s i j lo hi. ring_verdict p s Take i j (word_fits j lo hi) refl;
      no_word = take_14;
      mine = λ p i j e. (own_firmware p i j e, own_map p i j e);
      others = λ p i j b h. (other_firmware p i j b h, other_map p i j b h);
      recorded = λ p i j. kept_by p Take i j (λ (q : Panel). q.recorded) refl;
    }
  where
    word_fits : (j : ℕ) → 0 < j → j ≤ 4 → not (is_word j) ≡ false
    word_fits j lo hi = rw (le-leb 1 j lo, le-leb j 4 hi)

pub words_mean : WordsMean
words_mean =
    record {
      firmware_new = λ m. refl;
      map_new = λ m. refl;
      firmware_old = λ m. refl;
      map_old = λ m. refl;
      firmware_kept = λ m. (refl, refl);
      map_kept = λ m. (refl, refl);
    }

-- ---- closes

pub close_answered : CloseAnswered
close_answered =
    record {
      accepted = close_accepted;
      unequal = close_15;
      early = close_8;
      quiet = λ p i j e. (ring.announced_quiet).quiet p.ring i j (ring_accepts p Announce i j e);
      closes = λ p i j e. ap (λ (q : Panel). q.ring.closed) (step_by p Announce i j Accepted e);
      writes =
          λ p i j e.
          subst Matches (sym (step_by p Announce i j Accepted e)) (close_matches p _ refl (not-false _ (passed p Announce i j e).equal));
      marks = λ p i j. (kept_by p Announce i j (λ (q : Panel). q.firmware) refl, kept_by p Announce i j (λ (q : Panel). q.map) refl);
      last = closed_4;
    }

pub numbers_alone : NumbersAlone
numbers_alone = record { word = word; marks = marks }
  where
    word : (p : Panel) (a : Ask) → code_of (verdict_on p a) ≡ 14 → (i j : ℕ) × (k : ℕ) × (a ≡ Step (record { kind = k; i = i; j = j })) × (kind_of k ≡ Take)
    word p (Step x) e = (x.i, x.j, x.kind, refl, kind_14 p (kind_of x.kind) x.i x.j e)
    word p (Start n flags) e = absurd (let h = start_small p n flags 14 e in omega arith)

    marks : (p : Panel) (a : Ask) → code_of (verdict_on p a) ≡ 15 → (i j : ℕ) × (k : ℕ) × (a ≡ Step (record { kind = k; i = i; j = j })) × (kind_of k ≡ Announce)
    marks p (Step x) e = (x.i, x.j, x.kind, refl, kind_15 p (kind_of x.kind) x.i x.j e)
    marks p (Start n flags) e = absurd (let h = start_small p n flags 15 e in omega arith)

-- ---- starts

module _ (p : Panel) (n : ℕ) (flags : List ℕ) where
  start_by : (v : Verdict) → start_verdict p n flags ≡ v → (start_of p n flags).state ≡ settle v (restarted p n flags) p
  unfolding start_of
  start_by v e = ap (λ (v : Verdict). settle v (restarted p n flags) p) e

  marks_kept : {A : Type 0} (f : Panel → A) → f (restarted p n flags) ≡ f p → f (start_of p n flags).state ≡ f p
  marks_kept f e = go (start_verdict p n flags) refl
    where
      go : (v : Verdict) → start_verdict p n flags ≡ v → f (start_of p n flags).state ≡ f p
      go Accepted h = ap f (start_by Accepted h) ∙ e
      go (Refused x) h = ap f (start_by (Refused x) h)

  pub start_accepts : Sound p → n ≡ nodes p → ring_start.start_verdict n flags ≡ Accepted → start_verdict p n flags ≡ Accepted
  unfolding start_verdict ring_start.start_verdict
  start_accepts s e h =
      accepts (start_table p n flags)
      (also (ap not (true_sound p s)) (also (ap not (eq-eqb n (nodes p) e)) (none_holds (ring_start.start_table n flags) h)))

pub start_answered : StartAnswered
start_answered =
    record {
      accepted =
          λ p n flags. (
            λ e. let w = starts p n flags e in (w.sound, w.same_n, w.accepted),
            λ w. start_accepts p n flags w.0 w.1 w.2,
          );
      node_count = node_count;
      start_flags = start_flags;
      afresh = λ p n flags e. ap (λ (q : Panel). q.ring) (start_by p n flags Accepted e);
      emptied = λ p n flags e. ap (λ (q : Panel). q.recorded) (start_by p n flags Accepted e);
      firmware = λ p n flags. marks_kept p n flags (λ (q : Panel). q.firmware) refl;
      map = λ p n flags. marks_kept p n flags (λ (q : Panel). q.map) refl;
    }

-- ---- what is read

marks_by : (p : Panel) (i : ℕ) (s o : Bool) → sound_test p ≡ s → leb (nodes p) i ≡ o → marks_answer p i ≡ marks_told s o (marks_number (firmware_at p i) (map_at p i))
marks_by p i s o e f = λ x. marks_told (e x) (f x) (marks_number (firmware_at p i) (map_at p i))

pub panel_read : PanelRead
panel_read =
    record {
      record_told = λ p s. count_told (sound_test p) _ (true_sound p s);
      record_unsound = λ p h. count_refused (sound_test p) (record_number p.recorded) (λ t. h (sound_true p t));
      marks_are_told =
          λ p s i h.
          let e = marks_by p i _ _ (true_sound p s) (lt-leb _ _ h) in
          (ap (λ (c : Count). code_of c.verdict) e, ap (λ (c : Count). c.number) e);
      marks_outside = λ p s i h. ap (λ (c : Count). code_of c.verdict) (marks_by p i _ _ (true_sound p s) (le-leb _ _ h));
      marks_unsound = λ p h i. ap (λ (c : Count). code_of c.verdict) (marks_by p i _ _ (untrue p h) refl);
    }
  where
    untrue : (p : Panel) → (Sound p → ⊥) → sound_test p ≡ false
    untrue p h = ⊎_elim (λ t. absurd (h (sound_true p t))) (λ f. f) (split (sound_test p))

pub panel_unread : PanelUnread
unfolding answer_of verdict_of
panel_unread =
    record {
      idle = λ p i j j'. refl;
      probe = λ p i i' j j'. refl;
      pass = λ p i j j'. refl;
      close = λ p i i' j j'. refl;
      unknown = λ p i i' j j'. refl;
      other_kinds = λ p k k' h h' i i' j j'. rw (unknown_kind k h, unknown_kind k' h');
    }
  where
    unknown_kind : (k : ℕ) → (k ≡ 0) ⊎ (6 < k) → kind_of k ≡ Unknown
    unknown_kind = other_kind Send Take Idle Probe Pass Announce Unknown
