-- The statement of specs/UpdateLog.antt, proved. Assumes nothing.
use Prim.Native.Nat.{◌*◌, ◌+◌, ◌-◌, ◌<◌, ◌≤◌, suc, zero, ℕ}
use borrow.Author.Tests.{eq-eqb, eqb-true, ne_eqb}
use lib.Dec.{eqb, ltb}
use lib.ListN.{get_or-eq_default, get_or, get_or-replicate, length, length-append}
use lib.Seq.{ext_get_or, take-length}
use mathlib.Core.Bool.{Bool, ◌&&◌, ◌||◌, cond, false, not, true}
use mathlib.Core.List.{List, [], ◌++◌, ◌∷◌, map}
use mathlib.Core.Logic.{◌↔◌, ◌≢◌, ◌⊎◌, inl, inr}
use mathlib.Core.Path.{◌∙◌, ◌≡◌, ap, refl, subst, sym}
use native.Mathlib.Decide.{dec_lt}
use native.Mathlib.Omega.{arith}
use Rattle.forms.specs.Form.{Says, announce, update}
use Rattle.laws.proofs.Tests.{false_true, left_true, right_true}
use Rattle.log_rules.specs.Answers.{Stage, answer_text, end_text, no_moves, on_table, ring_request, table_end}
use Rattle.log_rules.specs.Lines.{line_limit}
use Rattle.log_rules.specs.Output.{output_of}
use Rattle.refusal.proofs.Table.{not_both}
use Rattle.refusal.specs.Table.{code_of, is_accepted, settle}
use Rattle.refusal.specs.declared.Refusal.TheVariants.{UnknownNode}
use Rattle.refusal.specs.Table.{Verdict}
use Rattle.refusal.specs.Table.{Accepted, Refused}
use Rattle.ring_rules.specs.Start.{first_state}
use Rattle.ring_rules.specs.State.{State}
use Rattle.ring_rules.specs.Theorems.{TokenMove}
use Rattle.ring_rules.proofs.Start.{fits}
use Rattle.ring_runs.proofs.Trace.{run_n}
use Rattle.ring_runs.proofs.WholeRun.{announced_append}
use Rattle.ring_runs.specs.Agreement.{Reachable, sends_made, shown}
use Rattle.ring_runs.specs.Counts.{announced_in, is_announce, kind, ring}
use Rattle.runs.proofs.Runs.{accepted_append, run_append, run_of_lem}
use Rattle.runs.specs.Runs.{Request, accepted_of, run_of}
use Rattle.table_rules.proofs.Limit.{no_nine}
use Rattle.table_rules.proofs.Slots.{never_started, same_state}
use Rattle.table_rules.proofs.Soundness.{empty_fixed, empty_sound}
use Rattle.table_rules.proofs.Theorems.{table_kept, table_numbers}
use Rattle.table_rules.specs.Answers.{Start, Step, answer_on, other_nodes, verdict_on}
use Rattle.table_rules.specs.Runs.{table}
use Rattle.table_rules.specs.Soundness.{SoundTable}
use Rattle.table_rules.specs.Table.{NotStarted, Started, Table, empty_table, fixed, slot_at}
use Rattle.table_runs.proofs.Agreement.{runs_agree}
use Rattle.table_runs.proofs.Limit.{limit_counted}
use Rattle.table_runs.proofs.Updates.{unknown_step}
use Rattle.table_runs.proofs.WholeRun.{history_append, history_on, whole_table}
use Rattle.table_runs.specs.Counts.{AcceptsOn, History, QuietIn, begun, history_in, history_next, history_of, started_of, starts_in, steps_in, taken_of}
use Rattle.table_runs.specs.WholeRun.{Counted, FromStart, OneOfTwo, announcement, token_moves}
use Rattle.log_runs.proofs.First.{asks_once, list_at, list_length, table_rows, wrapped_once}
use Rattle.log_runs.proofs.Runs.{between, between_next, between_none, each_at, lines_printed, said_later}
use Rattle.log_runs.proofs.UpdateParts.{announce_only, each_length, false_unless, few_asked, few_said, from, starts_append, steps_append, to_append, true_unless}
use Rattle.log_runs.proofs.Updates.{moves_history, moves_length, update_answers, update_each, update_reads, update_requests}
use Rattle.log_runs.specs.Answered.{answers, said, verdict_at}
use Rattle.log_runs.specs.First.{flags_to, in_range, known_by, update_verdict}
use Rattle.log_runs.specs.Says.{Ask, Each, list_to, moves_in, no_step, printed, request, requests_in, says, stage_after}
use Rattle.log_runs.specs.UpdateLog.{AnnouncedAt, LineOk, NoAnnouncement, NoStart, OpenAt, QuietAt, StartedAt, UpdateCountsDown, UpdateLog, made, moves_at, table_at, table_begun}
use Rattle.log_runs.specs.Updates.{UpdateAsk, UpdateAsks, moves_after, oks_of, start, step, steps_on, table_ask, to_table, updates, verdict_of}
use Rattle.forms.specs.declared.RingStep.TheVariants as ring_step
use Rattle.table_rules.specs.Answers as asks
use Rattle.update_forms.specs.Wrapped as wrapped
use Rattle.log_runs.specs.Answered as answered

-- ---- the lines of a log whose first line started an update

module _
    (v n : ℕ) (flags : List ℕ) (started : verdict_on empty_table (Start v n flags) ≡ Accepted) {ls : List (List ℕ)} {qs : List (Ask UpdateAsk)}
    (c : Each UpdateAsks ls qs) where
  abbrev first : asks.Ask
  first = Start v n flags

  begun_sound : SoundTable (table_begun first)
  begun_sound = table_kept.accepted empty_table first started

  judged : (i : ℕ) → run_of updates (table_begun first) (said qs i) ≡ table_at first qs i
  unfolding run_of answer_on
  judged i = (update_requests (table_begun first) begun_sound (said qs i)).0

  sound_at : (i : ℕ) → SoundTable (table_at first qs i)
  sound_at i = table_kept.run empty_table empty_sound (made first qs i)

  -- the requests to the table of lines 2 + i to 1 + j
  abbrev later : ℕ → ℕ → List asks.Ask
  later i j = to_table (between qs i j)

  made-later : (i j : ℕ) → i ≤ j → made first qs j ≡ made first qs i ++ later i j
  made-later i j h = ap (λ (l : List asks.Ask). first ∷ l) (ap to_table (said_later qs i j h) ∙ to_append (said qs i) (between qs i j))

  table-later : (i j : ℕ) → i ≤ j → table_at first qs j ≡ run_of table (table_at first qs i) (later i j)
  table-later i j h = ap (run_of table empty_table) (made-later i j h) ∙ run_append table empty_table (made first qs i) (later i j)

  -- those of them that are accepted; and what line 2 + i adds to them
  abbrev acc : ℕ → ℕ → List asks.Ask
  acc i j = accepted_of table (table_at first qs i) (later i j)

  abbrev one : ℕ → List asks.Ask
  one i = accepted_of table (table_at first qs i) (to_table (requests_in (get_or qs i no_step ∷ [])))

  acc_none : (i : ℕ) → acc i i ≡ []
  unfolding accepted_of
  acc_none i = ap (λ (xs : List UpdateAsk). accepted_of table (table_at first qs i) (to_table xs)) (between_none qs i)

  acc_next : (i j : ℕ) → i ≤ j → acc i (suc j) ≡ acc i j ++ one j
  acc_next i j h =
      let a = requests_in (get_or qs j no_step ∷ []) in
      let t = table_at first qs i in
      ap (λ (xs : List UpdateAsk). accepted_of table t (to_table xs)) (between_next qs i j h)
      ∙ (ap (accepted_of table t) (to_append (between qs i j) a)
      ∙ (accepted_append table t (later i j) (to_table a)
      ∙ ap (λ (s : Table). acc i j ++ accepted_of table s (to_table a)) (sym (table-later i j h))))

  history_later : (u i j : ℕ) → i ≤ j → history_of u empty_table (made first qs j) ≡ history_in u (history_of u empty_table (made first qs i)) (acc i j)
  history_later u i j h =
      ap (history_of u empty_table) (made-later i j h)
      ∙ (ap (history_in u (begun (slot_at empty_table u))) (accepted_append table empty_table (made first qs i) (later i j))
      ∙ history_append u (accepted_of table empty_table (made first qs i)) (acc i j) (begun (slot_at empty_table u)))

  acc-one : (i : ℕ) → acc i (suc i) ≡ one i
  acc-one i = acc_next i i (omega arith) ∙ ap (λ (l : List asks.Ask). l ++ one i) (acc_none i)

  history_next_lem : (u i : ℕ) → history_of u empty_table (made first qs (suc i)) ≡ history_in u (history_of u empty_table (made first qs i)) (one i)
  history_next_lem u i = history_later u i (suc i) (omega arith) ∙ ap (history_in u (history_of u empty_table (made first qs i))) (acc-one i)

  -- the table that line 2 + i is judged on
  abbrev here : ℕ → Table
  here i = run_of updates (table_begun first) (said qs i)

  one_is : (i : ℕ) → one i ≡ map table_ask (accepted_of updates (here i) (requests_in (get_or qs i no_step ∷ [])))
  one_is i =
      let a = requests_in (get_or qs i no_step ∷ []) in
      (update_requests (table_at first qs i) (sound_at i) a).1 ∙ ap (λ (t : Table). map table_ask (accepted_of updates t a)) (sym (judged i))

  -- ---- what a line does to update u

  abbrev counts : ℕ → ℕ → ℕ
  counts u i = cond (steps_on u (get_or qs i no_step) && is_accepted (verdict_at updates (table_begun first) qs i)) 1 0

  record Passes (u i : ℕ) : Type 0 where
    pub not_started : StartedAt first qs u i → ⊥
    pub starts : starts_in u (one i) ≡ false
    pub taken : steps_in u (one i) ≡ []
    pub history : (h : History) → history_in u h (one i) ≡ h
    pub count : counts u i ≡ 0

  -- it starts u; it is a step of u that is accepted; or it does nothing
  data LineOf (u i : ℕ) : Type 0 where
    begins : StartedAt first qs u i → (m : ℕ) (fl : List ℕ) → one i ≡ Start u m fl ∷ [] → counts u i ≡ 0 → LineOf u i
    steps : (x : Request) → get_or qs i no_step ≡ request (step u x) → LineOk first qs i → one i ≡ Step u x ∷ [] → counts u i ≡ 1 → LineOf u i
    passes : Passes u i → LineOf u i

  -- a line that adds nothing
  nothing : (u i : ℕ) → one i ≡ [] → (LineOk first qs i → ⊥) → LineOf u i
  nothing u i e bad = passes (record {
    not_started = λ s. bad s.ok;
    starts = ap (starts_in u) e;
    taken = ap (steps_in u) e;
    history = λ h. ap (history_in u h) e;
    count = go (verdict_at updates (table_begun first) qs i) bad (steps_on u (get_or qs i no_step));
  })
    where
      go : (w : Verdict) → (w ≡ Accepted → ⊥) → (b : Bool) → ◌≡◌ {A = ℕ} (cond (b && is_accepted w) 1 0) 0
      go Accepted bad b = absurd (bad refl)
      go (Refused r) bad true = refl
      go (Refused r) bad false = refl

  count_ok : (u i : ℕ) (a : UpdateAsk) → get_or qs i no_step ≡ request a → LineOk first qs i → counts u i ≡ cond (steps_on u (request a) && true) 1 0
  count_ok u i a e ok =
      ap (λ (r : Verdict). cond (steps_on u (get_or qs i no_step) && is_accepted r) 1 0) ok ∙ ap (λ (q : Ask UpdateAsk). cond (steps_on u q && true) 1 0) e

  accepted_line : (u i : ℕ) (a : UpdateAsk) → get_or qs i no_step ≡ request a → LineOk first qs i → one i ≡ table_ask a ∷ [] → LineOf u i
  accepted_line u i (step w x) e ok l = go (eqb w u) refl
    where
      go : (b : Bool) → eqb w u ≡ b → LineOf u i
      go true p =
          let q = eqb-true w u p in
          steps x (e ∙ ap (λ (k : ℕ). request (step k x)) q) ok (l ∙ ap (λ (k : ℕ). Step k x ∷ []) q)
          (count_ok u i (step w x) e ok ∙ ap (λ (b : Bool). cond (b && true) 1 0) p)
      go false p =
          passes (record {
            not_started = λ s. let d = s.asks in let z : ◌≡◌ {A = ℕ} 0 1 = cc in let y : ⊥ = omega arith in y;
            starts = ap (starts_in u) l;
            taken = ap (steps_in u) l ∙ ap (λ (b : Bool). cond b (x ∷ []) []) p;
            history = λ h. ap (history_in u h) l ∙ ap (λ (b : Bool). cond b (record { first = h.first; taken = h.taken ++ (x ∷ []) }) h) p;
            count = count_ok u i (step w x) e ok ∙ ap (λ (b : Bool). cond (b && true) 1 0) p;
          })
  accepted_line u i (start w m a b) e ok l = go (eqb w u) refl
    where
      go : (t : Bool) → eqb w u ≡ t → LineOf u i
      go true p =
          let q = eqb-true w u p in
          begins (record { n = m; active = a; black = b; asks = e ∙ ap (λ (k : ℕ). request (start k m a b)) q; ok = ok }) m (flags_to a b m)
          (l ∙ ap (λ (k : ℕ). Start k m (flags_to a b m) ∷ []) q) (count_ok u i (start w m a b) e ok)
      go false p =
          passes (record {
            not_started = λ s. let d = s.asks in let q : w ≡ u = cc in false_true (sym p ∙ eq-eqb w u q);
            starts = ap (starts_in u) l ∙ ap (λ (b : Bool). b || false) p;
            taken = ap (steps_in u) l;
            history = λ h. ap (history_in u h) l ∙ ap (λ (t : Bool). cond t (begun (Started (first_state m (flags_to a b m)))) h) p;
            count = count_ok u i (start w m a b) e ok;
          })

  -- what a line adds that asks for a, by the verdict on it
  adds : (i : ℕ) (a : UpdateAsk) → get_or qs i no_step ≡ request a → {r : Verdict} → verdict_of (here i) a ≡ r
      → one i ≡ map table_ask (settle r (a ∷ []) [])
  unfolding accepted_of
  adds i a e p =
      one_is i
      ∙ (ap (λ (q : Ask UpdateAsk). map table_ask (accepted_of updates (here i) (requests_in (q ∷ [])))) e
      ∙ ap (λ (r : Verdict). map table_ask (settle r (a ∷ []) [])) p)

  by_ask : (u i : ℕ) (a : UpdateAsk) → get_or qs i no_step ≡ request a → LineOf u i
  by_ask u i a e = go (verdict_of (here i) a) refl
    where
      go : (r : Verdict) → verdict_of (here i) a ≡ r → LineOf u i
      go Accepted p = accepted_line u i a e (ap (answered.verdict_on updates (here i)) e ∙ p) (adds i a e p)
      go (Refused r) p = nothing u i (adds i a e p) (λ ok. not_both (sym (ap (answered.verdict_on updates (here i)) e) ∙ ok) p)

  line_of : (u i : ℕ) → LineOf u i
  unfolding accepted_of
  line_of u i = go (get_or qs i no_step) refl
    where
      go : (q : Ask UpdateAsk) → get_or qs i no_step ≡ q → LineOf u i
      go (request a) e = by_ask u i a e
      go no_step e =
          nothing u i (one_is i ∙ ap (λ (q : Ask UpdateAsk). map table_ask (accepted_of updates (here i) (requests_in (q ∷ [])))) e)
          (λ ok. not_both (sym (ap (answered.verdict_on updates (here i)) e) ∙ ok) refl)

  -- ---- announce lines

  announce_asks : (u i : ℕ) → Says (get_or ls i []) (update u announce) → get_or qs i no_step ≡ request (step u (ring_request ring_step.Announce))
  announce_asks u i s = asks_once (wrapped_once (get_or ls i [])) (each_at update_reads c i) (says (wrapped.step u ring_step.Announce) s)

  announce_says :
      (u i : ℕ) (x : Request) → get_or qs i no_step ≡ request (step u x) → is_announce (kind x) ≡ true → Says (get_or ls i []) (update u announce)
  announce_says u i x e y = announce_only (each_at update_reads c i) e y

  -- a step that is no announcement
  not_last :
      (u i : ℕ) (x : Request) → get_or qs i no_step ≡ request (step u x) → LineOk first qs i → (AnnouncedAt first qs ls u i → ⊥)
      → is_announce (kind x) ≡ false
  not_last u i x e ok bad = false_unless (λ p. bad (announce_says u i x e p, ok))

  -- ---- what is accepted between two lines

  step_alone : (u : ℕ) (x : Request) {l : List asks.Ask} → l ≡ Step u x ∷ [] → steps_in u l ≡ x ∷ []
  step_alone u x e = ap (steps_in u) e ∙ ap (λ (b : Bool). cond b (x ∷ []) []) (eq-eqb u u refl)

  no_starts : (u i j : ℕ) → i ≤ j → NoStart first qs u i j → starts_in u (acc i j) ≡ false
  no_starts u i =
      from (λ (j : ℕ). NoStart first qs u i j → starts_in u (acc i j) ≡ false) (λ none. ap (starts_in u) (acc_none i))
      (λ j h ih none.
      ap (starts_in u) (acc_next i j h)
      ∙ (starts_append u (acc i j) (one j)
      ∙ (ap (λ (b : Bool). b || starts_in u (one j)) (ih (λ k lo hi. none k lo (omega arith))) ∙ here_none j (none j h (omega arith)) (line_of u j))))
    where
      here_none : (j : ℕ) → (StartedAt first qs u j → ⊥) → LineOf u j → starts_in u (one j) ≡ false
      here_none j bad (begins s m fl l k) = absurd (bad s)
      here_none j bad (steps x e ok l k) = ap (starts_in u) l
      here_none j bad (passes p) = p.starts

  no_announcements : (u i j : ℕ) → i ≤ j → NoAnnouncement first qs ls u i j → announced_in (steps_in u (acc i j)) ≡ false
  no_announcements u i =
      from (λ (j : ℕ). NoAnnouncement first qs ls u i j → announced_in (steps_in u (acc i j)) ≡ false)
      (λ none. ap (λ (l : List asks.Ask). announced_in (steps_in u l)) (acc_none i))
      (λ j h ih none.
      ap (λ (l : List asks.Ask). announced_in (steps_in u l)) (acc_next i j h)
      ∙ (ap announced_in (steps_append u (acc i j) (one j))
      ∙ (announced_append (steps_in u (acc i j)) (steps_in u (one j))
      ∙ (ap (λ (b : Bool). b || announced_in (steps_in u (one j))) (ih (λ k lo hi. none k lo (omega arith)))
      ∙ here_none j (none j h (omega arith)) (line_of u j)))))
    where
      here_none : (j : ℕ) → (AnnouncedAt first qs ls u j → ⊥) → LineOf u j → announced_in (steps_in u (one j)) ≡ false
      here_none j bad (begins s m fl l k) = ap (λ (l : List asks.Ask). announced_in (steps_in u l)) l
      here_none j bad (steps x e ok l k) = ap announced_in (step_alone u x l) ∙ ap (λ (b : Bool). b || false) (not_last u j x e ok bad)
      here_none j bad (passes p) = ap announced_in p.taken

  count_is : (u i : ℕ) → counts u i ≡ length (steps_in u (one i))
  count_is u i = go (line_of u i)
    where
      go : LineOf u i → counts u i ≡ length (steps_in u (one i))
      go (begins s m fl l k) = k ∙ sym (ap (λ (l : List asks.Ask). length (steps_in u l)) l)
      go (steps x e ok l k) = k ∙ sym (ap length (step_alone u x l))
      go (passes p) = p.count ∙ sym (ap length p.taken)

  abbrev ok_lines : ℕ → ℕ → ℕ
  ok_lines u i = oks_of (table_begun first) qs u i

  oks_later : (u i j : ℕ) → i ≤ j → ok_lines u j ≡ ok_lines u i + length (steps_in u (acc i j))
  oks_later u i =
      from (λ (j : ℕ). ok_lines u j ≡ ok_lines u i + length (steps_in u (acc i j)))
      (omega (arith, ap (λ (l : List asks.Ask). length (steps_in u l)) (acc_none i)))
      (λ j h ih.
      omega (
        arith,
        ih,
        count_is u j,
        ap (λ (l : List asks.Ask). length (steps_in u l)) (acc_next i j h),
        ap length (steps_append u (acc i j) (one j)),
        length-append (steps_in u (acc i j)) (steps_in u (one j)),
      ))

  -- ---- histories

  abbrev begun_at : ℕ → History
  begun_at u = history_next u (begun (slot_at empty_table u)) first

  first_history :
      (u : ℕ) (rs : List asks.Ask) → history_of u empty_table (first ∷ rs) ≡ history_in u (begun_at u) (accepted_of table (table_begun first) rs)
  unfolding accepted_of answer_on
  first_history u rs =
      let later = accepted_of table (table_begun first) rs in
      ap (λ (r : Verdict). history_in u (begun (slot_at empty_table u)) (settle r (first ∷ later) later)) started

  first_taken : (u : ℕ) → (begun_at u).taken ≡ []
  first_taken u = go (eqb v u)
    where
      go : (b : Bool) → (cond b (begun (Started (first_state n flags))) (begun (slot_at empty_table u))).taken ≡ []
      go true = refl
      go false = refl

  abbrev past : ℕ → ℕ → History
  past u i = history_of u empty_table (made first qs i)

  -- as long as no line starts u, its history begins where it did
  still_began : (u i j : ℕ) → i ≤ j → NoStart first qs u i j → (past u j).first ≡ (past u i).first
  still_began u i j h none =
      ap (λ (h : History). h.first) (history_later u i j h ∙ history_on u (acc i j) (past u i) (no_starts u i j h none))

  began_first : (u m : ℕ) (fl : List ℕ) → first ≡ Start u m fl → (i : ℕ) → NoStart first qs u 0 i → (past u i).first ≡ Started (first_state m fl)
  unfolding accepted_of
  began_first u m fl e i none =
      still_began u 0 i (omega arith) none
      ∙ (ap (λ (h : History). h.first) (first_history u [])
      ∙ (ap (λ (a : asks.Ask). (history_next u (begun (slot_at empty_table u)) a).first) e
      ∙ ap (λ (b : Bool). (cond b (begun (Started (first_state m fl))) (begun (slot_at empty_table u))).first) (eq-eqb u u refl)))

  began :
      (u k i : ℕ) (s : StartedAt first qs u k) → k < i → NoStart first qs u (suc k) i
      → (past u i).first ≡ Started (first_state s.n (flags_to s.active s.black s.n))
  began u k i s h none =
      let a = start u s.n s.active s.black in
      let granted : verdict_of (here k) a ≡ Accepted = sym (ap (answered.verdict_on updates (here k)) s.asks) ∙ s.ok in
      still_began u (suc k) i (omega arith) none
      ∙ (ap (λ (h : History). h.first) (history_next_lem u k)
      ∙ (ap (λ (l : List asks.Ask). (history_in u (past u k) l).first) (adds k a s.asks granted)
      ∙ ap (λ (b : Bool). (cond b (begun (Started (first_state s.n (flags_to s.active s.black s.n)))) (past u k)).first) (eq-eqb u u refl)))

  -- what is accepted of line 1 and of those after it
  accepted_made : (i : ℕ) → accepted_of table empty_table (made first qs i) ≡ first ∷ acc 0 i
  unfolding accepted_of run_of
  accepted_made i =
      ap (accepted_of table empty_table) (made-later 0 i (omega arith))
      ∙ (accepted_append table empty_table (made first qs 0) (later 0 i)
      ∙ ap (λ (r : Verdict). settle r (first ∷ []) [] ++ acc 0 i) started)

  began_none : (u i : ℕ) → ((m : ℕ) (fl : List ℕ) → first ≢ Start u m fl) → NoStart first qs u 0 i → started_of u empty_table (made first qs i) ≡ false
  began_none u i other none =
      let ne : eqb v u ≡ false = ne_eqb v u (λ e. other n flags (ap (λ (w : ℕ). Start w n flags) e)) in
      ap (starts_in u) (accepted_made i) ∙ (ap (λ (b : Bool). b || starts_in u (acc 0 i)) ne ∙ no_starts u 0 i (omega arith) none)

  -- an accepted step of u is the last of its history
  step_history : (u i : ℕ) (x : Request) → one i ≡ Step u x ∷ [] → (history_in u (past u i) (one i)).taken ≡ (past u i).taken ++ (x ∷ [])
  step_history u i x l =
      let more : History = record { first = (past u i).first; taken = (past u i).taken ++ (x ∷ []) } in
      ap (λ (l : List asks.Ask). (history_in u (past u i) l).taken) l ∙ ap (λ (b : Bool). (cond b more (past u i)).taken) (eq-eqb u u refl)

  -- an update that is not announced, but where a start follows, has no announcement in its history
  open_earlier : (u i : ℕ) → (StartedAt first qs u i → ⊥) → OpenAt first qs ls u (suc i) → OpenAt first qs ls u i
  open_earlier u i bad o k h a = go (o k (omega arith) a)
    where
      go :
          (j : ℕ) × (k < j) × (j < suc i) × StartedAt first qs u j
          → (j : ℕ) × (k < j) × (j < i) × StartedAt first qs u j
      go (j, lo, hi, s) = by (dec_lt j i)
        where
          by : Dec (j < i) → (j : ℕ) × (k < j) × (j < i) × StartedAt first qs u j
          by (yes less) = (j, lo, less, s)
          by (no more) = let e : j ≡ i = omega arith in absurd (bad (subst (StartedAt first qs u) e s))

  open_history : (u i : ℕ) → OpenAt first qs ls u i → announced_in (history_of u empty_table (made first qs i)).taken ≡ false
  unfolding accepted_of
  open_history u zero o = ap (λ (h : History). announced_in h.taken) (first_history u []) ∙ ap announced_in (first_taken u)
  open_history u (suc i) o =
      ap (λ (h : History). announced_in h.taken) (history_next_lem u i) ∙ go (line_of u i) (open_history u i)
    where
      go : LineOf u i → (OpenAt first qs ls u i → announced_in (past u i).taken ≡ false) → announced_in (history_in u (past u i) (one i)).taken ≡ false
      go (begins s m fl l k) ih =
          ap (λ (l : List asks.Ask). announced_in (history_in u (past u i) l).taken) l
          ∙ ap (λ (b : Bool). announced_in (cond b (begun (Started (first_state m fl))) (past u i)).taken) (eq-eqb u u refl)
      go (steps x e ok l k) ih =
          let bad : StartedAt first qs u i → ⊥ = λ s. let d = s.asks in let z : ◌≡◌ {A = ℕ} 0 1 = cc in let y : ⊥ = omega arith in y in
          let last : AnnouncedAt first qs ls u i → ⊥ = λ a. let w = o i (omega arith) a in let y : ⊥ = omega (arith, w.1, w.2) in y in
          ap announced_in (step_history u i x l)
          ∙ (announced_append (past u i).taken (x ∷ [])
          ∙ (ap (λ (b : Bool). b || (is_announce (kind x) || false)) (ih (open_earlier u i bad o))
          ∙ ap (λ (b : Bool). b || false) (not_last u i x e ok last)))
      go (passes p) ih = ap (λ (h : History). announced_in h.taken) (p.history (past u i)) ∙ ih (open_earlier u i p.not_started o)

  -- ---- demand 3 of update u

  empty_slot : (u : ℕ) → slot_at empty_table u ≡ NotStarted
  empty_slot u = table_numbers.none_fixed empty_table empty_sound empty_fixed u

  not_started : (u i : ℕ) → started_of u empty_table (made first qs i) ≡ false → slot_at (table_at first qs i) u ≡ NotStarted
  not_started u i e = (whole_table.not_started empty_table empty_sound u (empty_slot u) (made first qs i) e).0

  standing : (u i : ℕ) (r : State) → slot_at (table_at first qs i) u ≡ Started r → started_of u empty_table (made first qs i) ≡ true
  standing u i r at = true_unless (λ e. never_started (sym (not_started u i e) ∙ at))

  began_started : (u i : ℕ) (r : State) → (past u i).first ≡ Started r → started_of u empty_table (made first qs i) ≡ true
  began_started u i r b =
      true_unless
      (λ e.
      let h = history_on u (accepted_of table empty_table (made first qs i)) (begun (slot_at empty_table u)) e in
      never_started (sym (empty_slot u) ∙ (sym (ap (λ (h : History). h.first) h) ∙ b)))

  accepts_started : (u i : ℕ) (x : Request) → AcceptsOn (table_at first qs i) u x → started_of u empty_table (made first qs i) ≡ true
  accepts_started u i x a = true_unless (λ e. not_both a (unknown_step (table_at first qs i) (sound_at i) u x (not_started u i e)))

  point : (u i : ℕ) → started_of u empty_table (made first qs i) ≡ true → FromStart empty_table u (made first qs i)
  point u i e = whole_table.from_start empty_table empty_sound u (made first qs i) e

  -- a line that is a step of u is answered as the table judges it
  step_ok : (u i : ℕ) (x : Request) → get_or qs i no_step ≡ request (step u x) → LineOk first qs i ↔ AcceptsOn (table_at first qs i) u x
  step_ok u i x e =
      let told : verdict_at updates (table_begun first) qs i ≡ verdict_on (table_at first qs i) (Step u x) =
      ap (answered.verdict_on updates (here i)) e ∙ ap (λ (t : Table). verdict_on t (Step u x)) (judged i) in
      (λ ok. sym told ∙ ok, λ a. told ∙ a)

  quiet : (u i : ℕ) → AnnouncedAt first qs ls u i → QuietAt first qs u i
  quiet u i a =
      let x = ring_request ring_step.Announce in
      let granted = (step_ok u i x (announce_asks u i a.0)).0 a.1 in
      let p = point u i (accepts_started u i x granted) in
      record { r = p.r; began = p.began; quiet = p.point.quiet x refl granted }

  -- after an accepted announcement
  announced_history : (u i : ℕ) → AnnouncedAt first qs ls u i → announced_in (history_of u empty_table (made first qs (suc i))).taken ≡ true
  announced_history u i a =
      ap (λ (h : History). announced_in h.taken) (history_next_lem u i) ∙ go (line_of u i)
    where
      go : LineOf u i → announced_in (history_in u (past u i) (one i)).taken ≡ true
      go (begins s m fl l k) =
          let d = s.asks in
          let e = announce_asks u i a.0 in
          absurd (let z : ◌≡◌ {A = ℕ} 0 1 = cc in let y : ⊥ = omega arith in y)
      go (steps x e ok l k) =
          let d = announce_asks u i a.0 in
          let same : x ≡ ring_request ring_step.Announce = cc in
          ap announced_in (step_history u i x l)
          ∙ (announced_append (past u i).taken (x ∷ [])
          ∙ right_true (announced_in (past u i).taken) (ap (λ (z : Request). is_announce (kind z) || false) same))
      go (passes p) =
          let d = announce_asks u i a.0 in
          let z : ⊥ = omega (arith, sym p.count ∙ count_ok u i _ d a.1 ∙ ap (λ (b : Bool). cond (b && true) 1 0) (eq-eqb u u refl)) in absurd z

  started_next : (u i : ℕ) → started_of u empty_table (made first qs i) ≡ true → started_of u empty_table (made first qs (suc i)) ≡ true
  started_next u i e =
      let l = accepted_of table empty_table (made first qs i) in
      ap (λ (rs : List asks.Ask). starts_in u (accepted_of table empty_table rs)) (made-later i (suc i) (omega arith))
      ∙ (ap (starts_in u) (accepted_append table empty_table (made first qs i) (later i (suc i)))
      ∙ (starts_append u l (acc i (suc i)) ∙ left_true (starts_in u (acc i (suc i))) e))

  last :
      (u i j : ℕ) → i < j → AnnouncedAt first qs ls u i → NoStart first qs u i j
      → (x : Request) → get_or qs j no_step ≡ request (step u x) → LineOk first qs j → ⊥
  last u i j h a none x e ok =
      let granted = (step_ok u i (ring_request ring_step.Announce) (announce_asks u i a.0)).0 a.1 in
      let p = point u (suc i) (started_next u i (accepts_started u i (ring_request ring_step.Announce) granted)) in
      let empty : (k : ℕ) → suc i ≤ k → NoStart first qs u (suc i) k → length (steps_in u (acc (suc i) k)) ≡ 0 = λ k lo s.
      ap length (p.point.last (announced_history u i a) (later (suc i) k) (no_starts u (suc i) k lo s)) in
      let now = empty j (omega arith) (λ k lo hi s. none k (omega arith) hi s) in
      let after = empty (suc j) (omega arith) further in
      let single = count_ok u j (step u x) e ok ∙ ap (λ (b : Bool). cond (b && true) 1 0) (eq-eqb u u refl) in
      let z : ⊥ = omega (arith, now, after, single, oks_later u (suc i) j (omega arith), oks_later u (suc i) (suc j) (omega arith)) in z
    where
      further : NoStart first qs u (suc i) (suc j)
      further k lo hi s = by (dec_lt k j)
        where
          by : Dec (k < j) → ⊥
          by (yes less) = none k (omega arith) less s
          by (no more) =
              let at : k ≡ j = omega arith in
              let d = ap (λ (k : ℕ). get_or qs k no_step) (sym at) ∙ s.asks in
              let z : ◌≡◌ {A = ℕ} 0 1 = cc in let y : ⊥ = omega arith in y

  -- ---- the nodes of each update

  some_node : 0 < n
  some_node = (fits n flags ((table_numbers.start empty_table empty_sound v n flags).0 started).2).some_node

  begun_fixed : fixed (table_begun first) ≡ n
  begun_fixed = table_numbers.fixed_by_start empty_table v n flags started

  fixed_at : (i : ℕ) → fixed (table_at first qs i) ≡ n
  unfolding run_of answer_on
  fixed_at i =
      table_kept.fixed_run (table_begun first) begun_sound (subst (λ (k : ℕ). 0 < k) (sym begun_fixed) some_node) (to_table (said qs i)) ∙ begun_fixed

  nodes : (u i : ℕ) (r : State) → slot_at (table_at first qs i) u ≡ Started r → r.n ≡ n
  nodes u i r at = sym (table_numbers.fixed_by_started (table_at first qs i) (sound_at i) u r at) ∙ fixed_at i

  reachable :
      (u i : ℕ) (r : State) → slot_at (table_at first qs i) u ≡ Started r → (h : 0 < r.n) → Reachable h (shown r) (sends_made r)
  reachable u i r at h = runs_agree.run_is_reachable empty_table empty_sound u (made first qs i) (standing u i r at) r at h

  -- ---- the countdown

  -- a started update had n nodes at its latest start
  first_nodes : (u i : ℕ) → (p : FromStart empty_table u (made first qs i)) → p.r.n ≡ n
  first_nodes u i p =
      let s = p.point.s in
      let kept : s.n ≡ p.r.n = ap (λ (x : State). x.n) p.point.follows.state ∙ run_n (run_of_lem ring p.r _) in
      sym kept ∙ nodes u i s p.point.stands

  one_of :
      (u i j K : ℕ) → i ≤ j → Counted (table_at first qs i) u K (later i j) → (x : Request) → get_or qs j no_step ≡ request (step u x)
      → AcceptsOn (run_of table (table_at first qs i) (later i j)) u x → TokenMove (kind x) ⊎ Says (get_or ls j []) (update u announce)
  one_of u i j K h d x e a = go d.then
    where
      go : OneOfTwo (run_of table (table_at first qs i) (later i j)) u → TokenMove (kind x) ⊎ Says (get_or ls j []) (update u announce)
      go (token_moves y b moves) = inl (moves x a)
      go (announcement all alone) = inr (announce_says u j x e (ap is_announce (alone x a)))

  counts_down : (u i K : ℕ)
      → ((bs : List asks.Ask) → started_of u (table_at first qs i) bs ≡ false → announced_in (taken_of u (table_at first qs i) bs) ≡ false
      → Counted (table_at first qs i) u K bs)
      → UpdateCountsDown first qs ls u i K
  counts_down u i K counted =
      record {
        alone = λ j h ns na x e ok. one_of u i j K h (at j h ns na) x e ((same j h x e).0 ok);
        at_most = λ j h ns na. omega (arith, oks_later u i j h, (at j h ns na).at_most);
        exactly = λ j h ns na q.
            let x = ring_request ring_step.Announce in
            let d = (at j h ns na).exactly x refl in
            let w = same j h x (announce_asks u j q) in
            let k = oks_later u i j h in (
              λ ok. omega (arith, k, d.0 (w.0 ok)),
              λ m. w.1 (d.1 (omega (arith, k))),
            );
      }
    where
      at : (j : ℕ) → i ≤ j → NoStart first qs u i j → NoAnnouncement first qs ls u i j → Counted (table_at first qs i) u K (later i j)
      at j h ns na = counted (later i j) (no_starts u i j h ns) (no_announcements u i j h na)

      same :
          (j : ℕ) → i ≤ j → (x : Request) → get_or qs j no_step ≡ request (step u x)
          → LineOk first qs j ↔ AcceptsOn (run_of table (table_at first qs i) (later i j)) u x
      same j h x e =
          let w = step_ok u j x e in (
            λ ok. subst (λ (t : Table). AcceptsOn t u x) (table-later i j h) (w.0 ok),
            λ a. w.1 (subst (λ (t : Table). AcceptsOn t u x) (sym (table-later i j h)) a),
          )

  countdown : (u i : ℕ) → QuietAt first qs u i → OpenAt first qs ls u i → (K : ℕ) × (K ≤ 3 * n - 2) × UpdateCountsDown first qs ls u i K
  countdown u i q o =
      let p = point u i (began_started u i q.r q.began) in
      let is : q.r ≡ p.r = same_state (sym q.began ∙ p.began) in
      let d = p.point.countdown (subst (λ (r : State). QuietIn r (past u i).taken) is q.quiet) (open_history u i o) in (
        d.K,
        subst (λ (k : ℕ). d.K ≤ 3 * k - 2) (first_nodes u i p) d.bound,
        counts_down u i d.K d.counted,
      )

  -- ---- 9

  early : (i : ℕ) → 2 + i ≤ line_limit → code_of (verdict_at updates (table_begun first) qs i) ≢ 9
  early i h = go (get_or qs i no_step)
    where
      go : (q : Ask UpdateAsk) → code_of (answered.verdict_on updates (here i) q) ≢ 9
      go (request (step u x)) e =
          let f = limit_counted.far (made first qs i) (Step u x) (ap (λ (t : Table). code_of (verdict_on t (Step u x))) (sym (judged i)) ∙ e) in
          omega (arith, few_asked (said qs i), few_said qs i)
      go (request (start u m a b)) e =
          no_nine UnknownNode (λ z. omega arith) (not (ltb u 8)) (other_nodes (here i) m) (not (in_range 96 m)) (not (known_by m a b)) e
      go no_step e = omega arith

  -- of so few lines
  never : length ls < line_limit → (i : ℕ) → code_of (verdict_at updates (table_begun first) qs i) ≢ 9
  never few i e = go (dec_lt i (length qs))
    where
      go : Dec (i < length qs) → ⊥
      go (yes h) = early i (omega (arith, each_length c)) e
      go (no h) =
          let p : code_of (verdict_at updates (table_begun first) qs i) ≡ 10 =
          ap (λ (q : Ask UpdateAsk). code_of (answered.verdict_on updates (here i) q)) (get_or-eq_default qs no_step {n = i} (omega arith)) in
          omega arith

  -- ---- the end lines

  all_said : said qs (length qs) ≡ requests_in qs
  all_said = ap requests_in (take-length qs)

  moves_end : moves_after no_moves (accepted_of updates (table_begun first) (requests_in qs)) ≡ list_to (moves_at first qs (length qs)) 8
  unfolding moves_in
  moves_end =
      let made_moves = accepted_of updates (table_begun first) (requests_in qs) in
      ext_get_or 0 (moves_after no_moves made_moves) (list_to (moves_at first qs (length qs)) 8)
      (moves_length no_moves made_moves ∙ sym (list_length (moves_at first qs (length qs)) 8))
      (λ u h.
      let less : u < 8 = omega (arith, moves_length no_moves made_moves) in
      moves_history u less (begun_at u) made_moves no_moves refl
      (get_or-replicate 8 u 0 0 less ∙ sym (ap moves_in (first_taken u)))
      ∙ (ap (λ (l : List asks.Ask). moves_in (history_in u (begun_at u) l).taken)
      (sym (update_requests (table_begun first) begun_sound (requests_in qs)).1)
      ∙ (ap (λ (h : History). moves_in h.taken) (sym (first_history u (to_table (requests_in qs))))
      ∙ (ap (λ (xs : List UpdateAsk). moves_in (history_of u empty_table (first ∷ to_table xs)).taken) (sym all_said)
      ∙ sym (list_at (moves_at first qs (length qs)) 8 u less)))))

  table_end_lem : run_of updates (table_begun first) (requests_in qs) ≡ table_at first qs (length qs)
  table_end_lem = ap (run_of updates (table_begun first)) (sym all_said) ∙ judged (length qs)

  pub update_log :
      (s : List ℕ) → length ls < line_limit
      → output_of s
      ≡ answer_text 1 Accepted ++ (printed (on_table (table_begun first) no_moves) 2 ls ++ end_text (stage_after (on_table (table_begun first) no_moves) 2 ls))
      → UpdateLog s ls n first
  update_log s few o =
      let t = table_begun first in
      let moves = moves_after no_moves (accepted_of updates t (requests_in qs)) in
      record {
        asks = qs;
        says = c;
        output =
            o
            ∙ (ap (λ (l : List ℕ). answer_text 1 Accepted ++ (l ++ end_text (stage_after (on_table t no_moves) 2 ls)))
            (lines_printed updates update_answers t no_moves 2 c)
            ∙ (ap (λ (g : Stage). answer_text 1 Accepted ++ (answers updates t qs ++ end_text g)) (update_each t no_moves 2 c)
            ∙ (ap (λ (x : Table). answer_text 1 Accepted ++ (answers updates t qs ++ table_end x moves)) table_end_lem
            ∙ ap (λ (ms : List ℕ). answer_text 1 Accepted ++ (answers updates t qs ++ table_end (table_at first qs (length qs)) ms)) moves_end)));
        judged = judged;
        began_first = began_first;
        began = began;
        began_none = began_none;
        below_limit = never few;
        starts = λ i u m a b e k.
            ap (answered.verdict_on updates (here i)) e
            ∙ (ap (λ (x : Table). update_verdict x u m a b) (judged i) ∙ sym (table_rows (table_at first qs i) (sound_at i) u m a b k));
        quiet = quiet;
        last = last;
        countdown = countdown;
        point = point;
        not_started = not_started;
        reachable = reachable;
        nodes = nodes;
      }
