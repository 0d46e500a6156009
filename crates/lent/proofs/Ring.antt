-- The equations of the ring's contracts, by what the code found. Assumes nothing.
use Prim.Native.Nat.{◌<◌, ℕ}
use borrow.Author.Tests.{lt-ltb}
use mathlib.Core.Bool.{Bool, ◌&&◌, false, not, true}
use mathlib.Core.List.{List, [], ◌∷◌}
use mathlib.Core.Logic.{inl, inr}
use mathlib.Core.Path.{◌∙◌, ◌≡◌, ap, refl, sym}
use native.Mathlib.Omega.{arith}
use Rattle.flag_bytes.proofs.Laws.{flag_back, flags_back, narrow_same, truth_back, truths_back}
use Rattle.flag_bytes.specs.Flags.{are_flags, byte_of, bytes_of, is_flag}
use Rattle.flag_bytes.specs.Narrow.{kind_byte, limit_word}
use Rattle.laws.proofs.Tests.{both, both_true}
use Rattle.refusal.proofs.Table.{not_both}
use Rattle.refusal.specs.Table.{◌⟶◌, code_of, first_of, settle}
use Rattle.refusal.specs.declared.Refusal.{Refusal}
use Rattle.refusal.specs.declared.Refusal.TheVariants.{Closed, MoveLimit, Unsound}
use Rattle.refusal.specs.Table.{Verdict}
use Rattle.refusal.specs.Table.{Accepted, Refused}
use Rattle.ring_rules.proofs.Fields.{drive_keeps, nodes_kept, unmoved}
use Rattle.ring_rules.proofs.Theorems.{fields_unread}
use Rattle.ring_rules.specs.Answers.{Answer, step_of}
use Rattle.ring_rules.specs.Driver.{Driven, drive_by, drive_of, move_limit, reason_number, reason_verdict}
use Rattle.ring_rules.specs.Soundness.{sound_test}
use Rattle.ring_rules.specs.Start.{start_of}
use Rattle.ring_rules.specs.State.{State}
use Rattle.ring_rules.specs.Driver.{Reason}
use Rattle.ring_rules.specs.Driver.{Conclusive, Spent, Stopped, Waiting}
use Rattle.lent.specs.Ring.{DrivenTo, Lent, StartedTo, SteppedTo, drive_reason, truths_test, lent, lent_of, state_of, step_verdict}

-- flags are what their truths give back
pub ring_back : (l : Lent) → truths_test l ≡ true → lent_of (state_of l) ≡ l
unfolding truths_test
ring_back l f =
    let a = both (are_flags l.active) (is_flag l.black && is_flag l.closed) f in
    let b = both (is_flag l.black) (is_flag l.closed) a.1 in
    λ x. lent l.n (flags_back l.active a.0 x) l.color l.sent l.received l.pending l.pos l.q
    (flag_back l.black b.0 x) (flag_back l.closed b.1 x)

-- the fields that a ring is put into hold truths as bytes, and the very ring
pub ring_held : (r : State) → (truths_test (lent_of r) ≡ true) × (state_of (lent_of r) ≡ r)
unfolding truths_test
ring_held r =
    let active = truths_back r.active in let black = truth_back r.black in let closed = truth_back r.closed in (
      both_true active.0 (both_true black.0 closed.0),
      rw (active.1, black.1, closed.1),
    )

-- ---- a start

pub started :
    {nodes number : ℕ} {flags : List ℕ} {before after : Lent} (a : Answer) → a ≡ start_of nodes flags → number ≡ code_of a.verdict
    → after ≡ settle a.verdict (lent_of a.state) before → StartedTo nodes flags number before after
started a e t h = record { told = rw (← e) t; fields = rw (← e) h }

-- ---- a step

-- a kind that does not fit a byte is unknown, as 0 is
pub kind_same : (r : State) (b kind i j : ℕ) → b ≡ kind_byte kind → step_of r b i j ≡ step_of r kind i j
kind_same r b kind i j e =
    ap (λ (k : ℕ). step_of r k i j) e
    ∙ narrow_same (λ (k : ℕ). step_of r k i j) 255 0 kind (λ k h. fields_unread.other_kinds r 0 k (inl refl) (inr (omega arith)) i i j j)

by_step :
    (l : Lent) (kind i j number : ℕ) (after : Lent) (w : Verdict) → step_verdict l kind i j ≡ w → number ≡ code_of w
    → after ≡ settle w (lent_of (step_of (state_of l) kind i j).state) l → SteppedTo l kind i j number after
by_step l kind i j number after w e t f =
    record {
      told = t ∙ sym (ap code_of e);
      fields = f ∙ sym (ap (λ (v : Verdict). settle v (lent_of (step_of (state_of l) kind i j).state) l) e);
    }

pub step_unflagged : {l : Lent} {kind i j number : ℕ} → truths_test l ≡ false → number ≡ 3 → SteppedTo l kind i j number l
step_unflagged {l} {kind} {i} {j} {number} f t = by_step l kind i j number l (Refused Unsound) (rw f) t refl

pub step_refused :
    {l : Lent} {kind i j number : ℕ} (r : State) (a : Answer) {e : Refusal} → r ≡ state_of l → a ≡ step_of r kind i j
    → truths_test l ≡ true → a.verdict ≡ Refused e → number ≡ code_of a.verdict → SteppedTo l kind i j number l
step_refused {l} {kind} {i} {j} {number} r a {e} p s f v t =
    by_step l kind i j number l (Refused e)
    (rw (f, ← p) (ap (λ (x : Answer). x.verdict) (sym s) ∙ v))
    (t ∙ ap code_of v)
    refl

-- the fields `s` in which the next state lies, but for the number of nodes, which no step changes
abbrev pub with_nodes : ℕ → Lent → Lent
with_nodes n s = lent n s.active s.color s.sent s.received s.pending s.pos s.q s.black s.closed

pub step_accepted :
    {l : Lent} {kind i j : ℕ} (r : State) (a : Answer) (s : Lent) → r ≡ state_of l → a ≡ step_of r kind i j
    → truths_test l ≡ true → a.verdict ≡ Accepted → s ≡ lent_of a.state → SteppedTo l kind i j 0 (with_nodes l.n s)
step_accepted {l} {kind} {i} {j} r a s p q f v h =
    let e : a ≡ step_of (state_of l) kind i j = q ∙ ap (λ (x : State). step_of x kind i j) p in
    let n : l.n ≡ a.state.n = sym (ap (λ (x : Answer). x.state.n) e ∙ nodes_kept (state_of l) kind i j) in
    by_step l kind i j 0 (with_nodes l.n s) Accepted
    (rw (f, ← e) v)
    refl
    ((λ x. with_nodes (n x) (h x)) ∙ ap (λ (x : Answer). lent_of x.state) e)

-- ---- the driver

-- all limits above 1,000 are answered alike, and so are all that do not fit 32 bits
pub limit_same : (r : State) (m limit : ℕ) → m ≡ limit_word limit → drive_of r m ≡ drive_of r limit
unfolding drive_of
limit_same r m limit e = ap (drive_of r) e ∙ narrow_same (drive_of r) 4294967295 4294967295 limit above
  where
    stops : (a b : Bool) (k : ℕ) → drive_by (first_of ((a ⟶ Unsound) ∷ (b ⟶ Closed) ∷ (true ⟶ MoveLimit) ∷ [])) 4294967295 r
        ≡ drive_by (first_of ((a ⟶ Unsound) ∷ (b ⟶ Closed) ∷ (true ⟶ MoveLimit) ∷ [])) k r
    stops true b k = refl
    stops false true k = refl
    stops false false k = refl

    above : (k : ℕ) → 4294967295 < k → drive_of r 4294967295 ≡ drive_of r k
    above k h = rw (lt-ltb move_limit k (omega arith)) (stops (not (sound_test r)) r.closed k)

-- the fields of l with the colors and the token of r
abbrev pub driven_over : Lent → State → Lent
driven_over l r =
    lent l.n l.active r.color l.sent l.received l.pending r.pos r.q (byte_of r.black) l.closed

by_drive :
    (l : Lent) (limit number moves moves' : ℕ) (after : Lent) (w : Reason) → drive_reason l limit ≡ w → number ≡ reason_number w
    → moves' ≡ settle (reason_verdict w) (drive_of (state_of l) limit).moves moves
    → after ≡ settle (reason_verdict w) (lent_of (drive_of (state_of l) limit).state) l → DrivenTo l limit number moves moves' after
by_drive l limit number moves moves' after w e t m f =
    record {
      told = t ∙ sym (ap reason_number e);
      made = m ∙ sym (ap (λ (v : Reason). settle (reason_verdict v) (drive_of (state_of l) limit).moves moves) e);
      fields = f ∙ sym (ap (λ (v : Reason). settle (reason_verdict v) (lent_of (drive_of (state_of l) limit).state) l) e);
    }

pub drive_unflagged : {l : Lent} {limit number moves : ℕ} → truths_test l ≡ false → number ≡ 3 → DrivenTo l limit number moves moves l
drive_unflagged {l} {limit} {number} {moves} f t = by_drive l limit number moves moves l (Stopped Unsound) (rw f) t refl refl

stopped_by : (w : Reason) (e : Refusal) → reason_verdict w ≡ Refused e → reason_number w ≡ code_of (Refused e)
stopped_by Conclusive e p = absurd (not_both refl p)
stopped_by Waiting e p = absurd (not_both refl p)
stopped_by Spent e p = absurd (not_both refl p)
stopped_by (Stopped r) e p = ap code_of p

pub drive_refused :
    {l : Lent} {limit number moves : ℕ} (r : State) (d : Driven) (v : Verdict) {e : Refusal} → r ≡ state_of l → d ≡ drive_of r limit
    → truths_test l ≡ true → v ≡ reason_verdict d.reason → v ≡ Refused e → number ≡ code_of v → DrivenTo l limit number moves moves l
drive_refused {l} {limit} {number} {moves} r d v {e} p s f u w t =
    let x : reason_verdict d.reason ≡ Refused e = sym u ∙ w in
    by_drive l limit number moves moves l d.reason
    (rw (f, ← p) (ap (λ (y : Driven). y.reason) (sym s)))
    (t ∙ ap code_of w ∙ sym (stopped_by d.reason e x))
    (rw x)
    (rw x)

-- what the driver does not change is the same, bytes and all
driven_over_lem : (l : Lent) (s : State) → truths_test l ≡ true → unmoved (state_of l) ≡ unmoved s → driven_over l s ≡ lent_of s
driven_over_lem l s f k =
    let e = sym (ring_back l f) in
    let active : l.active ≡ bytes_of s.active = ap (λ (x : Lent). x.active) e ∙ (λ x. bytes_of (k x).1) in
    let closed : l.closed ≡ byte_of s.closed = ap (λ (x : Lent). x.closed) e ∙ (λ x. byte_of (k x).5) in
    λ x. lent (k x).0 (active x) s.color (k x).2 (k x).3 (k x).4 s.pos s.q (byte_of s.black) (closed x)

pub drive_accepted :
    {l after : Lent} {limit number moves moves' : ℕ} (r : State) (d : Driven) (v : Verdict) → r ≡ state_of l → d ≡ drive_of r limit
    → truths_test l ≡ true → v ≡ reason_verdict d.reason → v ≡ Accepted → number ≡ reason_number d.reason → moves' ≡ d.moves
    → after ≡ driven_over l d.state → DrivenTo l limit number moves moves' after
drive_accepted {l} {after} {limit} {number} {moves} {moves'} r d v p s f u w t m h =
    let e : d ≡ drive_of (state_of l) limit = s ∙ ap (λ (x : State). drive_of x limit) p in
    let x : reason_verdict d.reason ≡ Accepted = sym u ∙ w in
    by_drive l limit number moves moves' after d.reason
    (rw (f, ← e))
    t
    (rw (x, ← e) m)
    (rw (x, ← e) (h ∙ driven_over_lem l d.state f (sym (ap (λ (y : Driven). unmoved y.state) e ∙ drive_keeps (state_of l) limit))))
