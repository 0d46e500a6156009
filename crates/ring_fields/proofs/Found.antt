-- What the ring's own answers make of lent fields. Assumes nothing.
use Prim.Native.Nat.{ℕ}
use mathlib.Core.Bool.{Bool, false, true}
use mathlib.Core.Path.{◌∙◌, ◌≡◌, ap, refl}
use native.Mathlib.Omega.{arith}
use Rattle.std.specs.Prelude.{Result, Ok, Err, cond, is_ok}
use Rattle.flag_bytes.specs.Flags.{byte_of, bytes_of}
use Rattle.flag_bytes.specs.Narrow.{kind_byte, limit_word}
use Rattle.lent.proofs.Ring.{kind_same, limit_same, ring_back}
use Rattle.lent.specs.Ring.{DrivenTo, Lent, SteppedTo, lent, lent_of, state_of, truths_test}
use Rattle.refusal.specs.Table.{Accepted, Refused, number_of}
use Rattle.refusal.specs.declared.Refusal.{Refusal}
use Rattle.refusal.specs.declared.Refusal.TheVariants.{Unsound}
use Rattle.ring_rules.proofs.Fields.{unmoved}
use Rattle.ring_rules.specs.Answers.{step_of}
use Rattle.ring_rules.specs.Driver.{Driven, Stopped, drive_of, reason_number, reason_verdict, stop_at}
use Rattle.ring_rules.specs.Reasons.{reason_of}
use Rattle.ring_rules.specs.State.{State}
use Rattle.ring_rules.specs.declared.Reason.{Reason as Told}
use Rattle.ring_rules.specs.declared.Reason.TheVariants as told
use Rattle.ring_fields.specs.Fields.{IsTokenMoved, ring_in}

-- where a ring lies in the fields
pub ring_found : (l : Lent) (r : State) → Ok r ≡ ring_in l → (truths_test l ≡ true) × (r ≡ state_of l)
ring_found l r e = go (truths_test l) e
  where
    or_found : Result State Refusal → State
    or_found (Ok s) = s
    or_found (Err e) = r

    go : (b : Bool) → Ok r ≡ cond b (Ok (state_of l)) (Err Unsound) → (b ≡ true) × (r ≡ state_of l)
    go true h = (refl, ap or_found h)
    go false h = absurd (not_both (ap is_ok h))
      where
        not_both : true ≡ false → ⊥
        not_both x = grind (arith, x)

-- ---- a step

pub stepped :
    {l : Lent} {kind k i j : ℕ} (s : State) → k ≡ kind_byte kind → truths_test l ≡ true → record { verdict = Accepted; state = s } ≡ step_of (state_of l) k i j
    → SteppedTo l kind i j 0 (lent_of s)
stepped {l} {kind} {k} {i} {j} s e f h =
    let a : record { verdict = Accepted; state = s } ≡ step_of (state_of l) kind i j = h ∙ kind_same (state_of l) k kind i j e in
    record { told = rw (f, ← a) refl; fields = rw (f, ← a) refl }

pub not_stepped :
    {l : Lent} {kind k i j : ℕ} (e : Refusal) (s : State) → k ≡ kind_byte kind → truths_test l ≡ true
    → record { verdict = Refused e; state = s } ≡ step_of (state_of l) k i j → SteppedTo l kind i j (number_of e) l
not_stepped {l} {kind} {k} {i} {j} r s e f h =
    let a : record { verdict = Refused r; state = s } ≡ step_of (state_of l) kind i j = h ∙ kind_same (state_of l) k kind i j e in
    record { told = rw (f, ← a) refl; fields = rw (f, ← a) refl }

-- ---- the driver

-- a reason that is no refusal
pub accepted : (x : Told) → reason_verdict (reason_of x) ≡ Accepted
accepted told.Conclusive = refl
accepted told.Waiting = refl
accepted told.Spent = refl

pub drove :
    {l : Lent} {limit m : ℕ} (d : Driven) → m ≡ limit_word limit → truths_test l ≡ true → d ≡ drive_of (state_of l) m → reason_verdict d.reason ≡ Accepted
    → (same : ℕ) → DrivenTo l limit (reason_number d.reason) same d.moves (lent_of d.state)
drove {l} {limit} {m} d e f h v same =
    let a : d ≡ drive_of (state_of l) limit = h ∙ limit_same (state_of l) m limit e in
    record { told = rw (f, ← a) refl; made = rw (f, ← a, v) refl; fields = rw (f, ← a, v) refl }

pub not_driven :
    {l : Lent} {limit m moves : ℕ} (e : Refusal) (s : State) → m ≡ limit_word limit → truths_test l ≡ true → stop_at (Stopped e) moves s ≡ drive_of (state_of l) m
    → (same : ℕ) → DrivenTo l limit (number_of e) same same l
not_driven {l} {limit} {m} {moves} e s w f h same =
    let a : stop_at (Stopped e) moves s ≡ drive_of (state_of l) limit = h ∙ limit_same (state_of l) m limit w in
    record { told = rw (f, ← a) refl; made = rw (f, ← a) refl; fields = rw (f, ← a) refl }

-- token moves change the colors and the token alone
pub token_moved : (l : Lent) (s : State) → truths_test l ≡ true → unmoved s ≡ unmoved (state_of l) → IsTokenMoved l (lent_of s)
token_moved l s f k =
    (λ x. lent (k x).0 (bytes_of (k x).1) s.color (k x).2 (k x).3 (k x).4 s.pos s.q (byte_of s.black) (byte_of (k x).5))
    ∙ (λ x. lent l.n (ring_back l f x).active s.color l.sent l.received l.pending s.pos s.q (byte_of s.black) (ring_back l f x).closed)
