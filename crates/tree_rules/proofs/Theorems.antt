-- The statements of specs/Theorems.antt, proved. Assumes nothing.
use Prim.Native.Nat.{◌*◌, ◌+◌, ◌-◌, ◌<◌, ℕ}
use lib.Seq.{get_or-set_other, get_or-set_same}
use mathlib.Core.Bool.{false, true}
use mathlib.Core.Logic.{◌≢◌, ◌⊎◌}
use mathlib.Core.Path.{◌∙◌, ◌≡◌, ap, refl, subst, sym}
use native.Mathlib.Omega.{arith}
use Rattle.laws.proofs.Tests.{false_true}
use Rattle.refusal.proofs.Table.{accepts, first_row, none_holds, numbered, other_kind}
use Rattle.refusal.proofs.Theorems.{count_refused, count_told}
use Rattle.refusal.specs.Counts.{count_of}
use Rattle.refusal.specs.Table.{settle}
use Rattle.refusal.specs.Table.{Verdict}
use Rattle.refusal.specs.Table.{Accepted, Refused}
use Rattle.tree_rules.proofs.Accepted.{Allowed, Rule, accepted, allowed, announces, sends, takes}
use Rattle.tree_rules.proofs.Facts.{facts, in_acks, in_range_lem, in_transit, sender_engaged, take_replies, true-engaged}
use Rattle.tree_rules.proofs.Keeps.{keeps}
use Rattle.tree_rules.proofs.Limit.{limit_decides, limit_only}
use Rattle.tree_rules.proofs.Quiet.{conclusive_quiet}
use Rattle.tree_rules.proofs.Soundness.{sound_true, true_sound}
use Rattle.tree_rules.proofs.Start.{blank_unsound, first_open, fits}
use Rattle.tree_rules.specs.Answers.{answer_of, step_table, verdict_of}
use Rattle.tree_rules.specs.Rules.{Ack, Announce, Idle, Kind, Leave, Send, Take, Unknown, effect, kind_of, reply_of}
use Rattle.tree_rules.specs.Soundness.{Open, Sound, sound_test}
use Rattle.tree_rules.specs.Start.{blank, first_state, start_of, start_table, start_verdict}
use Rattle.tree_rules.specs.State.{State, acks_at, engager_at, transit_at}
use Rattle.tree_rules.specs.Termination.{Quiet, acks_total}
use Rattle.tree_rules.specs.Theorems.{AnnouncedQuiet, CountsTold, FieldsUnread, LimitMet, OwnMessages, OwnTaken, SoundKept, SoundTested, StartAnswered, StepAnswered, Tells}

pub sound_tested : SoundTested
sound_tested = record { holds = sound_true; tested = true_sound }

pub step_answered : StepAnswered
unfolding verdict_of answer_of
step_answered =
    record {
      number = λ t k i j. numbered (step_table t k i j);
      accepted = λ t k i j. (none_holds (step_table t k i j), accepts (step_table t k i j));
      next = λ t k i j e. ap (λ (v : Verdict). settle v (effect t k i j) t) e;
      refused = λ t k i j. first_row (step_table t k i j);
      same = λ t k i j e p. ap (λ (v : Verdict). settle v (effect t k i j) t) p;
    }

pub start_answered : StartAnswered
unfolding start_verdict start_of
start_answered =
    record {
      number = λ n root. numbered (start_table n root);
      accepted = λ n root. (none_holds (start_table n root), accepts (start_table n root));
      first = λ n root e. ap (λ (v : Verdict). settle v (first_state n root) blank) e;
      refused = λ n root. first_row (start_table n root);
      none = λ n root e p. ap (λ (v : Verdict). sound_test (settle v (first_state n root) blank)) p ∙ blank_unsound;
    }

step_sound : (t : State) (k : Kind) (i j : ℕ) → verdict_of t k i j ≡ Accepted → Sound (answer_of t k i j).state
step_sound t k i j e =
    let a = allowed t k i j e in
    subst Sound (sym (step_answered.next t k i j e)) (keeps t a.sound a.running k i j a.by)

pub sound_kept : SoundKept
sound_kept =
    record {
      start = λ n root e. subst Open (sym (start_answered.first n root e)) (first_open n root (fits n root e));
      step = step_sound;
      any = λ t k i j s. go t k i j s (verdict_of t k i j) refl;
    }
  where
    go : (t : State) (k : Kind) (i j : ℕ) → Sound t → (v : Verdict) → verdict_of t k i j ≡ v → Sound (answer_of t k i j).state
    go t k i j s Accepted e = step_sound t k i j e
    go t k i j s (Refused x) e = subst Sound (sym (step_answered.same t k i j x e)) s

tells : (number : State → ℕ) → Tells (λ t. count_of (sound_test t) (number t)) number
tells number =
    record {
      sound = λ t s. count_told (sound_test t) (number t) (true_sound t s);
      other = λ t h. count_refused (sound_test t) (number t) (λ e. h (sound_true t e));
    }

pub counts_told : CountsTold
counts_told = record { acks = tells acks_total }

pub announced_quiet : AnnouncedQuiet
announced_quiet =
    record {
      quiet = λ t i j e. quiet t i j (allowed t Announce i j e);
      closes = λ t i j e. ap (λ (s : State). s.closed) (step_answered.next t Announce i j e);
      last = λ t c k i j e. false_true (sym (allowed t k i j e).running ∙ c);
    }
  where
    quiet : (t : State) (i j : ℕ) → Allowed t Announce i j → Quiet t
    quiet t i j a = go a.by
      where
        go : Rule t i j Announce → Quiet t
        go (announces c) = conclusive_quiet t a.sound c

pub limit_met : LimitMet
limit_met =
    record { only = limit_only; below = λ t i j o s. (limit_decides t i j o s).0; spent = λ t i j o s. (limit_decides t i j o s).1 }

own_sender : (t : State) → Sound t → (i k : ℕ) → i < t.n → k < t.n → 0 < transit_at t i k → engager_at t i ≢ 16
own_sender t s i k hi hk has =
    let f = facts t s in
    sender_engaged t f i k (in_range_lem t f i hi) (in_range_lem t f k hk) has

own_taken : (t : State) → Sound t → (i : ℕ) → i < t.n → 0 < transit_at t i i → OwnTaken t i (reply_of t i i)
own_taken t s i hi has =
    let f = facts t s in
    let i16 = in_range_lem t f i hi in
    record {
      active = get_or-set_same t.active i true false (omega (arith, s.shape.active_places));
      message = omega (arith, get_or-set_same t.transit (i * 16 + i) (transit_at t i i - 1) 0 (in_transit t f i i i16 i16));
      acknowledgement = get_or-set_same t.acks i (acks_at t i + 1) 0 (in_acks t f i i16);
      unacked = refl;
      engagers = refl;
      others_active = λ k ne. get_or-set_other t.active i k true false ne;
      other_messages = λ j k hj hk ne. get_or-set_other t.transit (i * 16 + i) (j * 16 + k) _ 0 (λ e. ne (omega arith) (omega arith));
      other_acks = λ k ne. get_or-set_other t.acks i k _ 0 ne;
      rest = (refl, refl, refl, refl);
    }

pub own_messages : OwnMessages
unfolding answer_of
own_messages =
    record {
      held =
          λ t o i hi act room.
          let e = accepted t Send i i o (sends hi hi act room) in
          let f = facts t o.sound in
          let i16 = in_range_lem t f i hi in
          let next = ap (λ (s : State). transit_at s i i) (step_answered.next t Send i i e) in
          (e, step_sound t Send i i e, next ∙ get_or-set_same t.transit (i * 16 + i) (transit_at t i i + 1) 0 (in_transit t f i i i16 i16));
      engaged = λ t s i k hi hk has. true-engaged t i (own_sender t s i k hi hk has);
      taken =
          λ t o i hi has.
          let e = accepted t Take i i o (takes hi hi has) in
          let replies = take_replies t i i (own_sender t o.sound i i hi hi has) in
          (e, subst (OwnTaken t i) (replies ∙ sym (step_answered.next t Take i i e)) (own_taken t o.sound i hi has));
    }

pub fields_unread : FieldsUnread
unfolding answer_of verdict_of
fields_unread =
    record {
      idle = λ t i j j'. refl;
      ack = λ t i j j'. refl;
      leave = λ t i j j'. refl;
      announce = λ t i i' j j'. refl;
      unknown = λ t i i' j j'. refl;
      other_kinds = λ t k k' h h' i i' j j'. rw (unknown_kind k h, unknown_kind k' h');
    }
  where
    unknown_kind : (k : ℕ) → (k ≡ 0) ⊎ (6 < k) → kind_of k ≡ Unknown
    unknown_kind = other_kind Send Take Idle Ack Leave Announce Unknown
