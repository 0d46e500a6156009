-- Two parts of the soundness test, of totals and tests that are taken already. That they are `flow_test` and `safra_test` of the state is proved: `flow_seen_lem`,
-- `safra_seen_lem`.
use Rattle.std.specs.Prelude.{◌+◌, ◌-◌, eqb, leb, ◌+ℤ◌, ℤ, Bool, ◌&&◌, ◌||◌, not}
use Rattle.refusal.specs.Table.{send_limit}
use Rattle.signed.specs.Integers.{◌⊖◌, is_positive, is_same}
use Rattle.ring.specs.declared.walk.Seen.{Seen}

-- no more sends than the limit, and as many as messages received and pending
abbrev pub flow_seen : Seen → Bool
flow_seen w = leb w.sent send_limit && eqb w.sent (w.received + w.pending)

-- one of Safra's four
abbrev pub safra_seen : ℤ → Bool → Seen → Bool
safra_seen q black w =
    (w.above.passive && is_same q (w.above.sent ⊖ w.above.received))
    || (is_positive (q +ℤ ((w.sent - w.above.sent) ⊖ (w.received - w.above.received))) || (not w.white || black))
