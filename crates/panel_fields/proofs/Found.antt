-- What the panel's own answers make of lent fields. Assumes nothing.
use Prim.Native.Nat.{ℕ}
use mathlib.Core.Bool.{Bool, false, true}
use mathlib.Core.List.{List}
use mathlib.Core.Path.{◌∙◌, ◌≡◌, ap, refl, sym}
use Rattle.std.specs.Prelude.{Result, Ok, Err, cond, is_ok}
use Rattle.flag_bytes.specs.Flags.{bytes_of}
use Rattle.laws.proofs.Tests.{false_true}
use Rattle.lent_panel.proofs.Panel.{accepted, answered, ask_refused, marks_left, nodes_there}
use Rattle.lent_panel.specs.Panel.{AskedTo, LentPanel, lent_panel_of, panel_in, panel_truths}
use Rattle.panel_fields.specs.Fields.{IsStarted, panel_found}
use Rattle.panel_rules.specs.Answers.{Answer}
use Rattle.panel_rules.specs.Asks.{Ask, Start, answer_on}
use Rattle.panel_rules.specs.State.{Panel, nodes}
use Rattle.refusal.specs.Table.{Accepted, Refused, number_of}
use Rattle.refusal.specs.declared.Refusal.{Refusal}
use Rattle.refusal.specs.declared.Refusal.TheVariants.{Unsound}

-- where a panel lies in the fields
pub panel_there : (l : LentPanel) (p : Panel) → Ok p ≡ panel_found l → (panel_truths l ≡ true) × (p ≡ panel_in l)
panel_there l p e = go (panel_truths l) e
  where
    or_there : Result Panel Refusal → Panel
    or_there (Ok q) = q
    or_there (Err x) = p

    go : (b : Bool) → Ok p ≡ cond b (Ok (panel_in l)) (Err Unsound) → (b ≡ true) × (p ≡ panel_in l)
    go true h = (refl, ap or_there h)
    go false h = absurd (false_true (sym (ap is_ok h)))

-- where the bytes are truths, what they say lies there
pub truths_there : (l : LentPanel) (p : Panel) → panel_truths l ≡ true → p ≡ panel_in l → Ok p ≡ panel_found l
truths_there l p f e = ap (λ (q : Panel). Ok q) e ∙ sym (ap (λ (b : Bool). cond b (Ok (panel_in l)) (Err Unsound)) f)

module _ (l : LentPanel) (p : Panel) (there : Ok p ≡ panel_found l) where
  -- a request that is accepted, and one that is refused
  pub went_on : (a : Ask) (s : Panel) → record { verdict = Accepted; state = s } ≡ answer_on p a → AskedTo l a 0 (lent_panel_of s)
  went_on a s q = let f = panel_there l p there in accepted l a p (record { verdict = Accepted; state = s }) f.1 q f.0 (lent_panel_of s) refl refl

  pub turned_back : (a : Ask) (e : Refusal) (s : Panel) → record { verdict = Refused e; state = s } ≡ answer_on p a → AskedTo l a (number_of e) l
  turned_back a e s q = let f = panel_there l p there in ask_refused l a p (record { verdict = Refused e; state = s }) f.1 q f.0 refl refl

  -- the number of nodes
  pub same_nodes : (a : Ask) (s : Panel) → record { verdict = Accepted; state = s } ≡ answer_on p a → nodes s ≡ l.ring.n
  same_nodes a s q = let f = panel_there l p there in sym (nodes_there l a p (record { verdict = Accepted; state = s }) f.1 q f.0)

  -- a start, which leaves both columns of marks
  pub afresh : (n : ℕ) (flags : List ℕ) (s : Panel) → record { verdict = Accepted; state = s } ≡ answer_on p (Start n flags) → IsStarted l (lent_panel_of s)
  afresh n flags s q =
      let f = panel_there l p there in
      let a = Start n flags in
      let m = marks_left l n flags f.0 in
      let same = answered l a p (record { verdict = Accepted; state = s }) f.1 q f.0 in
      let firmware : bytes_of s.firmware ≡ l.firmware = ap (λ (y : Answer). bytes_of y.state.firmware) same ∙ m.0 in
      let map : bytes_of s.map ≡ l.map = ap (λ (y : Answer). bytes_of y.state.map) same ∙ m.1 in
      let there = lent_panel_of s in
      λ z. record {
        ring = record {
          n = same_nodes a s q z;
          active = there.ring.active;
          color = there.ring.color;
          sent = there.ring.sent;
          received = there.ring.received;
          pending = there.ring.pending;
          pos = there.ring.pos;
          q = there.ring.q;
          black = there.ring.black;
          closed = there.ring.closed;
        };
        firmware = firmware z;
        map = map z;
        recorded = there.recorded;
      }
