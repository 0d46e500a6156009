-- The driver changes the colors and the token alone, so what is lent to be read stays. Assumes nothing.
use Prim.Native.Nat.{ℕ}
use mathlib.Core.Path.{◌∙◌, ◌≡◌, ap, subst, sym}
use Rattle.lent.specs.Ring.{DrivenTo, Lent, lent}
use Rattle.ring_fields.specs.Fields.{IsTokenMoved}

abbrev pub over : Lent → Lent → Lent
over l x = lent l.n l.active x.color l.sent l.received l.pending x.pos x.q x.black l.closed

pub driven_in :
    {l : Lent} {limit number moves moves' : ℕ} (before after inside : Lent) → before ≡ l → DrivenTo before limit number moves moves' after
    → IsTokenMoved before after → inside ≡ after → DrivenTo l limit number moves moves' (over l inside)
driven_in {l} {limit} {number} {moves} {moves'} before after inside e t k w =
    subst (λ (x : Lent). DrivenTo x limit number moves moves' (over x inside)) e
    (subst (DrivenTo before limit number moves moves') (k ∙ ap (over before) (sym w)) t)

-- a refused driver leaves all of it
pub kept_in :
    {l : Lent} {limit number moves moves' : ℕ} (before after : Lent) → before ≡ l → DrivenTo before limit number moves moves' after → after ≡ before
    → DrivenTo l limit number moves moves' l
kept_in {l} {limit} {number} {moves} {moves'} before after e t k =
    subst (λ (x : Lent). DrivenTo x limit number moves moves' x) e (subst (DrivenTo before limit number moves moves') k t)
