-- Texts made of items. Assumes nothing.
use Prim.Native.Nat.{◌+◌, ◌≤◌, ℕ}
use lib.ListN.{length, length-append}
use mathlib.Core.List.{List, ◌++◌, append_assoc}
use mathlib.Core.Path.{◌∙◌, ◌≡◌, ap}
use native.Mathlib.Omega.{arith}
use Rattle.decimal.proofs.Decimal.{decimal_width}
use Rattle.decimal.proofs.Put.{put_then}
use Rattle.decimal.specs.Text.{decimal, put}
use Rattle.log_rules.specs.Answers.{answer_bytes, answer_text}
use Rattle.log_rules.specs.Lines.{line_limit}
use Rattle.refusal.proofs.Table.{number_range}
use Rattle.refusal.specs.Table.{number_of}
use Rattle.refusal.specs.Table.{Verdict}
use Rattle.refusal.specs.Table.{Accepted, Refused}
use Rattle.log_answers.specs.Wrote.{Wrote, item}

-- a text, and what follows it
pub wrote_then : (s t b : List ℕ) (at : ℕ) {c d : List ℕ} {r q : ℕ} → Wrote b at s r c → Wrote c r t q d → Wrote b at (s ++ t) q d
wrote_then s t b at f g = (omega (arith, f.0, g.0, length-append s t), g.1 ∙ put_then s t b at f.0 f.1)

-- an item, and what follows it
pub item-length : (w : List ℕ) (n : ℕ) (t : List ℕ) → length (w ++ (decimal n ++ t)) ≡ length (item w n) + length t
item-length w n t = simp length-append (omega arith)

pub item_then : (w : List ℕ) (n : ℕ) (t b : List ℕ) (at : ℕ) {c : List ℕ} {r : ℕ} → Wrote b at (item w n) r c
    → put c r t ≡ put b at (w ++ (decimal n ++ t))
item_then w n t b at h = put_then (item w n) t b at h.0 h.1 ∙ ap (put b at) (append_assoc w (decimal n) t)

-- the writer of the item and the writer of what follows
pub item_wrote : (w : List ℕ) (n : ℕ) (t b : List ℕ) (at : ℕ) {c d : List ℕ} {r q : ℕ} → Wrote b at (item w n) r c → Wrote c r t q d
    → Wrote b at (w ++ (decimal n ++ t)) q d
item_wrote w n t b at f g = (omega (arith, f.0, g.0, item-length w n t), g.1 ∙ item_then w n t b at f)

-- "each answer is at most 16 bytes", for the lines of a log
pub answer_short : (k : ℕ) (v : Verdict) → k ≤ line_limit → length (answer_text k v) ≤ answer_bytes
answer_short k Accepted h = simp length-append (omega (arith, decimal_width 6 k (omega arith)))
answer_short k (Refused e) h =
    simp length-append (omega (arith, decimal_width 6 k (omega arith), decimal_width 1 (number_of e) (omega (arith, (number_range e).1))))
