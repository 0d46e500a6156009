-- What is known of the bytes that a writer holds. Assumes nothing.
use Prim.Native.Nat.{◌+◌, ◌-◌, ◌<◌, ◌≤◌, ℕ}
use lib.ListN.{drop, length, length-drop, take}
use lib.Seq.{take-add, take-append-add, take_all}
use mathlib.Core.List.{List, ◌++◌}
use mathlib.Core.Path.{◌∙◌, ◌≡◌, ap, subst, sym}
use native.Mathlib.Omega.{arith}
use Rattle.std.proofs.KnownBytes.{Appends-kept, Appends-nil, Appends-trans}
use Rattle.std.specs.Io.KnownBytes.{Appends, Keeps}
use Rattle.std.specs.Prelude.{Err, Ok, OnErr, Option, Result}
use Rattle.watch.specs.Turn.{Begun, Unwritten, Writes, another, none, write_failed, writes_ran_out}

-- some bytes of a text, and then some of what follows them
pub more_written : (a b c : Option (List ℕ)) (bytes : List ℕ) (at n : ℕ) → Appends a b (take at bytes)
    → Appends b c (take n (take (length bytes - at) (drop at bytes))) → Appends a c (take (at + n) bytes)
more_written a b c bytes at n p q =
    let all : take (length bytes - at) (drop at bytes) ≡ drop at bytes = take_all (length bytes - at) (drop at bytes) (omega (arith, length-drop at bytes)) in
    subst (Appends a c) (sym (take-add at n bytes ∙ ap (λ (x : List ℕ). take at bytes ++ take n x) (sym all)))
    (Appends-trans a b c (take at bytes) (take n (take (length bytes - at) (drop at bytes))) p q)

-- a text, and then a beginning of another: a beginning of both
pub begun : (a b c : Option (List ℕ)) (s t : List ℕ) (n : ℕ) → Appends a b s → Appends b c (take n t) → Appends a c (take (length s + n) (s ++ t))
begun a b c s t n p q = subst (Appends a c) (sym (take-append-add s t n)) (Appends-trans a b c s (take n t) p q)

pub whole : (a b : Option (List ℕ)) (s : List ℕ) → Appends a b s → Appends a b (take (length s) s)
whole a b s p = subst (Appends a b) (sym (take_all (length s) s (omega arith))) p

-- some bytes of a text are written: a beginning of it
pub cut_short : (a b : Option (List ℕ)) (text : List ℕ) (n : ℕ) → Appends a b (take n text) → Begun a b text
cut_short a b text n p = record { count = n; wrote = p }

-- and the write after them failed
pub nothing_more : (a b c : Option (List ℕ)) (text : List ℕ) (n : ℕ) → Appends a b (take n text) → Keeps b c → Begun a c text
nothing_more a b c text n p q = record { count = n; wrote = Appends-kept a b c (take n text) p q }

-- what the writes of a text have written
all_of : (at : ℕ) (bytes : List ℕ) → take (length bytes - at) (drop at bytes) ≡ drop at bytes
all_of at bytes = take_all (length bytes - at) (drop at bytes) (omega (arith, length-drop at bytes))

pub so_far : {old : Option (List ℕ)} (text : List ℕ) {new : Option (List ℕ)} {n at : ℕ} → Writes old text new n at → Appends old new (take at text)
so_far {old} text none = Appends-nil old
so_far {old} text {new} (another {mid} {at = at} took w under fits p) =
    more_written old mid new text at took (so_far text w) (subst (λ (x : List ℕ). Appends mid new (take took x)) (sym (all_of at text)) p)

-- one more
pub write_more : {old mid new : Option (List ℕ)} (text : List ℕ) {n at : ℕ} (took : ℕ) → Writes old text mid n at → at < length text
    → took ≤ length text - at → Appends mid new (take took (take (length text - at) (drop at text))) → Writes old text new (n + 1) (at + took)
write_more {mid = mid} {new = new} text {at = at} took w under fits p =
    another took w under (omega arith) (subst (λ (x : List ℕ). Appends mid new (take took x)) (all_of at text) p)

-- a beginning of the text is written
pub begins : {old new : Option (List ℕ)} {text : List ℕ} → Unwritten old new text → Begun old new text
begins {old} {new} {text} (write_failed {mid} {at = at} w few under kept) = nothing_more old mid new text at (so_far text w) kept
begins {old} {new} {text} (writes_ran_out {at = at} most w) = cut_short old new text at (so_far text w)

-- what is told of every error is told of a result
pub on_err : {A E P : Type 0} (r : Result A E) → P → OnErr r P
on_err (Ok x) p = tt
on_err (Err e) p = p
