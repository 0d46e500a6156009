-- The statements of specs/Theorems.antt, proved. Assumes nothing.
use Rattle.std.specs.Prelude.{None}
use Prim.Native.Nat.{◌+◌, ◌<◌, ◌≤◌, ℕ}
use borrow.Author.Tests.{eqb-false, eqb-true}
use lib.Dec.{eqb}
use lib.ListN.{get_or-eq_default, get_or, length, length-take, set, take}
use lib.Seq.{get_or-take, set-get_or}
use mathlib.Core.Bool.{Bool, cond, false, true}
use mathlib.Core.List.{List, [], ◌++◌, ◌∷◌, append_assoc, append-nil}
use mathlib.Core.Path.{◌∙◌, ◌≡◌, ap, refl, subst, sym}
use native.Mathlib.Omega.{arith}
use Rattle.first_line.proofs.Once.{grammar}
use Rattle.first_line.proofs.Opens.{first_exact, first_other}
use Rattle.first_line.specs.Read.{first_at}
use Rattle.first_line.specs.Start.{Start, start_form}
use Rattle.forms.proofs.Steps.{ring_exact, ring_not, tree_exact, tree_not}
use Rattle.forms.specs.Form.{Form, Says, ack, announce, bare_ring, form_text, idle, leave, line, pass, probe, ring_form, ring_with, send, take_one, take_with, tree_form, tree_of, update}
use Rattle.forms.specs.Read.{read}
use Rattle.forms.specs.declared.RingStep.{RingStep}
use Rattle.forms.specs.declared.TreeStep.{TreeStep}
use Rattle.laws.proofs.Tests.{false_true}
use Rattle.ring_rules.specs.Answers.{answer_of}
use Rattle.ring_rules.specs.Rules.{Take}
use Rattle.table_rules.specs.Answers.{answer_on, step_ask}
use Rattle.table_rules.specs.Table.{Table}
use Rattle.update_forms.proofs.Exact.{wrapped_exact, wrapped_other}
use Rattle.update_forms.specs.Read.{wrapped_at}
use Rattle.update_forms.specs.Wrapped.{Wrapped, bare, inner_form, lists, step, update_of, wrapped_form}
use Rattle.log_rules.proofs.Cuts.{long_told, split-take, unended_told}
use Rattle.log_rules.proofs.Ends.{ended_append, ended_itself, ended_long, form_ended, unended_append}
use Rattle.log_rules.proofs.InPlace.{same_told}
use Rattle.log_rules.specs.Answers.{answer_text, fresh, line_told, on_ring, on_table, ring_step_told, table_told, update_first}
use Rattle.log_rules.specs.Lines.{line_limit, split}
use Rattle.log_rules.specs.Output.{lines_told, rest_of}
use Rattle.log_rules.specs.Pieces.{OneLine, PartLine, empty, newline}
use Rattle.log_rules.specs.Theorems.{LinesCut, LinesOf, LinesRead, LinesSay, take_told, update_take_told}
use Rattle.forms.specs.declared.RingStep.TheVariants as ring_step_variants
use Rattle.forms.specs.declared.TreeStep.TheVariants as tree_step_variants
use Rattle.ring_rules.specs.State as ring
use Rattle.log_rules.specs.Pieces as pieces
use Rattle.log_rules.specs.Theorems as lines

-- a line that says a form is one line, and so is its first line
pub says_first : (f : Form) (l : List ℕ) → Says l f → Says (line l) f
says_first f l s = (ap line s.0 ∙ ended_itself (form_ended f), s.1)

pub says_itself : (f : Form) (l : List ℕ) → OneLine l → Says (line l) f → Says l f
says_itself f l o s = (sym (ended_itself o) ∙ s.0, s.1)

-- a line says one form
pub same_form : (l : List ℕ) (f g : Form) → Says l f → Says l g → f ≡ g
same_form l f g s t = grammar.once f g s.1 t.1 (sym s.0 ∙ t.0)

first_end : (w : Wrapped) (e : ℕ) → update_first (read w e) ≡ update_first (read w 0)
first_end (step u f) e = refl
first_end (bare u n) e = refl
first_end (lists u n active black) e = refl

-- no start of a ring or a tree shares a line with a wrapped form
-- no start is wrapped
abbrev is_wrapped : Form → Bool
is_wrapped (update u f) = true
is_wrapped (bare_ring n) = false
is_wrapped (ring_with n active black) = false
is_wrapped (tree_of n root) = false
is_wrapped (send i j) = false
is_wrapped (take_one i) = false
is_wrapped (take_with i k) = false
is_wrapped (idle i) = false
is_wrapped probe = false
is_wrapped (pass i) = false
is_wrapped (ack i) = false
is_wrapped (leave i) = false
is_wrapped announce = false

start_bare : (f : Start) → is_wrapped (start_form f) ≡ false
start_bare (Start.bare n) = refl
start_bare (Start.lists n active black) = refl
start_bare (Start.tree n root) = refl

pub start_or_wrapped : (l : List ℕ) (f : Start) (w : Wrapped) → Says l (start_form f) → Says l (wrapped_form w) → ⊥
start_or_wrapped l f w s t = false_true (sym (start_bare f) ∙ ap is_wrapped (same_form l (start_form f) (wrapped_form w) s t))

first_wrapped : (l : List ℕ) (w : Wrapped) → Says (line l) (wrapped_form w) → first_at l 0 ≡ None
first_wrapped l w t = (first_other l 0).1 (λ f s. start_or_wrapped (line l) f w s t)

past : Wrapped → ℕ
past w = 0 + length (form_text (wrapped_form w))

wrapped_read : (l : List ℕ) (w : Wrapped) → Says (line l) (wrapped_form w) → wrapped_at l 0 ≡ read w (past w)
unfolding past
wrapped_read l w t = (wrapped_exact l 0 w (past w)).1 (t, refl)

ring_said : (r : ring.State) (m k : ℕ) (l : List ℕ) (f : RingStep) → Says l (ring_form f) → line_told (on_ring r m) k l ≡ ring_step_told r m k f
unfolding line_told
ring_said r m k l f s = rw ((ring_exact l 0 f (0 + length (form_text (ring_form f)))).1 (says_first (ring_form f) l s, refl))

update_said :
    (t : Table) (ms : List ℕ) (k : ℕ) (l : List ℕ) (w : Wrapped) → Says l (wrapped_form w) → line_told (on_table t ms) k l ≡ table_told t ms k (read w 0)
unfolding line_told
update_said t ms k l w s = rw (wrapped_read l w (says_first (wrapped_form w) l s)) (same_told t ms k w (past w) 0)

-- a take is no token move
same_moves : (r : ring.State) (m k i n : ℕ) → ring_step_told r m k (ring_step_variants.Take i n) ≡ take_told r m k i n
same_moves r m k i n =
    let a = answer_of r Take i n in
    let e : m + 0 ≡ m = omega arith in
    ap (λ (x : ℕ). record { stage = on_ring a.state x; text = answer_text k a.verdict }) e

none_added : (t : Table) (ms : List ℕ) (k u i n : ℕ) → table_told t ms k (read (step u (ring_step_variants.Take i n)) 0) ≡ update_take_told t ms k u i n
none_added t ms k u i n =
    let a = answer_on t (step_ask u 2 i n) in
    let e : get_or ms u 0 + 0 ≡ get_or ms u 0 = omega arith in
    ap (λ (x : List ℕ). record { stage = on_table a.table x; text = answer_text k a.verdict }) (ap (set ms u) e ∙ set-get_or ms u 0)

-- no step of a ring or of a tree is wrapped
ring_bare : (f : RingStep) → is_wrapped (ring_form f) ≡ false
ring_bare (ring_step_variants.Send i j) = refl
ring_bare (ring_step_variants.TakeOne i) = refl
ring_bare (ring_step_variants.Take i n) = refl
ring_bare (ring_step_variants.Idle i) = refl
ring_bare ring_step_variants.Probe = refl
ring_bare (ring_step_variants.Pass i) = refl
ring_bare ring_step_variants.Announce = refl

tree_bare : (f : TreeStep) → is_wrapped (tree_form f) ≡ false
tree_bare (tree_step_variants.Send i j) = refl
tree_bare (tree_step_variants.Take i k) = refl
tree_bare (tree_step_variants.Idle i) = refl
tree_bare (tree_step_variants.Ack i) = refl
tree_bare (tree_step_variants.Leave i) = refl
tree_bare tree_step_variants.Announce = refl

not_bare : (l : List ℕ) (f : Form) (u : ℕ) (g : Form) → is_wrapped f ≡ false → Says (line l) f → Says l (update u g) → ⊥
not_bare l f u g b s t = false_true (sym b ∙ ap is_wrapped (same_form (line l) f (update u g) s (says_first (update u g) l t)))

pub lines_say : LinesSay
unfolding line_told
lines_say = record {
  first = λ k l f s. rw ((first_exact l 0 f (0 + length (form_text (start_form f)))).1 (says_first (start_form f) l s, refl));
  first_update = λ k l w s. let t = says_first (wrapped_form w) l s in rw (first_wrapped l w t, wrapped_read l w t) (first_end w (past w));
  first_other = λ k l o h g.
      rw (
        (first_other l 0).1 (λ f s. h f (says_itself (start_form f) l o s)),
        (wrapped_other l 0).1 (λ w s. g w (says_itself (wrapped_form w) l o s)),
      );
  ring_step = ring_said;
  ring_other = λ r m k l o h. rw ((ring_not l 0).1 (λ f s. h f (says_itself (ring_form f) l o s)));
  tree_step = λ t k l f s. rw ((tree_exact l 0 f (0 + length (form_text (tree_form f)))).1 (says_first (tree_form f) l s, refl));
  tree_other = λ t k l o h. rw ((tree_not l 0).1 (λ f s. h f (says_itself (tree_form f) l o s)));
  update_line = update_said;
  update_other = λ t ms k l o h. rw ((wrapped_other l 0).1 (λ w s. h w (says_itself (wrapped_form w) l o s)));
  ring_wrapped = λ r m k l u f s. rw ((ring_not l 0).1 (λ g t. not_bare l (ring_form g) u f (ring_bare g) t s));
  tree_wrapped = λ t k l u f s. rw ((tree_not l 0).1 (λ g v. not_bare l (tree_form g) u f (tree_bare g) v s));
  update_bare = λ t ms k l f ne s.
      rw ((wrapped_other l 0).1 (λ w v. ne (update_of w) (inner_form w) (same_form (line l) f (wrapped_form w) (says_first f l s) v)));
  take_many = λ r m k l i n s. ring_said r m k l (ring_step_variants.Take i n) s ∙ same_moves r m k i n;
  take_one_told = λ r m k l i s. ring_said r m k l (ring_step_variants.TakeOne i) s ∙ same_moves r m k i 1;
  update_take_many = λ t ms k l u i n s. update_said t ms k l (step u (ring_step_variants.Take i n)) s ∙ none_added t ms k u i n;
  update_take_one = λ t ms k l u i s. update_said t ms k l (step u (ring_step_variants.TakeOne i)) s ∙ none_added t ms k u i 1;
  too_long = λ s k l o h. long_told s k l (ended_itself o) h;
  unended = λ s k l u. unended_told s k u;
  after = λ k l. refl;
}

split_lines : (held s : List ℕ) → PartLine held → LinesOf (held ++ s) (split held s)
unfolding split
split_lines [] [] u = lines.no_line
split_lines (b ∷ held) [] u = subst (λ (l : List ℕ). LinesOf l ((b ∷ held) ∷ [])) (sym (append-nil (b ∷ held))) (lines.last u (omega arith))
split_lines held (b ∷ s) u =
    let h = held ++ (b ∷ []) in
    subst (λ (l : List ℕ). LinesOf l (split held (b ∷ s))) (append_assoc held (b ∷ []) s)
    (go (eqb b 10) refl (split_lines [] s empty) (split_lines h s))
  where
    go :
        (t : Bool) → eqb b 10 ≡ t → LinesOf s (split [] s)
        → (PartLine (held ++ (b ∷ [])) → LinesOf ((held ++ (b ∷ [])) ++ s) (split (held ++ (b ∷ [])) s))
        → LinesOf ((held ++ (b ∷ [])) ++ s) (cond t ((held ++ (b ∷ [])) ∷ split [] s) (split (held ++ (b ∷ [])) s))
    go true e rest more =
        lines.another (ended_append u (subst (λ (x : ℕ). OneLine (x ∷ [])) (sym (eqb-true b 10 e)) newline)) rest
    go false e rest more = more (unended_append u (pieces.another (eqb-false b 10 e) empty))

pub lines_cut : LinesCut
lines_cut = record { lines = λ s. split_lines [] s empty }

line_bytes : {s l : List ℕ} {ls : List (List ℕ)} → LinesOf s (l ∷ ls) → 0 < length l
line_bytes (lines.last u h) = h
line_bytes (lines.another o c) = ended_long o

taken_past : (n : ℕ) (ls : List (List ℕ)) (k : ℕ) → n ≤ k → get_or (take n ls) k [] ≡ []
taken_past n ls k h = get_or-eq_default (take n ls) [] (omega (arith, length-take n ls))

pub lines_read : LinesRead
unfolding rest_of
lines_read = record {
  output = λ s. refl;
  read = λ s k h. get_or-take line_limit (split [] s) k [] h;
  unread = λ s k h. taken_past line_limit (split [] s) k h;
  some_byte = line_bytes;
  many = λ s. length-take line_limit (split [] s);
  after = λ s h more. ap (lines_told fresh 1) (split-take line_limit [] s h more);
}
