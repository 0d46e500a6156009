-- A line read where it begins is answered as the line by itself; whole lines one after the other. Assumes nothing.
use Rattle.std.specs.Prelude.{Some, None}
use Prim.Native.Nat.{◌+◌, ◌<◌, ◌≤◌, ℕ}
use lib.ListN.{drop, length, length-append, length-drop}
use lib.Seq.{drop-drop}
use mathlib.Core.List.{List, [], ◌++◌, ◌∷◌, append_assoc}
use mathlib.Core.Path.{◌∙◌, ◌≡◌, ap, refl, subst, sym}
use mir.Syntax.{wrote}
use native.Mathlib.Nat.{add-zero}
use native.Mathlib.Omega.{arith}
use Rattle.decimal.proofs.Put.{put_then}
use Rattle.decimal.specs.Text.{put}
use Rattle.forms.proofs.Lines.{line_rest}
use Rattle.forms.proofs.Steps.{ring_exact, ring_not, tree_exact, tree_not}
use Rattle.forms.specs.Form.{Form, SaysAt, form_text, line, ring_form, tree_form}
use Rattle.forms.specs.Read.{Read, read, ring_at, tree_at}
use Rattle.forms.specs.declared.RingStep.{RingStep}
use Rattle.forms.specs.declared.TreeStep.{TreeStep}
use Rattle.log_rules.proofs.Cuts.{rest_line}
use Rattle.log_rules.proofs.Ends.{ended_long, form_ended, line_twice}
use Rattle.log_rules.specs.Answers.{Stage, Told, answer_bytes, line_told, on_ring, on_table, on_tree, ring_told, table_told, tree_told}
use Rattle.log_rules.specs.Lines.{line_limit}
use Rattle.log_rules.specs.Output.{rest_of}
use Rattle.log_rules.specs.Pieces.{OneLine, Went}
use Rattle.table_rules.specs.Table.{Table}
use Rattle.update_forms.proofs.Exact.{wrapped_exact, wrapped_other}
use Rattle.update_forms.specs.Read.{wrapped_at}
use Rattle.update_forms.specs.Wrapped.{Wrapped, bare, lists, step, wrapped_form}
use Rattle.ring_rules.specs.State as ring
use Rattle.tree_rules.specs.State as tree

-- ---- what the recognisers say of a line inside a piece

pub ring_in_place : (r : ring.State) (m k : ℕ) (s : List ℕ) (at : ℕ) → ring_told r m k (ring_at s at) ≡ line_told (on_ring r m) k (line (drop at s))
unfolding line_told
ring_in_place r m k s at = go (ring_at s at) refl
  where
    go : (x : Read RingStep) → ring_at s at ≡ x → ring_told r m k x ≡ ring_told r m k (ring_at (line (drop at s)) 0)
    go (Some (f, e)) p =
        let q = (ring_exact s at f e).0 p in
        rw ((ring_exact (line (drop at s)) 0 f (0 + length (form_text (ring_form f)))).1 ((line_twice (drop at s) ∙ q.0.0, q.0.1), refl))
    go None p =
        rw ((ring_not (line (drop at s)) 0).1 (λ f h. (ring_not s at).0 p f (sym (line_twice (drop at s)) ∙ h.0, h.1)))

pub tree_in_place : (t : tree.State) (k : ℕ) (s : List ℕ) (at : ℕ) → tree_told t k (tree_at s at) ≡ line_told (on_tree t) k (line (drop at s))
unfolding line_told
tree_in_place t k s at = go (tree_at s at) refl
  where
    go : (x : Read TreeStep) → tree_at s at ≡ x → tree_told t k x ≡ tree_told t k (tree_at (line (drop at s)) 0)
    go (Some (f, e)) p =
        let q = (tree_exact s at f e).0 p in
        rw ((tree_exact (line (drop at s)) 0 f (0 + length (form_text (tree_form f)))).1 ((line_twice (drop at s) ∙ q.0.0, q.0.1), refl))
    go None p =
        rw ((tree_not (line (drop at s)) 0).1 (λ f h. (tree_not s at).0 p f (sym (line_twice (drop at s)) ∙ h.0, h.1)))

-- where a wrapped line ends has no part in its answer
pub same_told : (t : Table) (ms : List ℕ) (k : ℕ) (w : Wrapped) (e e' : ℕ) → table_told t ms k (read w e) ≡ table_told t ms k (read w e')
same_told t ms k (step u f) e e' = refl
same_told t ms k (bare u n) e e' = refl
same_told t ms k (lists u n active black) e e' = refl

pub table_in_place :
    (t : Table) (ms : List ℕ) (k : ℕ) (s : List ℕ) (at : ℕ) → table_told t ms k (wrapped_at s at) ≡ line_told (on_table t ms) k (line (drop at s))
unfolding line_told
table_in_place t ms k s at = go (wrapped_at s at) refl
  where
    go : (x : Read Wrapped) → wrapped_at s at ≡ x → table_told t ms k x ≡ table_told t ms k (wrapped_at (line (drop at s)) 0)
    go (Some (w, e)) p =
        let q = (wrapped_exact s at w e).0 p in
        rw ((wrapped_exact (line (drop at s)) 0 w (0 + length (form_text (wrapped_form w)))).1 ((line_twice (drop at s) ∙ q.0.0, q.0.1), refl))
        (same_told t ms k w e (0 + length (form_text (wrapped_form w))))
    go None p =
        rw ((wrapped_other (line (drop at s)) 0).1 (λ w h. (wrapped_other s at).0 p w (sym (line_twice (drop at s)) ∙ h.0, h.1)))

-- a step that was read is a whole line, and ends where its line ends
says_ended : (s : List ℕ) (at : ℕ) (f : Form) (e : ℕ) → SaysAt s at f e → OneLine (line (drop at s)) × (e ≡ at + length (line (drop at s)))
says_ended s at f e h = (
  subst OneLine (sym h.0.0) (form_ended f),
  h.1 ∙ ap (λ (l : List ℕ). at + length l) (sym h.0.0),
)

pub ring_ended :
    (s : List ℕ) (at : ℕ) (f : RingStep) (e : ℕ) → ring_at s at ≡ read f e → OneLine (line (drop at s)) × (e ≡ at + length (line (drop at s)))
ring_ended s at f e p = says_ended s at (ring_form f) e ((ring_exact s at f e).0 p)

pub tree_ended :
    (s : List ℕ) (at : ℕ) (f : TreeStep) (e : ℕ) → tree_at s at ≡ read f e → OneLine (line (drop at s)) × (e ≡ at + length (line (drop at s)))
tree_ended s at f e p = says_ended s at (tree_form f) e ((tree_exact s at f e).0 p)

pub table_ended :
    (s : List ℕ) (at : ℕ) (w : Wrapped) (e : ℕ) → wrapped_at s at ≡ read w e → OneLine (line (drop at s)) × (e ≡ at + length (line (drop at s)))
table_ended s at w e p = says_ended s at (wrapped_form w) e ((wrapped_exact s at w e).0 p)

-- ---- lines of a piece

pub line_some : (s : List ℕ) → 0 < length s → 0 < length (line s)
unfolding line
line_some [] h = h
line_some (b ∷ s) h = omega arith

-- none is answered
pub went_none : (s : Stage) (k next at : ℕ) (piece out : List ℕ) → next ≤ length piece → k ≤ line_limit → Went s s k k next next at at piece out out
unfolding put
went_none s k next at piece out h c = record {
  written = [];
  left = λ rest. refl;
  wrote = refl;
  ends = sym (add-zero at);
  room = omega arith;
  inside = h;
  counts = c;
}

-- one is
pub went_line : (s : Stage) (k next e at at' : ℕ) (piece out out' : List ℕ)
    → OneLine (line (drop next piece)) → e ≡ next + length (line (drop next piece)) → next ≤ length piece → k < line_limit
    → (x : Told) → x ≡ line_told s (k + 1) (line (drop next piece)) → length x.text ≤ answer_bytes
    → at' ≡ at + length x.text → out' ≡ put out at x.text
    → Went s x.stage k (k + 1) next e at at' piece out out'
went_line s k next e at at' piece out out' en is h lim x told short ends wrote =
    let w = line (drop next piece) in
    let parts : drop next piece ≡ w ++ drop e piece =
    line_rest (drop next piece) ∙ ap (λ (l : List ℕ). w ++ l) (drop-drop (length w) next piece ∙ ap (λ (i : ℕ). drop i piece) (sym is)) in
    let whole : length (drop next piece) ≡ length w + length (drop (length w) (drop next piece)) =
    ap length (line_rest (drop next piece)) ∙ length-append w (drop (length w) (drop next piece)) in
    let long : 1 ≤ length w = ended_long en in
    record {
      written = x.text;
      left = λ rest.
          ap (λ (l : List ℕ). rest_of s k [] (l ++ rest)) parts
          ∙ (ap (rest_of s k []) (append_assoc w (drop e piece) rest)
          ∙ (rest_line s k en [] (drop e piece ++ rest) lim
          ∙ ap (λ (t : Told). t.text ++ rest_of t.stage (k + 1) [] (drop e piece ++ rest)) (sym told)));
      wrote = wrote;
      ends = ends;
      room = omega arith;
      inside = omega (arith, whole, length-drop next piece);
      counts = omega arith;
    }

-- some, and then more
pub went_then : {a b c : Stage} {i j k : ℕ} {l m n : ℕ} {x y z : ℕ} {piece o p q : List ℕ}
    → Went a b i j l m x y piece o p → Went b c j k m n y z piece p q → Went a c i k l n x z piece o q
went_then {x = x} {o = o} f g = record {
  written = f.written ++ g.written;
  left = λ rest.
      f.left rest
      ∙ (ap (λ (t : List ℕ). f.written ++ t) (g.left rest) ∙ sym (append_assoc f.written g.written _));
  wrote = g.wrote ∙ put_then f.written g.written o x f.ends f.wrote;
  ends = omega (arith, f.ends, g.ends, length-append f.written g.written);
  room = omega (arith, f.room, g.room, length-append f.written g.written);
  inside = g.inside;
  counts = g.counts;
}
