-- What a first line begins. Assumes nothing.
use Prim.Native.Nat.{◌+◌, ◌-◌, ◌≤◌, suc, zero, ℕ}
use lib.ListN.{drop, get_or, length, replicate, take}
use lib.Seq.{take-append-le, take_all}
use mathlib.Core.List.{List}
use mathlib.Core.Path.{◌∙◌, ◌≡◌, ap, refl, subst, subst⁻¹, sym}
use native.Mathlib.Omega.{arith}
use Rattle.std.specs.Prelude.{Option, Some, None, Ok, Err}
use Rattle.first_line.proofs.Flags.{ReadFlags, seen_flags}
use Rattle.first_line.specs.Meaning.{Flags}
use Rattle.first_line.specs.Read.{first_at}
use Rattle.first_line.specs.Start.{seen_of}
use Rattle.first_line.specs.declared.First.{First}
use Rattle.first_line.specs.declared.RingStart.{RingStart}
use Rattle.forms.proofs.Lines.{line_rest}
use Rattle.forms.specs.Form.{line}
use Rattle.forms.specs.Read.{Read}
use Rattle.log_rules.proofs.First.{flags_fit}
use Rattle.log_rules.specs.Answers.{Stage, Told, first_told, fresh, fresh_told, line_told, no_moves, on_ring, on_table, on_tree, opened_by, over, update_ask, update_first, update_opened, update_table}
use Rattle.log_rules.specs.Pieces.{Moves}
use Rattle.refusal.specs.Answers.{Answer}
use Rattle.refusal.specs.Table.{Accepted, Refused, Verdict, first_of}
use Rattle.refusal.specs.declared.Refusal.{Refusal}
use Rattle.refusal.specs.declared.Refusal.TheVariants.{NotAForm}
use Rattle.ring_rules.proofs.Start.{accepted_start, first_open}
use Rattle.ring_rules.proofs.Theorems.{start_answered}
use Rattle.table.specs.View.{table}
use Rattle.table.specs.declared.state.Table.{Table}
use Rattle.table_rules.proofs.Soundness.{empty_sound}
use Rattle.table_rules.specs.Answers.{after}
use Rattle.table_rules.specs.Soundness.{SoundTable}
use Rattle.table_rules.specs.Table.{empty_table}
use Rattle.update_forms.proofs.Held.{WrappedFlags, wrapped_flags}
use Rattle.update_forms.specs.Read.{wrapped_at, wrapped_seen}
use Rattle.update_forms.specs.Wrapped.{Wrapped, bare, lists, step}
use Rattle.log_lines.proofs.Ends.{Found}
use Rattle.log_lines.specs.Openings.{Begins, FirstTold, Opens}
use Rattle.log_lines.specs.Stages.{LineTold, SoundStage}
use Rattle.log_lines.specs.Stages as waits
use Rattle.log_lines.specs.Starts.{Judged, StartTold}
use Rattle.log_lines.specs.declared.line.Line.{Line}
use Rattle.log_lines.specs.declared.stage.Stage.TheVariants as stages
use Rattle.first_line.specs.declared.First.TheVariants as firsts
use Rattle.ring_rules.specs.Start as ring_start
use Rattle.ring_rules.specs.State as ring
use Rattle.tree_rules.proofs.Theorems as tree_theorems
use Rattle.tree_rules.specs.Soundness as tree_sound
use Rattle.tree_rules.specs.Start as tree_start
use Rattle.tree_rules.specs.State as tree

-- ---- a ring

module _ (f : RingStart) (j : Judged f (Ok tt)) (g : Flags f.flags) where
  abbrev flags : List ℕ
  flags = take f.n f.flags

  ring_verdict : (x : Answer ring.State) → x ≡ ring_start.start_of f.n flags → x.verdict ≡ Accepted
  unfolding ring_start.start_of
  ring_verdict x e = ap (λ (a : Answer ring.State). a.verdict) e ∙ accepted_start f.n flags (flags_fit f j.1 j.2 g)

  -- it is started as it is asked
  pub ring_refused : {e : Refusal} → record { verdict = Refused e; state = ring_start.blank } ≡ ring_start.start_of f.n flags → ⊥
  ring_refused {e = e} h = absurd (let q : Refused e ≡ Accepted = ring_verdict _ h in let z : ⊥ = cc in z)

  pub ring_begins : (r : ring.State) → record { verdict = Accepted; state = r } ≡ ring_start.start_of f.n flags
      → Begins (first_told (firsts.Ring f)) (stages.Ring (record { ring = r; moves = 0 }))
  ring_begins r h =
      let fit = flags_fit f j.1 j.2 g in
      let first : r ≡ ring_start.first_state f.n flags =
      ap (λ (a : Answer ring.State). a.state) h ∙ start_answered.first f.n flags (accepted_start f.n flags fit) in
      let told : first_told (firsts.Ring f) ≡ opened_by Accepted (on_ring (ring_start.first_state f.n flags) 0) =
      ap (λ (v : Verdict). opened_by v (on_ring (ring_start.first_state f.n flags) 0)) j.0 in
      subst⁻¹ (λ (x : Told). Begins x (stages.Ring (record { ring = r; moves = 0 }))) told (record {
        stage = ap (λ (s : ring.State). on_ring s 0) first;
        text = refl;
        sound = ((first_open f.n flags fit).sound, omega arith);
      })

-- ---- a tree

tree_verdict : (n root : ℕ) (x : Answer tree.State) → x ≡ tree_start.start_of n root → x.verdict ≡ tree_start.start_verdict n root
unfolding tree_start.start_of
tree_verdict n root x e = ap (λ (a : Answer tree.State). a.verdict) e

pub tree_refused : (n root : ℕ) (e : Refusal) → record { verdict = Refused e; state = tree_start.blank } ≡ tree_start.start_of n root
    → Opens (first_told (firsts.Tree n root)) (Err e)
tree_refused n root e h = ap (λ (v : Verdict). opened_by v (on_tree (tree_start.first_state n root))) (tree_verdict n root _ h)

pub tree_begins : (n root : ℕ) (t : tree.State) → record { verdict = Accepted; state = t } ≡ tree_start.start_of n root
    → Begins (first_told (firsts.Tree n root)) (stages.Tree t)
tree_begins n root t h =
    let v : tree_start.start_verdict n root ≡ Accepted = sym (tree_verdict n root _ h) in
    let first : t ≡ tree_start.first_state n root = ap (λ (a : Answer tree.State). a.state) h ∙ (tree_theorems.start_answered).first n root v in
    let told : first_told (firsts.Tree n root) ≡ opened_by Accepted (on_tree (tree_start.first_state n root)) =
    ap (λ (w : Verdict). opened_by w (on_tree (tree_start.first_state n root))) v in
    subst⁻¹ (λ (x : Told). Begins x (stages.Tree t)) told (record {
      stage = ap on_tree first;
      text = refl;
      sound = subst tree_sound.Sound ((tree_theorems.start_answered).first n root v) ((tree_theorems.sound_kept).start n root v).sound;
    })

-- ---- an update

pub few_moves : Moves no_moves 1
few_moves = record { places = refl; few = λ u. omega (arith, zeros 8 u) }
  where
    zeros : (n u : ℕ) → ◌≡◌ {A = ℕ} (get_or (replicate n 0) u 0) 0
    zeros zero u = refl
    zeros (suc n) zero = refl
    zeros (suc n) (suc u) = zeros n u

pub none_sound : (t : Table) → table t ≡ empty_table → SoundTable (table t)
none_sound t e = subst⁻¹ SoundTable e empty_sound

-- what is read of a line as a start of an update
abbrev pub opened_as : Option (ℕ × RingStart × ℕ) → Told
opened_as (Some (u, f, e)) = update_opened u f
opened_as None = opened_by (Refused NotAForm) fresh

pub opened_first : (s : Read Wrapped) → opened_as (wrapped_seen s) ≡ update_first s
opened_first (Some (step u f, e)) = refl
opened_first (Some (bare u n, e)) = refl
opened_first (Some (lists u n active black, e)) = refl
opened_first None = refl

pub update_refused : (u : ℕ) (f : RingStart) (t t' : Table) (e : Refusal) → table t ≡ empty_table → StartTold (table t) (table t') u f (Err e)
    → Opens (update_opened u f) (Err e)
update_refused u f t t' e is h =
    ap (λ (v : Verdict). opened_by v (on_table (after empty_table (update_ask u f)) no_moves))
    (h.verdict ∙ ap (λ (x : _). first_of (update_table x u f)) is)

pub update_begins : (u : ℕ) (f : RingStart) (t t' : Table) → table t ≡ empty_table → StartTold (table t) (table t') u f (Ok tt) → SoundTable (table t')
    → Begins (update_opened u f) (stages.Table (record { table = t'; moves = no_moves }))
update_begins u f t t' is h sound =
    let v : Accepted ≡ first_of (update_table empty_table u f) = h.verdict ∙ ap (λ (x : _). first_of (update_table x u f)) is in
    let next : table t' ≡ after empty_table (update_ask u f) = h.table ∙ ap (λ (x : _). after x (update_ask u f)) is in
    let told : update_opened u f ≡ opened_by Accepted (on_table (after empty_table (update_ask u f)) no_moves) =
    ap (λ (w : Verdict). opened_by w (on_table (after empty_table (update_ask u f)) no_moves)) (sym v) in
    subst⁻¹ (λ (x : Told). Begins x (stages.Table (record { table = t'; moves = no_moves }))) told (record {
      stage = ap (λ (x : _). on_table x no_moves) next;
      text = refl;
      sound = (subst SoundTable next sound, few_moves);
    })

-- ---- any first line

pub flags_read : (l : List ℕ) {r : Option (First × ℕ)} → r ≡ seen_of (first_at l 0) → ReadFlags r
flags_read l e = subst⁻¹ ReadFlags e (seen_flags l 0)

pub flags_wrapped : (l : List ℕ) (at : ℕ) {r : Option (ℕ × RingStart × ℕ)} → r ≡ wrapped_seen (wrapped_at l at) → WrappedFlags r
flags_wrapped l at e = subst⁻¹ WrappedFlags e (wrapped_flags l at)

pub read_told : (l : List ℕ) {r : Read First} → r ≡ seen_of (first_at l 0) → fresh_told r (wrapped_at l 0) ≡ line_told fresh 1 l
unfolding line_told
read_told l e = ap (λ (r : Read First). fresh_told r (wrapped_at l 0)) e

same_number : (k : ℕ) (l : List ℕ) → line_told fresh 1 l ≡ line_told fresh k l
unfolding line_told
same_number k l = refl

pub part_line : (p : List ℕ) (at e : ℕ) → Found p at e → take (e - at) (drop at p) ≡ line (drop at p)
part_line p at e f =
    let w = line (drop at p) in
    let n : e - at ≡ length w = omega (arith, f.past) in
    ap (λ (m : ℕ). take m (drop at p)) n ∙ ap (take (length w)) (line_rest (drop at p))
    ∙ take-append-le (length w) w (drop (length w) (drop at p)) (omega arith) ∙ take_all (length w) w (omega arith)

later_sound : (s : Stage) (k : ℕ) → 1 ≤ k → SoundStage s 1 → SoundStage s k
later_sound fresh k h x = tt
later_sound (on_ring r m) k h x = (x.0, omega (arith, x.1))
later_sound (on_tree t) k h x = x
later_sound (on_table t ms) k h x = (x.0, record { places = x.1.places; few = λ u. omega (arith, x.1.few u) })
later_sound over k h x = tt

pub first_line_told : (s s' : Stage) (lines : ℕ) (p : List ℕ) (at : ℕ) (t : Option Line) → s ≡ fresh → FirstTold s s' p at t → LineTold s s' (lines + 1) p at t
first_line_told s s' lines p at None e h = (h.0, waits.cut h.1)
first_line_told s s' lines p at (Some l) e h =
    let w = line (drop at p) in
    let q : line_told fresh 1 w ≡ line_told s (lines + 1) w = same_number (lines + 1) w ∙ ap (λ (x : Stage). line_told x (lines + 1) w) (sym e) in
    record {
      whole = h.whole;
      past = h.past;
      stage = h.begun.stage ∙ ap (λ (x : Told). x.stage) q;
      text = rw h.number (h.begun.text ∙ ap (λ (x : Told). x.text) q);
      number = omega (arith, h.number);
      sound = later_sound s' (lines + 1) (omega arith) h.begun.sound;
    }
