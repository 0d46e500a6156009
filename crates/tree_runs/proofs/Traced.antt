-- What the state of a run holds is what is counted from the first state and the accepted requests. Assumes nothing.
use Prim.Native.Nat.{◌+◌, ◌<◌, ℕ}
use lib.Dec.{eqb}
use mathlib.Core.Bool.{Bool, ◌&&◌, ◌||◌, false, not, true}
use mathlib.Core.List.{List, [], ◌∷◌}
use mathlib.Core.Path.{◌∙◌, ◌≡◌, ap, fun_ext, refl, sym}
use native.Mathlib.Omega.{arith}
use Rattle.laws.proofs.Sums.{count_same}
use Rattle.laws.proofs.Tests.{false_true, or_move}
use Rattle.runs.proofs.Runs.{Run, kept, run_of_lem, stop, took}
use Rattle.runs.specs.Runs.{Accepts, Request, accepted_of, run_of}
use Rattle.tree_rules.proofs.Accepted.{Allowed, allowed}
use Rattle.tree_rules.proofs.Facts.{facts}
use Rattle.tree_rules.proofs.Keeps.{keeps}
use Rattle.tree_rules.specs.Soundness.{Sound}
use Rattle.tree_rules.specs.State.{State, active_at, engaged, transit_at}
use Rattle.tree_rules.specs.Termination.{Quiet, acks_total, engaged_others, is_other, steps_left}
use Rattle.tree_rules.proofs.Fields.{same_n, same_root}
use Rattle.tree_runs.proofs.Trace.{acks_step, active_step, closed_step, engaged_step, sends_step, transit_step}
use Rattle.tree_runs.specs.Counts.{QuietBy, acks_by, active_after, announced_in, engaged_after, engaged_by, is_announce, kind, received_in, replies_in, sends_between, sends_in, takes_between, transit_by, tree}
use Rattle.tree_runs.specs.WholeRun.{steps_by}

pub may : (t : State) (x : Request) → Accepts tree t x → Allowed t (kind x) x.i x.j
may t x a = allowed t (kind x) x.i x.j a

pub sound_after : (t : State) (x : Request) → Accepts tree t x → Sound (tree.effect t x)
sound_after t x a = let p = may t x a in keeps t p.sound p.running (kind x) x.i x.j p.by

-- s is reached from t by the accepted requests acc
pub record Traced (t : State) (acc : List Request) (s : State) : Type 0 where
  pub sound : Sound s
  pub nodes : s.n ≡ t.n
  pub root : s.root ≡ t.root
  pub active : (b : ℕ) → active_at s b ≡ active_after (active_at t b) acc b
  pub engagement : (b : ℕ) → engaged s b ≡ engaged_after (engaged t b) acc b
  pub transit : (b c : ℕ) → c < 16 → transit_at s b c + takes_between acc b c ≡ transit_at t b c + sends_between acc b c
  pub acks : acks_total s + received_in acc ≡ acks_total t + replies_in (engaged t) acc
  pub sends : s.sends ≡ t.sends + sends_in acc
  pub closing : s.closed ≡ (t.closed || announced_in acc)

traced_stop : (t : State) → Sound t → Traced t [] t
traced_stop t s =
    record {
      sound = s;
      nodes = refl;
      root = refl;
      active = λ b. refl;
      engagement = λ b. refl;
      transit = λ b c h. refl;
      acks = refl;
      sends = omega arith;
      closing = keep t.closed;
    }
  where
    keep : (a : Bool) → a ≡ (a || false)
    keep true = refl
    keep false = refl

traced_more : (t : State) (x : Request) → Accepts tree t x → (acc : List Request) (s : State) → Traced (tree.effect t x) acc s → Traced t (x ∷ acc) s
traced_more t x a acc s c =
    let p = may t x a in
    let f = facts t p.sound in
    let engage = engaged_step t f (kind x) x.i x.j p.by in
    record {
      sound = c.sound;
      nodes = c.nodes ∙ same_n t (kind x) x.i x.j;
      root = c.root ∙ same_root t (kind x) x.i x.j;
      active = λ b. c.active b ∙ ap (λ (w : Bool). active_after w acc b) (active_step t f (kind x) x.i x.j p.by b);
      engagement = λ b. c.engagement b ∙ ap (λ (w : Bool). engaged_after w acc b) (engage b);
      transit = λ b m h. omega (arith, c.transit b m h, transit_step t f (kind x) x.i x.j p.by b m h);
      acks =
          omega (
            arith,
            c.acks,
            acks_step t f p.running (kind x) x.i x.j p.by,
            ap (λ (e : ℕ → Bool). replies_in e acc) (fun_ext engage),
          );
      sends = omega (arith, c.sends, sends_step t (kind x) x.i x.j);
      closing =
          c.closing ∙ ap (λ (w : Bool). w || announced_in acc) (closed_step t (kind x) x.i x.j)
          ∙ or_move (is_announce (kind x)) t.closed (announced_in acc);
    }

traced_run : {t s : State} {xs acc : List Request} → Run tree t xs s acc → Sound t → Traced t acc s
traced_run (stop {s}) ok = traced_stop s ok
traced_run (took {s} {t} {x = x} {acc = acc} a c) ok = traced_more s x a acc t (traced_run c (sound_after s x a))
traced_run (kept c) ok = traced_run c ok

pub traced : (t : State) → Sound t → (xs : List Request) → Traced t (accepted_of tree t xs) (run_of tree t xs)
traced t ok xs = traced_run (run_of_lem tree t xs) ok

-- a closed state accepts nothing more
pub closed_none : {t s : State} {xs acc : List Request} → Run tree t xs s acc → t.closed ≡ true → acc ≡ []
closed_none stop c = refl
closed_none (took {s} {x = x} a r) c = absurd (false_true (sym (may s x a).running ∙ c))
closed_none (kept r) c = closed_none r c

-- ---- from the counts to the state, and back

module _ (t : State) (ok : Sound t) (xs : List Request) where
  point : Traced t (accepted_of tree t xs) (run_of tree t xs)
  point = traced t ok xs

  pub transit_is : (b c : ℕ) → c < t.n → transit_at (run_of tree t xs) b c ≡ transit_by t xs b c
  transit_is b c hc = omega (arith, point.transit b c (omega (arith, ok.nodes)))

  pub acks_is : acks_total (run_of tree t xs) ≡ acks_by t xs
  acks_is = omega (arith, point.acks)

  pub steps_is : steps_left (run_of tree t xs) ≡ steps_by t xs
  unfolding steps_left engaged_others
  steps_is =
      omega (
        arith,
        acks_is,
        count_same 16 (is_other (run_of tree t xs)) (λ b. not (eqb b t.root) && engaged_by t xs b) (λ b _. rw (point.root, point.engagement b)),
      )

  pub quiet_here : QuietBy t xs → Quiet (run_of tree t xs)
  quiet_here q =
      record {
        passive = λ b h. point.active b ∙ q.passive b (omega (arith, point.nodes));
        empty = λ b c hb hc. let hc' : c < t.n = omega (arith, point.nodes) in transit_is b c hc' ∙ q.empty b c (omega (arith, point.nodes)) hc';
      }

  pub quiet_there : Quiet (run_of tree t xs) → QuietBy t xs
  quiet_there q =
      record {
        passive = λ b h. sym (point.active b) ∙ q.passive b (omega (arith, point.nodes));
        empty = λ b c hb hc. sym (transit_is b c hc) ∙ q.empty b c (omega (arith, point.nodes)) (omega (arith, point.nodes));
      }
