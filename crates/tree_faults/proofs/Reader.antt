-- Where the reader refuses there is a fault, node by node. Assumes nothing.
use Rattle.std.specs.Prelude.{Some, None}
use Prim.Native.Nat.{◌+◌, ◌<◌, ◌≤◌, suc, zero, ℕ}
use lib.Dec.{eqb}
use lib.ListN.{drop, get_or, length, length-set, set}
use mathlib.Core.Bool.{cond, true}
use mathlib.Core.List.{List, ◌++◌, ◌∷◌}
use mathlib.Core.Logic.{◌≢◌, inl, inr}
use mathlib.Core.Path.{◌∙◌, ◌≡◌, ap, refl, subst, sym}
use native.Mathlib.Decide.{dec_lt, ℕ_discrete}
use native.Mathlib.Omega.{arith}
use Rattle.decimal.proofs.Cases.{first_of, in_text, rest}
use Rattle.decimal.proofs.Numbers.{number_sound}
use Rattle.decimal.specs.Exact.{NumberAt, Stands}
use Rattle.decimal.specs.Number.{digit_b, number_at, Read, read}
use Rattle.decimal.specs.Text.{decimal}
use Rattle.laws.proofs.Tests.{false_true, split}
use Rattle.refusal.proofs.Table.{not_both}
use Rattle.refusal.specs.declared.Refusal.{Refusal}
use Rattle.refusal.specs.declared.Refusal.TheVariants.{NotAForm, UnknownNode}
use Rattle.refusal.specs.Table.{Verdict}
use Rattle.refusal.specs.Table.{Accepted, Refused}
use Rattle.tree_faults.proofs.Nodes.{ListOf, list_of_lem, no_number_to, node_size, none_used, opened, used, used_most, used-set}
use Rattle.tree_faults.proofs.Numbers.{first, no_number_there, same_number, some_digit, zero_only, zero_text}
use Rattle.tree_faults.proofs.Places.{FaultAt, FaultTo, Large, ListText, NodeText, calm, in_list, in_node, in_rest, never, no_bracket, no_number, not_closed, number_refused, zero_led}
use Rattle.tree_faults.specs.Theorems.{NumberTo}
use Rattle.tree_faults.specs.Trees.{node, nodes_text, none, times}
use Rattle.tree_text.proofs.Depth.{value}
use Rattle.tree_text.proofs.Lists.{blank, free, free_falls, free_most, free-set, sized}
use Rattle.tree_text.proofs.Steps.{body_is, close_no, close_yes, enter_again, enter_large, enter_low, enter_new, enter_wrong, list_next, list_none, node_no, node_yes, then_no, then_yes, verdict_of}
use Rattle.tree_text.proofs.Taken.{NodeTaken, list_taken, taken}
use Rattle.tree_text.specs.Read.{and_then, body_of, closed, entered, fresh, list_of, node_of, placed, refused, stepped}
use Rattle.tree_text.specs.Text.{closing, opening, space}
use Rattle.tree_text.specs.Read.{Reading}

pub same_refusal : {v : Verdict} {e f : Refusal} → v ≡ Refused e → v ≡ Refused f → e ≡ f
same_refusal p q = cc

-- a reading that is refused says why
why : {m r : Reading} (e : Refusal) {f : Refusal} → m ≡ r → r.verdict ≡ Refused e → m.verdict ≡ Refused f → e ≡ f
why e p q = same_refusal (ap (λ (x : Reading). x.verdict) p ∙ q)

module _ (s : List ℕ) (n : ℕ) (some : 0 < n) (n16 : n ≤ 16) where
  abbrev Faults : ℕ → Type 0
  Faults left =
      (r : Reading) (k low : ℕ) (f : Refusal) → r.verdict ≡ Accepted → length r.engager ≡ 16 → k < 16 → low ≤ 16
      → free r.engager < left → (Large s n r.at → ⊥) → (list_of left s n r k low).verdict ≡ Refused f
      → FaultAt s n r.at (ListText r.engager low) f

  -- ---- a node whose number is refused

  module _ (at : ℕ) (e : List ℕ) (low : ℕ) (places : length e ≡ 16) (lows : low ≤ 16) (bracket : get_or s at 0 ≡ opening) where
    -- 0, which may not stand there
    no_zero : get_or s (at + 1) 0 ≡ 48 → (low ≤ 0 → used e 0 ≡ 0 → ⊥) → FaultAt s n at (NodeText e low) NotAForm
    no_zero byte no_place = (at + 1, no_number s n at e low places lows bracket no_digit)
      where
        no_digit : (k : ℕ) → low ≤ k → used e k ≡ 0 → (first k).byte ≢ get_or s (at + 1) 0
        no_digit k o u p =
            let F = first k in
            let z : k ≡ 0 = zero_only k F.more (F.text ∙ ap (λ (b : ℕ). b ∷ F.more) (p ∙ byte)) in
            no_place (omega arith) (ap (used e) (sym z) ∙ u)

    wrong : number_at s (at + 1) ≡ None → FaultAt s n at (NodeText e low) NotAForm
    wrong h =
        elim (split (digit_b (get_or s (at + 1) 0))) [
          | inr q ↦ (at + 1, no_number s n at e low places lows bracket (λ k o u p. false_true (sym (ap digit_b p ∙ q) ∙ (first k).digit)))
          | inl d ↦ let w = no_number_there s (at + 1) h d in led w.0 w.1
        ]
      where
        led : get_or s (at + 1) 0 ≡ 48 → digit_b (get_or s (at + 1 + 1) 0) ≡ true → FaultAt s n at (NodeText e low) NotAForm
        led byte digit =
            elim (ℕ_discrete low 0) [
              | no q ↦ no_zero byte (λ o u. omega arith)
              | yes p ↦
                  elim (ℕ_discrete (used e 0) 0) [
                    | yes u ↦ (at + 1 + 1, zero_led s n at e low places lows bracket byte digit (omega arith) u)
                    | no q ↦ no_zero byte (λ o u. q u)
                  ]
            ]

    -- 6
    pub large : (v end : ℕ) → Stands s (at + 1) v end → n ≤ v → FaultTo s n at end (NodeText e low) UnknownNode
    large v end st h =
        let w : NumberTo s v end = record { at = at; bracket = bracket; number = st } in
        number_refused s n at e low places lows bracket v end st UnknownNode (omega arith)
        (λ o u c. let y = c v end w (omega arith) in omega arith) ((λ z. (v, w, h)), (λ z. refl)) (inl refl)

    -- no number of n or more ends where one below n does
    pub small : (v end : ℕ) → Stands s (at + 1) v end → v < n → Large s n end → ⊥
    small v end st h w =
        let p = same_number s at w.1.at v end w.0 bracket w.1.bracket st w.1.number in
        omega (arith, w.2)

    -- 10
    pub not_there : (v end : ℕ) → Stands s (at + 1) v end → v < n → 0 < v → (low ≤ v → used e v ≡ 0 → ⊥)
        → FaultTo s n at end (NodeText e low) NotAForm
    not_there v end st h pos no_place =
        number_refused s n at e low places lows bracket v end st NotAForm pos (λ o u c. no_place o u) (never s n end (small v end st h)) (inr refl)

    not_now : (v end : ℕ) → Stands s (at + 1) v end → v < n → (low ≤ v → used e v ≡ 0 → ⊥) → FaultAt s n at (NodeText e low) NotAForm
    not_now v end st h no_place =
        elim (ℕ_discrete v 0) [
          | yes z ↦
              let text : drop (at + 1) s ≡ 48 ∷ drop end s =
              st.text ∙ (ap (λ (x : ℕ). decimal x ++ drop end s) z ∙ ap (λ (l : List ℕ). l ++ drop end s) zero_text) in
              no_zero (first_of s (48 ∷ drop end s) (at + 1) text) (λ o u. no_place (omega arith) (ap (used e) z ∙ u))
          | no z ↦ (end, not_there v end st h (omega arith) no_place)
        ]

  -- ---- a node

  module _ (left : ℕ) (lists : Faults left) (r : Reading) (by low : ℕ) (f : Refusal)
      (places : length r.engager ≡ 16) (by16 : by ≤ 16) (lows : low ≤ 16) (fuel : free r.engager ≤ left)
    where
      abbrev Answer : Type 0
      Answer = FaultAt s n r.at (NodeText r.engager low) f

      -- its number stands, and what follows is refused
      body : (k end : ℕ) → get_or s r.at 0 ≡ opening → Stands s (r.at + 1) k end → k < n → low ≤ k → get_or r.engager k 16 ≡ 16
          → (and_then (list_of left s n (placed r k by end) k 0) (closed s k)).verdict ≡ Refused f → Answer
      body k end bracket st kn o entry h =
          let F = in_body in
          (F.0, in_list s n r.at r.engager low places lows bracket k end st M.engager kn o adds F.1)
        where
          M : Reading
          M = placed r k by end

          L : Reading
          L = list_of left s n M k 0

          k16 : k < 16
          k16 = omega arith

          v : ℕ
          v = cond (eqb by 16) k by

          adds : (d : ℕ) → used M.engager d ≡ used r.engager d + cond (eqb d k) 1 0
          adds d = used-set r.engager k v d places k16 (value s n n16 k by k16 by16) entry

          sizes : length M.engager ≡ 16
          sizes = length-set r.engager k v ∙ places

          fewer : free M.engager + 1 ≡ free r.engager
          fewer = free-set r.engager k v places k16 (value s n n16 k by k16 by16) entry

          quiet_here : Large s n end → ⊥
          quiet_here = small r.at r.engager low places lows bracket k end st kn

          not_closing : L.verdict ≡ Accepted → FaultAt s n end (ListText M.engager 0) f
          not_closing a =
              elim (ℕ_discrete (get_or s L.at 0) closing) [
                | yes q ↦
                    absurd (not_both (ap (λ (x : Reading). x.verdict) (then_yes L (closed s k) a ∙ close_yes s k L q)) h)
                | no q ↦
                    let T = list_taken s n n16 left M L k 0 k16 refl a in
                    let Y = list_of_lem n16 k16 sizes T.nodes in
                    subst (FaultAt s n end (ListText M.engager 0)) (why NotAForm (then_yes L (closed s k) a ∙ close_no s k L q) refl h) (
                      L.at,
                      not_closed s n end M.engager 0 Y.nodes L.at Y.below Y.ascends
                          (λ d. omega (arith, Y.uses d, used_most L.engager d))
                          (T.stands ∙ ap (λ (l : List ℕ). l ++ drop L.at s) Y.text) (T.end ∙ ap (λ (l : List ℕ). end + length l) Y.text)
                          T.stop q quiet_here,
                    )
              ]

          in_body : FaultAt s n end (ListText M.engager 0) f
          in_body =
              elim (verdict_of L.verdict) [
                | inr q ↦
                    subst (FaultAt s n end (ListText M.engager 0)) (why q.0 (then_no L (closed s k) q.0 q.1) q.1 h)
                    (lists M k 0 q.0 refl sizes k16 (omega arith) (omega (arith, fewer)) quiet_here q.1)
                | inl a ↦ not_closing a
              ]

      -- its number is judged
      numbered : get_or s r.at 0 ≡ opening → (num : Read ℕ) → number_at s (r.at + 1) ≡ num
          → (and_then (entered n r by low num) (body_of (list_of left s n) s)).verdict ≡ Refused f → Answer
      numbered bracket None is h =
          subst (FaultAt s n r.at (NodeText r.engager low))
          (why NotAForm (ap (λ (x : Reading). and_then x (body_of (list_of left s n) s)) (enter_wrong n r by low) ∙ then_no _ _ NotAForm refl) refl h)
          (wrong r.at r.engager low places lows bracket is)
      numbered bracket (Some (k, end)) is h = by_value (number_sound s (r.at + 1) k end is)
        where
          go_on : Reading → Reading
          go_on = body_of (list_of left s n) s

          -- where the number is refused, so is the node
          so : (e : Refusal) → entered n r by low (read k end) ≡ refused r e → FaultAt s n r.at (NodeText r.engager low) e → Answer
          so e p =
              subst (FaultAt s n r.at (NodeText r.engager low))
              (why e (ap (λ (x : Reading). and_then x go_on) p ∙ then_no (refused r e) go_on e refl) refl h)

          by_value : NumberAt s (r.at + 1) k end → Answer
          by_value (v, st, is_v) =
              elim (dec_lt k n) [
                | no g ↦
                    so UnknownNode (enter_large n r by low k end (omega arith))
                    (end, large r.at r.engager low places lows bracket v end st (omega arith))
                | yes l ↦ small_number l (let p : v ≡ k = omega arith in subst (λ (x : ℕ). Stands s (r.at + 1) x end) p st)
              ]
            where
              small_number : k < n → Stands s (r.at + 1) k end → Answer
              small_number l st' =
                  elim (dec_lt k low) [
                    | yes b ↦
                        so NotAForm (enter_low n r by low k end l b)
                        (not_now r.at r.engager low places lows bracket k end st' l (λ o u. omega arith))
                    | no g ↦
                        elim (ℕ_discrete (get_or r.engager k 16) 16) [
                          | no q ↦
                              so NotAForm (enter_again n r by low k end l (omega arith) q)
                              (not_now r.at r.engager low places lows bracket k end st' l (λ o u. q (none_used r.engager k u)))
                          | yes entry ↦ body k end bracket st' l (omega arith) entry (sym (entering entry (omega arith)) ∙ h)
                        ]
                  ]
                where
                  entering : get_or r.engager k 16 ≡ 16 → low ≤ k
                      → (and_then (entered n r by low (read k end)) go_on).verdict
                      ≡ (and_then (list_of left s n (placed r k by end) k 0) (closed s k)).verdict
                  entering entry o =
                      ap (λ (x : Reading). x.verdict)
                      (ap (λ (x : Reading). and_then x go_on) (enter_new n r by low k end l o entry)
                      ∙ (then_yes (placed r k by end) go_on refl ∙ body_is left s n (placed r k by end)))

      node_fault : (Large s n r.at → ⊥) → (node_of left s n r by low).verdict ≡ Refused f → Answer
      node_fault before h =
          elim (ℕ_discrete (get_or s r.at 0) opening) [
            | no q ↦
                subst (FaultAt s n r.at (NodeText r.engager low)) (why NotAForm (node_no left s n r by low q) refl h)
                (r.at, no_bracket s n r.at r.engager low places lows q before)
            | yes q ↦ numbered q (number_at s (r.at + 1)) refl (ap (λ (x : Reading). x.verdict) (sym (node_yes left s n r by low q)) ∙ h)
          ]

  -- ---- a list

  list_fault : (left : ℕ) → Faults left → Faults (suc left)
  list_fault left lists r k low f fine places k16 lows fuel before h =
      elim (ℕ_discrete (get_or s r.at 0) space) [
        | no q ↦
            absurd (not_both fine (ap (λ (x : Reading). x.verdict) (sym (list_none s n r k low (suc left) (omega arith) q)) ∙ h))
        | yes q ↦
            elim (verdict_of N.verdict) [
              | inr w ↦
                  let F = node_fault left lists (stepped r) k low f places (omega arith) lows (omega arith) (after_space q)
                  (w.1 ∙ ap Refused (why w.0 (list_next s n r k low left q ∙ then_no N after w.0 w.1) w.1 h)) in
                  (F.0, in_node s n r.at r.engager low q F.1)
              | inl a ↦ later q a (ap (λ (x : Reading). x.verdict) (sym (list_next s n r k low left q ∙ then_yes N after a)) ∙ h)
            ]
      ]
    where
      N : Reading
      N = node_of left s n (stepped r) k low

      after : Reading → Reading
      after m = list_of left s n m k (m.node + 1)

      after_space : get_or s r.at 0 ≡ space → Large s n (r.at + 1) → ⊥
      after_space q w = no_number_to s r.at (ap digit_b q) w.0 w.1

      -- the first node is read, and the nodes after it are refused
      later : get_or s r.at 0 ≡ space → N.verdict ≡ Accepted → (after N).verdict ≡ Refused f → FaultAt s n r.at (ListText r.engager low) f
      later q a g =
          let F = lists N k (N.node + 1) f a (sized T.nodes sizes) k16 (omega (arith, T.node, T.inside)) (omega (arith, fewer, falls))
          (calm s n (node c Y.nodes none) r.at N.at is ends before) g in (
            F.0,
            in_rest s n r.at r.engager low N.engager c N.at Y.nodes T.inside Y.below T.order Y.ascends uses is ends
                (subst (λ (x : ℕ). FaultTo s n N.at F.0 (ListText N.engager (x + 1)) f) T.node F.1),
          )
        where
          T : NodeTaken s n (stepped r) N k low
          T = taken s n n16 left (stepped r) N k low refl a

          c : ℕ
          c = T.k

          c16 : c < 16
          c16 = omega (arith, T.inside)

          v : ℕ
          v = cond (eqb k 16) c k

          v16 : v < 16
          v16 = value s n n16 c k c16 (omega arith)

          sizes : length (set r.engager c v) ≡ 16
          sizes = length-set r.engager c v ∙ places

          fewer : free (set r.engager c v) + 1 ≡ free r.engager
          fewer = free-set r.engager c v places c16 v16 T.entry

          falls : free N.engager ≤ free (set r.engager c v)
          falls = free_falls n16 c16 sizes T.nodes

          Y : ListOf n 0 (set r.engager c v) N.engager T.text
          Y = list_of_lem n16 c16 sizes T.nodes

          uses : (d : ℕ) → used N.engager d ≡ used r.engager d + times d (node c Y.nodes none)
          uses d = omega (arith, Y.uses d, used-set r.engager c v d places c16 v16 T.entry)

          is : drop r.at s ≡ nodes_text (node c Y.nodes none) ++ drop N.at s
          is =
              rest s r.at (in_text s r.at (omega arith))
              ∙ (ap (λ (b : ℕ). b ∷ drop (r.at + 1) s) q
              ∙ (ap (λ (l : List ℕ). space ∷ l)
              (T.stands ∙ ap (λ (l : List ℕ). opening ∷ (decimal c ++ (l ++ (closing ∷ drop N.at s)))) Y.text)
              ∙ sym (opened c Y.nodes none (drop N.at s))))

          ends : N.at ≡ r.at + length (nodes_text (node c Y.nodes none))
          ends = omega (arith, T.end, node_size c Y.nodes none, ap length Y.text)

  faults : (left : ℕ) → Faults left
  faults zero r k low f fine places k16 lows fuel before h = absurd (let y : ⊥ = omega arith in y)
  faults (suc left) r k low f fine places k16 lows fuel before h = list_fault left (faults left) r k low f fine places k16 lows fuel before h

  -- the root
  pub root_fault : (f : Refusal) → (node_of 16 s n fresh 16 0).verdict ≡ Refused f → FaultAt s n 0 (NodeText blank 0) f
  root_fault f h = node_fault 16 (faults 16) fresh 16 0 f refl (omega arith) (omega arith) (free_most blank) nothing_yet h
    where
      nothing_yet : Large s n 0 → ⊥
      nothing_yet w = omega (arith, some_digit s (w.1.at + 1) w.0 0 w.1.number)
