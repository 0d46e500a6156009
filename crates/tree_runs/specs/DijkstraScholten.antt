-- The algorithm-level program of document 003, by itself, in its own names and order. Nothing of the tree's code or definitions is in it.
-- A system's variable is a field of `Systems`, a function of the address j; the fifo channel is its counts of messages in transit: DAT
-- from an address to an address, itself too, ACK to an address. A rule relates the systems before, `s`, to those after, `t`; a field of its record is a
-- line of the rule, and a constructor is a branch. Left out: weak fairness, and with it A2, which speaks of what happens in the end.
use Rattle.std.specs.Prelude.{◌+◌, ◌-◌, ◌<◌, ◌≤◌, suc, zero, ℕ, eqb, Bool, ◌&&◌, cond, false, not, true, ◌≢◌, ◌≡◌}
use Rattle.std.proofs.Math.Nat.{le_of_suc-le}
use Rattle.std.proofs.Common.{le_refl}

-- an address
pub record Addr (N : ℕ) : Type 0 where
  pub nr : ℕ
  pub below : nr < N

-- the "up-stream" neighbor of a system in the tree, or null
pub data Engager : Type 0 where
  null : Engager
  addr : ℕ → Engager

pub record Systems (N : ℕ) : Type 0 where
  pub active : Addr N → Bool
  pub engager : Addr N → Engager
  pub un_acked : Addr N → ℕ
  -- in transit
  pub DAT : Addr N → Addr N → ℕ
  pub ACK : Addr N → ℕ

-- f, but v at j
infix 5 ◌BUT◌≔◌
abbrev pub ◌BUT◌≔◌ {ℓ} : {N : ℕ} {A : Type ℓ} → (Addr N → A) → Addr N → A → Addr N → A
f BUT j ≔ v = λ k. cond (eqb k.nr j.nr) v (f k)

-- ---- the rules of system j

-- only if active = true: active ← false
pub record Deactivate {N : ℕ} (j : Addr N) (s t : Systems N) : Type 0 where
  pub active : s.active j ≡ true
  pub active' : t.active ≡ s.active BUT j ≔ false
  pub unchanged_engager : t.engager ≡ s.engager
  pub unchanged_un_acked : t.un_acked ≡ s.un_acked
  pub unchanged_dat : t.DAT ≡ s.DAT
  pub unchanged_ack : t.ACK ≡ s.ACK

-- only if active: send [DAT, j, umsg] to k; un_acked++
pub record SendDAT {N : ℕ} (j k : Addr N) (s t : Systems N) : Type 0 where
  pub active : s.active j ≡ true
  pub DAT' : t.DAT ≡ s.DAT BUT j ≔ (s.DAT j BUT k ≔ s.DAT j k + 1)
  pub un_acked' : t.un_acked ≡ s.un_acked BUT j ≔ s.un_acked j + 1
  pub unchanged_active : t.active ≡ s.active
  pub unchanged_engager : t.engager ≡ s.engager
  pub unchanged_ack : t.ACK ≡ s.ACK

-- if engager = null: engager ← k; else: send [ACK] to k
pub data Branch {N : ℕ} (j k : Addr N) (s t : Systems N) : Type 0 where
  engaged_by : s.engager j ≡ null → t.engager ≡ s.engager BUT j ≔ addr k.nr → t.ACK ≡ s.ACK → Branch j k s t
  acknowledged : s.engager j ≢ null → t.engager ≡ s.engager → t.ACK ≡ s.ACK BUT k ≔ s.ACK k + 1 → Branch j k s t

-- receive [DAT, k, dmsg]: active ← true, and the branch
pub record ReceiveDAT {N : ℕ} (j k : Addr N) (s t : Systems N) : Type 0 where
  pub in_transit : 0 < s.DAT k j
  pub DAT' : t.DAT ≡ s.DAT BUT k ≔ (s.DAT k BUT j ≔ s.DAT k j - 1)
  pub active' : t.active ≡ s.active BUT j ≔ true
  pub branch : Branch j k s t
  pub unchanged_un_acked : t.un_acked ≡ s.un_acked

-- receive [ACK]: unAcked--
pub record ReceiveACK {N : ℕ} (j : Addr N) (s t : Systems N) : Type 0 where
  pub in_transit : 0 < s.ACK j
  pub ACK' : t.ACK ≡ s.ACK BUT j ≔ s.ACK j - 1
  pub un_acked' : t.un_acked ≡ s.un_acked BUT j ≔ s.un_acked j - 1
  pub unchanged_active : t.active ≡ s.active
  pub unchanged_engager : t.engager ≡ s.engager
  pub unchanged_dat : t.DAT ≡ s.DAT

-- disengage: only if (not active and un_acked = 0 and engager ≠ null)
pub record MayDisengage {N : ℕ} (j : Addr N) (s : Systems N) : Type 0 where
  pub passive : s.active j ≡ false
  pub settled : s.un_acked j ≡ 0
  pub engaged : s.engager j ≢ null

-- if j ≠ a0: send [ACK] to engager; engager ← null
pub record Disengage {N : ℕ} (j : Addr N) (s t : Systems N) : Type 0 where
  pub may : MayDisengage j s
  pub upstream : Addr N
  pub engager_is : s.engager j ≡ addr upstream.nr
  pub ACK' : t.ACK ≡ s.ACK BUT upstream ≔ s.ACK upstream + 1
  pub engager' : t.engager ≡ s.engager BUT j ≔ null
  pub unchanged_active : t.active ≡ s.active
  pub unchanged_un_acked : t.un_acked ≡ s.un_acked
  pub unchanged_dat : t.DAT ≡ s.DAT

-- the sum of f over the addresses
unfoldable pub sum_below : {N : ℕ} → (Addr N → ℕ) → (m : ℕ) → m ≤ N → ℕ
sum_below f zero h = 0
sum_below f (suc m) h = sum_below f m (le_of_suc-le h) + f (record { nr = m; below = h })

abbrev pub sum : {N : ℕ} → (Addr N → ℕ) → ℕ
sum {N} f = sum_below f N (le_refl N)

-- # data msgs in transit outgoing from j; # ack msgs in transit incoming to j
abbrev pub num_dat : {N : ℕ} → Systems N → Addr N → ℕ
num_dat s j = sum (λ k. s.DAT j k)

abbrev pub num_ack : {N : ℕ} → Systems N → Addr N → ℕ
num_ack s j = s.ACK j

-- termination: forall(j: not j.active and num_dat(j) = 0)
pub record Termination {N : ℕ} (s : Systems N) : Type 0 where
  pub passive : (j : Addr N) → s.active j ≡ false
  pub none : (j : Addr N) → num_dat s j ≡ 0

-- ---- with a0, the address of the system that starts

module _ {N : ℕ} (a0 : Addr N) where
  abbrev pub is_first : Addr N → Bool
  is_first j = eqb j.nr a0.nr

  -- active: initially true for a0, o/w false; engager: initially a0 for a0, o/w null; un_acked: initially 0; nothing is in transit
  pub record Initial (s : Systems N) : Type 0 where
    pub active : s.active ≡ is_first
    pub engager : s.engager ≡ (λ j. cond (is_first j) (addr a0.nr) null)
    pub un_acked : s.un_acked ≡ (λ j. 0)
    pub DAT : s.DAT ≡ (λ j k. 0)
    pub ACK : s.ACK ≡ (λ j. 0)

  -- disengage, if j = a0: signal termination
  abbrev pub SignalTermination : Systems N → Type 0
  SignalTermination s = MayDisengage a0 s

  -- a rule of some system
  pub data Step (s t : Systems N) : Type 0 where
    deactivate : (j : Addr N) → Deactivate j s t → Step s t
    send_dat : (j k : Addr N) → SendDAT j k s t → Step s t
    receive_dat : (j k : Addr N) → ReceiveDAT j k s t → Step s t
    receive_ack : (j : Addr N) → ReceiveACK j s t → Step s t
    disengage : (j : Addr N) → j.nr ≢ a0.nr → Disengage j s t → Step s t

  -- a path of the engagement digraph from a0 to j; [j, k] is an edge where j is k's engager, k ≠ a0
  pub data Path (s : Systems N) : Addr N → Type 0 where
    start : (j : Addr N) → j.nr ≡ a0.nr → Path s j
    edge : (j k : Addr N) → k.nr ≢ a0.nr → s.engager k ≡ addr j.nr → Path s j → Path s k

  -- 1 where [j, k] is an edge, else 0
  abbrev pub is_addr : ℕ → Engager → Bool
  is_addr j null = false
  is_addr j (addr k) = eqb k j

  abbrev pub one_edge : Systems N → Addr N → Addr N → ℕ
  one_edge s j k = cond (not (is_first k) && is_addr j.nr (s.engager k)) 1 0

  -- B1: eGraph is an out-tree rooted at a0: a path leads from a0 to each node of it, and a node has one engager
  pub record B1 (s : Systems N) : Type 0 where
    pub root : s.engager a0 ≡ addr a0.nr
    pub path : (j : Addr N) → s.engager j ≢ null → Path s j

  -- B2: j.unAcked = num_dat(j) + num_ack(j) + sum([j,k]: [j,k] in eEdges)
  abbrev pub B2 : Systems N → Type 0
  B2 s = (j : Addr N) → s.un_acked j ≡ num_dat s j + num_ack s j + sum (one_edge s j)

  -- B3: j.engager = null ⇒ (not j.active and j.unAcked = 0)
  abbrev pub B3 : Systems N → Type 0
  B3 s = (j : Addr N) → s.engager j ≡ null → (s.active j ≡ false) × (s.un_acked j ≡ 0)

  -- A1: (a0.unAcked = 0 and not a0.active) ⇒ termination
  abbrev pub A1 : Systems N → Type 0
  A1 s = s.un_acked a0 ≡ 0 → s.active a0 ≡ false → Termination s
