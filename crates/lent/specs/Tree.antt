-- A tree that is lent field by field, truths as bytes as in Ring.antt: started, stepped; its text written and read.
use Rattle.std.specs.Prelude.{ℕ, length, Bool, ◌&&◌, cond, List, ◌≡◌}
use Rattle.decimal.specs.Text.{put}
use Rattle.flag_bytes.specs.Flags.{are_flags, byte_of, bytes_of, flag_of, flags_of, is_flag}
use Rattle.refusal.specs.Table.{code_of, settle}
use Rattle.refusal.specs.declared.Refusal.TheVariants.{Unsound}
use Rattle.refusal.specs.Table.{Verdict}
use Rattle.refusal.specs.Table.{Refused}
use Rattle.tree_rules.specs.Answers.{step_of}
use Rattle.tree_rules.specs.Soundness.{sound_test}
use Rattle.tree_rules.specs.Start.{start_of}
use Rattle.tree_rules.specs.State.{State}
use Rattle.tree_text.specs.Read.{read_of}
use Rattle.tree_text.specs.Write.{state_text}
use Rattle.tree_text.specs.Write as text

pub record LentTree : Type 0 where
  pub n : ℕ
  pub root : ℕ
  pub active : List ℕ
  pub engager : List ℕ
  pub unacked : List ℕ
  pub transit : List ℕ
  pub acks : List ℕ
  pub sends : ℕ
  pub closed : ℕ

abbrev pub lent_tree : ℕ → ℕ → List ℕ → List ℕ → List ℕ → List ℕ → List ℕ → ℕ → ℕ → LentTree
lent_tree n root active engager unacked transit acks sends closed =
    record {
      n = n;
      root = root;
      active = active;
      engager = engager;
      unacked = unacked;
      transit = transit;
      acks = acks;
      sends = sends;
      closed = closed;
    }

-- each byte that stands for a truth is 0 or 1, those of places from n on too
unfoldable pub tree_truths_test : LentTree → Bool
tree_truths_test l = are_flags l.active && is_flag l.closed

-- the tree that lies there
abbrev pub tree_of : LentTree → State
tree_of l =
    record {
      n = l.n;
      root = l.root;
      active = flags_of l.active;
      engager = l.engager;
      unacked = l.unacked;
      transit = l.transit;
      acks = l.acks;
      sends = l.sends;
      closed = flag_of l.closed;
    }

-- the fields in which a tree lies
abbrev pub lent_tree_of : State → LentTree
lent_tree_of t =
    record {
      n = t.n;
      root = t.root;
      active = bytes_of t.active;
      engager = t.engager;
      unacked = t.unacked;
      transit = t.transit;
      acks = t.acks;
      sends = t.sends;
      closed = byte_of t.closed;
    }

-- ---- a start with the root `at`: the number of its answer, and the fields afterwards

abbrev pub tree_start_number : ℕ → ℕ → ℕ
tree_start_number nodes at = code_of (start_of nodes at).verdict

-- those of the first state; where the start is refused, `same`, which were lent
abbrev pub tree_start_fields : ℕ → ℕ → LentTree → LentTree
tree_start_fields nodes at same = settle (start_of nodes at).verdict (lent_tree_of (start_of nodes at).state) same

pub record TreeStartedTo (nodes at number : ℕ) (before after : LentTree) : Type 0 where
  pub told : number ≡ tree_start_number nodes at
  pub fields : after ≡ tree_start_fields nodes at before

-- ---- soundness: 1 where the tree is sound, else 0

abbrev pub tree_sound_number : LentTree → ℕ
tree_sound_number l = byte_of (tree_truths_test l && sound_test (tree_of l))

-- ---- a step: the number of its answer, and the fields afterwards

abbrev pub tree_step_verdict : LentTree → ℕ → ℕ → ℕ → Verdict
tree_step_verdict l kind i j = cond (tree_truths_test l) (step_of (tree_of l) kind i j).verdict (Refused Unsound)

abbrev pub tree_step_number : LentTree → ℕ → ℕ → ℕ → ℕ
tree_step_number l kind i j = code_of (tree_step_verdict l kind i j)

abbrev pub tree_step_fields : LentTree → ℕ → ℕ → ℕ → LentTree
tree_step_fields l kind i j = settle (tree_step_verdict l kind i j) (lent_tree_of (step_of (tree_of l) kind i j).state) l

pub record TreeSteppedTo (l : LentTree) (kind i j number : ℕ) (after : LentTree) : Type 0 where
  pub told : number ≡ tree_step_number l kind i j
  pub fields : after ≡ tree_step_fields l kind i j

-- ---- the text of a tree written: the number of the answer, the length, and the buffer afterwards

abbrev pub write_verdict : LentTree → List ℕ → Verdict
write_verdict l buf = cond (tree_truths_test l) (text.write_verdict (tree_of l) buf) (Refused Unsound)

abbrev pub write_number : LentTree → List ℕ → ℕ
write_number l buf = code_of (write_verdict l buf)

-- the text's length; where the writing is refused, `same`, which was lent
abbrev pub write_length : LentTree → List ℕ → ℕ → ℕ
write_length l buf same = settle (write_verdict l buf) (length (state_text (tree_of l))) same

abbrev pub write_buffer : LentTree → List ℕ → List ℕ
write_buffer l buf = settle (write_verdict l buf) (put buf 0 (state_text (tree_of l))) buf

pub record WrittenAs (l : LentTree) (buf : List ℕ) (number length length' : ℕ) (buf' : List ℕ) : Type 0 where
  pub told : number ≡ write_number l buf
  pub long : length' ≡ write_length l buf length
  pub bytes : buf' ≡ write_buffer l buf

-- ---- a text read: the number of the answer, the engagers and the root afterwards

abbrev pub read_number : ℕ → List ℕ → ℕ
read_number n s = code_of (read_of n s).verdict

-- what the text gives; where it is refused, `same`, which was lent
abbrev pub read_engagers : ℕ → List ℕ → List ℕ → List ℕ
read_engagers n s same = settle (read_of n s).verdict (read_of n s).engager same

abbrev pub read_root : ℕ → List ℕ → ℕ → ℕ
read_root n s same = settle (read_of n s).verdict (read_of n s).root same

pub record ReadAs (n : ℕ) (s : List ℕ) (number : ℕ) (engager : List ℕ) (root : ℕ) (engager' : List ℕ) (root' : ℕ) : Type 0 where
  pub told : number ≡ read_number n s
  pub engagers : engager' ≡ read_engagers n s engager
  pub outermost : root' ≡ read_root n s root
