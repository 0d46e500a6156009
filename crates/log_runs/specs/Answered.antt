-- How the lines after the first are answered, for every machine and its requests. Lines are numbered as in their answers: the lines after the
-- first are lines 2 + i.
use Rattle.std.specs.Prelude.{◌+◌, suc, zero, ℕ, get_or, length, take, cond, List, ◌++◌, [], ◌≡◌}
use Rattle.log_rules.specs.Answers.{answer_text}
use Rattle.refusal.specs.Table.{is_accepted}
use Rattle.refusal.specs.declared.Refusal.TheVariants.{NotAForm}
use Rattle.refusal.specs.Table.{Verdict}
use Rattle.refusal.specs.Table.{Accepted, Refused}
use Rattle.runs.specs.Runs.{Machine, run_of}
use Rattle.log_runs.specs.Says.{Ask, no_step, request, requests_in}

-- the requests of lines 2 to 1 + i
abbrev pub said : {R : Type 0} → List (Ask R) → ℕ → List R
said qs i = requests_in (take i qs)

-- the verdict on what a line asks for, where the run has come to s
abbrev pub verdict_on : {S R : Type 0} → Machine S R → S → Ask R → Verdict
verdict_on m s (request x) = m.verdict s x
verdict_on m s no_step = Refused NotAForm

-- the texts f 0, f 1 .. f (n - 1)
unfoldable pub texts_to : (ℕ → List ℕ) → ℕ → List ℕ
texts_to f zero = []
texts_to f (suc n) = f 0 ++ texts_to (λ i. f (suc i)) n

-- A run of the machine m from s, whose lines, 2 and on, ask for `qs`.
module _ {S R : Type 0} (m : Machine S R) (s : S) (qs : List (Ask R)) where
  -- the verdict on line 2 + i: the machine's, on the state that the requests of the lines before it lead to
  abbrev pub verdict_at : ℕ → Verdict
  verdict_at i = verdict_on m (run_of m s (said qs i)) (get_or qs i no_step)

  -- the answers to these lines
  abbrev pub answers : List ℕ
  answers = texts_to (λ i. answer_text (2 + i) (verdict_at i)) (length qs)

  -- line 2 + i is answered with ok
  abbrev pub OkAt : ℕ → Type 0
  OkAt i = verdict_at i ≡ Accepted

  -- how many of lines 2 to 1 + i are
  abbrev pub oks : ℕ → ℕ
  oks zero = 0
  oks (suc i) = oks i + cond (is_accepted (verdict_at i)) 1 0
