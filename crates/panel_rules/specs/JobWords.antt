-- A job word as its number, and back.
use Rattle.std.specs.Prelude.{◌≡◌, ℕ, false, Result, Ok, Err}
use Rattle.panel_rules.specs.Rules.{is_word}
use Rattle.panel_rules.specs.declared.job_word.JobWord.{JobWord}
use Rattle.panel_rules.specs.declared.job_word.JobWord.TheVariants.{FirmwareNew, MapNew, FirmwareOld, MapOld}
use Rattle.panel_rules.specs.declared.job_word.UnknownWord.{UnknownWord}
use Rattle.refusal.specs.declared.Refusal.{Refusal}
use Rattle.refusal.specs.declared.Refusal.TheVariants as refusals

abbrev pub word_number : JobWord → ℕ
word_number FirmwareNew = 1
word_number MapNew = 2
word_number FirmwareOld = 3
word_number MapOld = 4

-- the job word that has the number, where one has it
abbrev pub IsJobWordOf : ℕ → Result JobWord UnknownWord → Type 0
IsJobWordOf n (Ok w) = word_number w ≡ n
IsJobWordOf n (Err u) = (u.0 ≡ n) × (is_word n ≡ false)

abbrev pub UnknownIsRefused : UnknownWord → Refusal → Type 0
UnknownIsRefused u e = e ≡ refusals.JobWord
