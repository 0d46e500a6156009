-- The lines of specs/Examples.antt, computed. Assumes nothing.
use mathlib.Core.Path.{refl}
use Rattle.decimal.specs.Number.{checked, kept_of, number_at, scan_of}
use Rattle.decimal.specs.Text.{digits, decimal}
use Rattle.decimal.specs.Word.{starts}
use Rattle.forms.specs.Examples.{LinesShown, TakesRead}
use Rattle.forms.specs.Read.{spaced_of, closed_at, closed_of, one_of, second_of, two_of, made_of, read_by, ends_line, lined, ring_at}

pub lines_shown : LinesShown
unfolding decimal digits
lines_shown = refl

pub takes_read : TakesRead
unfolding scan_of checked number_at kept_of starts spaced_of closed_at closed_of one_of second_of two_of made_of read_by ends_line lined ring_at
takes_read = refl
