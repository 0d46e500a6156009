-- The one word that all marks of a panel say, where they agree.
use Rattle.std.specs.Prelude.{Option, None, Some, cond, false, true}
use Rattle.panel_rules.specs.State.{Panel, all_say_word}
use Rattle.panel_rules.specs.declared.record.Record.{Record}
use Rattle.panel_rules.specs.declared.record.Record.TheVariants.{New, Old}

abbrev pub word_agreed : Panel → Option Record
word_agreed p =
    cond (all_say_word true p.ring.n p.firmware p.map) (Some New) (cond (all_say_word false p.ring.n p.firmware p.map) (Some Old) None)
