-- Calls of other languages on one panel, each on the fields that the last one left: starts and steps, refused ones included.
use Rattle.std.specs.Prelude.{List, [], ◌∷◌}
use Rattle.lent_panel.specs.Panel.{LentPanel, ask_fields}
use Rattle.panel_rules.specs.Asks.{Ask}

unfoldable pub fields_after : LentPanel → List Ask → LentPanel
fields_after l [] = l
fields_after l (a ∷ ls) = fields_after (ask_fields l a) ls
