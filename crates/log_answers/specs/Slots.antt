-- An update's place in a sound table.
use Rattle.std.specs.Prelude.{◌≡◌}
use Rattle.ring_rules.specs.Soundness.{Sound}
use Rattle.ring_rules.specs.State.{State}
use Rattle.table_rules.specs.Table.{Slot, Started}

-- nothing is asked of an update that is not started
abbrev pub SoundSlot : Slot → Type 0
SoundSlot s = (r : State) → s ≡ Started r → Sound r
