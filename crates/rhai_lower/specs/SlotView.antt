-- What a slot of the code represents.
use Rattle.std.specs.Prelude.{map}
use Rattle.std.specs.Rc.{rc_str_bytes}
use Rattle.rhai_lower.specs.Slots.{SlotValue}
use Rattle.rhai_lower.specs.declared.scope.Slot.{Slot}

abbrev pub slot_of : Slot → SlotValue
slot_of s = record { name = rc_str_bytes s.name; constant = s.constant; aliases = map rc_str_bytes s.aliases.items }
