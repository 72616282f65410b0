-- The names that a closure captures as the definitions see them.
use Rattle.std.specs.Prelude.{[], List, map}
use Rattle.std.specs.Rc.{rc_str_bytes}
use Rattle.std.specs.declared.alloc.Global.{Global}
use Rattle.std.specs.declared.rc.RcStr.{RcStr}
use Rattle.rhai_lower.specs.Slots.{SlotValue}
use Rattle.rhai_lower.specs.Nodes.{Node, variable}
use Rattle.rhai_lower.specs.declared.position.Position.{Position}
use Rattle.rhai_grammar.specs.Slots.{number}
use Rattle.rhai_grammar.specs.Uses.{Use}
use Rattle.std.specs.Prelude.{None}

-- a name where it is used
abbrev pub use_of : RcStr Global × Position → Use
use_of u = record { name = rc_str_bytes u.0; at = u.1 }

abbrev pub uses_of : List (RcStr Global × Position) → List Use
uses_of us = map use_of us

-- a name that is captured, as an operand where these are the slots
abbrev pub captured_node : List SlotValue → Use → Node
captured_node slots u =
    variable (record { number = number u.name slots; name = u.name; path = []; module_index = None }) u.at
