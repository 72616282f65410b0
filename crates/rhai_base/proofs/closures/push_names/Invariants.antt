-- The names so far, and those from the index on, are all names.
use Rattle.std.proofs.Common.{◌≡◌, ◌++◌, drop, map}
use Rattle.std.specs.Rc.{rc_str_bytes}
use Rattle.rhai_base.proofs.closures.push_names.Given as goal

abbrev pub invariant-loop-name : goal.invariant-loop-name
invariant-loop-name l =
    map rc_str_bytes l.all.items ++ map rc_str_bytes (drop l.name-index l.names)
    ≡ map rc_str_bytes l.fn.all.items ++ map rc_str_bytes l.names
