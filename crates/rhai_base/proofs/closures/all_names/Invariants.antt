-- The names so far, and those from the index on, are all that are captured.
use Rattle.std.proofs.Common.{◌≡◌, ◌++◌, drop, map}
use Rattle.std.specs.Rc.{rc_str_bytes}
use Rattle.rhai_grammar.specs.Uses.{names_of}
use Rattle.rhai_base.specs.Uses.{uses_of}
use Rattle.rhai_base.proofs.closures.all_names.Given as goal

abbrev pub invariant-loop-used : goal.invariant-loop-used
invariant-loop-used l =
    map rc_str_bytes l.all.items ++ names_of (uses_of (drop l.used-index l.captured)) ≡ names_of (uses_of l.captured)
