-- The names so far, and those from the index on, are all names.
use Rattle.std.proofs.Common.{◌≡◌, ◌++◌, drop}
use Rattle.rhai_lower.specs.View.{shared_of}
use Rattle.rhai_grammar.specs.Closures.{shared_names}
use Rattle.rhai_base.specs.Uses.{uses_of}
use Rattle.rhai_base.proofs.closures.shared_names.Given as goal

abbrev pub invariant-loop-used : goal.invariant-loop-used
invariant-loop-used l =
    shared_of l.names.items ++ shared_names l.frame.live.slots (uses_of (drop l.used-index l.captured))
    ≡ shared_names l.frame.live.slots (uses_of l.captured)
