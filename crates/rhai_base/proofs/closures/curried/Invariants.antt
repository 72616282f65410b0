-- The nodes so far, and those of the names from the index on, are all arguments.
use Rattle.std.proofs.Common.{◌≡◌, ◌∷◌, ◌++◌, drop, map}
use Rattle.rhai_lower.specs.View.{view}
use Rattle.rhai_base.specs.Uses.{captured_node, uses_of}
use Rattle.rhai_base.proofs.closures.curried.Given as goal

abbrev pub invariant-loop-used : goal.invariant-loop-used
invariant-loop-used l =
    map view l.args.items ++ map (captured_node l.frame.live.slots) (uses_of (drop l.used-index l.captured))
    ≡ view l.fn.pointer ∷ map (captured_node l.frame.live.slots) (uses_of l.captured)
