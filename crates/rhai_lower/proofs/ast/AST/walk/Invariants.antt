-- The calls that are still to come end as those at the whole script do.
use Rattle.std.proofs.Common.{Bool, length}
use Rattle.rhai_lower.specs.WalkState.{Calls, left, script_walk}
use Rattle.rhai_lower.specs.Walks.{all_left}
use Rattle.rhai_lower.proofs.ast.AST.walk.Given as goal

abbrev pub invariant-loop-walk : goal.invariant-loop-walk
invariant-loop-walk g l =
    goal.F-IsAlwaysCallable g l.visit
    × ((all : Bool) (last : _) → Calls (goal.F-step g) l.visit (all_left (left l.walk)) all last
    → Calls (goal.F-step g) l.fn.visit (script_walk l.fn.self) all last)

abbrev pub decreases-loop-walk : goal.decreases-loop-walk
decreases-loop-walk g l = length (all_left (left l.walk))
