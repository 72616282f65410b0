-- The lines so far are those that came.
use Rattle.std.proofs.Common.{◌≡◌}
use Rattle.rhai_base.proofs.comments.lines_of.Given as goal

abbrev pub invariant-loop-line : goal.invariant-loop-line
invariant-loop-line l = l.lines.items ≡ l.yielded
