-- What was written with all that is left stays the same, and less is left.
use Rattle.std.proofs.Common.{◌≡◌}
use Rattle.rhai_json.specs.Left.{all_json, pieces, weights}
use Rattle.rhai_json.proofs.printer.Printer.put.Given as goal

abbrev pub invariant-loop-part : goal.invariant-loop-part
invariant-loop-part l = all_json (pieces l.self) l.self.out ≡ all_json (pieces l.initial.self) l.initial.self.out

abbrev pub decreases-loop-part : goal.decreases-loop-part
decreases-loop-part l = weights (pieces l.self)
