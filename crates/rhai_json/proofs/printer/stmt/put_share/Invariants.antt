-- What is written is what is left from the index on, behind what was written.
use Rattle.std.proofs.Common.{◌≡◌, drop}
use Rattle.rhai_lower.specs.View.{shared_of}
use Rattle.rhai_json.specs.Trees.{shared_value}
use Rattle.rhai_json.specs.Fields.{items}
use Rattle.rhai_json.proofs.printer.stmt.put_share.Given as goal

abbrev pub invariant-loop-variable : goal.invariant-loop-variable
invariant-loop-variable l =
    items shared_value (shared_of (drop l.variable-index l.variables)) l.out
    ≡ items shared_value (shared_of l.variables) l.initial.out
