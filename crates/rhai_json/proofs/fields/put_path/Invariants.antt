-- What is written is what is left from the index on, behind what was written.
use Rattle.std.proofs.Common.{◌≡◌, drop, map}
use Rattle.rhai_lower.specs.View.{written}
use Rattle.rhai_json.specs.Fields.{items, step_value}
use Rattle.rhai_json.proofs.fields.put_path.Given as goal

abbrev pub invariant-loop-ident : goal.invariant-loop-ident
invariant-loop-ident l =
    items step_value (map written (drop l.ident-index l.path)) l.out
    ≡ items step_value (map written l.path) l.initial.out
