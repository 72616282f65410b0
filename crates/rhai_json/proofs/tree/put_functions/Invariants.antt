-- What is written is what is left from the index on, behind what was written.
use Rattle.std.proofs.Common.{◌≡◌, [], drop, map}
use Rattle.rhai_lower.specs.View.{function_view}
use Rattle.rhai_json.specs.Fields.{items}
use Rattle.rhai_json.specs.Left.{pieces}
use Rattle.rhai_json.specs.Trees.{function_json}
use Rattle.rhai_json.proofs.tree.put_functions.Given as goal

abbrev pub invariant-loop-function : goal.invariant-loop-function
invariant-loop-function l =
    (pieces l.printer ≡ [])
    × (items function_json (map (λ f. function_view f.value) (drop l.function-index l.functions)) l.printer.out
    ≡ items function_json (map (λ f. function_view f.value) l.functions) l.initial.printer.out)
