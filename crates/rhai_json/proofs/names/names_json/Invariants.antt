-- What is written is what is left from the index on, behind what was written.
use Rattle.std.proofs.Common.{◌≡◌, drop}
use Rattle.rhai_json.specs.Fields.{items}
use Rattle.rhai_json.specs.NameLists.{names_value}
use Rattle.rhai_json.proofs.names.names_json.Given as goal

abbrev pub invariant-loop-names : goal.invariant-loop-names
invariant-loop-names l =
    items names_value (drop l.names-index l.functions) l.out
    ≡ items names_value l.functions l.initial.out
