-- What is written is what is left from the index on, behind what was written.
use Rattle.std.proofs.Common.{◌≡◌, drop}
use Rattle.rhai_json.specs.Trees.{range_value}
use Rattle.rhai_json.specs.Fields.{items}
use Rattle.rhai_json.proofs.cases.put_ranges.Given as goal

abbrev pub invariant-loop-range : goal.invariant-loop-range
invariant-loop-range l =
    items range_value (drop l.range-index l.ranges) l.out
    ≡ items range_value l.ranges l.initial.out
