use Rattle.std.proofs.Common.{map, take}
use Rattle.rhai_lower.specs.NameIndexes.{Indexes}
use Rattle.rhai_lower.proofs.named_list.new_index.Given as goal

abbrev pub invariant-loop-item : goal.invariant-loop-item
invariant-loop-item g l = Indexes l.index (map g.T.HasName.text (take l.item-index l.items))
