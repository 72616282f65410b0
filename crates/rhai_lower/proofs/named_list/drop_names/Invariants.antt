use Rattle.std.proofs.Common.{◌≤◌, map, take}
use Rattle.rhai_lower.specs.NameIndexes.{Indexes}
use Rattle.rhai_lower.proofs.named_list.drop_names.Given as goal

abbrev pub invariant-loop-i : goal.invariant-loop-i
invariant-loop-i g l = record { above : l.len ≤ l.i; indexed : Indexes l.index (map g.T.HasName.text (take l.i l.items)) }
