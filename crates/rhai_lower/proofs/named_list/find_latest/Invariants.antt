use Rattle.std.proofs.Common.{◌≡◌, None, drop, map}
use Rattle.rhai_lower.specs.LatestNames.{latest_name}
use Rattle.rhai_lower.proofs.named_list.find_latest.Given as goal

abbrev pub invariant-loop-i : goal.invariant-loop-i
invariant-loop-i g l = latest_name l.name (map g.T.HasName.text (drop l.i l.items)) ≡ None
