use Rattle.std.proofs.Common.{drop, map, rules}
use Rattle.std.proofs.lemmas.List.{drop_all}
use Rattle.rhai_lower.specs.View.{view}
use Rattle.rhai_base.proofs.UseLemmas.{captured_done}
use Rattle.rhai_base.proofs.closures.curried.Goals as goal

pub returns-clause-nodes : goal.returns-clause-nodes
returns-clause-nodes c =
    captured_done c.args.frame.now.live.slots (view c.args.pointer) (map view c.loop-used.args.items) c.args.captured.now
    (drop c.loop-used.used-index c.args.captured.now) (search (rules, drop_all)) c.loop-used.invariant
