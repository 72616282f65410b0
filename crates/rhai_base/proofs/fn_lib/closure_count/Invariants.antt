use Rattle.std.proofs.Common.{◌≡◌, ◌+◌, map}
use Rattle.rhai_grammar.specs.Keys.{key_of, keys_of, closures}
use Rattle.rhai_base.proofs.fn_lib.closure_count.Given as goal

abbrev pub invariant-loop-key : goal.invariant-loop-key
invariant-loop-key l = closures (keys_of l.lib.entries) ≡ l.count + closures (map key_of l.key-iterator)
