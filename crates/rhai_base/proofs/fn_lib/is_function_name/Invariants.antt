use Rattle.std.proofs.Common.{◌≡◌, map}
use Rattle.rhai_grammar.specs.Keys.{key_of, keys_of, has_name}
use Rattle.rhai_base.proofs.fn_lib.is_function_name.Given as goal

abbrev pub invariant-loop-key : goal.invariant-loop-key
invariant-loop-key l = has_name l.name (keys_of l.lib.entries) ≡ has_name l.name (map key_of l.key-iterator)
