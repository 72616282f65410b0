use Rattle.std.proofs.Common.{◌∙◌, ap, sym, map}
use Rattle.rhai_grammar.specs.Keys.{has_name, key_of}
use Rattle.rhai_base.proofs.KeyLemmas.{keys-shown}
use Rattle.rhai_base.proofs.fn_lib.is_function_name.Goals as goal

pub loop-key-init : goal.loop-key-init
loop-key-init c =
    ap (has_name c.args.name.now) (keys-shown c.args.lib.now.entries)
    ∙ ap (λ keys. has_name c.args.name.now (map key_of keys)) (sym (c.into_iter-key-iterator.ensures.into_iter_gives ∙ c.keys-key-items.ensures.rest))
