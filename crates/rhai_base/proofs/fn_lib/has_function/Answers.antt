use Rattle.std.proofs.Common.{◌∙◌}
use Rattle.rhai_base.proofs.KeyLemmas.{found-key}
use Rattle.rhai_base.proofs.fn_lib.has_function.Goals as goal

pub returns : goal.returns
returns c = c.contains_key.ensures ∙ found-key c.args.key.now c.args.lib.now.entries
