use Rattle.std.proofs.Common.{◌∙◌}
use Rattle.rhai_base.proofs.LiteralLemmas.{among_keys}
use Rattle.rhai_base.proofs.literals.has_key.Goals as goal

pub returns : goal.returns
returns c = c.has_name.ensures ∙ among_keys c.args.key.now c.args.properties.now
