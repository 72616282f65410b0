use Rattle.std.proofs.Common.{◌∙◌, ap, is_some}
use Rattle.rhai_lower.proofs.SlotLemmas.{latest-declared}
use Rattle.rhai_lower.proofs.scope.Scope.contains.Goals as goal

pub returns : goal.returns
returns c = c.is_some.ensures ∙ ap is_some c.latest.ensures ∙ latest-declared c.args.name.now c.args.self.now
