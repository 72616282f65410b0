use Rattle.std.proofs.Common.{◌∙◌, ap, map, take}
use Rattle.rhai_lower.specs.SlotView.{slot_of}
use Rattle.rhai_lower.proofs.SlotLemmas.{slots-take}
use Rattle.rhai_lower.proofs.scope.Scope.rewind.Goals as goal

pub returns : goal.returns
returns c = ap (map slot_of) c.rewind.ensures ∙ slots-take _ _ ∙ ap (take c.args.len) c.self.view_is
