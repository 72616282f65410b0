use Rattle.std.proofs.Common.{◌∙◌, ap, sym}
use Rattle.rhai_lower.specs.LatestNames.{latest_name}
use Rattle.rhai_lower.specs.Slots.{latest}
use Rattle.rhai_lower.proofs.SlotLemmas.{names-seen}
use Rattle.rhai_lower.proofs.scope.Scope.latest.Goals as goal

pub returns : goal.returns
returns c =
    c.latest.ensures
    ∙ ap (latest_name c.args.name.now) (sym (names-seen c.self.inside.slots))
    ∙ ap (latest c.args.name.now) c.self.view_is
