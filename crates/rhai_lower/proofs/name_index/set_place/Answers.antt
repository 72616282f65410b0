use Rattle.std.proofs.Common.{IsSome, Some}
use Rattle.rhai_lower.specs.NameIndexes.{found_in}
use Rattle.rhai_lower.proofs.NameLemmas.{placed}
use Rattle.rhai_lower.proofs.name_index.set_place.Goals as goal

pub returns-in-Some : goal.returns-in-Some
returns-in-Some c = λ (h : IsSome (found_in c.args.places.now c.args.name.now)).
    placed c.args.places.now (c.get_mut.follows.lender c.args.place) c.args.name.now (Some c.args.place) ((c.get_mut.follows.holds c.args.place).3 h)
