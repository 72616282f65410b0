use Rattle.std.proofs.Common.{◌∙◌, ◌++◌, ◌∷◌, [], List, Some, None, ap, arith, IsSome}
use Rattle.std.specs.Option.{is_some}
use Rattle.rhai_lower.specs.Texts.{Text}
use Rattle.rhai_lower.specs.NameIndexes.{Indexes, found_in}
use Rattle.rhai_lower.proofs.NameLemmas.{placed, popped, found_last, not_empty}
use Rattle.rhai_lower.proofs.name_index.NameIndex.pop.Goals as goal

pub returns-in_default : goal.returns-in_default
returns-in_default c = λ (names : List Text) (h : Indexes c.args.self.now (names ++ c.args.name.now ∷ [])).
    let some = not_empty c.args.self.now names c.args.name.now h in
    absurd (omega (arith, some, c.in_default.ensures.cases))

pub returns-in-Some-previous : goal.returns-in-Some-previous
returns-in-Some-previous c = λ (names : List Text) (h : Indexes c.args.self.now (names ++ c.args.name.now ∷ [])).
    let there : IsSome (found_in c.args.self.now.latest c.args.name.now) = ap is_some (found_last c.args.self.now names c.args.name.now h) in
    popped c.args.self.now (record { latest = c.set_place.new.places; previous = c.pop.new.self }) names c.args.name.now (Some c.in-Some-previous.place) h
    (c.in-Some.ensures.items ∙ ap (λ o. c.pop.new.self.items ++ o ∷ []) c.in-Some-previous.is)
    (c.set_place.ensures there)

pub returns-in-None : goal.returns-in-None
returns-in-None c = λ (names : List Text) (h : Indexes c.args.self.now (names ++ c.args.name.now ∷ [])).
    popped c.args.self.now (record { latest = c.swap_remove.new.self; previous = c.pop.new.self }) names c.args.name.now None h
    (c.in-Some.ensures.items ∙ ap (λ o. c.pop.new.self.items ++ o ∷ []) c.in-None.is)
    (placed c.args.self.now.latest c.swap_remove.new.self c.args.name.now None c.swap_remove.ensures.updates)
