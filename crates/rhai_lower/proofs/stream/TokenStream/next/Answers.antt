use Rattle.std.proofs.Common.{◌∙◌, ap, sym}
use Rattle.rhai_lower.specs.Streams.{next_item, at_rest, later}
use Rattle.rhai_lower.proofs.StreamLemmas.{asked_is_peeked, rest_is_left}
use Rattle.rhai_lower.proofs.stream.TokenStream.next.Goals as goal

pub returns-clause-value : goal.returns-clause-value
returns-clause-value c =
    c.replace.ensures.value
    ∙ sym (asked_is_peeked c.self.inside.head c.self.inside.taken c.self.inside.end c.self.inside.rest.items (ap (λ s. s.peeked) (c.self.view_is ∙ c.ask.ensures)) c.self.invariant)
    ∙ ap next_item (c.self.view_is ∙ c.ask.ensures)

pub returns-clause-after : goal.returns-clause-after
returns-clause-after c =
    sym (ap at_rest (rest_is_left c.self.inside.head c.self.inside.taken c.self.inside.end c.self.inside.rest.items (ap (λ s. s.peeked) (c.self.view_is ∙ c.ask.ensures)) c.self.invariant))
    ∙ ap later (c.self.view_is ∙ c.ask.ensures)
