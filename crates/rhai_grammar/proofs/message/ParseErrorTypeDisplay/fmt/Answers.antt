use Rattle.rhai_grammar.proofs.message.ParseErrorTypeDisplay.fmt.Goals as goal

pub returns-in-FnDuplicatedParam-clause-writes : goal.returns-in-FnDuplicatedParam-clause-writes
returns-in-FnDuplicatedParam-clause-writes g c =
    rw c.in-FnDuplicatedParam.is c.write-in-FnDuplicatedParam.ensures.writes

pub returns-in-FnDuplicatedDefinition-clause-writes :
    goal.returns-in-FnDuplicatedDefinition-clause-writes
returns-in-FnDuplicatedDefinition-clause-writes g c =
    rw c.in-FnDuplicatedDefinition.is c.write-in-FnDuplicatedDefinition.ensures.writes

pub returns-in-LiteralTooLarge-clause-writes : goal.returns-in-LiteralTooLarge-clause-writes
returns-in-LiteralTooLarge-clause-writes g c = rw c.in-LiteralTooLarge.is c.write-in-LiteralTooLarge.ensures.writes
