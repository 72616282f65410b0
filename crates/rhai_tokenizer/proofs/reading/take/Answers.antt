use Rattle.rhai_tokenizer.proofs.LeafLemmas.{plain_in}
use Rattle.rhai_tokenizer.proofs.reading.take.Goals as goal

pub returns-clause-place : goal.returns-clause-place
returns-clause-place c t size plain =
    plain_in c.args.reading.now.line c.args.reading.now.at c.args.len t c.requires.place size plain
