use Rattle.rhai_tokenizer.specs.declared.table.Fixed.TheVariants as fixed
use Rattle.rhai_tokenizer.proofs.LeadLemmas.{arrow_pair, colon_pair, pair_is, unit_pair}
use Rattle.rhai_tokenizer.proofs.lexer.pair_of.Goals as goal

pub returns-then-second-eq58 : goal.returns-then-second-eq58
returns-then-second-eq58 c t h = pair_is c.args.first c.args.second 58 58 fixed.DoubleColon t c.if-first-eq58.true
    c.if-second-eq58.true (colon_pair t h)

pub returns-then-second-eq41 : goal.returns-then-second-eq41
returns-then-second-eq41 c t h = pair_is c.args.first c.args.second 40 41 fixed.Unit t c.if-first-eq40.true
    c.if-second-eq41.true (unit_pair t)

pub returns-then-second-eq62 : goal.returns-then-second-eq62
returns-then-second-eq62 c t h = pair_is c.args.first c.args.second 61 62 fixed.DoubleArrow t c.if-first-eq61.true
    c.if-second-eq62.true (arrow_pair t)
