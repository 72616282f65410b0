use Rattle.std.proofs.Common.{refl}
use Rattle.rhai_parser.proofs.lending.LentLentReaders.parse_chain.Goals as goal

pub returns : goal.returns
returns g c = (c.requires.covered.0 _ _ _ _ refl).1 _ _ c.chain.ensures
