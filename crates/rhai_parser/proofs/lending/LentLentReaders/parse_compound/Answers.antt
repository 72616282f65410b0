use Rattle.std.proofs.Common.{refl}
use Rattle.rhai_parser.proofs.lending.LentLentReaders.parse_compound.Goals as goal

pub returns : goal.returns
returns g c = (c.requires.covered.4 _ _ _ _ c.requires.compound refl).1 _ _ c.compound.ensures
