use Rattle.std.proofs.Common.{refl}
use Rattle.rhai_parser.proofs.lending.LentLentReaders.parse_stmt.Goals as goal

pub returns : goal.returns
returns g c = (c.requires.covered.1 _ _ _ _ refl).1 _ _ _ c.stmt.ensures
