use Rattle.std.proofs.Common.{length, refl}
use Rattle.rhai_base.proofs.ImportLemmas.{module-place}
use Rattle.rhai_base.proofs.lookup.find_import.Goals as goal

pub returns : goal.returns
returns c = module-place c.new.result c.args.name.now c.args.imports.now (length c.args.imports.now) c.in_ok-index.index c.new.ensures refl c.in_ok-index.ensures
