use Rattle.rhai_base.proofs.ImportLemmas.{module-place}
use Rattle.rhai_base.proofs.lookup.import_place.Goals as goal

pub returns : goal.returns
returns c = module-place c.new.result c.args.name.now c.args.imports.now c.len.result c.in_ok-index.index c.new.ensures c.len.ensures c.in_ok-index.ensures
