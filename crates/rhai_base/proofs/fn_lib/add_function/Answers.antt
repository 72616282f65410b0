use Rattle.std.proofs.Common.{◌∙◌}
use Rattle.indexmap.proofs.CallerLemmas.{insert_entry-new}
use Rattle.rhai_base.proofs.KeyLemmas.{equal_keys, found-key, absent}
use Rattle.rhai_base.proofs.fn_lib.add_function.Goals as goal

pub returns-clause-ok : goal.returns-clause-ok
returns-clause-ok c =
    let new = absent _ (found-key c.args.key c.args.lib.now.entries ∙ c.requires) in
    c.in_ok-insert.ensures.entries ∙ insert_entry-new equal_keys c.args.lib.now c.args.key c.args.function new
