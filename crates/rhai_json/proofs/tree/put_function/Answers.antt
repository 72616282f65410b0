-- Nothing is left to be written before the body.
use Rattle.rhai_json.proofs.tree.put_function.Goals as goal

pub put-requires : goal.put-requires
put-requires c = c.requires
