use Rattle.std.proofs.Common.{◌++◌, map}
use Rattle.std.specs.Rc.{rc_str_bytes}
use Rattle.rhai_base.specs.Frames.{outer_imports, outer_slots}
use Rattle.rhai_base.proofs.FrameLemmas.{exported_live}
use Rattle.rhai_base.proofs.frame.Frame.export.Goals as goal

pub returns-clause-ok : goal.returns-clause-ok
returns-clause-ok c = rw (← c.self.view_is) (exported_live c.export.result (outer_slots c.self.inside.outer) c.self.inside.block (outer_imports c.self.inside.outer ++ map rc_str_bytes c.self.inside.imports) (rc_str_bytes c.args.name.now) (rc_str_bytes c.args.alias.now) c.self.inside.stack c.export.new.slots c.export.ensures.ok)
