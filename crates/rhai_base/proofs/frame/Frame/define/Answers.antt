use Rattle.std.proofs.Common.{◌++◌, map}
use Rattle.std.specs.Rc.{rc_str_bytes}
use Rattle.rhai_base.specs.Frames.{outer_imports, outer_slots}
use Rattle.rhai_base.proofs.FrameLemmas.{defined_live, defined_number}
use Rattle.rhai_base.proofs.frame.Frame.define.Goals as goal

pub returns-clause-number : goal.returns-clause-number
returns-clause-number c = rw (← c.self.view_is) (defined_number c.define.result (outer_slots c.self.inside.outer) c.self.inside.stack c.self.inside.block (rc_str_bytes c.args.name.now) c.define.ensures.number)

pub returns-clause-ok : goal.returns-clause-ok
returns-clause-ok c = rw (← c.self.view_is) (defined_live c.define.result (outer_slots c.self.inside.outer) c.self.inside.block (outer_imports c.self.inside.outer ++ map rc_str_bytes c.self.inside.imports) (rc_str_bytes c.args.name.now) c.args.constant c.self.inside.stack c.define.new.slots c.define.ensures.ok)
