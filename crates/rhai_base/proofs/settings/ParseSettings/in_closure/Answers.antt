use Rattle.std.proofs.Common.{rules}
use Rattle.rhai_base.proofs.SettingsLemmas.{closure_flags}
use Rattle.rhai_base.proofs.settings.ParseSettings.in_closure.Goals as goal

pub returns-clause-below : goal.returns-clause-below
returns-clause-below c = closure_flags c.args.self.now.flags.0 _ (search rules)
