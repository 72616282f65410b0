use Rattle.std.proofs.Common.{rules}
use Rattle.rhai_base.proofs.SettingsLemmas.{below_flags}
use Rattle.rhai_base.proofs.settings.ParseSettings.below_global_level.Goals as goal

pub returns-clause-below : goal.returns-clause-below
returns-clause-below c = below_flags c.args.self.now.flags.0 _ (search rules)
