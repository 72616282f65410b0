use Rattle.rhai_grammar.proofs.SlotLemmas.{latest_number}
use Rattle.rhai_base.proofs.lookup.ParseState.find_var.Goals as goal

pub returns-clause-latest : goal.returns-clause-latest
returns-clause-latest c = latest_number c.args.name.now c.args.self.now.stack
