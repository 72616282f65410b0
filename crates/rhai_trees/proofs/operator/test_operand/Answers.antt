use Rattle.std.proofs.Common.{rules}
use Rattle.rhai_lower.specs.Lexemes.{lexeme}
use Rattle.rhai_lower.specs.View.{view}
use Rattle.rhai_trees.proofs.OperatorLemmas.{misfit}
use Rattle.rhai_trees.proofs.operator.test_operand.Goals as goal

pub returns-in-List-And-clause-refuses : goal.returns-in-List-And-clause-refuses
returns-in-List-And-clause-refuses c = misfit (lexeme c.args.op_token.now) (view c.args.operand.now) c.test_guard.result (search rules) c.test_guard.ensures.refused
