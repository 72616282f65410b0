use Rattle.std.proofs.Common.{rules}
use Rattle.rhai_lower.specs.Lexemes.{lexeme}
use Rattle.rhai_lower.specs.View.{view}
use Rattle.rhai_grammar.specs.Causes.{refusal_of}
use Rattle.rhai_trees.proofs.OperatorLemmas.{answers_tree, result_refused}
use Rattle.rhai_trees.proofs.operator.make_tested.Goals as goal

pub returns-in-Ok-clause-answers : goal.returns-in-Ok-clause-answers
returns-in-Ok-clause-answers c =
    answers_tree (lexeme c.args.op_token) c.args.pos (view c.args.lhs) (view c.args.rhs) c.join_operands.result (search rules) c.join_operands.ensures.tree c.join_operands.ensures.nowhere

pub returns-in-Err-clause-answers : goal.returns-in-Err-clause-answers
returns-in-Err-clause-answers c = λ told.
    result_refused (lexeme c.args.op_token) c.args.pos (view c.args.lhs) (view c.args.rhs) (refusal_of c.in-Err.error) (c.in-Err.ensures.refuses told)
