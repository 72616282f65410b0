use Rattle.std.proofs.Common.{rules}
use Rattle.rhai_lower.specs.Nodes.{expression, no_statements, one_statement}
use Rattle.rhai_lower.specs.View.{view}
use Rattle.rhai_lower.proofs.Views.{view_expression}
use Rattle.rhai_base.specs.Libraries.{library_of}
use Rattle.rhai_parser.proofs.PromiseLemmas.{functions_are, made_of}
use Rattle.rhai_parser.proofs.engine.Engine.make_script.Goals as goal

pub returns-clause-script : goal.returns-clause-script
returns-clause-script g c =
    made_of (g.O.Optimizer.makes c.args.optimizer.now) c.args.constants c.args.level
    (one_statement (expression (view c.args.expr)) no_statements) (library_of c.args.lib.now.entries)
    c.in_ok-statements.statements c.in_ok-functions.functions c.optimize.result (search (rules, view_expression))
    (functions_are c.args.lib.now.entries c.in_ok-functions.functions.items (search rules)) c.optimize.ensures.optimized
    c.optimize.ensures.out
