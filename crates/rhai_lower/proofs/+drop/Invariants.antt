use Rattle.std.proofs.Common.{◌≤◌}
use Rattle.rhai_lower.proofs.expr.FnCallExpr.TheLaws.{the_size}
use Rattle.rhai_lower.proofs.expr.BinaryExpr.TheLaws as binary
use Rattle.rhai_lower.proofs.+drop.Given as goal

abbrev pub invariant-expr::FnCallExpr::drop-loop-args : goal.invariant-expr::FnCallExpr::drop-loop-args
invariant-expr::FnCallExpr::drop-loop-args l = the_size l.self ≤ the_size l.initial.self

abbrev pub invariant-expr::BinaryExpr::drop-loop-self : goal.invariant-expr::BinaryExpr::drop-loop-self
invariant-expr::BinaryExpr::drop-loop-self l = binary.the_size l.self ≤ binary.the_size l.initial.self
