-- The calls from each node on, by the answer at it.
use Rattle.std.proofs.Common.{of_calls}
use Rattle.rhai_lower.specs.WalkState.{left}
use Rattle.rhai_lower.proofs.WalkLemmas.{called_on, ended, stopped}
use Rattle.rhai_lower.proofs.ast.AST.walk.Goals as goal

pub returns-then-not-visit : goal.returns-then-not-visit
returns-then-not-visit g c = (
  c.visit.new.self,
  c.loop-walk.invariant.1 _ _
      (stopped (goal.F-step g) (left c.loop-walk.walk) (left c.next.new.self) _ c.in-Some.depth c.in-Some.node
      c.loop-walk.visit
      c.visit.new.self c.visit.result c.in_ok-depth.ensures c.in-Some.is c.visit.ensures c.if-not-visit.true),
)

pub loop-walk-preserved : goal.loop-walk-preserved
loop-walk-preserved g c =
    let always = c.loop-walk.invariant.0 in let met = c.visit.ensures in (
      search of_calls,
      λ all last h.
          c.loop-walk.invariant.1 all last
          (called_on (goal.F-step g) (left c.loop-walk.walk) (left c.next.new.self) _ c.in-Some.depth c.in-Some.node
          c.loop-walk.visit
          c.visit.new.self c.visit.result all last c.in_ok-depth.ensures c.in-Some.is c.visit.ensures
          c.if-not-visit.false h),
    )

pub returns : goal.returns
returns g c = (
  c.loop-walk.visit,
  c.loop-walk.invariant.1 _ _
      (ended (goal.F-step g) (left c.loop-walk.walk) (left c.next.new.self) _ c.loop-walk.visit c.in_ok-depth.ensures
      c.in_default.is),
)
