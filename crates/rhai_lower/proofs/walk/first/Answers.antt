-- Nothing is left where no part is; otherwise there is room for what stands after the first node.
use Rattle.std.proofs.Common.{◌∙◌, ap, arith}
use Rattle.std.proofs.lemmas.List.{nil_from_length}
use Rattle.rhai_lower.specs.WalkState.{pending_walk}
use Rattle.rhai_lower.proofs.WalkLemmas.{first_taken, nothing_left, succeeded}
use Rattle.rhai_lower.proofs.walk.first.Goals as goal

pub returns-in_default : goal.returns-in_default
returns-in_default c =
    let e = c.in_default.ensures.cases in let k = c.args.pending.now.ok.0 in let m = c.pop.new.self.ok.0 in (
      ap pending_walk (nil_from_length _ (omega (arith, e.0, k))) ∙ nothing_left,
      ap pending_walk (nil_from_length _ (omega (arith, e.1, m))) ∙ nothing_left,
    )

pub returns : goal.returns
returns c =
    let e = c.in-Some.ensures.cases in let k = c.in-Some.ensures.capacity in let m = c.args.pending.now.ok.1 in
    first_taken c.args.pending.now.items c.pop.new.self.items c.put.new.pending.items c.in-Some.due _ c.split.result.1
    c.in-Some.ensures.items (c.split.ensures c.in-Some.due.depth)
    (succeeded c.put.result _ (c.put.ensures.room (omega (arith, e, k, m))) c.put.ensures.ok)
