use Rattle.std.proofs.Common.{◌≡◌, map, subst, take, arith}
use Rattle.rhai_lower.specs.NameIndexes.{Indexes}
use Rattle.rhai_lower.proofs.named_list.drop_names.Goals as goal

pub returns : goal.returns
returns g c =
    let all : c.loop-i.i ≡ c.args.len = omega (arith, c.loop-i.invariant.above) in
    subst (λ i. Indexes c.loop-i.index (map g.T.HasName.text (take i c.args.items.now))) all c.loop-i.invariant.indexed
