use Rattle.std.proofs.Common.{refl, ◌∙◌}
use Rattle.rhai_tokenizer.proofs.TurnLemmas.{joins_reserved, operand_same}
use Rattle.rhai_tokenizer.proofs.reading.push.Goals as goal

pub returns-clause-after : goal.returns-clause-after
returns-clause-after c = c.operand_after-next.ensures ∙ operand_same c.args.operand c.args.token

pub returns-clause-joined : goal.returns-clause-joined
returns-clause-joined c =
    joins_reserved c.args.out.now _ c.args.place c.args.in_text c.args.span.start c.args.span.stop c.args.token _ _ _
    c.in_ok-reserve.ensures.items c.in_ok-reserve-2.ensures.items refl c.position-pos.ensures refl
    c.requires.delivered c.push_reserved.ensures.items c.push_reserved-2.ensures.items
