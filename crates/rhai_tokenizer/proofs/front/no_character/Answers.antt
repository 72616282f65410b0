use Rattle.std.proofs.Common.{[], ◌∷◌, refl}
use Rattle.rhai_tokenizer.proofs.FrontLemmas.{none_is}
use Rattle.rhai_tokenizer.proofs.front.no_character.Goals as goal

pub returns : goal.returns
returns c o = none_is c.args.limits o c.args.place c.past_plain.result c.args.rest.now c.in_ok-token.token c.requires
    c.in_ok-token.ensures.value c.in_ok-token.ensures.delivered (c.past_plain.ensures (39 ∷ 39 ∷ []) refl refl)
