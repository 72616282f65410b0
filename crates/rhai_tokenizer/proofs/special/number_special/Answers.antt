use Rattle.rhai_tokenizer.proofs.EscapeLemmas.{number_coded}
use Rattle.rhai_tokenizer.proofs.special.number_special.Goals as goal

pub returns-then-k-n : goal.returns-then-k-n
returns-then-k-n c = number_coded c.args.n c.hex_len-k.result c.args.rest.now _ _ c.coded.ensures
    c.split_at.ensures.front c.hex_len-k.ensures.value c.if-k-n.true
