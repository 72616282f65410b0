use Rattle.std.proofs.Common.{◌<◌, arith}
use Rattle.rhai_tokenizer.proofs.ClassLemmas.{word_byte}
use Rattle.rhai_tokenizer.proofs.class.is_word.Goals as goal

pub returns : goal.returns
returns c = let h : c.args.b < 256 = omega arith in rw c.bytes.ensures.value (word_byte c.args.b h)
