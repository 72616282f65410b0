use Rattle.std.proofs.Common.{refl}
use Rattle.rhai_tokenizer.specs.Bytes.{blanks}
use Rattle.rhai_tokenizer.proofs.blanks.blank_texts.Goals as goal

pub returns : goal.returns
unfolding blanks lib.Utf8.encode
returns c = refl
