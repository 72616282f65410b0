use Rattle.std.proofs.Common.{arith}
use Rattle.rhai_tokenizer.proofs.LeafLemmas.{past_full, past_within}
use Rattle.rhai_tokenizer.proofs.place.past_plain.Goals as goal

pub returns-then-len-room : goal.returns-then-len-room
returns-then-len-room c t size plain = past_within c.args.place t c.args.len (omega arith) size plain (omega arith)

pub returns-else-len-room : goal.returns-else-len-room
returns-else-len-room c t size plain = past_full c.args.place t c.args.len (omega arith) size plain (omega arith)
