use Rattle.std.proofs.Common.{◌≡◌, length}
use Rattle.rhai_tokenizer.specs.Bytes.{begins_raw}
use Rattle.rhai_tokenizer.proofs.lexer.begins_raw.Given as goal

abbrev pub invariant-loop-z : goal.invariant-loop-z
invariant-loop-z l = begins_raw l.z ≡ begins_raw l.initial.z

abbrev pub decreases-loop-z : goal.decreases-loop-z
decreases-loop-z l = length l.z
