use Rattle.std.proofs.Common.{◌≡◌, ◌+◌, length}
use Rattle.std.specs.List.{prefix_len}
use Rattle.rhai_tokenizer.specs.Cutting.{is_in}
use Rattle.rhai_tokenizer.proofs.lexer.run_len.Given as goal

abbrev pub invariant-loop-rest : goal.invariant-loop-rest
invariant-loop-rest l = (l.len + prefix_len (is_in l.class) l.rest ≡ prefix_len (is_in l.class) l.z)
    × (l.len + length l.rest ≡ length l.z)

abbrev pub decreases-loop-rest : goal.decreases-loop-rest
decreases-loop-rest l = length l.rest
