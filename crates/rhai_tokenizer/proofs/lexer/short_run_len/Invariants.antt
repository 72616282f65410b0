use Rattle.std.proofs.Common.{◌≡◌, ◌+◌, ◌-◌, ◌≤◌, length, drop}
use Rattle.std.specs.List.{prefix_len}
use Rattle.rhai_tokenizer.specs.Cutting.{is_in}
use Rattle.rhai_tokenizer.proofs.lexer.short_run_len.Given as goal

abbrev pub invariant-loop-len : goal.invariant-loop-len
invariant-loop-len l = (l.len + prefix_len (is_in l.class) (drop l.len l.z) ≡ prefix_len (is_in l.class) l.z)
    × (l.len ≤ length l.z)

abbrev pub decreases-loop-len : goal.decreases-loop-len
decreases-loop-len l = length l.z - l.len
