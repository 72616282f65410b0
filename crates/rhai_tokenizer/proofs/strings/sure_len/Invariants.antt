use Rattle.std.proofs.Common.{◌≡◌, ◌+◌, ◌-◌, ◌≤◌, length, drop}
use Rattle.std.specs.List.{prefix_len}
use Rattle.rhai_tokenizer.specs.CuttingStrings.{is_sure}
use Rattle.rhai_tokenizer.proofs.strings.sure_len.Given as goal

abbrev pub invariant-loop-len : goal.invariant-loop-len
invariant-loop-len l = (l.len + prefix_len (is_sure l.style) (drop l.len l.z) ≡ prefix_len (is_sure l.style) l.z)
    × (l.len ≤ length l.z)

abbrev pub decreases-loop-len : goal.decreases-loop-len
decreases-loop-len l = length l.z - l.len
