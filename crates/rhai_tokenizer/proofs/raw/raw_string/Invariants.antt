use Rattle.std.proofs.Common.{◌≡◌, ◌++◌, ◌-◌, ◌≤◌, take, drop, length}
use Rattle.rhai_tokenizer.specs.Cutting.{raw_closed, raw_text}
use Rattle.rhai_tokenizer.proofs.raw.raw_string.Given as goal

abbrev pub invariant-loop-len : goal.invariant-loop-len
invariant-loop-len l = record {
  texts : raw_text l.hashes l.body ≡ take l.len l.body ++ raw_text l.hashes (drop l.len l.body);
  closes : raw_closed l.hashes l.body ≡ raw_closed l.hashes (drop l.len l.body);
  within : l.len ≤ length l.body;
}

abbrev pub decreases-loop-len : goal.decreases-loop-len
decreases-loop-len l = length l.body - l.len
