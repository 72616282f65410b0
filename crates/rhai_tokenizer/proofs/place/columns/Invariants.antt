use Rattle.std.proofs.Common.{◌≡◌, ◌+◌, ◌≤◌, drop}
use Rattle.rhai_tokenizer.specs.CuttingMeanings.{columns}
use Rattle.rhai_tokenizer.proofs.place.columns.Given as goal

abbrev pub invariant-loop-byte : goal.invariant-loop-byte
invariant-loop-byte l = (l.count + columns (drop l.byte-index l.text) ≡ columns l.text) × (l.count ≤ l.byte-index)
