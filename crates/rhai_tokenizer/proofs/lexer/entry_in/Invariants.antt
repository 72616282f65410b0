use Rattle.std.proofs.Common.{◌≡◌, length, map}
use Rattle.rhai_tokenizer.specs.Cutting.{cut_entry}
use Rattle.rhai_tokenizer.specs.Tables.{entry_of}
use Rattle.rhai_tokenizer.proofs.lexer.entry_in.Given as goal

abbrev pub invariant-loop-table : goal.invariant-loop-table
invariant-loop-table l = cut_entry (entry_of (map (λ s. (s.0.now, s.1)) l.table) l.z)
    ≡ cut_entry (entry_of (map (λ s. (s.0.now, s.1)) l.initial.table) l.z)

abbrev pub decreases-loop-table : goal.decreases-loop-table
decreases-loop-table l = length l.table
