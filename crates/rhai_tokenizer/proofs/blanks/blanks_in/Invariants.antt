use Rattle.std.proofs.Common.{◌≡◌, ◌+◌, ◌-◌, ◌≤◌, length, drop, take}
use Rattle.std.specs.List.{concat}
use Rattle.rhai_tokenizer.specs.Bytes.{blanks}
use Rattle.rhai_tokenizer.specs.Places.{past}
use Rattle.rhai_tokenizer.specs.Runs.{run_from}
use Rattle.rhai_tokenizer.specs.Turns.{IsIn, place_in}
use Rattle.rhai_tokenizer.proofs.blanks.blanks_in.Given as goal

abbrev pub invariant-loop-at : goal.invariant-loop-at
invariant-loop-at l = (l.len + length (concat (run_from blanks 0 (drop l.len l.z)))
    ≡ length (concat (run_from blanks 0 l.z))) × (l.len ≤ length l.z) × (place_in l.line (l.at + l.len)
    ≡ past (place_in l.fn.line l.at) (take l.len l.z)) × IsIn l.line (l.at + l.len)

abbrev pub decreases-loop-at : goal.decreases-loop-at
decreases-loop-at l = length l.z - l.len
