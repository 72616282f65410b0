-- What is after the last line feed of the whole is what is after that of the front, and all from `start` on.
use Rattle.std.proofs.Common.{◌≡◌, ◌≤◌, ◌+◌, length, take}
use Rattle.std.specs.List.{suffix_len}
use Rattle.rhai_report.specs.Lines.{is_inside}
use Rattle.rhai_report.proofs.line.after_last_feed.Given as goal

abbrev pub invariant-loop-start : goal.invariant-loop-start
invariant-loop-start l = (l.start ≤ length l.bytes)
    × (l.start + suffix_len is_inside l.bytes ≡ length l.bytes + suffix_len is_inside (take l.start l.bytes))

abbrev pub decreases-loop-start : goal.decreases-loop-start
decreases-loop-start l = l.start
