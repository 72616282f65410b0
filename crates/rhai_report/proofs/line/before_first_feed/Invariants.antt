-- What is before the first line feed of the whole is what was passed, and what is before that of the rest.
use Rattle.std.proofs.Common.{◌≡◌, ◌≤◌, ◌+◌, ◌-◌, length, drop}
use Rattle.std.specs.List.{prefix_len}
use Rattle.rhai_report.specs.Lines.{is_inside}
use Rattle.rhai_report.proofs.line.before_first_feed.Given as goal

abbrev pub invariant-loop-stop : goal.invariant-loop-stop
invariant-loop-stop l = (l.stop ≤ length l.bytes)
    × (prefix_len is_inside l.bytes ≡ l.stop + prefix_len is_inside (drop l.stop l.bytes))

abbrev pub decreases-loop-stop : goal.decreases-loop-stop
decreases-loop-stop l = length l.bytes - l.stop
