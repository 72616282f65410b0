-- So many line feeds are before the byte. Once there are as many as are to be passed, it follows the last of them.
use Rattle.std.proofs.Common.{◌≡◌, ◌≤◌, ◌-◌, length, take}
use Rattle.std.specs.List.{count_by, suffix_len}
use Rattle.rhai_report.specs.Lines.{is_feed, is_inside}
use Rattle.rhai_report.proofs.mark.after_feeds.Given as goal

abbrev pub invariant-loop-passed : goal.invariant-loop-passed
invariant-loop-passed l = record {
  within : l.at ≤ length l.bytes;
  counted : l.passed ≡ count_by is_feed (take l.at l.bytes);
  few : l.passed ≤ l.feeds;
  ends : l.passed ≡ l.feeds → suffix_len is_inside (take l.at l.bytes) ≡ 0;
}

abbrev pub decreases-loop-passed : goal.decreases-loop-passed
decreases-loop-passed l = length l.bytes - l.at
