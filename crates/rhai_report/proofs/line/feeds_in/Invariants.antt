-- So many line feeds are in the front.
use Rattle.std.proofs.Common.{◌≡◌, ◌≤◌, take}
use Rattle.std.specs.List.{count_by}
use Rattle.rhai_report.specs.Lines.{is_feed}
use Rattle.rhai_report.proofs.line.feeds_in.Given as goal

abbrev pub invariant-loop-byte : goal.invariant-loop-byte
invariant-loop-byte l = (l.feeds ≤ l.byte-index) × (l.feeds ≡ count_by is_feed (take l.byte-index l.bytes))
