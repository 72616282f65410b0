-- No bracket that is opened in what was passed is open, and so many tokens there close brackets that were opened
-- before.
use Rattle.std.proofs.Common.{◌≡◌, map, ◌+◌, ◌≤◌, length, drop, None}
use Rattle.rhai_report.specs.Brackets.{closed_before, innermost, token_of}
use Rattle.rhai_report.proofs.brackets.innermost_open.Given as goal

abbrev pub invariant-loop-at : goal.invariant-loop-at
invariant-loop-at l = record {
  room : l.closed + l.at ≤ length l.entries;
  closed : l.closed ≡ closed_before (map token_of (drop l.at l.entries));
  open_none : innermost (map token_of (drop l.at l.entries)) ≡ None;
}

abbrev pub decreases-loop-at : goal.decreases-loop-at
decreases-loop-at l = l.at
