-- As many are there as columns were passed.
use Rattle.std.proofs.Common.{◌≡◌, string_bytes}
use Rattle.rhai_report.specs.Printed.{filled}
use Rattle.rhai_report.proofs.visible.push_fill.Given as goal

abbrev pub invariant-loop : goal.invariant-loop
invariant-loop l = string_bytes l.out ≡ filled l.fill l.counter (string_bytes l.initial.out)
