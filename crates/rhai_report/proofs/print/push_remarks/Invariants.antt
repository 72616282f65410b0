-- The notes so far are printed.
use Rattle.std.proofs.Common.{◌≡◌, string_bytes, take}
use Rattle.rhai_report.specs.Printed.{remarks}
use Rattle.rhai_report.proofs.print.push_remarks.Given as goal

abbrev pub invariant-loop-note : goal.invariant-loop-note
invariant-loop-note l =
    string_bytes l.out ≡ remarks l.look.style l.look.digits (take l.note-index l.notes) (string_bytes l.initial.out)
