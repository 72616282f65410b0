-- The notes so far are printed.
use Rattle.std.proofs.Common.{string_bytes, take}
use Rattle.rhai_report.specs.Printed.{PrintsNotes}
use Rattle.rhai_report.proofs.print.push_notes.Given as goal

abbrev pub invariant-loop-note : goal.invariant-loop-note
invariant-loop-note l =
    PrintsNotes l.look.style l.look.colour.now l.look.digits l.source (take l.note-index l.notes)
    (string_bytes l.initial.out) (string_bytes l.out)
