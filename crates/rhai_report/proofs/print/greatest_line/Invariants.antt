-- It is the greatest of the mark and the notes so far.
use Rattle.std.proofs.Common.{◌≡◌, fold, max, take}
use Rattle.rhai_report.specs.Printed.{line_shown}
use Rattle.rhai_report.proofs.print.greatest_line.Given as goal

abbrev pub invariant-loop-note : goal.invariant-loop-note
invariant-loop-note l =
    l.greatest ≡ fold (λ n note. max n (line_shown note.mark)) (line_shown l.report.mark)
    (take l.note-index l.report.notes.items)
