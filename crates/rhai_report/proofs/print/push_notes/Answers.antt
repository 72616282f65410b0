-- One more note is printed.
use Rattle.std.proofs.Common.{string_bytes}
use Rattle.rhai_report.proofs.PrintLemmas.{notes_more}
use Rattle.rhai_report.proofs.print.push_notes.Goals as goal

pub loop-note-preserved : goal.loop-note-preserved
loop-note-preserved c =
    let look = c.args.look in
    notes_more look.style look.colour.now look.digits c.args.source c.args.notes.now c.loop-note.note-index
    c.note-item.result (string_bytes c.args.out.now) (string_bytes c.loop-note.out) (string_bytes c.push_note.new.out)
    c.loop-note-test.true c.note-item.is c.loop-note.invariant c.in_ok-push_note.ensures
