-- One more note is printed, or passed.
use Rattle.std.proofs.Common.{◌≡◌, ◌∙◌, ap, rules, string_bytes}
use Rattle.rhai_report.specs.Printed.{remark_of}
use Rattle.rhai_report.proofs.PrintLemmas.{remarks_more}
use Rattle.rhai_report.proofs.print.push_remarks.Goals as goal
use Rattle.rhai_report.proofs.print.push_remarks.Goals.{else-is_none, then-is_none+in_ok-push_remark}

pub loop-note-preserved : goal.loop-note-preserved
loop-note-preserved c =
    let s = c.args.look.style in
    let digits = c.args.look.digits in
    let n = c.note-item.result in
    let next : string_bytes c.if-is_none.out
    ≡ remark_of s digits n.mark (string_bytes n.text) (string_bytes c.loop-note.out) =
    elim c.if-is_none.branch [ then-is_none+in_ok-push_remark w ↦ search rules | else-is_none w ↦ search rules ] in
    next ∙ ap (remark_of s digits n.mark (string_bytes n.text)) c.loop-note.invariant
    ∙ remarks_more s digits c.args.notes.now c.loop-note.note-index n (string_bytes c.args.out.now)
    c.loop-note-test.true c.note-item.is
