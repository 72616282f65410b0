-- The place, the line and the carets are printed one after the other.
use Rattle.std.proofs.lemmas.Result.{on_ok_weaker}
use Rattle.rhai_report.proofs.PrintLemmas.{prints_mark}
use Rattle.rhai_report.proofs.print.push_mark.Goals as goal

pub returns : goal.returns
returns c =
    let look = c.args.look in
    let snippet = c.snippet_of-snippet in
    on_ok_weaker c.push_carets.result
    (prints_mark look.style look.colour.now look.digits c.args.source c.args.mark _ _ _ _ _ _ _ _ snippet.result
    snippet.ensures c.in_ok-push_place.ensures c.in_ok-push_edge.ensures c.in_ok-push_str.ensures.bytes
    c.in_ok-push_edge-2.ensures c.in_ok-push_line.ensures c.in_ok-push_edge-3.ensures) c.push_carets.ensures
