-- Each part is what was asked for.
use Rattle.std.proofs.Common.{◌≡◌, max, min, refl, rules}
use Rattle.rhai_report.proofs.SnippetLemmas.{whole_parts}
use Rattle.rhai_report.proofs.snippet.whole.Goals as goal

pub returns : goal.returns
returns c = λ a b.
    let m = c.args.mark in
    let stop : c.max-stop.result ≡ max (min m.stop c.shown_end-end.result) m.start = search rules in
    whole_parts c.args.text.now m c.line_of-line.result c.shown_end-end.result c.max-stop.result c.get.result
    c.get-2.result c.get-3.result _ _ _ _ c.utf8.text c.line_of-line.ensures c.shown_end-end.ensures stop
    c.get.ensures.cases c.get-2.ensures.cases c.get-3.ensures.cases refl refl refl c.unwrap_or.ensures
    c.unwrap_or-2.ensures c.unwrap_or-3.ensures refl refl a b
