-- A long line is cut.
use Rattle.std.proofs.Common.{◌∙◌, sym}
use Rattle.rhai_report.proofs.SnippetLemmas.{shows_cut}
use Rattle.rhai_report.proofs.snippet.snippet_of.Goals as goal

pub returns-then-is_long : goal.returns-then-is_long
returns-then-is_long c = λ a b.
    shows_cut _ _ _ c.whole-snippet.result c.cut.result (c.whole-snippet.ensures a b)
    (sym c.is_long.ensures ∙ c.if-is_long.true) c.cut.ensures
