-- The part of the line before the byte is a text, since a character begins at both of its ends.
use Rattle.std.proofs.Common.{◌∙◌, ◌+◌, ◌≤◌, ap, length, min, subst, sym}
use Rattle.std.specs.Prelude.{slice_range}
use Rattle.std.specs.Str.{IsCharBoundary, chars}
use Rattle.rhai_report.specs.declared.line.Line.{Line}
use Rattle.rhai_report.proofs.LineBounds.{line_begins, starts_before}
use Rattle.rhai_report.proofs.TextLemmas.{got}
use Rattle.rhai_report.proofs.mark.mark_at.Goals as goal

pub returns-clause-column : goal.returns-clause-column
returns-clause-column c = λ at.
    let text = c.args.text.now in
    let is = c.line_of-line.ensures in
    let before = got text c.line_of-line.result.start c.args.at c.get.result _ c.get.ensures.cases
    (subst (λ (l : Line). l.start ≤ c.args.at) (sym is) (starts_before text c.args.at at.0))
    (subst (λ (l : Line). IsCharBoundary text l.start) (sym is) (line_begins text c.args.at c.utf8.text at.0)) at in
    c.saturating_add.ensures
    ∙ ap (λ n. min (n + 1) 18446744073709551615)
    (c.characters.ensures ∙ ap (λ t. length (chars t)) (ap (λ b. b.now) c.unwrap_or-before.ensures ∙ before)
    ∙ ap (λ (l : Line). length (chars (slice_range text l.start c.args.at))) is)
