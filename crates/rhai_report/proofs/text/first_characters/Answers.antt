-- The text is cut where what is after the first characters begins.
use Rattle.std.proofs.Common.{◌∙◌, ap}
use Rattle.rhai_report.proofs.TextLemmas.{cut_front}
use Rattle.rhai_report.proofs.text.first_characters.Goals as goal

pub returns : goal.returns
returns c =
    ap (λ b. b.now) c.unwrap_or.ensures
    ∙ cut_front c.args.text.now c.after_characters-after.result.now c.args.count c.saturating_sub-end.result
    c.get.result c.args.text c.utf8.text c.after_characters-after.utf8 c.after_characters-after.ensures c.saturating_sub-end.ensures
    c.get.ensures.cases
