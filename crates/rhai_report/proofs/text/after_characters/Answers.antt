-- Each character that is passed is the first of those that are left.
use Rattle.std.proofs.Common.{◌∙◌, sym}
use Rattle.std.proofs.lemmas.Str.{encodes-chars}
use Rattle.std.specs.Str.{chars}
use Rattle.rhai_report.proofs.TextLemmas.{passed_more}
use Rattle.rhai_report.proofs.text.after_characters.Goals as goal

pub loop-passed-init : goal.loop-passed-init
loop-passed-init c = c.chars-rest.ensures.rest ∙ sym (encodes-chars c.args.text.now c.utf8.text)

pub loop-passed-preserved : goal.loop-passed-preserved
loop-passed-preserved c =
    passed_more (chars c.args.text.now) c.loop-passed.rest c.next.new.self c.loop-passed._passed c.next.result
    c.loop-passed.invariant c.next.ensures.steps.0
