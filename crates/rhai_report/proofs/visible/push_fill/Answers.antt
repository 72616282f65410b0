-- One more is added.
use Rattle.std.proofs.Common.{◌∙◌, ◌++◌, ap, string_bytes}
use Rattle.std.specs.Char.{encode_utf8}
use Rattle.rhai_report.proofs.PrintLemmas.{filled_more}
use Rattle.rhai_report.proofs.visible.push_fill.Goals as goal

pub loop-preserved : goal.loop-preserved
loop-preserved c =
    c.in_ok-push.ensures.bytes ∙ ap (λ bs. bs ++ encode_utf8 c.args.fill) c.loop.invariant
    ∙ filled_more (string_bytes c.args.out.now) c.loop.counter c.args.fill
