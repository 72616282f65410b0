-- The mark of the token's bytes.
use Rattle.rhai_report.proofs.MarkLemmas.{marked}
use Rattle.rhai_report.proofs.report.mark_of_token.Goals as goal

pub returns : goal.returns
returns c =
    let got = c.in_ok-span.ensures.lookup in
    marked c.args.source c.args.tokens.now c.args.index c.deref.result.now c.in_ok-span.field-0.now _ c.mark_of.result
    c.deref.ensures.value got.3.0 got.1 c.token_at.ensures c.mark_of.ensures
