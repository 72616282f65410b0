use Rattle.std.proofs.Common.{◌≡◌, ◌+◌, ap, arith, min, sym, ◌∙◌}
use Rattle.rhai_tokenizer.specs.CuttingMeanings.{columns}
use Rattle.rhai_tokenizer.specs.Places.{at_line}
use Rattle.rhai_tokenizer.proofs.LeafLemmas.{columns_run}
use Rattle.rhai_tokenizer.proofs.place.past.Goals as goal

pub returns : goal.returns
returns c =
    let p = c.args.place in
    let t = c.args.text.now in
    let same : c.min.result ≡ min 65535 (p.column + columns t) = omega (arith, c.min.ensures, c.columns.ensures.value) in
    ap (at_line p.line) same ∙ sym (columns_run t p.line p.column
    (sym c.has_feed.ensures ∙ c.if-has_feed.false) (omega arith))
