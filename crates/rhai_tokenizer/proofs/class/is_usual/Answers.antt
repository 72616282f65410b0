use Rattle.std.proofs.Common.{◌<◌, ◌==◌, ◌∙◌, ap, arith, get_or, sym}
use Rattle.std.proofs.lemmas.Bool.{not-true}
use Rattle.rhai_tokenizer.proofs.ClassLemmas.{usual_byte}
use Rattle.rhai_tokenizer.proofs.class.is_usual.Goals as goal

pub returns : goal.returns
returns c e = let h : c.args.b < 256 = omega arith in
    usual_byte c.args.b h (ap (λ x. get_or x c.args.b 0 == 0) (sym c.bytes.ensures.value)
    ∙ not-true (get_or c.bytes.result.now c.args.b 0 == 0) e)
