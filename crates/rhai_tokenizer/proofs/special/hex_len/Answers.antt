use Rattle.rhai_tokenizer.proofs.LeafLemmas.{few_digits}
use Rattle.rhai_tokenizer.proofs.special.hex_len.Goals as goal

pub returns-clause-value : goal.returns-clause-value
returns-clause-value c = few_digits c.args.n c.run_len.result c.min.result c.args.z.now c.min.ensures
    c.run_len.ensures.value
