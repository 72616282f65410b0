use Rattle.std.proofs.Common.{ap, ◌∙◌, arith}
use Rattle.std.proofs.lemmas.List.{take_rest}
use Rattle.std.specs.List.{prefix_len}
use Rattle.rhai_tokenizer.specs.Bytes.{is_continuation}
use Rattle.rhai_tokenizer.proofs.LeafLemmas.{character_more, character_one}
use Rattle.rhai_tokenizer.proofs.special.character_len.Goals as goal

pub returns-then-b-lt128-clause-value : goal.returns-then-b-lt128-clause-value
returns-then-b-lt128-clause-value c = character_one c.args.z.now (omega arith) (omega arith)

pub returns-else-b-lt128-clause-value : goal.returns-else-b-lt128-clause-value
returns-else-b-lt128-clause-value c = character_more c.args.z.now c.run_len.result (omega arith) (omega arith)
    (c.run_len.ensures.value ∙ ap (prefix_len is_continuation) (take_rest c.args.z.now 1))
