use Rattle.std.proofs.Common.{◌∙◌, sym, ap, lit<}
use Rattle.rhai_tokenizer.specs.Bytes.{begins_with}
use Rattle.std.proofs.Common.{[], ◌∷◌}
use Rattle.rhai_tokenizer.proofs.LeafLemmas.{after_mark}
use Rattle.rhai_tokenizer.proofs.front.without_first_line_end.Goals as goal

pub split_at-requires : goal.split_at-requires
split_at-requires c = after_mark 10 c.args.value.now (lit< tt)
    (ap (begins_with (10 ∷ [])) (sym c.as_bytes.ensures.value)
    ∙ (sym c.begins_with.ensures.value ∙ c.if-begins_with.true)) c.utf8.value
