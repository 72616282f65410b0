use Rattle.std.proofs.Common.{ap, sym, ◌∙◌, lit<, reverse, take}
use Rattle.std.proofs.lemmas.List.{take_rest}
use Rattle.rhai_lower.specs.Lexemes.{String}
use Rattle.rhai_tokenizer.specs.Meanings.{within}
use Rattle.rhai_tokenizer.proofs.LeafLemmas.{after_mark}
use Rattle.rhai_tokenizer.proofs.StepLemmas.{some_due}
use Rattle.rhai_tokenizer.proofs.TextLemmas.{closes, quote, text_turn}
use Rattle.rhai_tokenizer.proofs.turn.text_piece.Goals as goal

pub split_at-requires : goal.split_at-requires
split_at-requires c = after_mark 34 c.args.rest.now (lit< tt)
    (quote c.args.rest.now (some_due c.args.reading.now.in_text c.args.rest.now c.requires.quiet.code
    c.requires.ready.is_due) c.requires.class) c.utf8.rest

pub returns : goal.returns
returns c =
    let old = c.args.reading.now in
    let z = c.as_bytes-bytes.result.now in
    let closed = closes z _ c.run_len-n.result c.run_len-n.ensures.value
    (take_rest z c.run_len-n.result)
    (sym c.ends_string.ensures ∙ c.if-not-ends_string.false) in
    let taken = c.in_ok-take.ensures in
    text_turn c.args.limits old _ c.args.rest.now z c.run_len-n.result c.in_ok-token.token c.requires.quiet.code
    (some_due old.in_text c.args.rest.now c.requires.quiet.code c.requires.ready.is_due) c.requires.class
    (c.as_bytes-bytes.ensures.value ∙ c.split_at.ensures.back) closed
    (c.in_ok-token.ensures.value ∙ ap (within c.args.limits (λ x. String x)) (c.split_at-2.ensures.front
    ∙ ap (take c.run_len-n.result) (sym c.as_bytes-bytes.ensures.value))) c.in_ok-token.ensures.delivered taken.joined
    taken.operand (taken.in_text ∙ c.requires.quiet.code) (ap (λ x. reverse x.items) taken.braces)
    (taken.opens ∙ c.requires.quiet.opens) taken.place (taken.hash ∙ c.requires.quiet.hash) taken.at taken.placed
