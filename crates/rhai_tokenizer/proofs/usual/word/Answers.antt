use Rattle.std.proofs.Common.{◌≡◌, refl, ◌∙◌, ap, Option, Some, reverse, subst, true}
use Rattle.std.specs.Prelude.{IfSome}
use Rattle.rhai_lower.specs.Entries.{token_may_be_delivered}
use Rattle.rhai_lower.specs.Lexemes.{lexeme}
use Rattle.rhai_lower.specs.declared.token.Token.{Token}
use Rattle.rhai_tokenizer.specs.Symbols.{word_lexeme}
use Rattle.rhai_tokenizer.proofs.StepLemmas.{cut_turn, no_limits, some_due, word_cut}
use Rattle.rhai_tokenizer.specs.Turns.{place_of}
use Rattle.rhai_tokenizer.proofs.usual.word.Goals as goal

pub split_at-requires : goal.split_at-requires
split_at-requires c =
    (word_cut c.args.reading.now.operand (place_of c.args.reading.now) c.args.rest.now c.as_bytes.result.now
    c.run_len-len.result (some_due c.args.reading.now.in_text c.args.rest.now c.requires.quiet.code
    c.requires.ready.is_due)
    c.requires.class c.as_bytes.ensures.value c.run_len-len.ensures.value no_limits).boundary c.utf8.rest

pub usual_word-requires : goal.usual_word-requires
usual_word-requires c =
    (word_cut c.args.reading.now.operand (place_of c.args.reading.now) c.args.rest.now c.as_bytes.result.now
    c.run_len-len.result (some_due c.args.reading.now.in_text c.args.rest.now c.requires.quiet.code
    c.requires.ready.is_due)
    c.requires.class c.as_bytes.ensures.value c.run_len-len.ensures.value no_limits).text _ c.split_at.ensures.front

pub returns-in_ok-take-in-Some-clause-turn : goal.returns-in_ok-take-in-Some-clause-turn
returns-in_ok-take-in-Some-clause-turn c limits =
    let cut = word_cut c.args.reading.now.operand (place_of c.args.reading.now) c.args.rest.now c.as_bytes.result.now
    c.run_len-len.result (some_due c.args.reading.now.in_text c.args.rest.now c.requires.quiet.code
    c.requires.ready.is_due)
    c.requires.class c.as_bytes.ensures.value c.run_len-len.ensures.value in
    let text = c.split_at.result.0.now in
    let value : lexeme c.in-Some.token ≡ word_lexeme text =
    subst (λ (o : Option Token). IfSome o (λ t. lexeme t ≡ word_lexeme text)) c.in-Some.is
    c.in_ok-token.ensures.value in
    let delivered : token_may_be_delivered c.in-Some.token ≡ true =
    subst (λ (o : Option Token). IfSome o (λ t. token_may_be_delivered t ≡ true)) c.in-Some.is
    c.in_ok-token.ensures.delivered in
    cut_turn limits c.args.reading.now _ c.args.rest.now c.split_at.result.0.now _ _ (Some c.in-Some.token)
    c.requires.quiet.code (cut limits) c.split_at.ensures.front (ap Some value)
    delivered c.in_ok-take-in-Some.ensures.joined c.in_ok-take-in-Some.ensures.operand
    (record {
      in_text = c.in_ok-take-in-Some.ensures.in_text ∙ c.requires.quiet.code;
      braces = ap (λ x. reverse x.items) c.in_ok-take-in-Some.ensures.braces;
      opens = c.in_ok-take-in-Some.ensures.opens ∙ c.requires.quiet.opens;
    })
    (c.in_ok-take-in-Some.ensures.place c.split_at.result.0.now c.split_at.ensures.front_len
    ((cut limits).plain _ c.split_at.ensures.front refl))
    (c.in_ok-take-in-Some.ensures.hash ∙ c.requires.quiet.hash) c.in_ok-take-in-Some.ensures.at
    c.in_ok-take-in-Some.ensures.placed
