use Rattle.std.proofs.Common.{◌≡◌, ap, ◌∙◌, Some, refl, reverse, take, arith}
use Rattle.rhai_lower.specs.Lexemes.{lexeme}
use Rattle.rhai_tokenizer.specs.CuttingMeanings.{cut_symbol}
use Rattle.rhai_tokenizer.specs.declared.lexer.Kind.TheVariants as kind
use Rattle.rhai_tokenizer.specs.declared.table.Meaning.TheVariants.{Plain}
use Rattle.rhai_tokenizer.proofs.StepLemmas.{cuts, pair_braces, pair_means, pair_piece, cut_turn, no_limits, some_due}
use Rattle.rhai_tokenizer.specs.Turns.{place_of}
use Rattle.rhai_tokenizer.proofs.usual.pair.Goals as goal

pub take-requires-clause-room : goal.take-requires-clause-room
take-requires-clause-room c =
    let old = c.args.reading.now in
    let t = c.args.rest.now in
    let cut = pair_piece no_limits old.operand (place_of old) t c.args.fixed
    (some_due old.in_text t c.requires.quiet.code c.requires.ready.is_due) c.requires.pair in
    let facts = cuts _ _ _ _ t _ _ cut c.utf8.rest refl in
    omega (arith, facts.within, c.requires.ready.room)

pub returns-clause-turn : goal.returns-clause-turn
returns-clause-turn c limits =
    let old = c.args.reading.now in
    let t = c.args.rest.now in
    let quiet = c.requires.quiet in
    let some = some_due old.in_text t quiet.code c.requires.ready.is_due in
    let cut = pair_piece limits old.operand (place_of old) t c.args.fixed some c.requires.pair in
    let facts = cuts _ _ _ _ t _ _ cut c.utf8.rest refl in
    let taken = c.in_ok-take.ensures in
    let means : lexeme c.fixed_token.result ≡ cut_symbol old.operand (Plain c.args.fixed) (take 2 t) =
    ap lexeme c.fixed_token.ensures.value ∙ pair_means old.operand c.args.fixed t some c.requires.pair in
    cut_turn limits old _ t (take 2 t) (kind.Symbol (Plain c.args.fixed)) 2 (Some c.fixed_token.result) quiet.code cut
    refl (ap Some means) c.fixed_token.ensures.delivered taken.joined taken.operand
    (pair_braces old _ t c.args.fixed some c.requires.pair (taken.in_text ∙ quiet.code)
    (ap (λ x. reverse x.items) taken.braces) (taken.opens ∙ quiet.opens))
    (taken.place (take 2 t) facts.len (cut.plain (take 2 t) refl refl)) (taken.hash ∙ quiet.hash) taken.at taken.placed
