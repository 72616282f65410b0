use Rattle.std.proofs.Common.{◌≡◌, ap, ◌∙◌, Some, sym, refl, reverse, take, arith}
use Rattle.rhai_lower.specs.Lexemes.{lexeme}
use Rattle.rhai_tokenizer.specs.CuttingMeanings.{cut_symbol}
use Rattle.rhai_tokenizer.specs.declared.lexer.Kind.TheVariants as kind
use Rattle.rhai_tokenizer.specs.declared.table.Meaning.TheVariants.{Plain}
use Rattle.rhai_tokenizer.proofs.StepLemmas.{cuts, lone_braces, lone_piece, cut_turn, no_limits, no_sign, some_due}
use Rattle.rhai_tokenizer.specs.Turns.{place_of}
use Rattle.rhai_tokenizer.proofs.usual.lone.Goals as goal

pub take-requires-clause-room : goal.take-requires-clause-room
take-requires-clause-room c =
    let old = c.args.reading.now in
    let t = c.args.rest.now in
    let cut = lone_piece no_limits old.operand (place_of old) t c.args.fixed
    (some_due old.in_text t c.requires.quiet.code c.requires.ready.is_due) c.requires.alone in
    let facts = cuts _ _ _ _ t _ _ cut c.utf8.rest refl in
    omega (arith, facts.within, c.requires.ready.room)

pub returns-clause-turn : goal.returns-clause-turn
returns-clause-turn c limits =
    let old = c.args.reading.now in
    let t = c.args.rest.now in
    let quiet = c.requires.quiet in
    let some = some_due old.in_text t quiet.code c.requires.ready.is_due in
    let cut = lone_piece limits old.operand (place_of old) t c.args.fixed some c.requires.alone in
    let facts = cuts _ _ _ _ t _ _ cut c.utf8.rest refl in
    let taken = c.in_ok-take.ensures in
    let means : lexeme c.fixed_token.result ≡ cut_symbol old.operand (Plain c.args.fixed) (take 1 t) =
    ap lexeme c.fixed_token.ensures.value ∙ sym (no_sign old.operand (Plain c.args.fixed) t some
    c.requires.alone.sign) in
    cut_turn limits old _ t (take 1 t) (kind.Symbol (Plain c.args.fixed)) 1 (Some c.fixed_token.result) quiet.code cut
    refl (ap Some means) c.fixed_token.ensures.delivered taken.joined taken.operand
    (lone_braces old _ t some c.requires.brace (taken.in_text ∙ quiet.code)
    (ap (λ x. reverse x.items) taken.braces) (taken.opens ∙ quiet.opens))
    (taken.place (take 1 t) facts.len (cut.plain (take 1 t) refl refl)) (taken.hash ∙ quiet.hash) taken.at taken.placed
