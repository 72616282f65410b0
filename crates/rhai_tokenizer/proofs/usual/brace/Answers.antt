use Rattle.std.proofs.Common.{◌≡◌, ap, ◌∙◌, Some, sym, refl, take, arith}
use Rattle.rhai_lower.specs.Lexemes.{lexeme}
use Rattle.rhai_lower.specs.declared.token.Token.TheVariants as token
use Rattle.rhai_tokenizer.specs.CuttingMeanings.{cut_symbol}
use Rattle.rhai_tokenizer.specs.declared.braces.Brace.TheVariants as brace
use Rattle.rhai_tokenizer.specs.declared.lexer.Kind.TheVariants as kind
use Rattle.rhai_tokenizer.specs.declared.table.Fixed.TheVariants as fixed
use Rattle.rhai_tokenizer.specs.declared.table.Meaning.TheVariants.{Plain}
use Rattle.rhai_tokenizer.proofs.StepLemmas.{cuts, cut_turn, lone_piece, no_limits, no_sign, opening, symbol_braces}
use Rattle.rhai_tokenizer.specs.Turns.{place_of}
use Rattle.rhai_tokenizer.proofs.usual.brace.Goals as goal

pub take-requires-clause-room : goal.take-requires-clause-room
take-requires-clause-room c =
    let old = c.args.reading.now in
    let t = c.args.rest.now in
    let front = opening t c.requires.brace in
    let cut = lone_piece no_limits old.operand (place_of old) t fixed.LeftBrace front.some front.alone in
    let facts = cuts _ _ _ _ t _ _ cut c.utf8.rest refl in
    omega (arith, facts.within, c.requires.ready.room)

pub returns-clause-turn : goal.returns-clause-turn
returns-clause-turn c limits =
    let old = c.args.reading.now in
    let t = c.args.rest.now in
    let quiet = c.requires.quiet in
    let front = opening t c.requires.brace in
    let cut = lone_piece limits old.operand (place_of old) t fixed.LeftBrace front.some front.alone in
    let facts = cuts _ _ _ _ t _ _ cut c.utf8.rest refl in
    let taken = c.in_ok-take.ensures in
    let means : lexeme token.LeftBrace ≡ cut_symbol old.operand (Plain fixed.LeftBrace) (take 1 t) =
    sym (no_sign old.operand (Plain fixed.LeftBrace) t front.some front.alone.sign) in
    cut_turn limits old _ t (take 1 t) (kind.Symbol (Plain fixed.LeftBrace)) 1 (Some token.LeftBrace) quiet.code cut
    refl (ap Some means) refl taken.joined taken.operand
    (symbol_braces old c.take.new.reading _ brace.Opens (take 1 t) taken.braces quiet.opens front.opens
    c.in_ok-reading.ensures.text c.in_ok-reading.ensures.braces (taken.opens ∙ quiet.opens))
    (taken.place (take 1 t) facts.len (cut.plain (take 1 t) refl refl)) (taken.hash ∙ quiet.hash) taken.at taken.placed
