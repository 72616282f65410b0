use Rattle.std.proofs.Common.{refl, ◌∙◌, ap, Some, arith, sym, subst, take}
use Rattle.rhai_tokenizer.specs.declared.lexer.Kind.{Kind}
use Rattle.rhai_tokenizer.specs.declared.lexer.Kind.TheVariants as kind
use Rattle.rhai_tokenizer.specs.declared.table.Meaning.TheVariants.{Plain}
use Rattle.rhai_tokenizer.proofs.FrontLemmas.{IsCut}
use Rattle.rhai_tokenizer.proofs.StepLemmas.{cut_turn, cuts, sign_piece, some_due, symbol_braces}
use Rattle.rhai_tokenizer.specs.Turns.{place_of}
use Rattle.rhai_tokenizer.proofs.turn.symbol.Goals as goal

pub slice_bounds-text-end : goal.slice_bounds-text-end
slice_bounds-text-end c =
    let old = c.args.reading.now in
    let found = sign_piece c.args.limits old.operand (place_of old) c.args.rest.now c.as_bytes-bytes.result.now _ _
    (some_due old.in_text c.args.rest.now c.requires.quiet.code c.requires.ready.is_due) c.requires.class
    c.as_bytes-bytes.ensures.value c.sign-kind.ensures in
    sym (cuts _ _ _ _ _ _ _ found c.utf8.rest c.as_bytes-bytes.ensures.value).len

pub take-requires-clause-room : goal.take-requires-clause-room
take-requires-clause-room c =
    let old = c.args.reading.now in
    let found = sign_piece c.args.limits old.operand (place_of old) c.args.rest.now c.as_bytes-bytes.result.now _ _
    (some_due old.in_text c.args.rest.now c.requires.quiet.code c.requires.ready.is_due) c.requires.class
    c.as_bytes-bytes.ensures.value c.sign-kind.ensures in
    let facts = cuts _ _ _ _ _ _ _ found c.utf8.rest c.as_bytes-bytes.ensures.value in
    omega (arith, facts.within, c.requires.ready.room)

pub returns-in_ok-reading-in-Some : goal.returns-in_ok-reading-in-Some
returns-in_ok-reading-in-Some c =
    let old = c.args.reading.now in
    let t = c.args.rest.now in
    let n = c.sign-kind.result.1 in
    let text = take n c.as_bytes-bytes.result.now in
    let found = sign_piece c.args.limits old.operand (place_of old) t c.as_bytes-bytes.result.now _ _
    (some_due old.in_text t c.requires.quiet.code c.requires.ready.is_due) c.requires.class
    c.as_bytes-bytes.ensures.value
    c.sign-kind.ensures in
    let cut = subst (λ (k : Kind). IsCut c.args.limits old.operand (place_of old) t k n) c.in-Some.ensures found in
    let facts = cuts _ _ _ _ _ _ _ found c.utf8.rest c.as_bytes-bytes.ensures.value in
    let taken = c.in_ok-take-in-Some.ensures in
    cut_turn c.args.limits old _ t text (kind.Symbol (Plain c.in-Some.fixed)) n
    (Some c.fixed_symbol-token.result) c.requires.quiet.code cut facts.front (ap Some
    c.fixed_symbol-token.ensures.value)
    c.fixed_symbol-token.ensures.delivered taken.joined taken.operand
    (symbol_braces old c.take.new.reading _ c.symbol_brace.result text taken.braces c.requires.quiet.opens
    c.symbol_brace.ensures c.in_ok-reading-in-Some.ensures.text c.in_ok-reading-in-Some.ensures.braces
    (taken.opens ∙ c.requires.quiet.opens))
    (taken.place text facts.len (cut.plain text facts.front refl)) (taken.hash ∙ c.requires.quiet.hash) taken.at
    taken.placed
