use Rattle.std.proofs.Common.{refl, ◌∙◌, ap, Some, arith, reverse, sym, subst, take}
use Rattle.rhai_tokenizer.specs.declared.lexer.Kind.{Kind}
use Rattle.rhai_tokenizer.specs.declared.lexer.Kind.TheVariants as kind
use Rattle.rhai_tokenizer.proofs.FrontLemmas.{IsCut}
use Rattle.rhai_tokenizer.proofs.StepLemmas.{cut_turn, cuts, no_limits, number_piece, some_due}
use Rattle.rhai_tokenizer.specs.Turns.{place_of}
use Rattle.rhai_tokenizer.proofs.usual.number.Goals as goal

pub slice_bounds-text-end : goal.slice_bounds-text-end
slice_bounds-text-end c =
    let old = c.args.reading.now in
    let found = number_piece no_limits old.operand (place_of old) c.args.rest.now c.as_bytes-bytes.result.now _ _
    (some_due old.in_text c.args.rest.now c.requires.quiet.code c.requires.ready.is_due) c.requires.class
    c.as_bytes-bytes.ensures.value c.number_piece-kind.ensures.value in
    sym (cuts _ _ _ _ _ _ _ found c.utf8.rest c.as_bytes-bytes.ensures.value).len

pub integer_token-requires : goal.integer_token-requires
integer_token-requires c =
    let old = c.args.reading.now in
    let found = number_piece no_limits old.operand (place_of old) c.args.rest.now c.as_bytes-bytes.result.now _ _
    (some_due old.in_text c.args.rest.now c.requires.quiet.code c.requires.ready.is_due) c.requires.class
    c.as_bytes-bytes.ensures.value c.number_piece-kind.ensures.value in
    let cut = subst (λ (k : Kind). IsCut no_limits old.operand (place_of old) c.args.rest.now k
    c.number_piece-kind.result.1) c.in-Integer.is found in
    cut.text _ (ap (take c.number_piece-kind.result.1) c.as_bytes-bytes.ensures.value)

pub take-requires-clause-room : goal.take-requires-clause-room
take-requires-clause-room c =
    let old = c.args.reading.now in
    let found = number_piece no_limits old.operand (place_of old) c.args.rest.now c.as_bytes-bytes.result.now _ _
    (some_due old.in_text c.args.rest.now c.requires.quiet.code c.requires.ready.is_due) c.requires.class
    c.as_bytes-bytes.ensures.value c.number_piece-kind.ensures.value in
    let facts = cuts _ _ _ _ _ _ _ found c.utf8.rest c.as_bytes-bytes.ensures.value in
    omega (arith, facts.within, c.requires.ready.room)

pub returns-in_ok-take-in-Integer-clause-turn : goal.returns-in_ok-take-in-Integer-clause-turn
returns-in_ok-take-in-Integer-clause-turn c positive limits =
    let old = c.args.reading.now in
    let t = c.args.rest.now in
    let n = c.number_piece-kind.result.1 in
    let text = take n c.as_bytes-bytes.result.now in
    let found = number_piece limits old.operand (place_of old) t c.as_bytes-bytes.result.now _ _
    (some_due old.in_text t c.requires.quiet.code c.requires.ready.is_due) c.requires.class
    c.as_bytes-bytes.ensures.value
    c.number_piece-kind.ensures.value in
    let cut = subst (λ (k : Kind). IsCut limits old.operand (place_of old) t k n) c.in-Integer.is found in
    let facts = cuts _ _ _ _ _ _ _ found c.utf8.rest c.as_bytes-bytes.ensures.value in
    let taken = c.in_ok-take-in-Integer.ensures in
    cut_turn limits old _ t text kind.Integer n (Some c.in_ok-token-in-Integer.token) c.requires.quiet.code cut
    facts.front (ap Some c.in_ok-token-in-Integer.ensures.value) c.in_ok-token-in-Integer.ensures.delivered
    taken.joined taken.operand
    (record {
      in_text = taken.in_text ∙ c.requires.quiet.code;
      braces = ap (λ x. reverse x.items) taken.braces;
      opens = taken.opens ∙ c.requires.quiet.opens;
    })
    (taken.place text facts.len (cut.plain text facts.front refl)) (taken.hash ∙ c.requires.quiet.hash)
    taken.at taken.placed

pub returns-in_ok-take-in-Integer-clause-quiet : goal.returns-in_ok-take-in-Integer-clause-quiet
returns-in_ok-take-in-Integer-clause-quiet c = let taken = c.in_ok-take-in-Integer.ensures in record {
  code = taken.in_text ∙ c.requires.quiet.code;
  opens = taken.opens ∙ c.requires.quiet.opens;
  hash = taken.hash ∙ c.requires.quiet.hash;
}

pub returns-in_ok-take-in-Integer-clause-none : goal.returns-in_ok-take-in-Integer-clause-none
returns-in_ok-take-in-Integer-clause-none c none = absurd (omega (arith, none, c.number_piece-kind.ensures.some))
