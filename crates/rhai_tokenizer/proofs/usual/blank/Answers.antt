use Rattle.std.proofs.Common.{refl, ◌∙◌, ◌+◌, ap, None, take, false}
use Rattle.rhai_tokenizer.specs.declared.lexer.Kind.TheVariants as kind
use Rattle.rhai_tokenizer.specs.Places.{past}
use Rattle.rhai_tokenizer.specs.Turns.{place_of}
use Rattle.rhai_tokenizer.proofs.StepLemmas.{blank_cut, cut_turn, joins_none, some_due}
use Rattle.rhai_tokenizer.proofs.usual.blank.Goals as goal

pub returns-clause-turn : goal.returns-clause-turn
returns-clause-turn c limits =
    let old = c.args.reading.now in
    let t = c.args.rest.now in
    let n = c.blanks_in-len.result in
    let quiet = c.requires.quiet in
    let cut = blank_cut limits old.operand (place_of old) t c.as_bytes.result.now n
    (some_due old.in_text t quiet.code c.requires.ready.is_due) c.requires.class c.as_bytes.ensures.value
    c.blanks_in-len.ensures.value in
    cut_turn limits old _ t (take n t) kind.Blank n None quiet.code cut refl refl tt
    (joins_none old.out false old.at (old.at + n)) refl
    (record { in_text = quiet.code; braces = refl; opens = quiet.opens })
    (c.blanks_in-len.ensures.place ∙ ap (λ x. past (place_of old) (take n x)) c.as_bytes.ensures.value) quiet.hash refl
    c.blanks_in-len.ensures.placed
