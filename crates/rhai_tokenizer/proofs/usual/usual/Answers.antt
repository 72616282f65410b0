use Rattle.std.proofs.Common.{◌∙◌, ap, arith, drop, subst, sym}
use Rattle.std.proofs.lemmas.List.{take_rest}
use Rattle.std.specs.Prelude.{slice_index}
use Rattle.rhai_lower.specs.Texts.{Text}
use Rattle.rhai_tokenizer.specs.Bytes.{begins}
use Rattle.rhai_tokenizer.specs.CuttingMeanings.{IsPair}
use Rattle.rhai_tokenizer.specs.Cutting.{is_second, lead_of}
use Rattle.rhai_tokenizer.proofs.LeadLemmas.{blank_lead, brace_begins, brace_lead, closer_alone, digit_lead, end_begins, end_lead, fixed_in, keeps_braces, sign_alone, word_lead}
use Rattle.rhai_tokenizer.proofs.usual.usual.Goals as goal

pub word-requires-clause-class : goal.word-requires-clause-class
word-requires-clause-class c = word_lead (slice_index c.args.rest.now 0) (sym c.in-Word.is ∙ (c.lead_of.ensures
    ∙ ap (λ t. lead_of (slice_index t 0)) c.as_bytes-bytes.ensures.value))

pub blank-requires-clause-class : goal.blank-requires-clause-class
blank-requires-clause-class c = blank_lead (slice_index c.args.rest.now 0) (sym c.in-Blank.is ∙ (c.lead_of.ensures
    ∙ ap (λ t. lead_of (slice_index t 0)) c.as_bytes-bytes.ensures.value))

pub brace-requires-clause-brace : goal.brace-requires-clause-brace
brace-requires-clause-brace c = brace_begins c.args.rest.now (brace_lead (slice_index c.args.rest.now 0)
    (sym c.in-Brace.is ∙ (c.lead_of.ensures
    ∙ ap (λ t. lead_of (slice_index t 0)) c.as_bytes-bytes.ensures.value)))

pub number-requires-clause-class : goal.number-requires-clause-class
number-requires-clause-class c = digit_lead (slice_index c.args.rest.now 0) (sym c.in-Digit.is ∙ (c.lead_of.ensures
    ∙ ap (λ t. lead_of (slice_index t 0)) c.as_bytes-bytes.ensures.value))

pub end-requires-clause-brace : goal.end-requires-clause-brace
end-requires-clause-brace c = end_begins c.args.rest.now (end_lead (slice_index c.args.rest.now 0)
    (sym c.in-End.is ∙ (c.lead_of.ensures ∙ ap (λ t. lead_of (slice_index t 0)) c.as_bytes-bytes.ensures.value)))

pub returns-in_default-clause-turn : goal.returns-in_default-clause-turn
returns-in_default-clause-turn c limits = c.in_ok-len-in-Digit.ensures.turn (omega (arith, c.in_default)) limits

pub lone-requires-clause-alone : goal.lone-requires-clause-alone
lone-requires-clause-alone c = closer_alone (slice_index c.args.rest.now 0) (drop 1 c.args.rest.now) c.in-Closer.fixed
    (sym c.in-Closer.is ∙ (c.lead_of.ensures ∙ ap (λ t. lead_of (slice_index t 0)) c.as_bytes-bytes.ensures.value))

pub lone-requires-clause-brace : goal.lone-requires-clause-brace
lone-requires-clause-brace c = keeps_braces (slice_index c.args.rest.now 0) c.in-Closer.fixed (ap fixed_in
    (sym c.in-Closer.is ∙ (c.lead_of.ensures ∙ ap (λ t. lead_of (slice_index t 0)) c.as_bytes-bytes.ensures.value)))

pub lone-requires-in-Sign-clause-alone : goal.lone-requires-in-Sign-clause-alone
lone-requires-in-Sign-clause-alone c =
    let z = c.as_bytes-bytes.result.now in
    sign_alone (slice_index c.args.rest.now 0) (drop 1 c.args.rest.now) c.in-Sign.fixed
    (ap (λ t. begins is_second (drop 1 t)) (sym c.as_bytes-bytes.ensures.value)
    ∙ (ap (begins is_second) (sym (take_rest z 1)) ∙ (sym c.begins.ensures.value ∙ c.if-not-begins.true)))
    (sym c.in-Sign.is ∙ (c.lead_of.ensures ∙ ap (λ t. lead_of (slice_index t 0)) c.as_bytes-bytes.ensures.value))

pub lone-requires-in-Sign-clause-brace : goal.lone-requires-in-Sign-clause-brace
lone-requires-in-Sign-clause-brace c = keeps_braces (slice_index c.args.rest.now 0) c.in-Sign.fixed (ap fixed_in
    (sym c.in-Sign.is ∙ (c.lead_of.ensures ∙ ap (λ t. lead_of (slice_index t 0)) c.as_bytes-bytes.ensures.value)))

pub pair-requires-clause-pair : goal.pair-requires-clause-pair
pair-requires-clause-pair c =
    let z = c.as_bytes-bytes.result.now in
    let at : IsPair (slice_index z 0) (drop 1 z) c.in-Some.fixed =
    subst (λ (u : Text). IsPair (slice_index z 0) u c.in-Some.fixed) (take_rest z 1) c.in-Some.ensures in
    subst (λ (t : Text). IsPair (slice_index t 0) (drop 1 t) c.in-Some.fixed) c.as_bytes-bytes.ensures.value at
