use Rattle.std.proofs.Common.{[], ◌+◌, ◌∙◌, ap, sym, subst, take, ℕ}
use Rattle.std.specs.Str.{IsCharBoundary}
use Rattle.rhai_lower.specs.Texts.{Text}
use Rattle.rhai_tokenizer.specs.Places.{past}
use Rattle.rhai_tokenizer.specs.RawTurns.{IsRaw}
use Rattle.rhai_tokenizer.proofs.FrontLemmas.{raw_cuts, raw_is, raw_size}
use Rattle.rhai_tokenizer.proofs.front.raw.Goals as goal

pub split_at-requires : goal.split_at-requires
split_at-requires c =
    let is = subst (λ (t : Text). IsRaw t c.raw_string-raw.result) c.as_bytes.ensures.value c.raw_string-raw.ensures in
    (raw_cuts c.args.rest.now c.raw_string-raw.result c.requires.hash c.requires.raw is).opening c.utf8.rest

pub split_at-requires-2 : goal.split_at-requires-2
split_at-requires-2 c =
    let is = subst (λ (t : Text). IsRaw t c.raw_string-raw.result) c.as_bytes.ensures.value c.raw_string-raw.ensures in
    subst (λ (t : Text). IsCharBoundary t c.raw_string-raw.result.len) (sym c.split_at.ensures.back)
    (raw_cuts c.args.rest.now c.raw_string-raw.result c.requires.hash c.requires.raw is).value

pub split_at-requires-3 : goal.split_at-requires-3
split_at-requires-3 c =
    let is = subst (λ (t : Text). IsRaw t c.raw_string-raw.result) c.as_bytes.ensures.value c.raw_string-raw.ensures in
    subst (λ (k : ℕ). IsCharBoundary c.args.rest.now
    ((c.raw_string-raw.result.hashes + 1) + c.raw_string-raw.result.len + k)) (sym c.closing_len-closing.ensures)
    ((raw_cuts c.args.rest.now c.raw_string-raw.result c.requires.hash c.requires.raw is).whole c.utf8.rest)

pub returns : goal.returns
returns c o =
    let is = subst (λ (t : Text). IsRaw t c.raw_string-raw.result) c.as_bytes.ensures.value c.raw_string-raw.ensures in
    let size = ap (λ k. c.raw_string-raw.result.hashes + 1 + c.raw_string-raw.result.len + k)
    c.closing_len-closing.ensures ∙ sym (raw_size o c.args.rest.now c.raw_string-raw.result [] c.requires.hash
    c.requires.raw is) in
    raw_is c.args.limits o c.args.place _ c.args.rest.now _ c.split_at-3.result.0.now c.raw_string-raw.result _
    c.in_ok-token.token c.requires.hash c.requires.raw is
    (c.split_at-2.ensures.front ∙ ap (take c.raw_string-raw.result.len) c.split_at.ensures.back)
    c.in_ok-token.ensures.value c.in_ok-token.ensures.delivered size c.split_at-3.ensures.front
    (c.past.ensures ∙ ap (past c.args.place) c.as_bytes-2.ensures.value)
