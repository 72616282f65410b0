use Rattle.std.proofs.Common.{◌≡◌, ◌+◌, ◌∙◌, ap, arith, drop, length}
use Rattle.std.proofs.lemmas.List.{length-drop, take_rest}
use Rattle.std.specs.List.{prefix_len}
use Rattle.rhai_tokenizer.specs.Cutting.{is_in}
use Rattle.rhai_tokenizer.proofs.FourLemmas.{four}
use Rattle.rhai_tokenizer.proofs.lexer.run_len.Goals as goal

pub loop-rest-preserved : goal.loop-rest-preserved
loop-rest-preserved c =
    let p = is_in c.args.class in
    let t = c.loop-rest.rest.now in
    let f = four p t c.run_of_four-n.result c.in-len4-up.len_at_least c.run_of_four-n.ensures in
    let e = f.goes_on c.if-n-lt4.false in
    let value : (c.loop-rest.len + 4) + prefix_len p (drop 4 t) ≡ prefix_len p c.args.z.now =
    omega (arith, e, c.loop-rest.invariant.0) in
    let size : (c.loop-rest.len + 4) + length (drop 4 t) ≡ length c.args.z.now =
    omega (arith, length-drop 4 t, c.in-len4-up.len_at_least, c.loop-rest.invariant.1) in (
      ap (λ x. (c.loop-rest.len + 4) + prefix_len p x) (take_rest t 4) ∙ value,
      ap (λ x. (c.loop-rest.len + 4) + length x) (take_rest t 4) ∙ size,
    )

pub returns-then-n-lt4-clause-value : goal.returns-then-n-lt4-clause-value
returns-then-n-lt4-clause-value c =
    let f = four (is_in c.args.class) c.loop-rest.rest.now c.run_of_four-n.result c.in-len4-up.len_at_least
    c.run_of_four-n.ensures in
    ap (λ x. c.loop-rest.len + x) (f.ends c.if-n-lt4.true) ∙ c.loop-rest.invariant.0
