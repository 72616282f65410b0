use Rattle.std.proofs.Common.{◌≡◌, ◌-◌, ◌∙◌, ap, sym, arith, length, take, drop, ◌∷◌, true, false}
use Rattle.std.proofs.lemmas.List.{take_rest}
use Rattle.rhai_lower.specs.Texts.{Text}
use Rattle.rhai_tokenizer.specs.Bytes.{begins_with}
use Rattle.rhai_tokenizer.proofs.RawLemmas.{raw_ends, raw_found, raw_goes, raw_known, raw_stops}
use Rattle.rhai_tokenizer.proofs.raw.raw_string.Goals as goal

pub slice_bounds-body-count : goal.slice_bounds-body-count
slice_bounds-body-count c =
    let k = raw_known c.args.z.now c.run_len-hashes.result c.requires.hash c.requires.raw
    c.run_len-hashes.ensures.value in
    omega (arith, k.room, c.split_at.ensures.back_len)

pub slice_bounds-body-start : goal.slice_bounds-body-start
slice_bounds-body-start c =
    let k = raw_known c.args.z.now c.run_len-hashes.result c.requires.hash c.requires.raw
    c.run_len-hashes.ensures.value in
    omega (arith, k.room, c.split_at.ensures.back_len)

pub returns-then-ends : goal.returns-then-ends
returns-then-ends c =
    let k = raw_known c.args.z.now c.run_len-hashes.result c.requires.hash c.requires.raw
    c.run_len-hashes.ensures.value in
    let body : Text = take (length c.split_at.result.1.now - 1) (drop 1 c.split_at.result.1.now) in
    let e : begins_with (34 ∷ c.split_at.result.0.now) (drop c.loop-len.len body)
    ≡ true = ap (begins_with (34 ∷ c.split_at.result.0.now)) (sym (take_rest body c.loop-len.len))
    ∙ (sym c.ends.ensures ∙ c.if-ends.true) in
    let f = raw_found c.args.z.now c.split_at.result.1.now body c.run_len-hashes.result c.loop-len.len true k
    c.split_at.ensures.back (take_rest c.split_at.result.1.now 1)
    (raw_stops c.run_len-hashes.result c.split_at.result.0.now body c.loop-len.len (c.split_at.ensures.front
    ∙ k.marks) e c.loop-len.invariant.texts c.loop-len.invariant.closes) c.loop-len.invariant.within in
    record { is = f.0; within = f.1; some = k.some }

pub loop-len-preserved : goal.loop-len-preserved
loop-len-preserved c =
    let k = raw_known c.args.z.now c.run_len-hashes.result c.requires.hash c.requires.raw
    c.run_len-hashes.ensures.value in
    let body : Text = take (length c.split_at.result.1.now - 1) (drop 1 c.split_at.result.1.now) in
    let e : begins_with (34 ∷ c.split_at.result.0.now) (drop c.loop-len.len body)
    ≡ false = ap (begins_with (34 ∷ c.split_at.result.0.now)) (sym (take_rest body c.loop-len.len))
    ∙ (sym c.ends.ensures ∙ c.if-ends.false) in
    let g = raw_goes c.run_len-hashes.result c.split_at.result.0.now body c.loop-len.len (c.split_at.ensures.front
    ∙ k.marks) c.loop-len-test.true e c.loop-len.invariant.texts c.loop-len.invariant.closes in
    record { texts = g.0; closes = g.1; within = omega (arith, c.loop-len-test.true) }

pub returns : goal.returns
returns c =
    let k = raw_known c.args.z.now c.run_len-hashes.result c.requires.hash c.requires.raw
    c.run_len-hashes.ensures.value in
    let body : Text = take (length c.split_at.result.1.now - 1) (drop 1 c.split_at.result.1.now) in
    let f = raw_found c.args.z.now c.split_at.result.1.now body c.run_len-hashes.result c.loop-len.len false k
    c.split_at.ensures.back (take_rest c.split_at.result.1.now 1)
    (raw_ends c.run_len-hashes.result body c.loop-len.len c.loop-len-test.false c.loop-len.invariant.within
    c.loop-len.invariant.texts c.loop-len.invariant.closes) c.loop-len.invariant.within in
    record { is = f.0; within = f.1; some = k.some }
