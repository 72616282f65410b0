use Rattle.std.proofs.Common.{◌∙◌, arith}
use Rattle.rhai_tokenizer.proofs.StringTurnLemmas.{rest_utf8, spaces_end, spaces_turn, space_boundary}
use Rattle.rhai_tokenizer.proofs.strings.spaces_past.Goals as goal

pub returns-then-n-eq0 : goal.returns-then-n-eq0
returns-then-n-eq0 c =
    spaces_end c.args.column c.args.place c.loop-rest.here c.args.z.now c.loop-rest.rest.now _ _ _ c.loop-rest.at
    c.space_len-n.result c.space_len-n.ensures.value c.as_bytes.ensures.value c.if-n-eq0.true
    c.loop-rest.invariant.values c.loop-rest.invariant.lens c.loop-rest.invariant.within

pub split_at-requires : goal.split_at-requires
split_at-requires c = space_boundary c.loop-rest.rest.now _ c.space_len-n.result c.space_len-n.ensures.value
    c.as_bytes.ensures.value c.if-n-eq0.false c.loop-rest.invariant.utf8

pub loop-rest-preserved : goal.loop-rest-preserved
loop-rest-preserved c =
    let k = spaces_turn c.args.column c.loop-rest.here c.past-here.result c.loop-rest.rest.now _
    c.split_at.result.0.now _ c.split_at.result.1.now _ _ c.space_len-n.result c.space_len-n.ensures.value
    c.as_bytes.ensures.value c.if-n-eq0.false
    c.split_at.ensures.front c.split_at.ensures.back (c.in_ok-keep_past.ensures {u = tt})
    c.as_bytes-in-loop-rest.ensures.value c.past-here.ensures in
    record {
      values = k.values ∙ c.loop-rest.invariant.values;
      lens = omega (arith, k.lens, c.loop-rest.invariant.lens);
      within = omega (arith, c.split_at.ensures.front_len, c.split_at.ensures.back_len, c.loop-rest.invariant.within);
      utf8 = rest_utf8 c.loop-rest.rest.now c.split_at.result.1.now c.space_len-n.result c.loop-rest.invariant.utf8
          (space_boundary c.loop-rest.rest.now _ c.space_len-n.result c.space_len-n.ensures.value
          c.as_bytes.ensures.value c.if-n-eq0.false c.loop-rest.invariant.utf8) c.split_at.ensures.back;
    }
