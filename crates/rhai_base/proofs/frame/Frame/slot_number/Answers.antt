use Rattle.std.proofs.Common.{◌≡◌, ◌≤◌, ◌+◌, ◌-◌, length, ap, arith}
use Rattle.std.proofs.lemmas.List.{length-append}
use Rattle.std.specs.Int.NonZero.{non_zero_usize_get}
use Rattle.rhai_base.specs.Frames.{FrameValue, outer_slots}
use Rattle.rhai_base.proofs.DefinitionLemmas.{number_inside}
use Rattle.rhai_base.proofs.FrameLemmas.{place_further, place_here}
use Rattle.rhai_base.proofs.frame.Frame.slot_number.Goals as goal

pub overflow_add-len : goal.overflow_add-len
overflow_add-len c =
    let few = number_inside c.args.name.now c.frame.inside.stack (non_zero_usize_get c.in-Some.place) c.in-Some.ensures in
    let sum = length-append (outer_slots c.frame.inside.outer) c.frame.inside.stack in
    let same = ap (λ (f : FrameValue). length f.live.slots) c.frame.view_is in
    omega (arith, few, sum, same, c.len-len.type_inv, c.get.ensures.value, c.len.ensures, c.loop-place.invariant.fewer)

pub returns-in-Some : goal.returns-in-Some
returns-in-Some c =
    place_here c.new.result c.args.name.now c.args.self.now.live.slots c.loop-place.frame.now.live.slots (outer_slots c.frame.inside.outer) c.frame.inside.stack (c.len-len.result - length c.loop-place.frame.now.live.slots) (non_zero_usize_get c.in-Some.place)
    (ap (λ (f : FrameValue). f.live.slots) c.frame.view_is) c.loop-place.invariant.found c.in-Some.ensures (omega (arith, c.get.ensures.value, c.get.ensures.nonzero))
    (rw (← c.len.ensures, ← c.get.ensures.value) c.new.ensures)

pub loop-place-preserved : goal.loop-place-preserved
loop-place-preserved c =
    let sum = length-append (outer_slots c.frame.inside.outer) c.frame.inside.stack in
    let same = ap (λ (f : FrameValue). length f.live.slots) c.frame.view_is in
    let outer = ap outer_slots c.in-Some-outer.is in
    let count = ap length outer in
    let all = c.loop-place.invariant.fewer in
    let fewer : length c.in-Some-outer.outer.now.live.slots ≤ c.len-len.result = omega (arith, sum, same, count, all) in
    let later : c.len-len.result - length (outer_slots c.frame.inside.outer) ≡ c.len-len.result - length c.loop-place.frame.now.live.slots + length c.frame.inside.stack = omega (arith, sum, same, all) in
    record {
      all = c.len-len.ensures;
      fewer = fewer;
      found = rw (← outer) (place_further c.args.name.now c.args.self.now.live.slots c.loop-place.frame.now.live.slots (outer_slots c.frame.inside.outer) c.frame.inside.stack (c.len-len.result - length c.loop-place.frame.now.live.slots) (c.len-len.result - length (outer_slots c.frame.inside.outer))
          (ap (λ (f : FrameValue). f.live.slots) c.frame.view_is) c.loop-place.invariant.found c.in_default.ensures later);
    }
