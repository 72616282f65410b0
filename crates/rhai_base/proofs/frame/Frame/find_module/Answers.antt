use Rattle.std.proofs.Common.{◌≡◌, ◌≤◌, ◌+◌, ◌-◌, length, map, ap, arith}
use Rattle.std.proofs.lemmas.List.{length-append}
use Rattle.std.specs.Int.NonZero.{non_zero_usize_get}
use Rattle.std.specs.Rc.{rc_str_bytes}
use Rattle.rhai_base.specs.Frames.{FrameValue, outer_imports}
use Rattle.rhai_base.proofs.ImportLemmas.{import_further, import_here, module_inside}
use Rattle.rhai_base.proofs.frame.Frame.find_module.Goals as goal

pub overflow_add-count : goal.overflow_add-count
overflow_add-count c =
    let own = map rc_str_bytes c.frame.inside.imports in
    let few = module_inside c.args.name.now own (non_zero_usize_get c.in-Some.place) c.in-Some.ensures in
    let sum = length-append (outer_imports c.frame.inside.outer) own in
    let same = ap (λ (f : FrameValue). length f.live.imports) c.frame.view_is in
    omega (arith, few, sum, same, c.import_count-count.type_inv, c.get.ensures.value, c.import_count.ensures, c.loop-place.invariant.fewer)

pub returns-in-Some : goal.returns-in-Some
returns-in-Some c =
    import_here c.new.result c.args.name.now c.args.self.now.live.imports c.loop-place.frame.now.live.imports (outer_imports c.frame.inside.outer) (map rc_str_bytes c.frame.inside.imports) (c.import_count-count.result - length c.loop-place.frame.now.live.imports) (non_zero_usize_get c.in-Some.place)
    (ap (λ (f : FrameValue). f.live.imports) c.frame.view_is) c.loop-place.invariant.found c.in-Some.ensures (omega (arith, c.get.ensures.value, c.get.ensures.nonzero))
    (rw (← c.import_count.ensures, ← c.get.ensures.value) c.new.ensures)

pub loop-place-preserved : goal.loop-place-preserved
loop-place-preserved c =
    let own = map rc_str_bytes c.frame.inside.imports in
    let sum = length-append (outer_imports c.frame.inside.outer) own in
    let same = ap (λ (f : FrameValue). length f.live.imports) c.frame.view_is in
    let outer = ap outer_imports c.in-Some-outer.is in
    let count = ap length outer in
    let all = c.loop-place.invariant.fewer in
    let fewer : length c.in-Some-outer.outer.now.live.imports ≤ c.import_count-count.result = omega (arith, sum, same, count, all) in
    let later : c.import_count-count.result - length (outer_imports c.frame.inside.outer) ≡ c.import_count-count.result - length c.loop-place.frame.now.live.imports + length own = omega (arith, sum, same, all) in
    record {
      all = c.import_count-count.ensures;
      fewer = fewer;
      found = rw (← outer) (import_further c.args.name.now c.args.self.now.live.imports c.loop-place.frame.now.live.imports (outer_imports c.frame.inside.outer) own (c.import_count-count.result - length c.loop-place.frame.now.live.imports) (c.import_count-count.result - length (outer_imports c.frame.inside.outer))
          (ap (λ (f : FrameValue). f.live.imports) c.frame.view_is) c.loop-place.invariant.found c.in_default.ensures later);
    }
