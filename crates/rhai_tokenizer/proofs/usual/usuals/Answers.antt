use Rattle.std.proofs.Common.{sym, subst, arith}
use Rattle.rhai_tokenizer.specs.declared.limits.Limits.{Limits}
use Rattle.rhai_tokenizer.specs.declared.reading.Reading.{Reading}
use Rattle.rhai_tokenizer.specs.Turns.{IsRead}
use Rattle.rhai_tokenizer.proofs.ReadLemmas.{quiet_falls, quiet_ready, read_then, some_turn, turn_read, turn_within}
use Rattle.rhai_tokenizer.proofs.StepLemmas.{no_limits}
use Rattle.rhai_tokenizer.proofs.usual.usuals.Goals as goal

pub usual-requires-clause-ready : goal.usual-requires-clause-ready
usual-requires-clause-ready c = quiet_ready no_limits c.args.reading.now c.loop-reading.reading c.args.text.now
    c.loop-reading.rest.now c.is_due.result c.requires.ready (c.loop-reading.invariant.read no_limits)
    c.loop-reading.invariant.quiet c.is_due.ensures c.loop-reading-test.true

pub split_at-requires : goal.split_at-requires
split_at-requires c =
    let ready = quiet_ready no_limits c.args.reading.now c.loop-reading.reading c.args.text.now
    c.loop-reading.rest.now c.is_due.result c.requires.ready (c.loop-reading.invariant.read no_limits)
    c.loop-reading.invariant.quiet c.is_due.ensures c.loop-reading-test.true in
    turn_within no_limits c.loop-reading.reading c.usual.new.reading c.loop-reading.rest.now c.in-Some.len ready
    (some_turn c.loop-reading.reading c.usual.new.reading c.loop-reading.rest.now c.in_ok-len.field-0 c.in-Some.len
    c.in-Some.is c.in_ok-len.ensures.turn no_limits) c.loop-reading.invariant.utf8

pub loop-reading-smaller : goal.loop-reading-smaller
loop-reading-smaller c =
    let ready = quiet_ready no_limits c.args.reading.now c.loop-reading.reading c.args.text.now
    c.loop-reading.rest.now c.is_due.result c.requires.ready (c.loop-reading.invariant.read no_limits)
    c.loop-reading.invariant.quiet c.is_due.ensures c.loop-reading-test.true in
    quiet_falls no_limits c.loop-reading.reading c.usual.new.reading c.loop-reading.rest.now c.split_at.result.1.now
    c.in-Some.len
    ready (some_turn c.loop-reading.reading c.usual.new.reading c.loop-reading.rest.now c.in_ok-len.field-0
    c.in-Some.len c.in-Some.is c.in_ok-len.ensures.turn no_limits) c.split_at.ensures.back
    c.loop-reading.invariant.quiet c.in_ok-len.ensures.quiet

pub loop-reading-preserved : goal.loop-reading-preserved
loop-reading-preserved c =
    let ready = quiet_ready no_limits c.args.reading.now c.loop-reading.reading c.args.text.now
    c.loop-reading.rest.now c.is_due.result c.requires.ready (c.loop-reading.invariant.read no_limits)
    c.loop-reading.invariant.quiet c.is_due.ensures c.loop-reading-test.true in
    let turn = some_turn c.loop-reading.reading c.usual.new.reading c.loop-reading.rest.now c.in_ok-len.field-0
    c.in-Some.len c.in-Some.is c.in_ok-len.ensures.turn in
    let falls = quiet_falls no_limits c.loop-reading.reading c.usual.new.reading c.loop-reading.rest.now
    c.split_at.result.1.now c.in-Some.len ready (turn no_limits) c.split_at.ensures.back
    c.loop-reading.invariant.quiet c.in_ok-len.ensures.quiet in
    let read : (limits : Limits) → IsRead limits c.loop-reading.reading c.usual.new.reading c.loop-reading.rest.now
    c.split_at.result.1.now = λ limits. turn_read limits c.loop-reading.reading c.usual.new.reading
    c.loop-reading.rest.now
    c.split_at.result.1.now c.in-Some.len ready (turn limits) c.split_at.ensures.back
    c.loop-reading.invariant.utf8 in
    record {
      read = λ limits. read_then limits c.args.reading.now c.loop-reading.reading c.usual.new.reading c.args.text.now
          c.loop-reading.rest.now c.split_at.result.1.now (c.loop-reading.invariant.read limits) (read limits);
      quiet = c.in_ok-len.ensures.quiet;
      shorter = omega (arith, falls, c.loop-reading.invariant.shorter);
      utf8 = (read no_limits).utf8 c.loop-reading.invariant.utf8;
    }

pub returns-in-None-clause-read : goal.returns-in-None-clause-read
returns-in-None-clause-read c limits =
    subst (λ (r : Reading). IsRead limits c.args.reading.now r c.args.text.now c.loop-reading.rest.now)
    (sym (c.in_ok-len.ensures.none c.in-None.is)) (c.loop-reading.invariant.read limits)
