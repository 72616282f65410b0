-- Each token on the way to the first one closes a bracket, opens one that a later token closes, opens the innermost one
-- that is open, or does neither.
use Rattle.std.proofs.Common.{◌≡◌, ◌∙◌, ◌+◌, ◌-◌, ◌≤◌, true, false, ap, arith, drop, length}
use Rattle.std.proofs.Common.{map, sym}
use Rattle.rhai_report.specs.Brackets.{closed_before, closes, opens, token_of}
use Rattle.rhai_report.proofs.BracketLemmas.{apart, closed_less, closed_more, closed_same, is_closed, is_open}
use Rattle.rhai_report.proofs.BracketLemmas.{none_left, opens_none}
use Rattle.rhai_report.proofs.brackets.innermost_open.Goals as goal
use Rattle.rhai_report.proofs.brackets.innermost_open.Goals.{then-is_some, else-is_some+then-is_some-2+else-closed-eq0}
use Rattle.rhai_report.proofs.brackets.innermost_open.Goals.{else-is_some+else-is_some-2}

pub loop-at-init : goal.loop-at-init
loop-at-init c =
    let n = none_left c.args.entries.now in
    record { room = omega arith; closed = cc; open_none = n.1 }

pub returns-then-closed-eq0 : goal.returns-then-closed-eq0
returns-then-closed-eq0 c =
    let e = c.index-entries-at.result in
    let m : c.loop-at.at ≤ length c.args.entries.now = omega arith in
    let o : opens e.token ≡ true = cc in
    let z : closed_before (map token_of (drop c.loop-at.at c.args.entries.now)) ≡ 0 = cc in
    sym (is_open c.args.entries.now c.loop-at.at e c.loop-at-test.true m c.index-entries-at.is
    c.loop-at.invariant.open_none o z)

pub loop-at-preserved : goal.loop-at-preserved
loop-at-preserved c =
    let xs = c.args.entries.now in
    let at = c.loop-at.at in
    let e = c.index-entries-at.result in
    let p = c.loop-at-test.true in
    let m : at ≤ length xs = omega arith in
    let g = c.index-entries-at.is in
    let i = c.loop-at.invariant.closed in
    let n = c.loop-at.invariant.open_none in
    elim c.if-is_some.branch [
      | then-is_some w ↦
          let s : closes e.token ≡ true = cc in
          record {
            room = omega arith;
            closed = w.closed-is ∙ ap (λ k. k + 1) i ∙ sym (closed_more xs at e p m g s);
            open_none = opens_none xs at e p m g n (apart e.token s);
          }
      | else-is_some+then-is_some-2+else-closed-eq0 w ↦
          let s : closes e.token ≡ false = cc in
          let o : opens e.token ≡ true = cc in
          record {
            room = omega arith;
            closed = w.closed-is ∙ ap (λ k. k - 1) i ∙ sym (closed_less xs at e p m g s o);
            open_none = is_closed xs at e p m g n o (λ y. w.if-closed-eq0.false (i ∙ y));
          }
      | else-is_some+else-is_some-2 w ↦
          let s : closes e.token ≡ false = cc in
          let o : opens e.token ≡ false = cc in
          record {
            room = omega arith;
            closed = w.closed-is ∙ i ∙ sym (closed_same xs at e p m g s o);
            open_none = opens_none xs at e p m g n o;
          }
    ]
