-- The best stays, or the next name is the best.
use Rattle.std.proofs.Common.{◌<◌, [], Some, arith, get_or, inl, inr, length}
use Rattle.std.specs.Borrow.{Bor}
use Rattle.rhai_lower.specs.Texts.{Text}
use Rattle.rhai_report.proofs.SimilarLemmas.{keeps, passes, same_best, takes}
use Rattle.rhai_report.proofs.similar.most_similar.Goals as goal
use Rattle.rhai_report.proofs.similar.most_similar.Goals.{else-is_none+else-edits-least, then-is_none}
use Rattle.rhai_report.proofs.similar.most_similar.Goals.{then-is_none-via-else-is_none+then-edits-least}
use Rattle.rhai_report.proofs.similar.most_similar.Goals.{then-is_none-via-then-is_none}

-- what is read past the end
abbrev past : Bor Text
past = record { ref_ptr = (0, 0); now = [] }

pub loop-other-preserved-in_default : goal.loop-other-preserved-in_default
loop-other-preserved-in_default c =
    passes c.args.name.now c.args.names.now c.loop-other.other-index past c.loop-other.best c.loop-other.least
    c.in_ok-edits.field-0 (omega arith) c.loop-other.invariant c.in_ok-edits.ensures c.in_default.is

pub loop-other-preserved : goal.loop-other-preserved
loop-other-preserved c =
    let names = c.args.names.now in
    let i = c.loop-other.other-index in
    let l : i < length names = omega arith in
    let told = c.in_ok-edits.ensures in
    elim c.if-is_none.branch [
      | then-is_none w ↦
          same_best _ _ (Some (get_or names i past)) c.if-is_none.best c.in-Some.edits c.if-is_none.least w.best-is
          w.least-is (takes c.args.name.now names i past c.loop-other.best c.loop-other.least c.in-Some.edits
          c.in_ok-edits.field-0 l c.loop-other.invariant told c.in-Some.is (elim w.then-is_none.branch [
            | then-is_none-via-then-is_none v ↦ inl v.if-is_none.ensures
            | then-is_none-via-else-is_none+then-edits-least v ↦ inr v.if-edits-least.true
          ]))
      | else-is_none+else-edits-least w ↦
          same_best _ _ c.loop-other.best c.if-is_none.best c.loop-other.least c.if-is_none.least w.best-is w.least-is
          (keeps c.args.name.now names i past c.loop-other.best c.loop-other.least c.in-Some.edits
          c.in_ok-edits.field-0 l c.loop-other.invariant told c.in-Some.is w.if-is_none.ensures w.if-edits-least.false)
    ]
