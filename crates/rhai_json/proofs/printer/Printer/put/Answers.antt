-- All is written, until nothing is left.
use Rattle.std.proofs.Common.{◌∙◌, ap, arith}
use Rattle.std.proofs.lemmas.List.{nil_from_length}
use Rattle.rhai_json.specs.Left.{piece_of, pieces_of}
use Rattle.rhai_json.proofs.LeftLemmas.{all_written, less_left, none_left, same_left}
use Rattle.rhai_json.proofs.printer.Printer.put.Goals as goal

pub loop-part-smaller : goal.loop-part-smaller
loop-part-smaller c =
    less_left c.loop-part.self.left.items _ c.put_part.new.self.left.items c.in-Some.part c.in-Some.ensures.items
    c.in_ok-put_part.ensures.less

pub loop-part-preserved : goal.loop-part-preserved
loop-part-preserved c =
    same_left c.loop-part.self.left.items _ c.put_part.new.self.left.items c.in-Some.part c.loop-part.self.out
    c.put_part.new.self.out c.in-Some.ensures.items c.in_ok-put_part.ensures.same
    ∙ c.loop-part.invariant

pub returns-clause-left : goal.returns-clause-left
returns-clause-left c =
    let e = c.in_default.ensures.cases in let k = c.pop.new.self.ok.0 in
    ap pieces_of (nil_from_length _ (omega (arith, e.1, k))) ∙ none_left

pub returns-clause-out : goal.returns-clause-out
returns-clause-out c =
    let e = c.in_default.ensures.cases in let k = c.loop-part.self.left.ok.0 in
    all_written (pieces_of c.loop-part.self.left.items) (pieces_of c.push.new.self.left.items)
    (pieces_of c.args.self.now.left.items) (piece_of c.args.part) c.loop-part.self.out c.push.new.self.out
    c.args.self.now.out (ap pieces_of (nil_from_length _ (omega (arith, e.0, k))) ∙ none_left) c.requires
    c.in_ok-push.ensures.left c.push.ensures.out c.loop-part.invariant
