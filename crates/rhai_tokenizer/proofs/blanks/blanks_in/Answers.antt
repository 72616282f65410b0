use Rattle.std.proofs.Common.{◌≡◌, ◌+◌, ◌∙◌, ap, arith, subst, sym}
use Rattle.rhai_tokenizer.specs.Turns.{IsIn, place_in}
use Rattle.rhai_tokenizer.proofs.BlankLemmas.{blanks_end, blanks_step, lone_blank}
use Rattle.rhai_tokenizer.proofs.CommentLemmas.{room}
use Rattle.rhai_tokenizer.proofs.PositionLemmas.{past_more}
use Rattle.rhai_tokenizer.proofs.blanks.blanks_in.Goals as goal

pub returns-then-begins_with_lone_blank-clause-value : goal.returns-then-begins_with_lone_blank-clause-value
returns-then-begins_with_lone_blank-clause-value c = lone_blank c.args.z.now
    (sym c.begins_with_lone_blank.ensures ∙ c.if-begins_with_lone_blank.true)

pub returns-then-n-eq0-clause-value : goal.returns-then-n-eq0-clause-value
returns-then-n-eq0-clause-value c = blanks_end c.args.z.now c.loop-at.len c.blank_in-n.result _
    c.blank_in-n.ensures.value c.if-n-eq0.true c.loop-at.invariant.0

pub loop-at-preserved : goal.loop-at-preserved
loop-at-preserved c =
    let n = c.blank_in-n.result in
    let len = c.loop-at.len in
    let same : c.args.at + (len + n) ≡ (c.args.at + len) + n = omega arith in (
      blanks_step c.args.z.now len n _ c.blank_in-n.ensures.value c.if-n-eq0.false c.loop-at.invariant.0,
      room c.args.z.now len n c.loop-at.invariant.1 c.blank_in-n.ensures.within,
      ap (place_in c.blank_in-n.new.line) same ∙ past_more (place_in c.args.line.now c.args.at)
          (place_in c.loop-at.line (c.args.at + len)) (place_in c.blank_in-n.new.line ((c.args.at + len) + n))
          c.args.z.now len n c.loop-at.invariant.2 c.blank_in-n.ensures.place,
      subst (IsIn c.blank_in-n.new.line) (sym same) c.blank_in-n.ensures.placed,
    )
