-- All lines are joined.
use Rattle.std.proofs.Common.{◌∙◌, arith}
use Rattle.rhai_base.proofs.CommentLemmas.{all_joined}
use Rattle.rhai_base.proofs.comments.join_lines.Goals as goal

pub returns : goal.returns
returns c = c.loop-line.invariant ∙ all_joined c.args.first.now c.args.n c.loop-line.line-index c.args.later.now (omega arith)
