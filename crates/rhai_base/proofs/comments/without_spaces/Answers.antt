-- The cut is behind spaces.
use Rattle.rhai_base.proofs.CommentLemmas.{cut_behind_spaces}
use Rattle.rhai_base.proofs.comments.without_spaces.Goals as goal

pub range_from-requires : goal.range_from-requires
range_from-requires c = cut_behind_spaces c.args.line.now c.args.n c.utf8.line c.requires
