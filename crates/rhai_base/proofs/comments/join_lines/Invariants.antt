-- What is joined so far.
use Rattle.std.proofs.Common.{◌≡◌, ◌++◌, string_bytes, take}
use Rattle.rhai_base.proofs.CommentLemmas.{later_lines}
use Rattle.rhai_base.proofs.comments.join_lines.Given as goal

abbrev pub invariant-loop-line : goal.invariant-loop-line
invariant-loop-line l = string_bytes l.text ≡ l.fn.first ++ later_lines l.n (take l.line-index l.later)
